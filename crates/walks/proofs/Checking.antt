-- The first of a list of strings that goes wrong, and the answers on a block. Assumes nothing.
--
--   first-none, first_some        the two ways that a first string goes
--   Checking .. i at              the strings before i are valid edges; checking_start, checking_more: none of them, and one more
--   checked_stop, checked_all     the string at i goes wrong, or none does
--   part-stops                    what is said of a string that is lent as a part, said of the part's bytes
--   answer-refused, answer-told   the answer on a block that has no job, and on one that has
--   wrong-none, wrong-some        what the answer means, with no search in it; all_valid_lem, not_all: by the test of all edges
use mathlib.Core.Path.{◌≡◌, refl, sym, ap, ap₂, ◌∙◌, subst}
use mathlib.Core.Bool.{Bool, true, false, ◌&&◌, and-false}
use mathlib.Core.Option.{Option, none, some, none-ne-some, some-injective}
use mathlib.Core.List.{List, [], ◌∷◌}
use Prim.Native.Nat.{ℕ, zero, suc, ◌+◌, ◌≤◌, ◌<◌}
use native.Mathlib.Numerals.{add-one}
use native.Mathlib.Omega.{arith}
use lib.ListN.{length, get_or, drop, drop_of_length-le}
use lib.Seq.{drop-cons}
use denote.Ref.{Bor}
use Rattle.std.specs.Prelude as Found
use Rattle.std.specs.Prelude.{Some, None, Ok, Err}
use Rattle.howmany.proofs.Choices.{is_true, is_false}
use Rattle.rules.specs.Jobs.{Job}
use Rattle.rules.specs.Valid.{is_edge, Valid}
use Rattle.rules.specs.Places.{place_of, Wrong}
use Rattle.rules.specs.Packs.{part_of}
use Rattle.rules.specs.Questions.{all_valid}
use Rattle.rules.specs.Refusals.{Answer, and_then}
use Rattle.rules.specs.Refusals.Answer.{accepted}
use Rattle.rules.proofs.Places.{place_none, place-wrong}
use Rattle.rules.specs.Blocks.{job_answer}
use Rattle.job.specs.declared.Job as job
use Rattle.job.specs.declared.Refusal.{Refusal}
use Rattle.job.specs.Parts.{PartOf}
use Rattle.job.proofs.Standing.{Kept, Told}
use Rattle.lines.specs.Lines.{lesser, cut_from}
use Rattle.lines.proofs.Cutting.{part_cut}
use Rattle.walks.specs.declared.paces.Paces.{Paces}
use Rattle.walks.specs.Walks.{found, finding, first_of, first_wrong}
use Rattle.walks.proofs.Finding.{found_is}
use Rattle.walks.specs.Paces.{PacesOf, StopsAs, ChecksAs}

-- ---- a first string

abbrev shifted : ℕ → Option (ℕ × ℕ) → Option (ℕ × ℕ)
shifted i none = none
shifted i (some w) = some (i + w.0, w.1)

module _ (J : Job) where
  pub first_some : (e : List ℕ) (es : List (List ℕ)) (p : ℕ) → place_of J e ≡ some p → first_wrong J (e ∷ es) ≡ some (0, p)
  unfolding first_wrong
  first_some e es p q = ap (λ (o : Option ℕ). first_of o (first_wrong J es)) q

  pub first-none : (e : List ℕ) (es : List (List ℕ)) → place_of J e ≡ none → first_wrong J (e ∷ es) ≡ shifted 1 (first_wrong J es)
  unfolding first_wrong
  first-none e es q = ap (λ (o : Option ℕ). first_of o (first_wrong J es)) q ∙ go (first_wrong J es)
    where
      go : (o : Option (ℕ × ℕ)) → first_of none o ≡ shifted 1 o
      go none = refl
      go (some w) = let e : suc w.0 ≡ 1 + w.0 = omega arith in ap (λ (k : ℕ). some (k, w.1)) e

  first-end : first_wrong J [] ≡ none
  unfolding first_wrong
  first-end = refl

shifted-more : (i : ℕ) (o : Option (ℕ × ℕ)) → shifted i (shifted 1 o) ≡ shifted (i + 1) o
shifted-more i none = refl
shifted-more i (some w) = let e : i + (1 + w.0) ≡ (i + 1) + w.0 = omega arith in ap (λ (k : ℕ). some (k, w.1)) e

shifted-zero : (o : Option (ℕ × ℕ)) → shifted 0 o ≡ o
shifted-zero none = refl
shifted-zero (some w) = let e : 0 + w.0 ≡ w.0 = omega arith in ap (λ (k : ℕ). some (k, w.1)) e

-- ---- the loop of `walk_each`

pub record Checking (p : Paces) (from : ℕ) (ends s : List ℕ) (i at : ℕ) : Type 0 where
  pub passed : i ≤ length ends
  pub so_far : (J : Job) → PacesOf p J → first_wrong J (cut_from from ends s) ≡ shifted i (first_wrong J (cut_from at (drop i ends) s))

pub checking_start : {p : Paces} {from : ℕ} {ends s : List ℕ} → Checking p from ends s 0 from
checking_start {p} {from} {ends} {s} = record { passed = omega arith; so_far = λ J g. sym (shifted-zero (first_wrong J (cut_from from ends s))) }

module _ {p : Paces} {from : ℕ} {ends s : List ℕ} {i at : ℕ} (w : Checking p from ends s i at) where
  module _ (l : i < length ends) where
    opened : (J : Job) → PacesOf p J → first_wrong J (cut_from from ends s) ≡ shifted i (first_wrong J (part_of s at (get_or ends i 0) ∷ cut_from (get_or ends i 0) (drop (suc i) ends) s))
    unfolding cut_from
    opened J g = w.so_far J g ∙ ap (λ (z : List ℕ). shifted i (first_wrong J (cut_from at z s))) (drop-cons ends i 0 l)

    pub checking_more : StopsAs p (part_of s at (get_or ends i 0)) None → Checking p from ends s (i + 1) (get_or ends i 0)
    checking_more h = record {
      passed = omega arith;
      so_far = λ J g.
          opened J g
          ∙ ap (shifted i) (first-none J (part_of s at (get_or ends i 0)) (cut_from (get_or ends i 0) (drop (suc i) ends) s) (sym (found_is None _ (h J g))))
          ∙ shifted-more i (first_wrong J (cut_from (get_or ends i 0) (drop (suc i) ends) s))
          ∙ ap (λ (k : ℕ). shifted (i + 1) (first_wrong J (cut_from (get_or ends i 0) (drop k ends) s))) (sym (add-one i));
    }

    pub checked_stop : (place : ℕ) → StopsAs p (part_of s at (get_or ends i 0)) (Some place) → ChecksAs p (cut_from from ends s) (Some (i, place))
    checked_stop place h J g =
        let z : i + 0 ≡ i = omega arith in
        ap found
        (sym (
        opened J g
        ∙ ap (shifted i) (first_some J (part_of s at (get_or ends i 0)) (cut_from (get_or ends i 0) (drop (suc i) ends) s) place (sym (found_is (Some place) _ (h J g))))
        ∙ ap (λ (k : ℕ). some (k, place)) z
        ))

  pub checked_all : length ends ≤ i → ChecksAs p (cut_from from ends s) None
  unfolding cut_from
  checked_all l J g =
      ap found
      (sym (w.so_far J g ∙ ap (λ (z : List ℕ). shifted i (first_wrong J (cut_from at z s))) (drop_of_length-le ends {i = i} l) ∙ ap (shifted i) (first-end J)))

pub part-stops : (g : Paces) (s : Bor (List ℕ)) (at end : ℕ) (p : Bor (List ℕ)) → PartOf s (lesser at (length s.now)) end p
    → (r : Found.Option ℕ) → StopsAs g p.now r → StopsAs g (part_of s.now at end) r
part-stops g s at end p h r w =
    let b : p.now ≡ part_of s.now at end = h.bytes ∙ part_cut s.now at end in
    subst (λ (z : List ℕ). StopsAs g z r) b w

-- ---- the answers on a block

module _ (b : List ℕ) {A : Type 0} (f : Job → Option A) where
  abbrev asked : Answer Job → Answer (Option A)
  asked a = and_then a (λ J. accepted (f J))

  pub answer-refused : {r : Refusal} → Told b r → Err r ≡ finding (asked (job_answer b))
  answer-refused t = ap Err t.name ∙ sym (ap (λ (a : Answer Job). finding (asked a)) t.answer)

  pub answer-told : {j : job.Job} (k : Kept b j) {o : Found.Option A} → o ≡ found (f k.job) → Ok o ≡ finding (asked (job_answer b))
  answer-told k e = ap Ok e ∙ sym (ap (λ (a : Answer Job). finding (asked a)) k.answer)

-- ---- what is answered of a list

module _ (J : Job) where
  first-cases : (e : List ℕ) (es : List (List ℕ)) → first_wrong J (e ∷ es) ≡ first_of (place_of J e) (first_wrong J es)
  unfolding first_wrong
  first-cases e es = refl

  of_none : (o : Option ℕ) (w : Option (ℕ × ℕ)) → first_of o w ≡ none → (o ≡ none) × (w ≡ none)
  of_none (some p) w h = absurd (none-ne-some (0, p) (sym h))
  of_none none none h = (refl, refl)
  of_none none (some v) h = absurd (none-ne-some (suc v.0, v.1) (sym h))

  -- all strings are valid edges exactly if none is told
  pub wrong-none : (es : List (List ℕ)) → first_wrong J es ≡ none → (i : ℕ) → i < length es → Valid J (get_or es i [])
  wrong-none [] h i l = absurd (omega arith)
  wrong-none (e ∷ es) h zero l = (place_none J e).1 (of_none (place_of J e) (first_wrong J es) (sym (first-cases e es) ∙ h)).0
  wrong-none (e ∷ es) h (suc i) l = wrong-none es (of_none (place_of J e) (first_wrong J es) (sym (first-cases e es) ∙ h)).1 i (omega arith)

  pub record FirstWrong (es : List (List ℕ)) (i p : ℕ) : Type 0 where
    pub within : i < length es
    pub before : (k : ℕ) → k < i → Valid J (get_or es k [])
    pub wrong : Wrong J (get_or es i []) p

  -- a string that is told goes wrong at the place told, and every string before it is a valid edge
  pub wrong-some : (es : List (List ℕ)) (i p : ℕ) → first_wrong J es ≡ some (i, p) → FirstWrong es i p
  wrong-some [] i p h = absurd (none-ne-some (i, p) (sym (first-end J) ∙ h))
  wrong-some (e ∷ es) i p h = go (place_of J e) refl (first_wrong J es) refl (sym (first-cases e es) ∙ h) (wrong-some es)
    where
      go : (o : Option ℕ) → place_of J e ≡ o → (w : Option (ℕ × ℕ)) → first_wrong J es ≡ w → first_of o w ≡ some (i, p)
          → ((i p : ℕ) → first_wrong J es ≡ some (i, p) → FirstWrong es i p) → FirstWrong (e ∷ es) i p
      go (some q) a w b h ih =
          let v = some-injective (0, q) (i, p) h in
          at_first i (sym (ap (λ (z : ℕ × ℕ). z.0) v)) ((place-wrong J e p).0 (a ∙ ap (λ (z : ℕ × ℕ). some z.1) v))
        where
          at_first : (i : ℕ) → i ≡ 0 → Wrong J e p → FirstWrong (e ∷ es) i p
          at_first zero z g = record { within = omega arith; before = λ k l. absurd (omega arith); wrong = g }
          at_first (suc i) z g = absurd (omega arith)
      go none a none b h ih = absurd (none-ne-some (i, p) h)
      go none a (some w) b h ih =
          let v = some-injective (suc w.0, w.1) (i, p) h in
          later i (sym (ap (λ (z : ℕ × ℕ). z.0) v)) (ih w.0 p (b ∙ ap (λ (z : ℕ). some (w.0, z)) (ap (λ (z : ℕ × ℕ). z.1) v)))
        where
          later : (i : ℕ) → i ≡ suc w.0 → FirstWrong es w.0 p → FirstWrong (e ∷ es) i p
          later zero z g = absurd (omega arith)
          later (suc i) z g =
              let q : w.0 ≡ i = omega arith in
              let f = subst (λ (k : ℕ). FirstWrong es k p) q g in
              record { within = omega (arith, f.within); before = before f; wrong = f.wrong }
            where
              before : FirstWrong es i p → (k : ℕ) → k < suc i → Valid J (get_or (e ∷ es) k [])
              before f zero l = (place_none J e).1 a
              before f (suc k) l = f.before k (omega arith)

  -- the same by the test of all edges
  edge_none : (e : List ℕ) → place_of J e ≡ none → is_edge J e ≡ true
  unfolding Valid
  edge_none e q = is_true (is_edge J e) ((place_none J e).1 q)

  edge-some : (e : List ℕ) (p : ℕ) → place_of J e ≡ some p → is_edge J e ≡ false
  unfolding Valid
  edge-some e p q = is_false (is_edge J e) ((place-wrong J e p).0 q).invalid

  pub all_valid_lem : (es : List (List ℕ)) → first_wrong J es ≡ none → all_valid J es ≡ true
  unfolding all_valid
  all_valid_lem [] h = refl
  all_valid_lem (e ∷ es) h =
      let w = of_none (place_of J e) (first_wrong J es) (sym (first-cases e es) ∙ h) in
      ap₂ ◌&&◌ (edge_none e w.0) (all_valid_lem es w.1)

  pub not_all : (es : List (List ℕ)) (w : ℕ × ℕ) → first_wrong J es ≡ some w → all_valid J es ≡ false
  unfolding all_valid
  not_all [] w h = absurd (none-ne-some w (sym (first-end J) ∙ h))
  not_all (e ∷ es) w h = go (place_of J e) refl (first_wrong J es) refl (sym (first-cases e es) ∙ h) (not_all es)
    where
      go : (o : Option ℕ) → place_of J e ≡ o → (v : Option (ℕ × ℕ)) → first_wrong J es ≡ v → first_of o v ≡ some w → ((w : ℕ × ℕ) → first_wrong J es ≡ some w → all_valid J es ≡ false)
          → is_edge J e && all_valid J es ≡ false
      go (some p) a v b h ih = ap (λ (t : Bool). t && all_valid J es) (edge-some e p a)
      go none a none b h ih = absurd (none-ne-some w h)
      go none a (some v) b h ih = ap (λ (t : Bool). is_edge J e && t) (ih v b) ∙ and-false (is_edge J e)
