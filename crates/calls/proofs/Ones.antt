-- One number's edge, and one edge's number, by a list of one. Assumes nothing.
--
--   One, one-built    what was lined is the edge; one-put: put to the output
--   one-refused       the refusal
--   one-whole         what was lined in the output itself
--   OneSays, one-says    what is said of the one edge that was numbered; one_told, one-untold: by each case
use mathlib.Core.Path.{◌≡◌, refl, sym, ap, ◌∙◌}
use mathlib.Core.Bool.{Bool, true, false}
use mathlib.Core.List.{List, [], ◌∷◌, ◌++◌, append-nil}
use Prim.Native.Nat.{ℕ, ◌-◌, ◌≤◌}
use native.Mathlib.Omega.{arith}
use lib.ListN.{length, get_or, take, drop, length-append}
use lib.Seq.{take_at, take_all}
use borrow.Author.Tests.{le-leb}
use Rattle.howmany.specs.Choose.{pick}
use Rattle.rules.specs.Jobs.{Job}
use Rattle.rules.specs.Valid.{is_edge}
use Rattle.rules.specs.Numbers.{number_of}
use Rattle.rules.specs.Refusals as refusals
use Rattle.rules.specs.Refusals.{check, and_then}
use Rattle.rules.specs.Refusals.Refusal.{not-an-edge}
use Rattle.rules.specs.Refusals.Answer.{accepted, refused}
use Rattle.rules.specs.Answers.{known_job, number_answer, edge_answer, written, build_answer}
use Rattle.rules.specs.Packs.{joined}
use Rattle.rules.specs.Questions.{edges_answer}
use Rattle.rules.proofs.Answering.{number-known, number-told, edges-of-one, build-of}
use Rattle.job.specs.Replies.{reply, BuiltAs}
use Rattle.std.specs.Prelude.{Result, Ok, Err}
use Rattle.job.specs.declared.Refusal.{Refusal}
use Rattle.lines.specs.declared.Unanswered.{Unanswered}
use Rattle.job.proofs.Says.{value-one, value_not}
use Rattle.lines.specs.Lines.{cut_from, Room, lines, lined, LinedAs, refusal_for, listed, narrowed, WroteAs}
use Rattle.lines.specs.Ranks.{front_by, ranks_answer, ranked, ranks, Ranks, RanksAs}
use Rattle.lines.proofs.Lining.{lines-built}
use Rattle.calls.specs.Ones.{told_of}

abbrev alone : refusals.Answer (List ℕ) → refusals.Answer (List (List ℕ))
alone a = and_then a (λ e. accepted (e ∷ []))

-- what was lined, of the one edge
pub record One (b : List ℕ) (n l : ℕ) (s : List ℕ) : Type 0 where
  pub fits : l ≤ length s
  pub edge : edge_answer b n ≡ accepted (take l s)

pub one-put : {b : List ℕ} {n l : ℕ} {s : List ℕ} → One b n l s → (out after : List ℕ) (y : Result ℕ Refusal) → BuiltAs (written (accepted (take l s)) out) y after
    → BuiltAs (build_answer b n out) y after
one-put {b} {n} o out after y h = rw (build-of b n out, o.edge) h

module _ (b : List ℕ) (n : ℕ) (steps ends : List ℕ) (room : 128 ≤ length steps) (place : 1 ≤ length ends) where
  has : Room (length (n ∷ [])) (length steps) (length ends)
  has = record { for_steps = omega arith; for_ends = omega arith }

  -- what was built, of a list of one
  of-built : (x : Result ℕ Unanswered) (r : Result ℕ Refusal) (s t : List ℕ) → r ≡ narrowed x → WroteAs (lines (edges_answer b (n ∷ [])) (n ∷ []) steps ends) x s t → LinedAs (lined (alone (edge_answer b n)) steps ends) r s t
  of-built x r s t e w = rw (edges-of-one b n) at (lines-built (edges_answer b (n ∷ [])) (n ∷ []) steps ends x r s t has e w)

  pub one-built : (v : Result ℕ Unanswered) (l : ℕ) (s t : List ℕ) → v ≡ Ok l → WroteAs (lines (edges_answer b (n ∷ [])) (n ∷ []) steps ends) v s t → One b n l s
  unfolding lined joined
  one-built v l s t e w = go (edge_answer b n) refl (of-built v (Ok l) s t (sym (ap narrowed e)) w)
    where
      go : (a : refusals.Answer (List ℕ)) → edge_answer b n ≡ a → LinedAs (lined (alone a) steps ends) (Ok l) s t → One b n l s
      go (accepted e) q v =
          let long : l ≡ length (e ++ []) = value-one v.says in
          let whole : e ++ [] ≡ e = append-nil e in
          record {
            fits = omega (arith, ap length v.bytes, length-append (e ++ []) (drop (length (e ++ [])) steps));
            edge = q ∙ ap accepted (sym (ap (take l) v.bytes ∙ take_at (e ++ []) (drop (length (e ++ [])) steps) l (sym long) ∙ whole));
          }
      go (refused x) q v = absurd (value_not v.says)

  pub one-refused : (v : Result ℕ Unanswered) (why : Unanswered) (s t out : List ℕ) → v ≡ Err why → WroteAs (lines (edges_answer b (n ∷ [])) (n ∷ []) steps ends) v s t
      → BuiltAs (build_answer b n out) (Err (refusal_for why)) out
  unfolding lined written
  one-refused v why s t out e w = rw (build-of b n out) (go (edge_answer b n) (of-built v (Err (refusal_for why)) s t (sym (ap narrowed e)) w))
    where
      go : (a : refusals.Answer (List ℕ)) → LinedAs (lined (alone a) steps ends) (Err (refusal_for why)) s t → BuiltAs (written a out) (Err (refusal_for why)) out
      go (accepted e) v = absurd (value_not (sym v.says))
      go (refused x) v = record { says = v.says; output = refl }

  -- where the steps are the output itself
  pub one-whole : (v : Result ℕ Unanswered) (x : Result ℕ Refusal) (s t : List ℕ) → x ≡ narrowed v → length s ≡ length steps → WroteAs (lines (edges_answer b (n ∷ [])) (n ∷ []) steps ends) v s t → BuiltAs (build_answer b n steps) x s
  unfolding lined joined written
  one-whole v x s t q h w = rw (build-of b n steps) (go (edge_answer b n) (of-built v x s t q w))
    where
      go : (a : refusals.Answer (List ℕ)) → LinedAs (lined (alone a) steps ends) x s t → BuiltAs (written a steps) x s
      go (accepted e) v =
          let whole : e ++ [] ≡ e = append-nil e in
          let same : s ≡ e ++ drop (length e) steps = v.bytes ∙ ap (λ (z : List ℕ). z ++ drop (length z) steps) whole in
          let fits : length e ≤ length steps = omega (arith, h, ap length same, length-append e (drop (length e) steps)) in
          rw (le-leb (length e) (length steps) fits) (record { says = v.says ∙ ap (λ (z : List ℕ). (let r : Result ℕ Refusal = Ok (length z) in r)) whole; output = same })
      go (refused y) v = record { says = v.says; output = v.bytes }

-- ---- one edge's number

one-cut : (e : List ℕ) → cut_from 0 (length e ∷ []) e ≡ e ∷ []
unfolding cut_from
one-cut e = let q : length e - 0 ≡ length e = omega arith in ap (λ (z : List ℕ). z ∷ []) (ap (λ (k : ℕ). take k e) q ∙ take_all (length e) e (omega arith))

module _ (b e before after : List ℕ) (room : 1 ≤ length before) where
  -- what each case says of the one edge
  abbrev pub OneSays : Result ℕ Unanswered → Type 0
  OneSays (Ok n) = told_of n (get_or after 0 0) ≡ reply (number_answer b e)
  OneSays (Err why) = Err (refusal_for why) ≡ reply (number_answer b e)

  tested : (J : Job) → known_job b ≡ accepted J → (t : Bool) → is_edge J e ≡ t → reply (check t not-an-edge (accepted (number_of J e))) ≡ reply (number_answer b e)
  tested J q t h = sym (ap reply (number-known b e J q ∙ ap (λ (u : Bool). check u not-an-edge (accepted (number_of J e))) h))

  numbered : (J : Job) → known_job b ≡ accepted J → (t : Bool) → is_edge J e ≡ t → (x : Result ℕ Unanswered)
      → RanksAs (record { told = listed (ranked (accepted (pick t (number_of J e ∷ []) [])) before).answer; numbers = (ranked (accepted (pick t (number_of J e ∷ []) [])) before).numbers }) x after → OneSays x
  unfolding ranked
  numbered J q true t (Ok n) w =
      let m : n ≡ 1 = value-one w.says in
      let v : get_or after 0 0 ≡ number_of J e = ap (λ (z : List ℕ). get_or z 0 0) w.numbers_are in
      rw (m, v) (tested J q true t)
  numbered J q true t (Err why) w = absurd (value_not (sym w.says))
  numbered J q false t (Ok n) w =
      let m : n ≡ 0 = value-one w.says in
      rw m (tested J q false t)
  numbered J q false t (Err why) w = absurd (value_not (sym w.says))

  untold : (r : refusals.Refusal) → known_job b ≡ refused r → (x : Result ℕ Unanswered)
      → RanksAs (record { told = listed (ranked (refused r) before).answer; numbers = (ranked (refused r) before).numbers }) x after → OneSays x
  unfolding ranked
  untold r q (Ok n) w = absurd (value_not w.says)
  untold r q (Err why) w = ap narrowed w.says ∙ sym (ap reply (number-told b e r q))

  pub one-says : (x : Result ℕ Unanswered) → RanksAs (ranks (ranks_answer b (cut_from 0 (length e ∷ []) e)) 1 before) x after → OneSays x
  unfolding ranks_answer ranks front_by
  one-says x w = go (known_job b) refl (rw (one-cut e, le-leb 1 (length before) room) at w)
    where
      Told : refusals.Answer Job → Ranks
      Told a =
          let r = ranked (and_then a (λ J. accepted (pick (is_edge J e) (number_of J e ∷ []) []))) before in
          record { told = listed r.answer; numbers = r.numbers }

      go : (a : refusals.Answer Job) → known_job b ≡ a → RanksAs (Told a) x after → OneSays x
      go (accepted J) q v = numbered J q (is_edge J e) refl x v
      go (refused r) q v = untold r q x v

  -- the same by the answer in hand
  module _ {x : Result ℕ Unanswered} (w : RanksAs (ranks (ranks_answer b (cut_from 0 (length e ∷ []) e)) 1 before) x after) where
    pub one_told : {n : ℕ} → x ≡ Ok n → told_of n (get_or after 0 0) ≡ reply (number_answer b e)
    one_told {n} q = one-says (Ok n) (rw q at w)

    pub one-untold : {why : Unanswered} → x ≡ Err why → Err (refusal_for why) ≡ reply (number_answer b e)
    one-untold {why} q = one-says (Err why) (rw q at w)
