-- Laws of the numbers of a list of edges, for any test ok of an edge and any number of it. Assumes nothing.
--
--   front_cong         what is numbered depends only on the test, and on the numbers of edges that pass it
--   cut-many           as many parts as ends
--   Ranking ..         the first i edges have passed, and their numbers are written
--   ranking_none, ranking_next    none of them, and one more; ranking_room: there is room for one more
--   ranking_stop, ranking_all     an edge doesn't pass, or all have
--   part-rank          what is read of an edge that is lent as a part, said of the part's bytes
--   ranks-short, ranks-room       what is answered where there is no room, and where there is
--   ranked-refused, ranked-of     a refusal, and the numbers of a known job
--   ranks-told, ranks-known, ranks-fitted    what is answered of a block, from its refusal, from its job, and with refusal 4 before the rest
use mathlib.Core.Path.{◌≡◌, refl, sym, ap, ap₂, ◌∙◌, subst}
use mathlib.Core.Bool.{Bool, true, false}
use mathlib.Core.List.{List, [], ◌∷◌, ◌++◌, append-nil, append_assoc}
use Prim.Native.Nat.{ℕ, suc, ◌+◌, ◌≤◌, ◌<◌}
use native.Mathlib.Numerals.{add-one}
use native.Mathlib.Omega.{arith}
use lib.Dec.{leb}
use lib.ListN.{length, get_or, drop, set, length-append, length-set, drop_of_length-le}
use lib.Seq.{drop-cons}
use borrow.Author.Tests.{le-leb, lt-leb}
use denote.Ref.{Bor}
use Rattle.howmany.specs.Choose.{pick}
use Rattle.rules.specs.Packs.{part_of}
use Rattle.rules.specs.Jobs.{Job}
use Rattle.rules.specs.Counts.{count_of}
use Rattle.rules.specs.Blocks.{job_answer}
use Rattle.rules.specs.Answers.{most, known_job}
use Rattle.rules.specs.Refusals as rules
use Rattle.rules.specs.Refusals.{Answer, check}
use Rattle.rules.specs.Refusals.Refusal.{over}
use Rattle.rules.specs.Refusals.Answer.{accepted, refused}
use Rattle.rules.proofs.Answering.{told, known, fitted}
use Rattle.std.specs.Prelude.{Option, Result, Ok, Err}
use Rattle.job.specs.declared.Refusal.{Refusal}
use Rattle.job.specs.Replies.{named}
use Rattle.job.specs.Parts.{PartOf}
use Rattle.job.proofs.Puts.{put_byte}
use Rattle.lines.specs.declared.Unanswered.TheVariants.{NoRoom}
use Rattle.lines.specs.Lines.{lesser, cut_from, widened}
use Rattle.lines.specs.Ranks.{RankIs, front_by, FrontIn, ranks_of, ranks_answer, ranked, RankedAs, ranks, RanksAs}
use Rattle.lines.proofs.Cutting.{part_cut}
use Rattle.lines.proofs.Lining.{widened_reply}

module _ (ok ok' : List ℕ → Bool) (number number' : List ℕ → ℕ) (same : (e : List ℕ) → ok e ≡ ok' e) (agree : (e : List ℕ) → ok' e ≡ true → number e ≡ number' e) where
  pub front_cong : (es : List (List ℕ)) → front_by ok number es ≡ front_by ok' number' es
  unfolding front_by
  front_cong [] = refl
  front_cong (e ∷ es) = go (ok' e) refl (front_cong es)
    where
      go : (t : Bool) → ok' e ≡ t → front_by ok number es ≡ front_by ok' number' es
          → pick (ok e) (number e ∷ front_by ok number es) [] ≡ pick (ok' e) (number' e ∷ front_by ok' number' es) []
      go true q ih = rw (same e, q) (ap₂ {C = List ℕ} (λ x y. x ∷ y) (agree e q) ih)
      go false q ih = rw (same e, q) refl

pub cut-many : (at : ℕ) (ends s : List ℕ) → length (cut_from at ends s) ≡ length ends
unfolding cut_from
cut-many at [] s = refl
cut-many at (e ∷ es) s = ap suc (cut-many e es s)

module _ (ok : List ℕ → Bool) (number : List ℕ → ℕ) where
  pub record Ranking (from : ℕ) (ends s before : List ℕ) (i at : ℕ) (numbers : List ℕ) : Type 0 where
    pub room : length ends ≤ length before
    pub front : List ℕ
    pub many : length front ≡ i
    pub passed : i ≤ length ends
    pub so_far : front_by ok number (cut_from from ends s) ≡ front ++ front_by ok number (cut_from at (drop i ends) s)
    pub written : numbers ≡ front ++ drop i before
    pub as_many : length numbers ≡ length before

  pub ranking_none : (from : ℕ) (ends s before : List ℕ) → length ends ≤ length before → Ranking from ends s before 0 from before
  ranking_none from ends s before r = record {
    room = r;
    front = [];
    many = refl;
    passed = omega arith;
    so_far = refl;
    written = refl;
    as_many = refl;
  }

  module _ (from : ℕ) (ends s before : List ℕ) (i at : ℕ) (numbers : List ℕ) (so : Ranking from ends s before i at numbers) where
    pub ranking_room : i < length ends → i < length numbers
    ranking_room l = omega (arith, so.room, so.as_many)

    edge : List ℕ
    edge = part_of s at (get_or ends i 0)

    opened : i < length ends → front_by ok number (cut_from from ends s) ≡ so.front ++ pick (ok edge) (number edge ∷ front_by ok number (cut_from (get_or ends i 0) (drop (i + 1) ends) s)) []
    unfolding front_by cut_from edge
    opened l =
        so.so_far
        ∙ ap (λ (z : List ℕ). so.front ++ front_by ok number (cut_from at z s)) (drop-cons ends i 0 l)
        ∙ ap (λ (k : ℕ). so.front ++ pick (ok edge) (number edge ∷ front_by ok number (cut_from (get_or ends i 0) (drop k ends) s)) []) (sym (add-one i))

    pub ranking_next : (r : ℕ) → i < length ends → ok (part_of s at (get_or ends i 0)) ≡ true → r ≡ number (part_of s at (get_or ends i 0))
        → Ranking from ends s before (i + 1) (get_or ends i 0) (set numbers i r)
    unfolding edge
    ranking_next r l t q = record {
      room = so.room;
      front = so.front ++ (r ∷ []);
      many = omega (arith, length-append so.front (r ∷ []), so.many);
      passed = omega arith;
      so_far =
          opened l
          ∙ ap (λ (b : Bool). so.front ++ pick b (number edge ∷ rest) []) t
          ∙ ap (λ (n : ℕ). so.front ++ (n ∷ rest)) (sym q)
          ∙ sym (append_assoc so.front (r ∷ []) rest);
      written = ap (λ (z : List ℕ). set z i r) so.written ∙ put_byte so.front before i r so.many (omega (arith, so.room));
      as_many = length-set numbers i r ∙ so.as_many;
    }
      where
        rest : List ℕ
        rest = front_by ok number (cut_from (get_or ends i 0) (drop (i + 1) ends) s)

    ended : front_by ok number (cut_from from ends s) ≡ so.front → FrontIn ok number (cut_from from ends s) before numbers i
    ended e = record {
      many = sym so.many ∙ ap length (sym e);
      written = so.written ∙ ap (λ (z : List ℕ). z ++ drop i before) (sym e);
    }

    pub ranking_stop : i < length ends → ok (part_of s at (get_or ends i 0)) ≡ false → FrontIn ok number (cut_from from ends s) before numbers i
    unfolding edge
    ranking_stop l t =
        ended (opened l ∙ ap (λ (b : Bool). so.front ++ pick b (number edge ∷ front_by ok number (cut_from (get_or ends i 0) (drop (i + 1) ends) s)) []) t ∙ append-nil so.front)

    pub ranking_all : length ends ≤ i → FrontIn ok number (cut_from from ends s) before numbers i
    unfolding front_by cut_from
    ranking_all l =
        ended (so.so_far ∙ ap (λ (z : List ℕ). so.front ++ front_by ok number (cut_from at z s)) (drop_of_length-le ends {i = i} l) ∙ append-nil so.front)

pub part-rank : (ok : List ℕ → Bool) (number : List ℕ → ℕ) (s : Bor (List ℕ)) (at end : ℕ) (p : Bor (List ℕ)) → PartOf s (lesser at (length s.now)) end p
    → {r q : Option ℕ} → RankIs (ok p.now) (number p.now) r → r ≡ q → RankIs (ok (part_of s.now at end)) (number (part_of s.now at end)) q
part-rank ok number s at end p h w e =
    let b : p.now ≡ part_of s.now at end = h.bytes ∙ part_cut s.now at end in
    subst (RankIs (ok (part_of s.now at end)) (number (part_of s.now at end))) e (rw b at w)

pub ranked-of : (ok : List ℕ → Bool) (number : List ℕ → ℕ) (es : List (List ℕ)) (before after : List ℕ) (n : ℕ) → FrontIn ok number es before after n
    → RankedAs (ranked (accepted (front_by ok number es)) before) (Ok n) after
unfolding ranked
ranked-of ok number es before after n w = record {
  says = ap (λ (k : ℕ). (let r : Result ℕ Refusal = Ok k in r)) w.many;
  numbers_are = w.written ∙ ap (λ (k : ℕ). front_by ok number es ++ drop k before) w.many;
}

pub ranked-refused : (a : Answer (List ℕ)) (x : rules.Refusal) (r : Refusal) (numbers : List ℕ) → a ≡ refused x → r ≡ named x → RankedAs (ranked a numbers) (Err r) numbers
unfolding ranked
ranked-refused a x r numbers e q = rw (e, q) (record { says = refl; numbers_are = refl })

module _ (a : Answer (List ℕ)) (many : ℕ) (before : List ℕ) where
  pub ranks-short : length before < many → RanksAs (ranks a many before) (Err NoRoom) before
  unfolding ranks
  ranks-short l = rw (lt-leb many (length before) l) (record { says = refl; numbers_are = refl })

  pub ranks-room : (r : Result ℕ Refusal) (after : List ℕ) → many ≤ length before → RankedAs (ranked a before) r after → RanksAs (ranks a many before) (widened r) after
  unfolding ranks
  ranks-room r after l w =
      rw (le-leb many (length before) l) (record { says = ap widened w.says ∙ widened_reply (ranked a before).answer; numbers_are = w.numbers_are })

module _ (b : List ℕ) (es : List (List ℕ)) where
  pub ranks-told : (r : rules.Refusal) → known_job b ≡ refused r → ranks_answer b es ≡ refused r
  unfolding ranks_answer
  ranks-told r e = told b (λ J. accepted (ranks_of J es)) r e

  pub ranks-known : (J : Job) → known_job b ≡ accepted J → ranks_answer b es ≡ accepted (ranks_of J es)
  unfolding ranks_answer
  ranks-known J e = known b (λ J. accepted (ranks_of J es)) J e

  pub ranks-fitted : (J : Job) → job_answer b ≡ accepted J → ranks_answer b es ≡ check (leb (count_of J) most) over (accepted (ranks_of J es))
  unfolding ranks_answer
  ranks-fitted J e = fitted b (λ J. accepted (ranks_of J es)) J e
