-- What the crate of some families answers by what it knows of a block: one law for each way through a call, whichever families are its own.
-- Assumes nothing.
--
--   mine_by                                          the test of the family
--   refusing_told                                    a refusal that the job maker told; roomed: what the test of the room says
--   count-never, count_refusing, count-ending        the ways through a count, which needs no room
--   ranks_no_room, ranks_refusing, ranks-ending      through the numbers of a list of edges
--   lines_no_room, lines_refusing, lines-ending      through the edges of a list of numbers
use mathlib.Core.Path.{◌≡◌, sym, ap, ◌∙◌, subst}
use mathlib.Core.Bool.{Bool, true, false}
use mathlib.Core.List.{List}
use Prim.Native.Nat.{ℕ, ◌≤◌}
use lib.Dec.{T, leb}
use lib.ListN.{length}
use borrow.Author.Tests.{leb-true, leb-false}
use Rattle.rules.specs.Jobs.{Job}
use Rattle.rules.specs.Blocks.{family_of}
use Rattle.rules.specs.Answers.{count_answer}
use Rattle.rules.specs.Questions.{edges_answer}
use Rattle.rules.proofs.Answering.{known-told, count-told, count-fitted, edges-told, edges-fitted}
use Rattle.std.specs.Prelude.{Option, Some, Result, Err}
use Rattle.job.specs.declared.Refusal.{Refusal}
use Rattle.job.specs.Replies.{reply}
use Rattle.job.proofs.Standing.{Told}
use Rattle.lines.specs.declared.Unanswered.TheVariants.{NoRoom, Refused}
use Rattle.lines.specs.Lines.{roomy, lines, widened}
use Rattle.lines.specs.Ranks.{ranks, ranks_answer}
use Rattle.lines.specs.Mine.{CountsFor, RanksFor, LinesFor}
use Rattle.lines.specs.Known.{CountsOf, NumbersOf, BuildsOf, Refusing, Ending}
use Rattle.lines.proofs.Lining.{lined-refused, lines-short, lines-room}
use Rattle.lines.proofs.Ranking.{ranked-refused, ranks-told, ranks-fitted, ranks-short, ranks-room}
use Rattle.lines.proofs.Mines.{mine_count, mine_ranks, mine_lines}

true_not : true ≡ false → ⊥
true_not e = subst T e tt

-- what the family of a block was asked, said of the block
pub mine_by : (test : ℕ → Bool) (b : List ℕ) {f : ℕ} {t u : Bool} → f ≡ family_of b → t ≡ test f → t ≡ u → test (family_of b) ≡ u
mine_by test b e q r = ap test (sym e) ∙ sym q ∙ r

pub refusing_told : {mine room : Bool} (b : List ℕ) {r : Refusal} → mine ≡ true → room ≡ true → Told b r → Refusing mine room b r
refusing_told b m q t = record {
  own = m;
  roomy = q;
  refusal = t.refusal;
  answer = known-told b t.refusal t.answer;
  name = t.name;
}

-- where the test of the room says so, there is room
pub roomed : (many : ℕ) (before : List ℕ) {room : Bool} → room ≡ leb many (length before) → room ≡ true → many ≤ length before
roomed many before e q = leb-true many (length before) (rw e at q)

module _ {mine : Bool} (b : List ℕ) where
  pub count-never : (r : Option (Result ℕ Refusal)) → (mine ≡ true) × (true ≡ false) → CountsFor mine (count_answer b) r
  count-never r k = absurd (true_not k.1)

  pub count_refusing : {r : Refusal} → Refusing mine true b r → CountsFor mine (count_answer b) (Some (Err r))
  count_refusing {r} k =
      mine_count k.own (count_answer b) (Err r) (ap (λ (x : Refusal). (let y : Result ℕ Refusal = Err x in y)) k.name ∙ sym (ap reply (count-told b k.refusal k.answer)))

  pub count-ending : {J : Job} (r : Result ℕ Refusal) → Ending mine true b J → CountsOf J r → CountsFor mine (count_answer b) (Some r)
  count-ending {J} r k h = mine_count k.own (count_answer b) r (h ∙ ap reply (sym (count-fitted b J k.answer)))

  module _ (es : List (List ℕ)) (many : ℕ) (before : List ℕ) {room : Bool} (e : room ≡ leb many (length before)) where
    pub ranks_no_room : (mine ≡ true) × (room ≡ false) → RanksFor mine (ranks (ranks_answer b es) many before) (Some (Err NoRoom)) before before
    ranks_no_room k =
        mine_ranks k.0 (ranks (ranks_answer b es) many before) (Err NoRoom) before before
        (ranks-short (ranks_answer b es) many before (leb-false many (length before) (rw e at k.1)))

    pub ranks_refusing : {r : Refusal} → Refusing mine room b r → RanksFor mine (ranks (ranks_answer b es) many before) (Some (Err (Refused r))) before before
    ranks_refusing {r} k =
        mine_ranks k.own (ranks (ranks_answer b es) many before) (Err (Refused r)) before before
        (ranks-room (ranks_answer b es) many before (Err r) before (roomed many before e k.roomy)
        (ranked-refused (ranks_answer b es) k.refusal r before (ranks-told b es k.refusal k.answer) k.name))

    pub ranks-ending : {J : Job} (r : Result ℕ Refusal) (after : List ℕ) → Ending mine room b J → NumbersOf J es before after r
        → RanksFor mine (ranks (ranks_answer b es) many before) (Some (widened r)) before after
    ranks-ending {J} r after k h =
        mine_ranks k.own (ranks (ranks_answer b es) many before) (widened r) before after
        (ranks-room (ranks_answer b es) many before r after (roomed many before e k.roomy) (rw (ranks-fitted b es J k.answer) h))

  module _ (ns steps ends : List ℕ) {room : Bool} (e : room ≡ roomy (length ns) (length steps) (length ends)) where
    pub lines_no_room : (mine ≡ true) × (room ≡ false) → LinesFor mine (lines (edges_answer b ns) ns steps ends) (Some (Err NoRoom)) steps ends steps ends
    lines_no_room k =
        mine_lines k.0 (lines (edges_answer b ns) ns steps ends) (Err NoRoom) steps ends steps ends (lines-short (edges_answer b ns) ns steps ends (rw e at k.1))

    pub lines_refusing : {r : Refusal} → Refusing mine room b r → LinesFor mine (lines (edges_answer b ns) ns steps ends) (Some (Err (Refused r))) steps ends steps ends
    lines_refusing {r} k =
        mine_lines k.own (lines (edges_answer b ns) ns steps ends) (Err (Refused r)) steps ends steps ends
        (lines-room (edges_answer b ns) ns steps ends (Err r) steps ends (rw e at k.roomy)
        (lined-refused (edges_answer b ns) k.refusal r steps ends (edges-told b ns k.refusal k.answer) k.name))

    pub lines-ending : {J : Job} (r : Result ℕ Refusal) (s t : List ℕ) → Ending mine room b J → BuildsOf J ns steps ends s t r
        → LinesFor mine (lines (edges_answer b ns) ns steps ends) (Some (widened r)) steps ends s t
    lines-ending {J} r s t k h =
        mine_lines k.own (lines (edges_answer b ns) ns steps ends) (widened r) steps ends s t
        (lines-room (edges_answer b ns) ns steps ends r s t (rw e at k.roomy) (rw (edges-fitted b ns J k.answer) h))
