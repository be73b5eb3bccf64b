-- `packing::write` meets its contract: too many numbers, a refusal, or the pack of the edges that were lined up. Assumes nothing.
use mathlib.Core.Path.{sym}
use Prim.Native.Nat.{ℕ}
use native.Mathlib.Omega.{arith}
use lib.ListN.{length, replicate, length-replicate}
use lib.Seq.{length-take-le}
use borrow.Author.Rules.{rules}
use Rattle.std.proofs.lemmas.Result.{err_from_is_err_and}
use Rattle.lines.specs.Lines.{Room}
use Rattle.packing.proofs.Wholes.{many-built, Whole, whole_of, whole-built, whole-refused}
use Rattle.packing.proofs.write.Goals as goal
use Rattle.packing.proofs.write.Goals.{Else-c-gt-MOST, In_ok-n}

pub returns-then-c-gt-MOST : goal.returns-then-c-gt-MOST
returns-then-c-gt-MOST c =
    many-built c.args.block.now c.args.numbers.now _ _ c.if-c-gt-MOST.true c.too_many.ensures

-- there is room for the edges in the arrays
room : (c : Else-c-gt-MOST) → Room (length c.args.numbers.now) (length (replicate {A = ℕ} 25600 0)) (length (replicate {A = ℕ} 200 0))
room c = record {
  for_steps = omega (arith, length-replicate {A = ℕ} 25600 0, c.if-c-gt-MOST.false);
  for_ends = omega (arith, length-replicate {A = ℕ} 200 0, c.if-c-gt-MOST.false);
}

-- what was lined up
whole : (c : In_ok-n) →
    let args = c.args in
    let last = c.build_all.new in
    Whole args.block.now args.numbers.now last.steps last.ends c.in_ok-n.n
whole c =
    whole_of _ _ (replicate 25600 0) (replicate 200 0) (room (goal.at.In_ok-n c).Else-c-gt-MOST) c.if-c-gt-MOST.false _ _ _ (rw c.in_ok-n.was at c.build_all.ensures) (search rules)

pub slice_bounds-steps-end : goal.slice_bounds-steps-end
slice_bounds-steps-end c = (whole (goal.at.slice_bounds-steps-end c).In_ok-n).fits

pub slice_bounds-parts-end-2 : goal.slice_bounds-parts-end-2
slice_bounds-parts-end-2 c = sym (length-take-le _ _ (whole (goal.at.slice_bounds-parts-end-2 c).In_ok-n).fits)

pub invariant_of-parts : goal.invariant_of-parts
invariant_of-parts c =
    let w = whole (goal.at.invariant_of-parts c).In_ok-n in record { whole = w.whole; few = w.few; short = w.short; within = w.within }

pub returns : goal.returns
returns c =
    whole-built _ _ (replicate 25600 0) (replicate 200 0) (room (goal.at.returns c).Else-c-gt-MOST) c.if-c-gt-MOST.false _ _ _ (whole (goal.at.returns c).In_ok-n) _ _ _ c.put.ensures

pub returns-in_err-n : goal.returns-in_err-n
returns-in_err-n c =
    let p = err_from_is_err_and c.from_residual.result c.from_residual.ensures.1 in
    rw (p.1, p.2)
    (whole-refused _ _ (replicate 25600 0) (replicate 200 0) (room (goal.at.returns-in_err-n c).Else-c-gt-MOST) c.if-c-gt-MOST.false _ _ _ _
    (rw c.in_err-n.was at c.build_all.ensures))
