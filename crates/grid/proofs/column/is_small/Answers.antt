-- `grid::column::is_small` meets its contract: the sum is 0 only if no cell so far has a bit above 2^61. Assumes nothing.
use Prim.Native.Nat.{◌+◌, ◌≤◌}
use native.Mathlib.Omega.{arith}
use lib.ListN.{get_or}
use borrow.Author.Count.{below_more}
use borrow.Author.Tests.{eqb-true}
use Rattle.grid.proofs.column.is_small.Goals as goal

pub loop-i-preserved : goal.loop-i-preserved
loop-i-preserved c =
    let v = c.type_inv.val (c.args.d + c.loop-i.i) in (
      omega (arith, c.loop-i-test.true),
      omega (arith, c.loop-i.invariant.1, v),
      λ e. below_more (λ k. get_or c.args.val.now (c.args.d + k) 0 ≤ 2305843009213693951) _ (c.loop-i.invariant.2 (omega arith)) (omega arith),
    )

pub returns : goal.returns
returns c = λ e i l. c.loop-i.invariant.2 (eqb-true _ 0 e) i (omega (arith, c.loop-i-test.false))
