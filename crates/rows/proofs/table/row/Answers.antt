-- `rows::table::row` meets its contract: along the row the cell in hand is right, or a sum that doesn't fit shows that the end's count
-- doesn't. Assumes nothing.
use Rattle.std.proofs.Common.{◌+◌, ◌-◌, ◌^◌, ◌≤◌, T, get_or, sym, refl, subst, arith, length-set}
use Rattle.rows.specs.Plains.{plain_walks}
use Rattle.rows.proofs.Along.{along-done}
use Rattle.rows.proofs.PlainRows.{Begins, row-begins, row-start, Filling, filling_in, filling_far, filling_next, row-over, row_next}
use Rattle.rows.proofs.table.row.Goals as goal
use Rattle.rows.proofs.table.row.Goals.{After-across-b, After-height, In-loop}

-- where the row begins
begins : (c : After-height) →
    let args = c.args in
    Begins args.c args.val.now args.y c.stride-stride.result
begins c = row-begins _ c.stride-stride.ensures c.requires

-- what is known in a turn of the loop
turn : (c : In-loop) →
    let at = c.loop in
    let args = c.args in
    Filling args.c args.y at.val at.at at.sum at.counter c.stride-stride.result
turn c = record {
  along = c.loop.invariant.1;
  more = omega (arith, c.loop-test.true, c.height.ensures, c.width.ensures);
  stride = c.stride-stride.ensures;
}

-- and once both numbers are read: where the sum needs more than 64 bits, so does the count
over : (c : After-across-b) →
    let at = c.loop in
    2 ^ 64 ≤ at.sum + get_or at.val (at.at - 1) 0 + c.across-b.result → 2 ^ 64 ≤ plain_walks c.args.c
over c = row-over (turn (goal.at.After-across-b c).In-loop) _ _ refl c.across-b.ensures

pub bounds-val-at : goal.bounds-val-at
bounds-val-at c = (begins (goal.at.bounds-val-at c).After-height).inside

pub loop-init : goal.loop-init
loop-init c = (refl, row-start c.args.c c.stride-stride.ensures c.requires _ c.first-sum.ensures)

pub bounds-val-at-in-loop : goal.bounds-val-at-in-loop
bounds-val-at-in-loop c = omega (arith, filling_in (turn (goal.at.bounds-val-at-in-loop c).In-loop))

pub across-b-requires : goal.across-b-requires
across-b-requires c = (filling_far (turn (goal.at.across-b-requires c).In-loop), omega (arith, filling_in (turn (goal.at.across-b-requires c).In-loop)))

pub returns-in_err-two : goal.returns-in_err-two
returns-in_err-two c =
    rw c.from_residual.ensures
    (record {
      rows = λ e. absurd (subst T (sym e) tt);
      over = λ e. over (goal.at.returns-in_err-two c).After-across-b (omega (arith, c.in_err-two.ensures));
    })

pub returns-in_err-sum : goal.returns-in_err-sum
returns-in_err-sum c =
    rw c.from_residual-in_err-sum.ensures
    (record {
      rows = λ e. absurd (subst T (sym e) tt);
      over = λ e. over (goal.at.returns-in_err-sum c).After-across-b (omega (arith, c.in_ok-two.ensures, c.in_err-sum.ensures));
    })

pub bounds-val-at-in-loop-2 : goal.bounds-val-at-in-loop-2
bounds-val-at-in-loop-2 c = (filling_next (turn (goal.at.bounds-val-at-in-loop-2 c).In-loop)).1

pub loop-preserved : goal.loop-preserved
loop-preserved c = (
  simp length-set (simp length-set at c.loop.invariant.0),
  row_next (turn (goal.at.loop-preserved c).In-loop) _ _ refl c.across-b.ensures (omega (arith, c.in_ok-two.ensures, c.in_ok-sum.ensures)),
)

pub returns : goal.returns
returns c =
    let inv = c.loop.invariant.1 in
    record { rows = λ e. along-done inv (omega (arith, inv.le, c.loop-test.false, c.height.ensures, c.width.ensures)); over = λ e. absurd (subst T e tt) }
