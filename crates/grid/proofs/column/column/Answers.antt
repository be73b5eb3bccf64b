-- `grid::column::column` meets its contract: each turn sums one cell more. Assumes nothing.
use native.Mathlib.Omega.{arith}
use Rattle.grid.proofs.Sums.{summing_none, summing_more, summing_all, sources_at, cell-read, cell-written, turn, turn-fits}
use Rattle.grid.proofs.column.column.Goals as goal

pub loop-i-init : goal.loop-i-init
loop-i-init g c = (summing_none c.requires.1 (omega (arith, c.requires.1.inside)), sources_at _ c.requires.1 c.sources-from.ensures)

pub sum_past-requires : goal.sum_past-requires
sum_past-requires g c = (
  omega (arith, c.requires.0),
  (λ j h. (cell-read c.loop-i.invariant.0 c.loop-i-test.true (c.loop-i.invariant.1 j h)).inside, turn-fits _ c.loop-i.invariant.0 c.loop-i-test.true c.loop-i.invariant.1),
)

pub overflow_add-val : goal.overflow_add-val
overflow_add-val g c = record { fits = (cell-written c.loop-i.invariant.0 c.loop-i-test.true).fits }

pub offset_bounds-val-d : goal.offset_bounds-val-d
offset_bounds-val-d g c = record { fits = (cell-written c.loop-i.invariant.0 c.loop-i-test.true).byte }

pub bounds-val-d : goal.bounds-val-d
bounds-val-d g c = (cell-written c.loop-i.invariant.0 c.loop-i-test.true).inside

pub loop-i-preserved : goal.loop-i-preserved
loop-i-preserved g c = (summing_more c.loop-i.invariant.0 c.loop-i-test.true (turn _ c.loop-i.invariant.0 c.loop-i-test.true c.loop-i.invariant.1 c.sum_past.ensures), c.loop-i.invariant.1)

pub returns : goal.returns
returns g c = summing_all c.loop-i.invariant.0 c.loop-i-test.false
