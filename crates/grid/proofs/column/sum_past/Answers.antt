-- `grid::column::sum_past` meets its contract: each turn adds one cell more. Assumes nothing.
use mathlib.Core.Path.{refl}
use Rattle.howmany.specs.Sum.{sum}
use Rattle.grid.proofs.Sums.{past, past-more}
use Rattle.grid.proofs.column.sum_past.Goals as goal

pub loop-j-init : goal.loop-j-init
unfolding sum
loop-j-init g c = refl

pub overflow_add-acc-in-loop-j : goal.overflow_add-acc-in-loop-j
overflow_add-acc-in-loop-j g c = record { fits = (past-more (past c.args.val.now c.args.from.now c.args.i) c.loop-j-test.true c.requires.fits c.loop-j.invariant).1 }

pub loop-j-preserved : goal.loop-j-preserved
loop-j-preserved g c = (past-more (past c.args.val.now c.args.from.now c.args.i) c.loop-j-test.true c.requires.fits c.loop-j.invariant).0
