-- `grid::table::slow` meets its contract: height by height. Assumes nothing.
use mathlib.Core.Path.{refl}
use native.Mathlib.Omega.{arith}
use Rattle.grid.proofs.Sums.{all_of}
use Rattle.tables.proofs.Phases.{place-sum, slow_placed, none_yet, put_in, parts-of, part-more, slow_done}
use Rattle.grid.proofs.table.slow.Goals as goal

pub overflow_add-column : goal.overflow_add-column
overflow_add-column c = record { fits = (slow_placed c.requires _ c.requires.lt).next }

pub overflow_add-column-2 : goal.overflow_add-column-2
overflow_add-column-2 c = record { fits = (slow_placed c.requires _ c.requires.lt).tall }

pub overflow_add-column-3 : goal.overflow_add-column-3
overflow_add-column-3 c = record { fits = (slow_placed c.requires _ c.requires.lt).stride }

pub overflow_mul-column : goal.overflow_mul-column
overflow_mul-column c = record { fits = (slow_placed c.requires _ c.requires.lt).column }

pub loop-y-init : goal.loop-y-init
loop-y-init c = (refl, refl, c.requires, none_yet c.requires)

pub overflow_add-at : goal.overflow_add-at
overflow_add-at c = record { fits = (slow_placed c.loop-y.invariant.2 _ c.loop-y-test.true).base }

pub overflow_add-at-in-loop-y : goal.overflow_add-at-in-loop-y
overflow_add-at-in-loop-y c = record { fits = (slow_placed c.loop-y.invariant.2 _ c.loop-y-test.true).cell }

pub total-r-requires : goal.total-r-requires
total-r-requires c = parts-of c.loop-y.invariant.2 c.loop-y.invariant.3 (omega arith) c.loop-y-test.true _ (place-sum _ _ _ _) c.loop-y.invariant.0 c.loop-y.invariant.1

pub put-requires : goal.put-requires
put-requires c = put_in c.loop-y.invariant.2 c.loop-y.invariant.3 (omega arith) c.loop-y-test.true c.loop-y.invariant.0 c.loop-y.invariant.1

pub loop-y-preserved : goal.loop-y-preserved
loop-y-preserved c = (omega arith, omega arith, c.loop-y.invariant.2, part-more c.loop-y.invariant.2 c.loop-y.invariant.3 (omega arith) c.loop-y-test.true _ _ _ _ (place-sum _ _ _ _) c.put.ensures c.total-r.ensures)

pub returns : goal.returns
returns c = slow_done c.loop-y.invariant.2 c.loop-y.invariant.3 (all_of _ _ (omega arith) c.loop-y-test.false)
