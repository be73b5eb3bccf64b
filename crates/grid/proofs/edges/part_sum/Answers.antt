-- `grid::edges::part_sum` meets its contract: each turn adds what one step more brings. Assumes nothing.
use mathlib.Core.Path.{refl, ap, ◌∙◌}
use native.Mathlib.Omega.{arith}
use Rattle.howmany.specs.Sum.{sum}
use Rattle.tables.proofs.Numbers.{read_more}
use Rattle.grid.proofs.edges.part_sum.Goals as goal

pub loop-i-init : goal.loop-i-init
unfolding sum
loop-i-init c = refl

pub overflow_add-acc : goal.overflow_add-acc
overflow_add-acc c = record { fits = (read_more c.requires _ c.back-s.ensures c.loop-i-test.true c.loop-i.invariant).1 }

pub loop-i-preserved : goal.loop-i-preserved
loop-i-preserved c = (read_more c.requires _ c.back-s.ensures c.loop-i-test.true c.loop-i.invariant).0

pub returns : goal.returns
returns c = c.loop-i.invariant ∙ ap (sum _) (omega arith)
