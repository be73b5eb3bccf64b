-- `grid::edges::part_sum` meets its contract: each turn adds what one step more brings. Assumes nothing.
use mathlib.Core.Path.{◌≡◌}
use Rattle.howmany.specs.Sum.{sum}
use Rattle.tables.specs.Edges.{brought_at}
use Rattle.grid.proofs.edges.part_sum.Given as goal

abbrev pub invariant-loop-i : goal.invariant-loop-i
invariant-loop-i l = l.acc ≡ sum (brought_at l.off l.val l.at) l.i
