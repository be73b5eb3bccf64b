-- `grid::column::sum_past` meets its contract: each turn adds one cell more. Assumes nothing.
use mathlib.Core.Path.{◌≡◌}
use Rattle.howmany.specs.Sum.{sum}
use Rattle.grid.proofs.Sums.{past}
use Rattle.grid.proofs.column.sum_past.Given as goal

abbrev pub invariant-loop-j : goal.invariant-loop-j
invariant-loop-j g l = l.acc ≡ sum (past l.val l.from l.i) l.j
