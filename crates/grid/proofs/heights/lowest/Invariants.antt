-- `grid::heights::lowest` meets its contract: the slope is no steeper than the steps so far. Assumes nothing.
use mathlib.Core.Bool.{false}
use Rattle.tables.specs.Heights.{Bounds}
use Rattle.grid.proofs.heights.lowest.Given as goal

abbrev pub invariant-loop-i : goal.invariant-loop-i
invariant-loop-i l = Bounds false l.d l.i l.s.sa l.s.sc
