-- `grid::cone::set_ranges` meets its contract: one column after the other. Assumes nothing.
use Rattle.grid.proofs.Spanning.{SpansTo}
use Rattle.grid.proofs.cone.set_ranges.Given as goal

abbrev pub invariant-loop-x : goal.invariant-loop-x
invariant-loop-x l = SpansTo l.f l.hi l.ex l.ey l.ranges.starts l.ranges.stops l.x
