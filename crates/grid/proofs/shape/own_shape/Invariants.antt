-- `grid::shape::own_shape` meets its contract: the steps are laid one by one. Assumes nothing.
use Rattle.tables.specs.Shapes.{Laying}
use Rattle.tables.proofs.Lowering.{Until}
use Rattle.grid.proofs.shape.own_shape.Given as goal

abbrev pub invariant-loop-i : goal.invariant-loop-i
invariant-loop-i l = Until (Laying l.a l.b l.sa l.sc) l.k l.i
