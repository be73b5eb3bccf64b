-- `grid::shape::directed_shape` meets its contract: the job's own shape lowered, if its end is not below 0. Assumes nothing.
use Rattle.tables.specs.Shapes.Chosen.{sunk, lowered}
use Rattle.grid.proofs.shape.directed_shape.Goals as goal

pub returns-in_err-own_shape : goal.returns-in_err-own_shape
returns-in_err-own_shape c = rw c.from_residual.ensures (sunk c.in_err-own_shape.ensures)

pub returns : goal.returns
returns c = lowered _ c.in_ok-own_shape.ensures c.lowered.ensures
