-- `grid::shape::seen` meets its contract: the end, the wall and the steps' heights change, and the rest stays. Assumes nothing.
use Rattle.tables.proofs.Lowering.{view_lowered}
use Rattle.grid.proofs.shape.seen.Goals as goal

pub returns : goal.returns
returns c = view_lowered _ _ _ _ _ _ c.requires c.wall-s.ensures c.height.ensures c.heights-s.ensures
