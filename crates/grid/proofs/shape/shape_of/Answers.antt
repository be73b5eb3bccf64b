-- `grid::shape::shape_of` meets its contract: by family. Assumes nothing.
use Rattle.tables.proofs.Shaping.{shaped-by}
use Rattle.grid.proofs.shape.shape_of.Goals as goal

pub returns : goal.returns
returns c = shaped-by _ _ c.requires.1 c.fence_of-fence.ensures c.directed_shape.ensures
