-- `grid::cone::from_at` meets its contract: the fence, or the lowest height from which the end can be reached. Assumes nothing.
use native.Mathlib.Omega.{arith}
use Rattle.tables.proofs.Walls.{from-fence, from_end}
use Rattle.grid.proofs.cone.from_at.Goals as goal

pub returns-then-ey-fence : goal.returns-then-ey-fence
returns-then-ey-fence c = from-fence c.fence_at-fence.ensures _ c.reach_of-reach.ensures.0 c.if-ey-fence.true

pub returns : goal.returns
returns c = from_end c.fence_at-fence.ensures _ c.reach_of-reach.ensures.0 c.reach_of-reach.ensures.1 (omega arith)
