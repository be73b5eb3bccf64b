-- `grid::cone::fence_at` meets its contract: a roof, a fence below the height 0, or one above it. Assumes nothing.
use Rattle.tables.proofs.Walls.{fence-above, fence-free}
use Rattle.grid.proofs.cone.fence_at.Goals as goal

pub returns-then-f : goal.returns-then-f
returns-then-f c = fence-free _ _ c.if-f.true

pub returns : goal.returns
returns c = rw c.saturating_sub.ensures (fence-above _ _ c.if-f.false)
