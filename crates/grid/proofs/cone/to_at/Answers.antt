-- `grid::cone::to_at` meets its contract: past the highest height that a step leads to, or past the end. Assumes nothing.
use Rattle.tables.proofs.Walls.{to-lesser}
use Rattle.grid.proofs.cone.to_at.Goals as goal

pub returns : goal.returns
returns c = rw c.min.ensures (to-lesser c.roof_at-reach.ensures c.reach_of.ensures.1)
