-- `grid::shape::lowered` meets its contract: an end below the lowest slope or above the highest is out of reach, and others are seen from
-- one of the two. Assumes nothing.
use Rattle.tables.specs.Shapes.Beyond.{below, above}
use Rattle.grid.proofs.shape.lowered.Goals as goal

pub returns-then-y-floor : goal.returns-then-y-floor
returns-then-y-floor c = below _ c.lowest-low.ensures.each c.if-y-floor.true

pub returns-then-ceiling-y : goal.returns-then-ceiling-y
returns-then-ceiling-y c = above _ c.highest-high.ensures.0.each c.if-ceiling-y.true
