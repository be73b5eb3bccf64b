-- `grid::heights::lowest` meets its contract: the slope is no steeper than the steps so far. Assumes nothing.
use native.Mathlib.Omega.{arith}
use Rattle.tables.proofs.Lowering.{bounds-low, bounds-at}
use Rattle.grid.proofs.heights.lowest.Goals as goal

pub loop-i-preserved : goal.loop-i-preserved
loop-i-preserved c = bounds-low _ _ _ _ _ c.loop-i.invariant c.gentler-d.ensures.0 c.gentler-d.ensures.1

pub returns : goal.returns
returns c = bounds-at c.loop-i.invariant (omega arith)
