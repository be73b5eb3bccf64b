-- `grid::heights::highest` meets its contract: no step so far is steeper than the slope, and the fence isn't. Assumes nothing.
use native.Mathlib.Omega.{arith}
use Rattle.tables.proofs.Lowering.{bounds-high, bounds-at}
use Rattle.grid.proofs.heights.highest.Goals as goal

pub loop-i-preserved : goal.loop-i-preserved
loop-i-preserved c = (bounds-high _ _ _ _ _ c.loop-i.invariant.0 c.steeper-d.ensures.0 c.steeper-d.ensures.1 c.steeper-d.ensures.2, omega (arith, c.steeper-d.ensures.0))

pub returns : goal.returns
returns c = (bounds-at c.loop-i.invariant.0 (omega arith), c.loop-i.invariant.1)
