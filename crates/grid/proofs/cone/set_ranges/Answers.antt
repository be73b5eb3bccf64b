-- `grid::cone::set_ranges` meets its contract: one column after the other. Assumes nothing.
use native.Mathlib.Omega.{arith}
use Rattle.grid.proofs.Spanning.{spans_turn, spans_end}
use Rattle.grid.proofs.cone.set_ranges.Goals as goal

pub loop-x-preserved : goal.loop-x-preserved
loop-x-preserved c = spans_turn c.loop-x.invariant (omega arith) c.from_at.ensures c.to_at.ensures

pub returns : goal.returns
returns c = spans_end c.loop-x.invariant (omega arith)
