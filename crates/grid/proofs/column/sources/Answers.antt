-- `grid::column::sources` meets its contract: the sources are found one by one. Assumes nothing.
use mathlib.Core.Path.{◌≡◌}
use native.Mathlib.Omega.{arith}
use lib.ListN.{length-set}
use Rattle.tables.specs.Cells.{source_of}
use Rattle.tables.proofs.Walls.{set_more}
use Rattle.grid.proofs.column.sources.Goals as goal

pub loop-i-preserved : goal.loop-i-preserved
loop-i-preserved g c = (simp length-set c.loop-i.invariant.0, set_more c.loop-i.from c.loop-i.i _ (λ j s. s ≡ source_of c.args.g.now.sa c.args.g.now.off c.args.x c.args.p j) (omega arith) c.loop-i.invariant.1 c.source.ensures)

pub returns : goal.returns
returns g c = λ i l. c.loop-i.invariant.1 i (omega arith)
