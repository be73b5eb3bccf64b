-- `grid::table::slow` meets its contract: height by height. Assumes nothing.
use mathlib.Core.Path.{◌≡◌}
use lib.ListN.{length}
use Rattle.tables.specs.Filling.{Part}
use Rattle.grid.specs.Grids.{FlaggingSpanBy}
use Rattle.grid.proofs.table.slow.Given as goal

abbrev pub invariant-loop-y : goal.invariant-loop-y
invariant-loop-y l = (length l.val ≡ length l.initial.val) × (length l.ov ≡ length l.initial.ov) × FlaggingSpanBy l.p l.g l.initial.val l.initial.ov l.x l.from l.to × Part l.p l.g.sa l.g.sc l.x l.from l.initial.val l.initial.ov l.val l.ov l.y
