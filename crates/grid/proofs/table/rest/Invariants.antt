-- `grid::table::rest` meets its contract: column by column, with flags that are all 0 at first. Assumes nothing.
use mathlib.Core.Path.{◌≡◌}
use lib.ListN.{length}
use Rattle.grid.specs.Grids.{PreparedBy, FlaggedBy}
use Rattle.grid.proofs.table.rest.Given as goal

abbrev pub invariant-loop-x : goal.invariant-loop-x
invariant-loop-x l =
    (length l.val ≡ length l.initial.val) × (length l.ov ≡ 3712) × PreparedBy l.p l.g (length l.val) × FlaggedBy l.p l.g l.val l.ov l.x
