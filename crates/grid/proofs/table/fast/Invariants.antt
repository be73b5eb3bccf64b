-- `grid::table::fast` meets its contract: column by column, while the next one needs no test. Assumes nothing.
use mathlib.Core.Path.{◌≡◌}
use lib.ListN.{length}
use Rattle.tables.specs.Plans.{TableFor, SmallFor}
use Rattle.grid.specs.Grids.{PreparedBy}
use Rattle.grid.proofs.table.fast.Given as goal

abbrev pub invariant-loop-x : goal.invariant-loop-x
invariant-loop-x l =
    (length l.val ≡ length l.initial.val) × PreparedBy l.p l.g (length l.val) × TableFor l.p l.g.sa l.g.sc l.val l.x × SmallFor l.p l.g.sa l.g.sc l.x
