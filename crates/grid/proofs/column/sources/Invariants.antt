-- `grid::column::sources` meets its contract: the sources are found one by one. Assumes nothing.
use mathlib.Core.Path.{◌≡◌}
use Prim.Native.Nat.{ℕ, ◌<◌}
use lib.ListN.{length, get_or}
use Rattle.tables.specs.Cells.{source_of}
use Rattle.grid.proofs.column.sources.Given as goal

abbrev pub invariant-loop-i : goal.invariant-loop-i
invariant-loop-i g l = (length l.from ≡ g.row.K) × ((j : ℕ) → j < l.i → get_or l.from j 0 ≡ source_of l.g.sa l.g.off l.x l.p j)
