-- `grid::table::columns` meets its contract: the columns that need no test, and then those that do. Assumes nothing.
use native.Mathlib.Omega.{arith}
use mathlib.Core.Path.{refl}
use Rattle.tables.proofs.Phases.{filled_to-end}
use Rattle.grid.proofs.table.columns.Goals as goal

pub returns : goal.returns
returns c = filled_to-end c.fast-next.ensures (omega arith) (λ j. (c.type_inv.val j).fits) refl c.end_of-end.ensures
