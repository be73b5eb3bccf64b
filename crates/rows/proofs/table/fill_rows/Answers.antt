-- `rows::table::fill_rows` meets its contract: the end's cell of a table whose rows all fit has the count. Assumes nothing.
use Rattle.std.proofs.Common.{refl, arith}
use Rattle.tables.proofs.Phases.{filled_to-end}
use Rattle.rows.proofs.Along.{rows-over}
use Rattle.rows.proofs.table.fill_rows.Goals as goal

pub returns-in_err-all_rows : goal.returns-in_err-all_rows
returns-in_err-all_rows c = let all = c.in_err-all_rows.ensures in rw c.from_residual.ensures (rows-over (all.over refl))

pub returns : goal.returns
returns c = let all = c.in_ok-all_rows.ensures in filled_to-end (all.got refl) refl (λ j. omega (arith, c.type_inv.val j)) refl c.end.ensures
