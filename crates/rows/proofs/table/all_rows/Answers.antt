-- `rows::table::all_rows` meets its contract: row by row. Assumes nothing.
use Rattle.std.proofs.Common.{refl, arith}
use Rattle.tables.proofs.Phases.{ready_len}
use Rattle.rows.proofs.Along.{risen_of}
use Rattle.rows.proofs.Plains.{plain-steps}
use Rattle.rows.proofs.table.all_rows.Goals as goal

pub returns-in_ok-row : goal.returns-in_ok-row
returns-in_ok-row c =
    let inv = c.loop-y.invariant in
    let row = c.in_ok-row.ensures in
    risen_of (ready_len inv.1 (omega arith)) (plain-steps c.args.c) (row.rows refl) (omega (arith, c.height-y-end.ensures))
