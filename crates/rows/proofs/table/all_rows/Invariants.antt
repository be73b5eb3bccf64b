-- `rows::table::all_rows` meets its contract: row by row. Assumes nothing.
use Rattle.std.proofs.Common.{◌≡◌, length}
use Rattle.rows.specs.Rows.{RowsFor}
use Rattle.rows.specs.Plains.{plain_plan, plain_right, plain_up, PlainReady}
use Rattle.rows.proofs.table.all_rows.Given as goal

abbrev pub invariant-loop-y : goal.invariant-loop-y
invariant-loop-y l =
    (length l.val ≡ length l.initial.val) × PlainReady l.c (length l.val) × RowsFor (plain_plan l.c) (plain_right l.c) (plain_up l.c) l.val l.y 0
