-- `rows::table::row` meets its contract: along the row the cell in hand is right, or a sum that doesn't fit shows that the end's count
-- doesn't. Assumes nothing.
use Rattle.std.proofs.Common.{◌≡◌, length}
use Rattle.rows.proofs.PlainRows.{PlainAlong}
use Rattle.rows.proofs.table.row.Given as goal

abbrev pub invariant-loop : goal.invariant-loop
invariant-loop l = (length l.val ≡ length l.initial.val) × PlainAlong l.c l.y l.val l.at l.sum l.counter
