-- `rows::table::Table::spell` meets its contract: at each step what is written so far and what is left make up the edge. The loop knows
-- no plain, only numbers, so what it keeps holds of every plain that gives these. Assumes nothing.
use Rattle.std.proofs.Common.{◌≡◌, length}
use Rattle.rows.specs.declared.plain.Plain.{Plain}
use Rattle.rows.proofs.PlainRows.{Given, Spelt}
use Rattle.rows.proofs.table.Table.spell.Given as goal

abbrev pub invariant-loop-x : goal.invariant-loop-x
invariant-loop-x l =
    (length l.buf ≡ length l.initial.buf) × ((c : Plain) → Given c l.val l.r l.initial.buf l.north l.east l.initial.x l.initial.at → Spelt c l.val l.r l.buf l.x l.at l.left l.s)

abbrev pub decreases-loop-x : goal.decreases-loop-x
decreases-loop-x l = l.x
