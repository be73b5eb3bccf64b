-- `rows::table::Table::read` meets its contract: at each step what is read so far and what is left make up the edge's validity and its
-- number, or the cell holds 0 and the bytes are no edge. Assumes nothing.
use Rattle.std.proofs.Common.{length}
use Rattle.rows.proofs.PlainRows.{Left, LedBack}
use Rattle.rows.proofs.table.Table.read.Given as goal

abbrev pub invariant-loop-b : goal.invariant-loop-b
invariant-loop-b l =
    let rest = l.b-iterator.iter.rest.now in
    Left l.e rest × LedBack l.plain l.val l.e l.acc l.at (length rest)
