-- `rows::table::Table::number_each` meets its contract: an edge more at each turn. Assumes nothing.
use Rattle.lines.proofs.Ranking.{Ranking}
use Rattle.rows.specs.Plains.{plain_valid, plain_number}
use Rattle.rows.proofs.table.Table.number_each.Given as goal

abbrev pub invariant-loop-i : goal.invariant-loop-i
invariant-loop-i l = Ranking (plain_valid l.self.plain) (plain_number l.self.plain) l.from l.ends l.bytes l.initial.numbers l.i l.at l.numbers
