-- `rows::table::Table::spell_all` meets its contract: each edge is spelt where the one before it ends. Assumes nothing.
use Rattle.lines.proofs.Lining.{Lining}
use Rattle.rows.specs.Plains.{plain_edge}
use Rattle.rows.proofs.table.Table.spell_all.Given as goal

abbrev pub invariant-loop-i : goal.invariant-loop-i
invariant-loop-i l = Lining (plain_edge l.self.plain) l.numbers l.initial.steps l.initial.ends l.i l.at l.steps l.ends
