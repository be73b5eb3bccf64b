-- `rows::table::Table::number_each` meets its contract: an edge more at each turn. Assumes nothing.
use Rattle.std.proofs.Common.{◌≡◌, ℕ, subst, get_or, arith}
use Rattle.rules.specs.Packs.{part_of}
use Rattle.std.specs.Prelude.{Option}
use Rattle.lines.specs.Lines.{cut_from}
use Rattle.lines.proofs.Ranking.{ranking_next, ranking_stop, ranking_all, part-rank}
use Rattle.rows.specs.Plains.{plain_valid, plain_number, PlainRank, PlainRanks}
use Rattle.rows.proofs.table.Table.number_each.Goals as goal
use Rattle.rows.proofs.table.Table.number_each.Goals.{After-read}

-- what is read of the next edge
rank : (c : After-read) {q : Option ℕ} → c.read.result ≡ q →
    let at = c.loop-i in
    let args = c.args in
    PlainRank args.self.plain (part_of args.s.bytes.now at.at (get_or args.s.ends.now at.i 0)) q
rank c e =
    let plain = c.args.self.plain in
    part-rank (plain_valid plain) (plain_number plain) _ _ _ _ c.part.ensures c.read.ensures e

pub returns-in_default : goal.returns-in_default
returns-in_default c = ranking_stop _ _ _ _ _ _ _ _ _ c.loop-i.invariant c.loop-i-test.true (rank (goal.at.returns-in_default c).After-read c.in_default.is)

pub loop-i-preserved : goal.loop-i-preserved
loop-i-preserved c =
    let w = rank (goal.at.loop-i-preserved c).After-read c.in-Some.is in
    ranking_next _ _ _ _ _ _ _ _ _ c.loop-i.invariant _ c.loop-i-test.true w.0 w.1

pub returns : goal.returns
returns c =
    let args = c.args in
    let plain = args.self.plain in
    let P : ℕ → Type 0 = λ n. PlainRanks plain (cut_from args.s.from args.s.ends.now args.s.bytes.now) args.numbers.now c.loop-i.numbers n in
    subst P (omega arith) (ranking_all _ _ _ _ _ _ _ _ _ c.loop-i.invariant c.loop-i-test.false)
