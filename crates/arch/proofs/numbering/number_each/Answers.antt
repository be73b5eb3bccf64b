-- `arch::numbering::number_each` meets its contract: an edge more at each turn. Assumes nothing.
use mathlib.Core.Path.{◌≡◌}
use native.Mathlib.Omega.{arith}
use lib.ListN.{get_or, length}
use Rattle.rules.specs.Valid.{is_edge}
use Rattle.rules.specs.Numbers.{number_of}
use Rattle.rules.specs.Packs.{part_of}
use Rattle.std.specs.Prelude.{ℕ, Option}
use Rattle.lines.proofs.Ranking.{ranking_next, ranking_stop, ranking_all, part-rank}
use Rattle.arch.specs.Answers.{arch_job, RankOf}
use Rattle.arch.proofs.Calls.{numbers_of}
use Rattle.arch.proofs.numbering.number_each.Goals as goal
use Rattle.arch.proofs.numbering.number_each.Goals.{After-rank}

-- what is read of the next edge
read : (c : After-rank) {q : Option ℕ} → c.rank.result ≡ q →
    let args = c.args in
    let loop = c.loop-i in
    RankOf (arch_job args.parts.now.d args.parts.now.v args.parts.now.n) (part_of args.bytes.now loop.at (get_or args.ends.now loop.i 0)) q
read c e =
    let args = c.args in
    part-rank (is_edge (arch_job args.parts.now.d args.parts.now.v args.parts.now.n)) (number_of (arch_job args.parts.now.d args.parts.now.v args.parts.now.n)) _ _ _ _ c.part.ensures c.rank.ensures e

pub returns-in_default : goal.returns-in_default
returns-in_default c =
    numbers_of c.args.parts.now.full _ _ _ _ (ranking_stop _ _ _ _ _ _ _ _ _ c.loop-i.invariant c.loop-i-test.true (read (goal.at.returns-in_default c).After-rank c.in_default.is))

pub loop-i-preserved : goal.loop-i-preserved
loop-i-preserved c =
    let w = read (goal.at.loop-i-preserved c).After-rank c.in-Some.is in
    ranking_next _ _ _ _ _ _ _ _ _ c.loop-i.invariant _ c.loop-i-test.true w.0 w.1

pub returns : goal.returns
returns c =
    let e : c.loop-i.i ≡ length c.args.ends.now = omega arith in
    rw e at (numbers_of c.args.parts.now.full _ _ _ _ (ranking_all _ _ _ _ _ _ _ _ _ c.loop-i.invariant c.loop-i-test.false))
