-- `grid::numbering::number_each` meets its contract: an edge more at each turn. Assumes nothing.
use mathlib.Core.Path.{◌≡◌}
use mathlib.Core.Bool.{false}
use native.Mathlib.Omega.{arith}
use lib.ListN.{length}
use Rattle.lines.proofs.Ranking.{ranking_next, ranking_stop, ranking_all, part-rank}
use Rattle.tables.specs.Plans.{valid_for, rank_for}
use Rattle.grid.proofs.numbering.number_each.Goals as goal

pub returns-in_default : goal.returns-in_default
returns-in_default c = ranking_stop _ _ _ _ _ _ _ _ _ c.loop-i.invariant c.loop-i-test.true (part-rank (valid_for false c.args.p c.args.g.now.sa c.args.g.now.sc) (rank_for false c.args.p c.args.g.now.sa c.args.g.now.sc) _ _ _ _ c.part.ensures c.read.ensures c.in_default.is)

pub loop-i-preserved : goal.loop-i-preserved
loop-i-preserved c =
    let w = part-rank (valid_for false c.args.p c.args.g.now.sa c.args.g.now.sc) (rank_for false c.args.p c.args.g.now.sa c.args.g.now.sc) _ _ _ _ c.part.ensures c.read.ensures c.in-Some.is in
    ranking_next _ _ _ _ _ _ _ _ _ c.loop-i.invariant _ c.loop-i-test.true w.0 w.1

pub returns : goal.returns
returns c = let e : length c.args.ends.now ≡ c.loop-i.i = omega arith in rw e (ranking_all _ _ _ _ _ _ _ _ _ c.loop-i.invariant c.loop-i-test.false)
