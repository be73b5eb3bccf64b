-- `rows::table::Table::spell_all` meets its contract: each edge is spelt where the one before it ends. Assumes nothing.
use Rattle.std.proofs.Common.{arith}
use Rattle.howmany.proofs.Choices.{holds}
use Rattle.rules.proofs.Belows.{below_at}
use Rattle.lines.proofs.Lining.{lining_none, lining_part, lining_all}
use Rattle.tables.proofs.Builds.{front-next}
use Rattle.rows.proofs.table.Table.spell_all.Goals as goal

pub loop-i-init : goal.loop-i-init
loop-i-init c = lining_none _ _ _ _ c.requires.2

pub spell_front-n-requires : goal.spell_front-n-requires
spell_front-n-requires c =
    (c.requires.0, below_at _ _ (holds c.requires.1) _ c.loop-i-test.true, lining_part _ _ _ _ _ _ _ _ c.loop-i.invariant c.loop-i-test.true)

pub loop-i-preserved : goal.loop-i-preserved
loop-i-preserved c =
    front-next _ _ _ _ _ _ _ _ c.loop-i.invariant _ _ c.loop-i-test.true c.spell_front-n.ensures

pub returns : goal.returns
returns c = lining_all _ _ _ _ _ _ _ _ c.loop-i.invariant (omega (arith, c.loop-i.invariant.passed))
