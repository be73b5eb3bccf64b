-- `walks::walking::walk_each` meets its contract: a string more at each turn. Assumes nothing.
use Rattle.std.specs.Prelude.{Some, None}
use Rattle.walks.proofs.Checking.{checking_more, checked_stop, checked_all, part-stops}
use Rattle.walks.proofs.walking.walk_each.Goals as goal

pub returns-in-Some : goal.returns-in-Some
returns-in-Some c =
    checked_stop c.loop-i.invariant c.loop-i-test.true _ (part-stops _ _ _ _ _ c.part.ensures (Some c.in-Some.place) c.in-Some.ensures)

pub loop-i-preserved : goal.loop-i-preserved
loop-i-preserved c =
    checking_more c.loop-i.invariant c.loop-i-test.true (part-stops _ _ _ _ _ c.part.ensures None c.in_default.ensures)

pub returns : goal.returns
returns c = checked_all c.loop-i.invariant c.loop-i-test.false
