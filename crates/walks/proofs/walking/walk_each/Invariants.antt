-- `walks::walking::walk_each` meets its contract: a string more at each turn. Assumes nothing.
use Rattle.walks.proofs.Checking.{Checking}
use Rattle.walks.proofs.walking.walk_each.Given as goal

abbrev pub invariant-loop-i : goal.invariant-loop-i
invariant-loop-i l = Checking l.p l.from l.ends l.bytes l.i l.at
