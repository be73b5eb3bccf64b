-- `walks::walk_one` meets its contract. The loop's invariant: the first i steps keep the rules, and what is left goes on from the
-- point at x and h. Assumes nothing.
use Rattle.walks.proofs.Stepping.{Stepping}
use Rattle.walks.proofs.walking.walk_one.Given as goal

abbrev pub invariant-loop-i : goal.invariant-loop-i
invariant-loop-i l = Stepping l.p l.edge l.x l.h l.i
