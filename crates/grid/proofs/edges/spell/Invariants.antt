-- `grid::edges::spell` meets its contract: at each step what is written so far and what is left make up the edge. Assumes nothing.
use mathlib.Core.Path.{◌≡◌}
use mathlib.Core.Bool.{false}
use lib.ListN.{length}
use Rattle.tables.proofs.Building.{SpeltSoFar}
use Rattle.grid.proofs.edges.spell.Given as goal

abbrev pub invariant-loop-at : goal.invariant-loop-at
invariant-loop-at l =
    (length l.buf ≡ length l.initial.buf) × SpeltSoFar false l.p l.g.sa l.g.sc l.g.off l.val l.r l.buf l.at l.left l.s

abbrev pub decreases-loop-at : goal.decreases-loop-at
decreases-loop-at l = l.at
