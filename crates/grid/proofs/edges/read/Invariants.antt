-- `grid::edges::read` meets its contract: at each step what is read so far and what is left make up the edge's validity and its number.
-- Assumes nothing.
use mathlib.Core.Bool.{false}
use Rattle.tables.proofs.Numbers.{Walking}
use Rattle.grid.proofs.edges.read.Given as goal

abbrev pub invariant-loop-i : goal.invariant-loop-i
invariant-loop-i l = Walking false l.p l.g.sa l.g.sc l.g.off l.val l.e l.acc l.at l.i
