-- `grid::edges::seek` meets its contract: what is left is below what the steps not yet passed bring. Assumes nothing.
use mathlib.Core.Path.{◌≡◌}
use Prim.Native.Nat.{◌+◌, ◌<◌}
use Rattle.howmany.specs.Sum.{sum}
use Rattle.tables.specs.Edges.{brought_at}
use Rattle.grid.proofs.edges.seek.Given as goal

abbrev pub invariant-loop-i : goal.invariant-loop-i
invariant-loop-i l = (l.i < l.k) × (sum (brought_at l.off l.val l.at) l.i + l.left ≡ l.r)
