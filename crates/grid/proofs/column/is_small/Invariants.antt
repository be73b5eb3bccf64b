-- `grid::column::is_small` meets its contract: the sum is 0 only if no cell so far has a bit above 2^61. Assumes nothing.
use Prim.Native.Nat.{ℕ, ◌+◌, ◌*◌, ◌≤◌, ◌<◌}
use mathlib.Core.Path.{◌≡◌}
use lib.ListN.{get_or}
use Rattle.grid.proofs.column.is_small.Given as goal

abbrev pub invariant-loop-i : goal.invariant-loop-i
invariant-loop-i l = (l.i ≤ l.n) × (l.above ≤ 7 * l.i) × (l.above ≡ 0 → (k : ℕ) → k < l.i → get_or l.val (l.d + k) 0 ≤ 2305843009213693951)
