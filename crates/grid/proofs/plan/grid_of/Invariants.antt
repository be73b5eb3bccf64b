-- `grid::plan::grid_of` meets its contract: what is too far has room too. Assumes nothing.
use mathlib.Core.Path.{◌≡◌}
use Prim.Native.Nat.{ℕ, ◌+◌, ◌*◌, ◌<◌}
use lib.ListN.{length, get_or}
use Rattle.grid.proofs.plan.grid_of.Given as goal

abbrev pub invariant-loop-i : goal.invariant-loop-i
invariant-loop-i l = (length l.off ≡ 8) × ((j : ℕ) → j < l.i → get_or l.off j 0 ≡ get_or l.s.sa j 0 * l.stride + get_or l.s.sc j 0)
