-- The loop along the row: what was made so far, for whatever row it was given. Assumes nothing.
use Rattle.std.proofs.Common.{◌≡◌, ℕ, ◌+◌, ◌^◌, ◌<◌, ◌≤◌, length}
use Rattle.plains.specs.Plains.{Row}
use Rattle.plains.proofs.Rows.{Between}
use Rattle.plains.proofs.next_row.Given as goal

abbrev pub invariant-loop-i : goal.invariant-loop-i
invariant-loop-i l = (l.i ≤ l.n + 1) × (length l.row ≡ length l.initial.row) × (l.sum < 2 ^ 64) × ((j : ℕ) → Row l.diagonal l.n j l.initial.row → Between l.diagonal l.n j l.i l.row l.sum l.before)
