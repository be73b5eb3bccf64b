-- `grid::flags::total` meets its contract: the sum so far fits, or the whole doesn't. Assumes nothing.
use mathlib.Core.Path.{◌≡◌}
use Prim.Native.Nat.{ℕ, ◌^◌, ◌<◌}
use Rattle.howmany.specs.Sum.{sum}
use Rattle.tables.specs.Filling.{Says}
use Rattle.grid.proofs.flags.total.Given as goal

abbrev pub invariant-loop-i : goal.invariant-loop-i
invariant-loop-i l =
    (l.acc < 2 ^ 64) × ((g : ℕ → ℕ) → Says l.g.sa l.g.off l.val l.ov l.x l.at g → l.acc ≡ sum g l.i)
