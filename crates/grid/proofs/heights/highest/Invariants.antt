-- `grid::heights::highest` meets its contract: no step so far is steeper than the slope, and the fence isn't. Assumes nothing.
use mathlib.Core.Bool.{true}
use Prim.Native.Nat.{◌≤◌}
use Rattle.tables.specs.Heights.{Bounds}
use Rattle.grid.proofs.heights.highest.Given as goal

abbrev pub invariant-loop-i : goal.invariant-loop-i
invariant-loop-i l = Bounds true l.d l.i l.s.sa l.s.sc × (l.s.wall.slope ≤ l.d)
