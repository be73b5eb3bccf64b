-- `grid::cone::reach_of` meets its contract: a multiple of six is divided before it is multiplied. Assumes nothing.
use Prim.Native.Nat.{◌/◌}
use native.Mathlib.Omega.{arith}
use Rattle.tables.proofs.Walls.{sixth_of}
use Rattle.grid.proofs.cone.reach_of.Goals as goal

pub returns-then-slope-hi : goal.returns-then-slope-hi
returns-then-slope-hi c = let h = sixth_of c.args.hi (c.args.hi / 6) c.args.x c.if-slope-hi.true in (omega arith, omega arith)
