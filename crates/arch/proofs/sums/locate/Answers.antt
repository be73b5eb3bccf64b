-- `arch::sums::locate` meets its contract: the loop keeps r between both sides, which move closer. Assumes nothing.
use mathlib.Core.Path.{◌≡◌}
use Prim.Native.Nat.{◌*◌}
use native.Mathlib.Omega.{arith}
use lib.ListN.{get_or}
use Rattle.arches.specs.Counts.{count}
use Rattle.arch.proofs.Spots.{between_start, falls-right, closer, pair_is, pair_fits}
use Rattle.arch.proofs.sums.locate.Goals as goal
use Rattle.arch.proofs.sums.locate.Goals.{At-loop-low}

-- the product of both sides
product : (c : At-loop-low) →
    let args = c.args in
    get_or args.table.now c.loop-low.l 0 * get_or args.table.now c.loop-low.h 0 ≡ count args.d args.v c.loop-low.l * count args.d args.v c.loop-low.h
product c = pair_is c.args.m c.loop-low.l c.loop-low.h c.requires.0 c.requires.1 c.loop-low.invariant.apart

pub loop-low-init : goal.loop-low-init
loop-low-init c = between_start c.args.d c.args.v c.args.m c.args.r c.args.b c.requires.2

pub overflow_mul-p : goal.overflow_mul-p
overflow_mul-p c =
    omega (arith, pair_fits c.args.m c.loop-low.l c.loop-low.h c.requires.0 c.requires.1 c.loop-low.invariant.apart)

pub returns-then-high-p : goal.returns-then-high-p
returns-then-high-p c = falls-right c.loop-low.invariant (product (goal.at.returns-then-high-p c).At-loop-low) c.if-high-p.true

pub overflow_sub-h : goal.overflow_sub-h
overflow_sub-h c = omega (arith, closer c.loop-low.invariant (product (goal.at.overflow_sub-h c).At-loop-low) c.if-low-p.false c.if-high-p.false)

pub loop-low-smaller : goal.loop-low-smaller
loop-low-smaller c = omega (arith, closer c.loop-low.invariant (product (goal.at.loop-low-smaller c).At-loop-low) c.if-low-p.false c.if-high-p.false)

pub loop-low-preserved : goal.loop-low-preserved
loop-low-preserved c = (closer c.loop-low.invariant (product (goal.at.loop-low-preserved c).At-loop-low) c.if-low-p.false c.if-high-p.false).2
