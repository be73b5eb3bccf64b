-- `grid::shape::own_shape` meets its contract: the steps are laid one by one. Assumes nothing.
use mathlib.Core.Path.{refl}
use native.Mathlib.Omega.{arith}
use Rattle.tables.proofs.Lowering.{until_more, until_idle, until_all}
use Rattle.tables.proofs.Shaping.{laid_more}
use Rattle.grid.proofs.shape.own_shape.Goals as goal
use Rattle.grid.proofs.shape.own_shape.Goals.{then-i-k, else-i-k}

pub loop-i-preserved : goal.loop-i-preserved
loop-i-preserved c =
    let u = c.loop-i.invariant in
    elim c.if-i-k.branch [
      | then-i-k w ↦ rw (w.sa-is, w.sc-is) (until_more w.if-i-k.true (laid_more _ _ _ _ c.loop-i.i _ _ (u.so_far (omega arith)) (omega arith) w.from-x.ensures (omega (arith, w.from-x.ensures, w.from-then-i-k.ensures))))
      | else-i-k w ↦ rw (w.sa-is, w.sc-is) (until_idle w.if-i-k.false u)
    ]

pub returns-in_err-ey : goal.returns-in_err-ey
returns-in_err-ey c = rw c.from_residual.ensures (omega (arith, c.in_err-ey.ensures, c.from-n.ensures, c.from.ensures))

pub returns : goal.returns
returns c = record { above = omega (arith, c.in_ok-ey.ensures, c.from-n.ensures, c.from.ensures); k_is = c.from-k.ensures; wall_is = refl; top_is = refl; ex_is = c.from-n.ensures; ey_is = omega (arith, c.in_ok-ey.ensures, c.from-n.ensures, c.from.ensures); steps = let k = c.from-k.ensures in rw k at (until_all c.loop-i.invariant (omega (arith, k, c.requires.few)) c.loop-i-test.false) }
