-- `grid::heights::heights` meets its contract: the heights are laid one by one. Assumes nothing.
use native.Mathlib.Omega.{arith}
use Rattle.tables.proofs.Lowering.{until_more, until_idle, until_all, heights_more}
use Rattle.grid.proofs.heights.heights.Goals as goal
use Rattle.grid.proofs.heights.heights.Goals.{then-i-s, else-i-s}

pub loop-i-preserved : goal.loop-i-preserved
loop-i-preserved c =
    let u = c.loop-i.invariant in
    elim c.if-i-s.branch [
      | then-i-s w ↦ rw w.up-is (until_more w.if-i-s.true (heights_more _ _ _ _ _ _ _ (u.so_far (omega arith)) (omega arith) w.height.ensures))
      | else-i-s w ↦ rw w.up-is (until_idle w.if-i-s.false u)
    ]

pub returns : goal.returns
returns c = until_all c.loop-i.invariant c.requires.0.few c.loop-i-test.false
