-- `grid::edges::seek` meets its contract: what is left is below what the steps not yet passed bring. Assumes nothing.
use native.Mathlib.Omega.{arith}
use Rattle.tables.proofs.Numbers.{read_is}
use Rattle.tables.proofs.Building.{seek_here, seek_more, seek_in, seek_start}
use Rattle.grid.proofs.edges.seek.Goals as goal

pub loop-i-init : goal.loop-i-init
loop-i-init c = seek_start _ _ _ c.requires.r_bound

pub returns-then-left-v : goal.returns-then-left-v
returns-then-left-v c =
    let w = c.loop-i.invariant in
    let e = c.back-s.ensures in
    (seek_here _ _ _ _ _ w.1 w.0 _ (read_is c.requires.summed _ e) c.if-left-v.true, e)

pub loop-i-preserved : goal.loop-i-preserved
loop-i-preserved c =
    let w = c.loop-i.invariant in
    let p = c.requires in
    let m = seek_more _ _ _ _ _ w.1 w.0 _ (read_is p.summed _ c.back-s.ensures) c.if-left-v.false in
    (seek_in _ _ _ _ _ m (omega arith) p.r_bound, m)

pub returns : goal.returns
returns c = absurd (omega (arith, c.requires.summed.most))
