-- `grid::spelling::spell_all` meets its contract: each edge is spelt where the one before it ends. Assumes nothing.
use native.Mathlib.Omega.{arith}
use Rattle.howmany.proofs.Choices.{holds}
use Rattle.rules.proofs.Belows.{below_at}
use Rattle.lines.proofs.Lining.{lining_none, lining_room, lining_part, lining_all}
use Rattle.tables.proofs.Builds.{front-next}
use borrow.Author.Rules.{rules}
use Rattle.grid.proofs.spelling.spell_all.Goals as goal

pub loop-i-init : goal.loop-i-init
loop-i-init c = lining_none _ _ _ _ c.requires.2

pub slice_bounds-spell_front-count : goal.slice_bounds-spell_front-count
slice_bounds-spell_front-count c = omega (arith, lining_room _ _ _ _ _ _ _ _ c.loop-i.invariant c.loop-i-test.true)

pub slice_bounds-spell_front-start : goal.slice_bounds-spell_front-start
slice_bounds-spell_front-start c = let h = lining_room _ _ _ _ _ _ _ _ c.loop-i.invariant c.loop-i-test.true in search rules

pub slice_bounds-spell_front-end : goal.slice_bounds-spell_front-end
slice_bounds-spell_front-end c = let h = lining_room _ _ _ _ _ _ _ _ c.loop-i.invariant c.loop-i-test.true in search rules

pub spell_front-n-requires : goal.spell_front-n-requires
spell_front-n-requires c = (c.requires.0, below_at _ _ (holds c.requires.1) _ c.loop-i-test.true, lining_part _ _ _ _ _ _ _ _ c.loop-i.invariant c.loop-i-test.true)

pub overflow_add-at : goal.overflow_add-at
overflow_add-at c =
    let so = c.loop-i.invariant in
    let h = lining_room _ _ _ _ _ _ _ _ so c.loop-i-test.true in
    let w = c.spell_front-n.ensures.short in
    search rules

pub loop-i-preserved : goal.loop-i-preserved
loop-i-preserved c = front-next _ _ _ _ _ _ _ _ c.loop-i.invariant _ _ c.loop-i-test.true c.spell_front-n.ensures

pub returns : goal.returns
returns c = let so = c.loop-i.invariant in lining_all _ _ _ _ _ _ _ _ so (omega (arith, so.passed))
