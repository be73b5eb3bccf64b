-- `grid::spelling::spell_edges` meets its contract: by whether there is a shape, and then by its plan. Assumes nothing.
use Rattle.tables.proofs.Builds.{build-none, build-empty}
use Rattle.grid.proofs.Paired.{builds_as}
use Rattle.grid.proofs.spelling.spell_edges.Goals as goal

pub returns-then-numbers-ne0 : goal.returns-then-numbers-ne0
returns-then-numbers-ne0 c = rw c.in_default.is (λ J w. build-none J _ _ _ w.none c.if-numbers-ne0.true)

pub returns-in_default : goal.returns-in_default
returns-in_default c = rw c.in_default.is (λ J w. build-empty J _ _ _ w.none c.if-numbers-ne0.false)

pub returns : goal.returns
returns c = rw c.in-Some.is (builds_as c.plan_of-p.ensures c.grid_of-g.ensures c.args.numbers.now _ _ _ _ _ c.spell_planned.ensures)
