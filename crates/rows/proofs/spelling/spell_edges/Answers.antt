-- `rows::spelling::spell_edges` meets its contract: the count is over where both n and m are above 33, and else the smallest table that
-- has room is prepared. Assumes nothing.
use Rattle.std.proofs.Common.{◌≤◌, refl, lit≤, arith}
use Rattle.tables.proofs.Builds.{build-over}
use Rattle.rows.specs.Plains.{plain_plan, PlainReady}
use Rattle.rows.proofs.Plains.{plain_over, plain_ready, plain-last, plain-builds}
use Rattle.rows.proofs.spelling.spell_edges.Goals as goal
use Rattle.rows.proofs.spelling.spell_edges.Goals.{After-cells-cells, Else-height-gt-HIGHEST}

-- the end isn't above 33
low : (c : Else-height-gt-HIGHEST) → (plain_plan c.args.c).ey ≤ 33
low c = omega (arith, c.if-height-gt-HIGHEST.false, c.height.ensures)

-- a table of that size has room
ready : (c : After-cells-cells) (size : _) → c.cells-cells.result ≤ size → PlainReady c.args.c size
ready c size h = plain_ready c.args.c refl c.requires.0 (low (goal.at.After-cells-cells c).Else-height-gt-HIGHEST) c.cells-cells.ensures size h

pub returns-then-height-gt-HIGHEST : goal.returns-then-height-gt-HIGHEST
returns-then-height-gt-HIGHEST c =
    build-over _ _ _ _ (plain_over c.args.c c.height.ensures c.if-height-gt-HIGHEST.true)

pub spell_with-requires : goal.spell_with-requires
spell_with-requires c = (ready (goal.at.spell_with-requires c).After-cells-cells 128 c.if-cells-le128.true, lit≤ tt, c.requires.1)

pub returns-then-cells-le128 : goal.returns-then-cells-le128
returns-then-cells-le128 c =
    plain-builds c.args.c refl c.requires.0 (low (goal.at.returns-then-cells-le128 c).Else-height-gt-HIGHEST) _ _ _ c.spell_with.result _ _ c.spell_with.ensures

pub spell_with-requires-then-cells-le384 : goal.spell_with-requires-then-cells-le384
spell_with-requires-then-cells-le384 c = (ready (goal.at.spell_with-requires-then-cells-le384 c).After-cells-cells 384 c.if-cells-le384.true, lit≤ tt, c.requires.1)

pub returns-then-cells-le384 : goal.returns-then-cells-le384
returns-then-cells-le384 c =
    plain-builds c.args.c refl c.requires.0 (low (goal.at.returns-then-cells-le384 c).Else-height-gt-HIGHEST) _ _ _ c.spell_with-then-cells-le384.result _ _ c.spell_with-then-cells-le384.ensures

pub spell_with-requires-then-cells-le1280 : goal.spell_with-requires-then-cells-le1280
spell_with-requires-then-cells-le1280 c = (ready (goal.at.spell_with-requires-then-cells-le1280 c).After-cells-cells 1280 c.if-cells-le1280.true, lit≤ tt, c.requires.1)

pub returns-then-cells-le1280 : goal.returns-then-cells-le1280
returns-then-cells-le1280 c =
    plain-builds c.args.c refl c.requires.0 (low (goal.at.returns-then-cells-le1280 c).Else-height-gt-HIGHEST) _ _ _ c.spell_with-then-cells-le1280.result _ _ c.spell_with-then-cells-le1280.ensures

pub spell_with-requires-2 : goal.spell_with-requires-2
spell_with-requires-2 c = (plain-last c.args.c refl c.requires.0 (low (goal.at.spell_with-requires-2 c).Else-height-gt-HIGHEST), lit≤ tt, c.requires.1)

pub returns : goal.returns
returns c =
    plain-builds c.args.c refl c.requires.0 (low (goal.at.returns c).Else-height-gt-HIGHEST) _ _ _ c.spell_with-2.result _ _ c.spell_with-2.ensures
