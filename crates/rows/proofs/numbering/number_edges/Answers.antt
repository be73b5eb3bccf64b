-- `rows::numbering::number_edges` meets its contract: the count is over where both n and m are above 33, and else the smallest table that
-- has room is prepared. Assumes nothing.
use Rattle.std.proofs.Common.{◌≤◌, refl, lit≤, arith}
use Rattle.tables.proofs.Counted.{numbers-over}
use Rattle.rows.specs.Plains.{plain_plan, PlainReady}
use Rattle.rows.proofs.Plains.{plain_over, plain_ready, plain-last, plain-numbers}
use Rattle.rows.proofs.numbering.number_edges.Goals as goal
use Rattle.rows.proofs.numbering.number_edges.Goals.{After-cells-cells, Else-height-gt-HIGHEST}

-- the end isn't above 33
low : (c : Else-height-gt-HIGHEST) → (plain_plan c.args.c).ey ≤ 33
low c = omega (arith, c.if-height-gt-HIGHEST.false, c.height.ensures)

-- a table of that size has room
ready : (c : After-cells-cells) (size : _) → c.cells-cells.result ≤ size → PlainReady c.args.c size
ready c size h = plain_ready c.args.c refl c.requires.0 (low (goal.at.After-cells-cells c).Else-height-gt-HIGHEST) c.cells-cells.ensures size h

pub returns-then-height-gt-HIGHEST : goal.returns-then-height-gt-HIGHEST
returns-then-height-gt-HIGHEST c =
    numbers-over _ _ _ (plain_over c.args.c c.height.ensures c.if-height-gt-HIGHEST.true)

pub number_with-requires : goal.number_with-requires
number_with-requires c = (ready (goal.at.number_with-requires c).After-cells-cells 128 c.if-cells-le128.true, lit≤ tt, c.requires.1)

pub returns-then-cells-le128 : goal.returns-then-cells-le128
returns-then-cells-le128 c =
    plain-numbers c.args.c refl c.requires.0 (low (goal.at.returns-then-cells-le128 c).Else-height-gt-HIGHEST) _ _ _ c.number_with.result c.number_with.ensures

pub number_with-requires-then-cells-le384 : goal.number_with-requires-then-cells-le384
number_with-requires-then-cells-le384 c = (ready (goal.at.number_with-requires-then-cells-le384 c).After-cells-cells 384 c.if-cells-le384.true, lit≤ tt, c.requires.1)

pub returns-then-cells-le384 : goal.returns-then-cells-le384
returns-then-cells-le384 c =
    plain-numbers c.args.c refl c.requires.0 (low (goal.at.returns-then-cells-le384 c).Else-height-gt-HIGHEST) _ _ _ c.number_with-then-cells-le384.result c.number_with-then-cells-le384.ensures

pub number_with-requires-then-cells-le1280 : goal.number_with-requires-then-cells-le1280
number_with-requires-then-cells-le1280 c = (ready (goal.at.number_with-requires-then-cells-le1280 c).After-cells-cells 1280 c.if-cells-le1280.true, lit≤ tt, c.requires.1)

pub returns-then-cells-le1280 : goal.returns-then-cells-le1280
returns-then-cells-le1280 c =
    plain-numbers c.args.c refl c.requires.0 (low (goal.at.returns-then-cells-le1280 c).Else-height-gt-HIGHEST) _ _ _ c.number_with-then-cells-le1280.result c.number_with-then-cells-le1280.ensures

pub number_with-requires-2 : goal.number_with-requires-2
number_with-requires-2 c = (plain-last c.args.c refl c.requires.0 (low (goal.at.number_with-requires-2 c).Else-height-gt-HIGHEST), lit≤ tt, c.requires.1)

pub returns : goal.returns
returns c =
    plain-numbers c.args.c refl c.requires.0 (low (goal.at.returns c).Else-height-gt-HIGHEST) _ _ _ c.number_with-2.result c.number_with-2.ensures
