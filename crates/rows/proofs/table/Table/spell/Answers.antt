-- `rows::table::Table::spell` meets its contract: at each step what is written so far and what is left make up the edge. The loop knows
-- no plain, only numbers, so what it keeps holds of every plain that gives these. Assumes nothing.
use Rattle.std.proofs.Common.{refl, length-set}
use Rattle.rows.specs.declared.plain.Plain.{Plain}
use Rattle.tables.proofs.Building.{writing-end}
use Rattle.rows.proofs.PlainRows.{Given, spelt-start, Spelling, spelling_near, north-added, east-added, across-added}
use Rattle.rows.proofs.table.Table.spell.Goals as goal
use Rattle.rows.proofs.table.Table.spell.Goals.{After-end-at, In-loop-x}

-- a plain that gives the numbers that the loop begins with
abbrev Gives : After-end-at → Plain → Type 0
Gives c C =
    Given C c.args.self.val.now c.args.r c.args.buf.now c.north-north.result c.east-east.result c.width-x.result c.end-at.result

-- that of the function does
given : (c : After-end-at) → Gives c c.args.self.plain
given c =
    let pre = c.requires in
    record { full = pre.0; less = pre.1; long = pre.2; north = c.north-north.ensures; east = c.east-east.ensures; from = c.width-x.ensures; at = c.end-at.ensures }

-- what is known in a turn of the loop
turn : (c : In-loop-x) (C : Plain) → Gives (goal.at.In-loop-x c).After-end-at C →
    let at = c.loop-x in
    let args = c.args in
    Spelling C args.self.val.now args.r at.buf at.x at.at at.left at.s c.north-north.result c.east-east.result
turn c C g = record { spelt = c.loop-x.invariant.1 C g; more = c.loop-x-test.true; north = g.north; east = g.east }

own : (c : In-loop-x) →
    let at = c.loop-x in
    let args = c.args in
    Spelling args.self.plain args.self.val.now args.r at.buf at.x at.at at.left at.s c.north-north.result c.east-east.result
own c = turn c _ (given (goal.at.In-loop-x c).After-end-at)

pub loop-x-init : goal.loop-x-init
loop-x-init c = (refl, λ C g. spelt-start C g)

pub bounds-val-at : goal.bounds-val-at
bounds-val-at c = (spelling_near (own (goal.at.bounds-val-at c).In-loop-x)).north_in

pub loop-x-preserved-then-left-a : goal.loop-x-preserved-then-left-a
loop-x-preserved-then-left-a c = (simp length-set c.loop-x.invariant.0, λ C g. (north-added (turn (goal.at.loop-x-preserved-then-left-a c).In-loop-x C g) c.if-left-a.true).next)

pub bounds-val-at-in-loop-x : goal.bounds-val-at-in-loop-x
bounds-val-at-in-loop-x c = (spelling_near (own (goal.at.bounds-val-at-in-loop-x c).In-loop-x)).east_in

pub loop-x-preserved-then-left-b : goal.loop-x-preserved-then-left-b
loop-x-preserved-then-left-b c = (simp length-set c.loop-x.invariant.0, λ C g. (east-added (turn (goal.at.loop-x-preserved-then-left-b c).In-loop-x C g) c.if-left-a.false c.if-left-b.true).next)

pub overflow_sub-x-in-loop-x : goal.overflow_sub-x-in-loop-x
overflow_sub-x-in-loop-x c = (across-added (own (goal.at.overflow_sub-x-in-loop-x c).In-loop-x) c.if-left-a.false c.if-left-b.false).right

pub overflow_sub-at-in-loop-x : goal.overflow_sub-at-in-loop-x
overflow_sub-at-in-loop-x c = (across-added (own (goal.at.overflow_sub-at-in-loop-x c).In-loop-x) c.if-left-a.false c.if-left-b.false).far

pub loop-x-preserved : goal.loop-x-preserved
loop-x-preserved c = (simp length-set c.loop-x.invariant.0, λ C g. (across-added (turn (goal.at.loop-x-preserved c).In-loop-x C g) c.if-left-a.false c.if-left-b.false).next)

pub returns : goal.returns
returns c = writing-end (c.loop-x.invariant.1 _ (given (goal.at.returns c).After-end-at)) c.loop-x-test.false
