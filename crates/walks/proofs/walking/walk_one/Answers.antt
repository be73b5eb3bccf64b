-- `walks::walking::walk_one` meets its contract. The loop's invariant: the first i steps keep the rules, and what is left goes on from the
-- point at x and h. Assumes nothing.
use native.Mathlib.Omega.{arith}
use Rattle.walks.proofs.Stepping.{stepping_start, not_step, beyond, out, stepping_more, not_there, not_level, arrived}
use Rattle.walks.proofs.walking.walk_one.Goals as goal

pub loop-i-init : goal.loop-i-init
loop-i-init c = stepping_start c.requires

pub returns-in_default : goal.returns-in_default
returns-in_default c = not_step c.loop-i.invariant c.loop-i-test.true c.in_default.ensures

pub returns-then-p-x : goal.returns-then-p-x
returns-then-p-x c =
    let letter = c.in-Some.ensures in
    beyond c.loop-i.invariant c.loop-i-test.true letter.1 letter.0 (omega (arith, c.from-right.ensures)) c.if-p-x.true

pub returns-then-not-is_within : goal.returns-then-not-is_within
returns-then-not-is_within c =
    let letter = c.in-Some.ensures in
    out c.loop-i.invariant c.loop-i-test.true letter.1 letter.0
    (omega (arith, c.from-right.ensures)) (omega (arith, c.from-right.ensures, c.from.ensures)) c.if-p-x.false
    c.is_within.ensures c.if-not-is_within.true

pub loop-i-preserved : goal.loop-i-preserved
loop-i-preserved c =
    let letter = c.in-Some.ensures in
    stepping_more c.loop-i.invariant c.loop-i-test.true letter.1 letter.0
    (omega (arith, c.from-right.ensures)) (omega (arith, c.from-right.ensures, c.from.ensures)) c.if-p-x.false
    c.is_within.ensures c.if-not-is_within.false

pub returns-then-x-p : goal.returns-then-x-p
returns-then-x-p c = not_there c.loop-i.invariant c.loop-i-test.false c.if-x-p.true

pub returns-then-h-p : goal.returns-then-h-p
returns-then-h-p c = not_level c.loop-i.invariant c.loop-i-test.false c.if-h-p.true

pub returns : goal.returns
returns c = arrived c.loop-i.invariant c.loop-i-test.false c.if-x-p.false c.if-h-p.false
