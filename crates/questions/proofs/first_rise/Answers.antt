-- `questions::first_rise` meets its contract. The loop's invariant: no step so far rises after a fall, and `fallen` says whether one of
-- them falls. Assumes nothing.
use mathlib.Core.Path.{ap}
use Prim.Native.Nat.{ℕ}
use lib.ListN.{get_or}
use Rattle.questions.proofs.Dipping.{looking_start, looking_more, not_fallen, not_rising, dips-at, dips-never}
use Rattle.questions.proofs.first_rise.Goals as goal
use Rattle.questions.proofs.first_rise.Goals.{else-fallen-via-then-fallen+else-up-gt-LEVEL, else-fallen-via-else-fallen}

pub loop-i-init : goal.loop-i-init
loop-i-init c = looking_start c.requires

pub returns-then-up-gt-LEVEL : goal.returns-then-up-gt-LEVEL
returns-then-up-gt-LEVEL c =
    dips-at c.loop-i.invariant c.loop-i-test.true (ap (λ (k : ℕ). get_or c.args.job.b k 0) c.from.ensures) c.if-up-gt-LEVEL.true c.if-fallen.true

pub loop-i-preserved : goal.loop-i-preserved
loop-i-preserved c =
    looking_more c.loop-i.invariant c.loop-i-test.true (ap (λ (k : ℕ). get_or c.args.job.b k 0) c.from.ensures)
    (elim c.else-fallen.branch [
      | else-fallen-via-then-fallen+else-up-gt-LEVEL w ↦ not_rising _ w.if-up-gt-LEVEL.false
      | else-fallen-via-else-fallen w ↦ not_fallen _ w.if-fallen.false
    ])

pub returns : goal.returns
returns c = dips-never c.loop-i.invariant c.loop-i-test.false
