-- `calls::number_all` meets its contract: the crate that has the family answers, or none has it. Assumes nothing.
use mathlib.Core.Path.{◌≡◌, ap, ◌∙◌}
use native.Mathlib.Omega.{arith}
use lib.ListN.{length}
use Rattle.lines.proofs.Ranking.{ranks-short}
use Rattle.calls.proofs.Routes.{taken-ranks, passed-ranks, ranks-over, none-ranks}
use Rattle.calls.proofs.number_all.Goals as goal
use Rattle.calls.proofs.number_all.Goals.{In_default, In_default-number_all, In_default-number_all-2}

-- a crate that hasn't the family leaves the numbers as they were
same_rows : (c : In_default) → c.number_all.new.numbers ≡ c.args.numbers.now
same_rows c = (passed-ranks c.number_all.ensures c.in_default.is).1

same-arch : (c : In_default-number_all) → c.number_all-2.new.numbers ≡ c.args.numbers.now
same-arch c = (passed-ranks c.number_all-2.ensures c.in_default-number_all.is).1 ∙ same_rows (goal.at.In_default-number_all c).In_default

same-grid : (c : In_default-number_all-2) → c.number_all-3.new.numbers ≡ c.args.numbers.now
same-grid c = (passed-ranks c.number_all-3.ensures c.in_default-number_all-2.is).1 ∙ same-arch (goal.at.In_default-number_all-2 c).In_default-number_all

pub returns-in-Some : goal.returns-in-Some
returns-in-Some c = taken-ranks c.number_all.ensures _ c.in-Some.is

pub returns-in-Some-number_all : goal.returns-in-Some-number_all
returns-in-Some-number_all c = ranks-over _ _ _ (same_rows (goal.at.returns-in-Some-number_all c).In_default) (taken-ranks c.number_all-2.ensures _ c.in-Some-number_all.is)

pub returns-in-Some-number_all-2 : goal.returns-in-Some-number_all-2
returns-in-Some-number_all-2 c = ranks-over _ _ _ (same-arch (goal.at.returns-in-Some-number_all-2 c).In_default-number_all) (taken-ranks c.number_all-3.ensures _ c.in-Some-number_all-2.is)

pub returns-then-numbers-ends : goal.returns-then-numbers-ends
returns-then-numbers-ends c =
    let same = same-grid (goal.at.returns-then-numbers-ends c).In_default-number_all-2 in
    rw same (ranks-short _ _ c.args.numbers.now (omega (arith, c.if-numbers-ends.true, ap length same)))

pub returns : goal.returns
returns c =
    rw (same-grid (goal.at.returns c).In_default-number_all-2)
    (none-ranks c.args.block.now (passed-ranks c.number_all.ensures c.in_default.is).0
    (passed-ranks c.number_all-2.ensures c.in_default-number_all.is).0
    (passed-ranks c.number_all-3.ensures c.in_default-number_all-2.is).0 _ _ c.args.numbers.now
    (omega (arith, c.if-numbers-ends.false, ap length (same-grid (goal.at.returns c).In_default-number_all-2))))
