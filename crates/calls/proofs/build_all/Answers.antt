-- `calls::build_all` meets its contract: the crate that has the family answers, or none has it. Assumes nothing.
use mathlib.Core.Path.{◌≡◌, sym, ◌∙◌}
use Rattle.calls.proofs.Routes.{taken-lines, passed_lines, lines-over, lines-short-over, none-lines-over}
use Rattle.calls.proofs.build_all.Goals as goal
use Rattle.calls.proofs.build_all.Goals.{In_default, In_default-build_all, In_default-build_all-2}

-- a crate that hasn't the family leaves what was lent
same_rows : (c : In_default) →
    let args = c.args in
    let last = c.build_all.new in
    (last.steps ≡ args.steps.now) × (last.ends ≡ args.ends.now)
same_rows c =
    let passed = passed_lines c.build_all.ensures c.in_default.is in
    (passed.1, passed.2)

same-arch : (c : In_default-build_all) →
    let args = c.args in
    let last = c.build_all-2.new in
    (last.steps ≡ args.steps.now) × (last.ends ≡ args.ends.now)
same-arch c =
    let passed = passed_lines c.build_all-2.ensures c.in_default-build_all.is in
    (passed.1 ∙ (same_rows (goal.at.In_default-build_all c).In_default).0, passed.2 ∙ (same_rows (goal.at.In_default-build_all c).In_default).1)

same-grid : (c : In_default-build_all-2) →
    let args = c.args in
    let last = c.build_all-3.new in
    (last.steps ≡ args.steps.now) × (last.ends ≡ args.ends.now)
same-grid c =
    let passed = passed_lines c.build_all-3.ensures c.in_default-build_all-2.is in
    (passed.1 ∙ (same-arch (goal.at.In_default-build_all-2 c).In_default-build_all).0, passed.2 ∙ (same-arch (goal.at.In_default-build_all-2 c).In_default-build_all).1)

pub returns-in-Some : goal.returns-in-Some
returns-in-Some c = taken-lines c.build_all.ensures _ c.in-Some.is

pub returns-in-Some-build_all : goal.returns-in-Some-build_all
returns-in-Some-build_all c =
    lines-over _ _ _ (same_rows (goal.at.returns-in-Some-build_all c).In_default).0 (same_rows (goal.at.returns-in-Some-build_all c).In_default).1
    (taken-lines c.build_all-2.ensures _ c.in-Some-build_all.is)

pub returns-in-Some-build_all-2 : goal.returns-in-Some-build_all-2
returns-in-Some-build_all-2 c =
    lines-over _ _ _ (same-arch (goal.at.returns-in-Some-build_all-2 c).In_default-build_all).0 (same-arch (goal.at.returns-in-Some-build_all-2 c).In_default-build_all).1
    (taken-lines c.build_all-3.ensures _ c.in-Some-build_all-2.is)

pub returns-then-not-has_room : goal.returns-then-not-has_room
returns-then-not-has_room c =
    let same = same-grid (goal.at.returns-then-not-has_room c).In_default-build_all-2 in
    lines-short-over _ _ same.0 same.1 (sym c.has_room.ensures ∙ c.if-not-has_room.true)

pub returns : goal.returns
returns c =
    none-lines-over c.args.block.now (passed_lines c.build_all.ensures c.in_default.is).0
    (passed_lines c.build_all-2.ensures c.in_default-build_all.is).0
    (passed_lines c.build_all-3.ensures c.in_default-build_all-2.is).0 _ (same-grid (goal.at.returns c).In_default-build_all-2).0
    (same-grid (goal.at.returns c).In_default-build_all-2).1 (sym c.has_room.ensures ∙ c.if-not-has_room.false)
