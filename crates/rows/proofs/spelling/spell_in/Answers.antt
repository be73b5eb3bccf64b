-- `rows::spelling::spell_in` meets its contract: by the table's answer and the numbers. Assumes nothing.
use Rattle.std.proofs.Common.{◌≡◌, ◌^◌, ◌<◌, true, ◌∙◌, rules}
use Rattle.std.proofs.lemmas.Result.{err_from_is_err_and}
use Rattle.rules.specs.Questions.{all_below}
use Rattle.plains.proofs.Overs.{told-over, told-count}
use Rattle.rows.specs.Plains.{plain_plan, plain_walks}
use Rattle.tables.proofs.Phases.{filled_over, filled_count, filled_readable}
use Rattle.tables.proofs.Builds.{below-told, for_over, for_beyond, for_all}
use Rattle.rows.proofs.spelling.spell_in.Goals as goal
use Rattle.rows.proofs.spelling.spell_in.Goals.{After-all_below, In_ok-count}

-- the table's answer is the count, which fits
counted : (c : In_ok-count) →
    let plain = c.args.c in
    (c.in_ok-count.count ≡ plain_walks plain) × (plain_walks plain < 2 ^ 64)
counted c = filled_count c.fill_rows.ensures (told-count c.fill_rows.result c.in_ok-count.ensures.value)

-- so the numbers are held to it
below : (c : After-all_below) →
    let args = c.args in
    all_below (plain_walks args.c) args.numbers.now ≡ c.all_below.result
below c = below-told _ _ _ _ (counted (goal.at.After-all_below c).In_ok-count).0 c.all_below.ensures

pub returns-in_err-count : goal.returns-in_err-count
returns-in_err-count c =
    let p = err_from_is_err_and c.from_residual.result c.from_residual.ensures.1 in
    let over = told-over c.fill_rows.result c.in_err-count.ensures.value in
    rw (p.1, p.2, over.1) (for_over true (plain_plan c.args.c) _ _ _ _ _ (filled_over c.fill_rows.ensures over.0))

pub returns-then-not-all_below : goal.returns-then-not-all_below
returns-then-not-all_below c = for_beyond true (plain_plan c.args.c) _ _ _ _ _ (counted (goal.at.returns-then-not-all_below c).In_ok-count).1 (below (goal.at.returns-then-not-all_below c).After-all_below ∙ c.if-not-all_below.true)

pub spell_all-requires : goal.spell_all-requires
spell_all-requires c =
    let pre = c.requires in (
      filled_readable c.fill_rows.ensures (told-count c.fill_rows.result c.in_ok-count.ensures.value) pre.0 (search rules),
      below (goal.at.spell_all-requires c).After-all_below ∙ c.if-not-all_below.false,
      pre.1,
    )

pub returns : goal.returns
returns c =
    for_all true (plain_plan c.args.c) _ _ _ _ _ _ _ _ (counted (goal.at.returns c).In_ok-count).1 (below (goal.at.returns c).After-all_below ∙ c.if-not-all_below.false) c.spell_all.ensures
