-- `grid::spelling::spell_over` meets its contract: by the table's answer and the numbers. Assumes nothing.
use mathlib.Core.Path.{sym, ◌∙◌}
use mathlib.Core.Bool.{false}
use Rattle.tables.proofs.Phases.{filled_over, filled_count, filled_readable}
use Rattle.tables.proofs.Numbers.{end_is}
use Rattle.tables.proofs.Builds.{below-told, for_over, for_beyond, for_all}
use borrow.Author.Rules.{rules}
use Rattle.std.proofs.lemmas.Result.{err_from_is_err_and}
use Rattle.grid.proofs.Paired.{over_told, count_told}
use Rattle.grid.proofs.spelling.spell_over.Goals as goal

pub returns-in_err-count : goal.returns-in_err-count
returns-in_err-count c =
    let p = err_from_is_err_and c.from_residual.result c.from_residual.ensures.1 in
    let o = over_told c.ok_or.ensures.value c.in_err-count.was in
    rw (p.1, p.2, o.1) (for_over false c.args.p _ _ _ _ _ (filled_over c.fill.ensures o.0))

pub returns-then-not-all_below : goal.returns-then-not-all_below
returns-then-not-all_below c =
    for_beyond false c.args.p _ _ _ _ _ (filled_count c.fill.ensures (count_told c.ok_or.ensures.value c.in_ok-count.was)).1 (below-told c.args.numbers.now _ _ _ (filled_count c.fill.ensures (count_told c.ok_or.ensures.value c.in_ok-count.was)).0 c.all_below.ensures ∙ c.if-not-all_below.true)

pub spell_all-requires : goal.spell_all-requires
spell_all-requires c =
    let fu = filled_readable c.fill.ensures (count_told c.ok_or.ensures.value c.in_ok-count.was) c.requires.0 (search rules) in
    (fu, below-told c.args.numbers.now _ _ _ ((filled_count c.fill.ensures (count_told c.ok_or.ensures.value c.in_ok-count.was)).0 ∙ sym (end_is fu)) c.all_below.ensures ∙ c.if-not-all_below.false, c.requires.2)

pub returns : goal.returns
returns c =
    for_all false c.args.p _ _ _ _ _ _ _ _ (filled_count c.fill.ensures (count_told c.ok_or.ensures.value c.in_ok-count.was)).1 (below-told c.args.numbers.now _ _ _ (filled_count c.fill.ensures (count_told c.ok_or.ensures.value c.in_ok-count.was)).0 c.all_below.ensures ∙ c.if-not-all_below.false) c.spell_all.ensures
