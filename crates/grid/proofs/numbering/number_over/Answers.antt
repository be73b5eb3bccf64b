-- `grid::numbering::number_over` meets its contract: by the table's answer and the edges read. Assumes nothing.
use mathlib.Core.Bool.{false}
use Rattle.tables.proofs.Phases.{filled_over, filled_count, filled_readable}
use Rattle.tables.proofs.Counted.{ranks-over, ranks_fit}
use borrow.Author.Rules.{rules}
use Rattle.std.proofs.lemmas.Result.{err_from_is_err_and}
use Rattle.grid.proofs.Paired.{over_told, count_told}
use Rattle.grid.proofs.numbering.number_over.Goals as goal

pub returns-in_err-ok_or : goal.returns-in_err-ok_or
returns-in_err-ok_or c =
    let p = err_from_is_err_and c.from_residual.result c.from_residual.ensures.1 in
    let o = over_told c.ok_or.ensures.value c.in_err-ok_or.was in
    rw (p.1, p.2, o.1) (ranks-over false c.args.p _ _ _ _ (filled_over c.fill.ensures o.0))

pub number_each-requires : goal.number_each-requires
number_each-requires c = (filled_readable c.fill.ensures (count_told c.ok_or.ensures.value c.in_ok-ok_or.was) c.requires.0 (search rules), c.requires.2)

pub returns : goal.returns
returns c = ranks_fit false c.args.p _ _ _ _ _ _ (filled_count c.fill.ensures (count_told c.ok_or.ensures.value c.in_ok-ok_or.was)).1 c.number_each.ensures
