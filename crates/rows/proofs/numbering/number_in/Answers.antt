-- `rows::numbering::number_in` meets its contract: by the table's answer, and then edge by edge. Assumes nothing.
use Rattle.std.proofs.Common.{true, rules}
use Rattle.std.proofs.lemmas.Result.{err_from_is_err_and}
use Rattle.plains.proofs.Overs.{told-over, told-count}
use Rattle.rows.specs.Plains.{plain_plan}
use Rattle.tables.proofs.Phases.{filled_over, filled_count, filled_readable}
use Rattle.tables.proofs.Counted.{ranks-over, ranks_fit}
use Rattle.rows.proofs.numbering.number_in.Goals as goal

pub returns-in_err-ok_or : goal.returns-in_err-ok_or
returns-in_err-ok_or c =
    let p = err_from_is_err_and c.from_residual.result c.from_residual.ensures.1 in
    let over = told-over c.fill_rows.result c.in_err-ok_or.ensures.value in
    rw (p.1, p.2, over.1) (ranks-over true (plain_plan c.args.c) _ _ _ _ (filled_over c.fill_rows.ensures over.0))

pub number_each-requires : goal.number_each-requires
number_each-requires c =
    let pre = c.requires in
    (filled_readable c.fill_rows.ensures (told-count c.fill_rows.result c.in_ok-ok_or.ensures.value) pre.0 (search rules), pre.1)

pub returns : goal.returns
returns c =
    let count = filled_count c.fill_rows.ensures (told-count c.fill_rows.result c.in_ok-ok_or.ensures.value) in
    ranks_fit true (plain_plan c.args.c) _ _ _ _ _ _ count.1 c.number_each.ensures
