-- `rows::count_own` meets its contract: by the end of the block's job. Assumes nothing.
use Rattle.std.proofs.lemmas.Result.{err_from_is_err_and}
use Rattle.lines.proofs.Knowing.{count_refusing, count-ending}
use Rattle.rows.proofs.Plains.{plain-counts}
use Rattle.rows.proofs.count_own.Goals as goal

pub returns-in_err-c : goal.returns-in_err-c
returns-in_err-c c =
    let p = err_from_is_err_and c.from_residual.result c.from_residual.ensures.1 in rw (p.1, p.2) (count_refusing _ c.in_err-c.ensures)

pub returns : goal.returns
returns c = let end = c.in_ok-c.ensures in count-ending _ c.count.result end.1 (plain-counts c.in_ok-c.c c.count.result c.count.ensures)
