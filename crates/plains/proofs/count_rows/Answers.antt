-- The loop over the rows: each is made from the one before it. Assumes nothing.
use Rattle.std.proofs.Common.{ℕ, sym, arith}
use lib.ListN.{length-replicate}
use Rattle.std.proofs.lemmas.Result.{err_from_is_err_and}
use Rattle.plains.proofs.Rows.{first-row, first_fits, row_last, over-says, count-says, over-later}
use Rattle.plains.proofs.Overs.{told-over}
use Rattle.plains.proofs.count_rows.Goals as goal

pub loop-init : goal.loop-init
loop-init c =
    (length-replicate {A = ℕ} 34 1, first-row _ _ c.requires, first_fits c.args.diagonal c.args.n)

pub returns-in_err-ok_or : goal.returns-in_err-ok_or
returns-in_err-ok_or c =
    let args = c.args in
    let p = err_from_is_err_and c.from_residual.result c.from_residual.ensures.1 in
    rw (p.1, p.2, (told-over c.next_row.result c.in_err-ok_or.ensures.value).1)
    (over-says args.diagonal args.n args.m
    (over-later args.diagonal args.n args.m c.loop.counter c.loop-test.true (c.next_row.ensures.over _ c.loop.invariant.1 (sym c.in_err-ok_or.ensures.variant))))

pub returns : goal.returns
returns c =
    let args = c.args in
    count-says args.diagonal args.n args.m c.loop.counter _ (omega arith) (row_last args.diagonal args.n _ _ c.loop.invariant.1) c.loop.invariant.2
