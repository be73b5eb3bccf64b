-- `refusals::read` meets its contract: each return by the tests that led there. Assumes nothing.
use mathlib.Core.Path.{sym}
use Rattle.std.proofs.lemmas.Result.{err_from_is_err_and}
use Rattle.rules.specs.Packs.{block_in}
use Rattle.calls.proofs.Fitting.{Accepted, known_of}
use Rattle.pack.proofs.Reading.{read-bad, read_told, read-fine, read-wrong}
use Rattle.pack.proofs.refusals.read.Goals as goal
use Rattle.pack.proofs.refusals.read.Goals.{In_ok-count}

pub returns-in_err-laid : goal.returns-in_err-laid
returns-in_err-laid c =
    let p = err_from_is_err_and c.from_residual.result c.from_residual.ensures.1 in rw (p.1, p.2) (read-bad _ _ c.in_err-laid.ensures.0 c.in_err-laid.ensures.1)

pub returns-in_err-count : goal.returns-in_err-count
returns-in_err-count c =
    let p = err_from_is_err_and c.from_residual-in_err-count.result c.from_residual-in_err-count.ensures.1 in
    rw (p.1, p.2, sym c.in_ok-laid.ensures) (read_told _ c.in_ok-laid.laid.laid _ (rw c.block.ensures at c.in_err-count.ensures))

-- the block has a job
known : (c : In_ok-count) → Accepted (block_in c.in_ok-laid.laid.bytes.now)
known c = known_of _ _ (rw c.block.ensures at c.in_ok-count.ensures)

pub returns-in_err-check_edges : goal.returns-in_err-check_edges
returns-in_err-check_edges c =
    let p = err_from_is_err_and c.from_residual-in_err-check_edges.result c.from_residual-in_err-check_edges.ensures.1 in
    rw (p.1, p.2, sym c.in_ok-laid.ensures) (read-wrong _ c.in_ok-laid.laid.laid (known (goal.at.returns-in_err-check_edges c).In_ok-count) c.in_err-check_edges.ensures)

pub returns : goal.returns
returns c =
    (c.in_ok-laid.ensures, rw (sym c.in_ok-laid.ensures) (read-fine _ c.in_ok-laid.laid.laid (known (goal.at.returns c).In_ok-count) c.in_ok-check_edges.ensures))
