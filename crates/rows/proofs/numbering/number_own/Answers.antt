-- `rows::numbering::number_own` meets its contract: by the room, and then by the end of the block's job. Assumes nothing.
use Rattle.std.proofs.Common.{◌≡◌, true, leb, length, Ok, Err, refl, sym}
use Rattle.std.proofs.lemmas.Result.{err_from_is_err_and}
use borrow.Author.Tests.{le-leb, lt-leb}
use Rattle.lines.proofs.Knowing.{ranks_no_room, ranks_refusing, ranks-ending}
use Rattle.rows.proofs.numbering.number_own.Goals as goal
use Rattle.rows.proofs.numbering.number_own.Goals.{Else-numbers-s}

-- there is room
roomy : (c : Else-numbers-s) →
    let args = c.args in
    true ≡ leb (length args.s.ends.now) (length args.numbers.now)
roomy c = sym (le-leb _ _ c.if-numbers-s.false)

pub returns-then-numbers-s : goal.returns-then-numbers-s
returns-then-numbers-s c = ranks_no_room _ _ _ _ refl (c.requires, lt-leb _ _ c.if-numbers-s.true)

pub returns-in_err-c : goal.returns-in_err-c
returns-in_err-c c =
    let p = err_from_is_err_and c.from_residual.result c.from_residual.ensures.1 in
    rw (p.1, p.2) (ranks_refusing _ _ _ _ (roomy (goal.at.returns-in_err-c c).Else-numbers-s) c.in_err-c.ensures)

pub returns-in_err-number_edges : goal.returns-in_err-number_edges
returns-in_err-number_edges c =
    let end = c.in_ok-c.ensures in
    let p = err_from_is_err_and c.from_residual-in_err-number_edges.result c.from_residual-in_err-number_edges.ensures.1 in
    rw (p.1, p.2) (ranks-ending _ _ _ _ (roomy (goal.at.returns-in_err-number_edges c).Else-numbers-s) (Err _) _ end.1 c.in_err-number_edges.ensures)

pub returns : goal.returns
returns c =
    let end = c.in_ok-c.ensures in
    ranks-ending _ _ _ _ (roomy (goal.at.returns c).Else-numbers-s) (Ok _) _ end.1 c.in_ok-number_edges.ensures
