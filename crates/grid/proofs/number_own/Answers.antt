-- `grid::number_own` meets its contract: by the room, and then by the shape of the block's job. Assumes nothing.
use Rattle.std.proofs.Common.{◌≡◌, true, leb, length, Ok, Err, refl, sym}
use Rattle.std.proofs.lemmas.Result.{err_from_is_err_and}
use borrow.Author.Tests.{le-leb, lt-leb}
use Rattle.lines.proofs.Knowing.{ranks_no_room, ranks_refusing, ranks-ending}
use Rattle.grid.proofs.number_own.Goals as goal
use Rattle.grid.proofs.number_own.Goals.{Else-numbers-ends}

-- there is room
roomy : (c : Else-numbers-ends) →
    let args = c.args in
    true ≡ leb (length args.ends.now) (length args.numbers.now)
roomy c = sym (le-leb _ _ c.if-numbers-ends.false)

pub returns-then-numbers-ends : goal.returns-then-numbers-ends
returns-then-numbers-ends c = ranks_no_room _ _ _ _ refl (c.requires, lt-leb _ _ c.if-numbers-ends.true)

pub returns-in_err-shape_in : goal.returns-in_err-shape_in
returns-in_err-shape_in c =
    let p = err_from_is_err_and c.from_residual.result c.from_residual.ensures.1 in
    rw (p.1, p.2) (ranks_refusing _ _ _ _ (roomy (goal.at.returns-in_err-shape_in c).Else-numbers-ends) c.in_err-shape_in.ensures)

pub returns-in_err-number_edges : goal.returns-in_err-number_edges
returns-in_err-number_edges c =
    let s = c.in_ok-shape_in.ensures in
    let p = err_from_is_err_and c.from_residual-in_err-number_edges.result c.from_residual-in_err-number_edges.ensures.1 in
    rw (p.1, p.2) (ranks-ending _ _ _ _ (roomy (goal.at.returns-in_err-number_edges c).Else-numbers-ends) (Err _) _ s.ending (c.in_err-number_edges.ensures s.shape.job s.shape.shaped))

pub returns : goal.returns
returns c =
    let s = c.in_ok-shape_in.ensures in
    ranks-ending _ _ _ _ (roomy (goal.at.returns c).Else-numbers-ends) (Ok _) _ s.ending (c.in_ok-number_edges.ensures s.shape.job s.shape.shaped)
