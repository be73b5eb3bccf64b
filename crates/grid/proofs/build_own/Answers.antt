-- `grid::build_own` meets its contract: by the room, and then by the shape of the block's job. Assumes nothing.
use Rattle.std.proofs.Common.{◌≡◌, true, length, Ok, Err, sym, ◌∙◌}
use Rattle.std.proofs.lemmas.Result.{err_from_is_err_and}
use Rattle.lines.specs.Lines.{roomy}
use Rattle.lines.proofs.Knowing.{lines_no_room, lines_refusing, lines-ending}
use Rattle.grid.proofs.build_own.Goals as goal
use Rattle.grid.proofs.build_own.Goals.{Else-not-room}

-- there is room
has : (c : Else-not-room) →
    let args = c.args in
    true ≡ roomy (length args.numbers.now) (length args.steps.now) (length args.ends.now)
has c = sym c.if-not-room.false ∙ c.has_room-room.ensures

pub returns-then-not-room : goal.returns-then-not-room
returns-then-not-room c = lines_no_room _ _ _ _ c.has_room-room.ensures (c.requires, c.if-not-room.true)

pub returns-in_err-shape_in : goal.returns-in_err-shape_in
returns-in_err-shape_in c =
    let p = err_from_is_err_and c.from_residual.result c.from_residual.ensures.1 in
    rw (p.1, p.2) (lines_refusing _ _ _ _ (has (goal.at.returns-in_err-shape_in c).Else-not-room) c.in_err-shape_in.ensures)

pub returns-in_err-spell_edges : goal.returns-in_err-spell_edges
returns-in_err-spell_edges c =
    let s = c.in_ok-shape_in.ensures in
    let p = err_from_is_err_and c.from_residual-in_err-spell_edges.result c.from_residual-in_err-spell_edges.ensures.1 in
    rw (p.1, p.2) (lines-ending _ _ _ _ (has (goal.at.returns-in_err-spell_edges c).Else-not-room) (Err _) _ _ s.ending (c.in_err-spell_edges.ensures s.shape.job s.shape.shaped))

pub returns : goal.returns
returns c =
    let s = c.in_ok-shape_in.ensures in
    lines-ending _ _ _ _ (has (goal.at.returns c).Else-not-room) (Ok _) _ _ s.ending (c.in_ok-spell_edges.ensures s.shape.job s.shape.shaped)
