-- `rows::spelling::build_own` meets its contract: by the room, and then by the end of the block's job. Assumes nothing.
use Rattle.std.proofs.Common.{◌≡◌, true, length, Ok, Err, sym, ◌∙◌}
use Rattle.std.proofs.lemmas.Result.{err_from_is_err_and}
use Rattle.lines.specs.Lines.{roomy}
use Rattle.lines.proofs.Knowing.{lines_no_room, lines_refusing, lines-ending}
use Rattle.rows.proofs.spelling.build_own.Goals as goal
use Rattle.rows.proofs.spelling.build_own.Goals.{Else-not-has_room}

-- there is room
room : (c : Else-not-has_room) →
    let args = c.args in
    true ≡ roomy (length args.numbers.now) (length args.steps.now) (length args.ends.now)
room c = sym c.if-not-has_room.false ∙ c.has_room.ensures

pub returns-then-not-has_room : goal.returns-then-not-has_room
returns-then-not-has_room c = lines_no_room _ _ _ _ c.has_room.ensures (c.requires, c.if-not-has_room.true)

pub returns-in_err-c : goal.returns-in_err-c
returns-in_err-c c =
    let p = err_from_is_err_and c.from_residual.result c.from_residual.ensures.1 in
    rw (p.1, p.2) (lines_refusing _ _ _ _ (room (goal.at.returns-in_err-c c).Else-not-has_room) c.in_err-c.ensures)

pub returns-in_err-spell_edges : goal.returns-in_err-spell_edges
returns-in_err-spell_edges c =
    let end = c.in_ok-c.ensures in
    let p = err_from_is_err_and c.from_residual-in_err-spell_edges.result c.from_residual-in_err-spell_edges.ensures.1 in
    rw (p.1, p.2) (lines-ending _ _ _ _ (room (goal.at.returns-in_err-spell_edges c).Else-not-has_room) (Err _) _ _ end.1 c.in_err-spell_edges.ensures)

pub returns : goal.returns
returns c =
    let end = c.in_ok-c.ensures in
    lines-ending _ _ _ _ (room (goal.at.returns c).Else-not-has_room) (Ok _) _ _ end.1 c.in_ok-spell_edges.ensures
