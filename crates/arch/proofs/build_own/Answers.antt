-- `arch::build_own` meets its contract: no room, a refusal, or what is written with the family's counts. Assumes nothing.
use Rattle.std.proofs.Common.{rules, ◌≡◌, true, length, sym, ◌∙◌}
use Rattle.std.specs.Prelude.{Ok, Err}
use Rattle.lines.specs.declared.Unanswered.TheVariants.{Refused}
use Rattle.lines.specs.Lines.{roomy}
use Rattle.lines.proofs.Lining.{room_of}
use Rattle.lines.proofs.Knowing.{lines_no_room, lines_refusing, lines-ending}
use Rattle.arch.proofs.Knowing.{is_square}
use Rattle.arch.proofs.build_own.Goals as goal
use Rattle.arch.proofs.build_own.Goals.{Else-not-has_room}

pub returns-then-not-has_room : goal.returns-then-not-has_room
returns-then-not-has_room c = lines_no_room _ _ _ _ c.has_room.ensures (is_square _ _ c.requires, c.if-not-has_room.true)

-- there is room
room : (c : Else-not-has_room) → true ≡ roomy (length c.args.numbers.now) (length c.args.steps.now) (length c.args.ends.now)
room c = sym c.if-not-has_room.false ∙ c.has_room.ensures

pub returns-in_err-n : goal.returns-in_err-n
returns-in_err-n c =
    let h : c.from_residual.result ≡ Err (Refused c.in_err-n.field-0.0) = search rules in
    rw h (lines_refusing _ _ _ _ (room (goal.at.returns-in_err-n c).Else-not-has_room) c.in_err-n.ensures)

pub write_edges-requires : goal.write_edges-requires
write_edges-requires c = room_of _ _ _ (sym (room (goal.at.write_edges-requires c).Else-not-has_room))

pub returns-in_err-length : goal.returns-in_err-length
returns-in_err-length c =
    let h : c.from_residual-in_err-length.result ≡ Err (Refused c.in_err-length.field-0.0) = search rules in
    rw h (lines-ending _ _ _ _ (room (goal.at.returns-in_err-length c).Else-not-has_room) (Err _) _ _ c.in_ok-n.ensures.ends (rw c.counts-parts.ensures at c.in_err-length.ensures))

pub returns : goal.returns
returns c =
    lines-ending _ _ _ _ (room (goal.at.returns c).Else-not-has_room) (Ok _) _ _ c.in_ok-n.ensures.ends (rw c.counts-parts.ensures at c.in_ok-length.ensures)
