-- `arch::number_own` meets its contract: no room, a refusal, or each edge read with the family's counts. Assumes nothing.
use Rattle.std.proofs.Common.{rules, ◌≡◌, sym, refl}
use Rattle.std.specs.Prelude.{Ok, Err}
use borrow.Author.Tests.{le-leb, lt-leb}
use Rattle.lines.specs.declared.Unanswered.TheVariants.{Refused}
use Rattle.lines.proofs.Knowing.{ranks_no_room, ranks_refusing, ranks-ending}
use Rattle.arch.proofs.Knowing.{is_square}
use Rattle.arch.proofs.number_own.Goals as goal

pub returns-then-numbers-ends : goal.returns-then-numbers-ends
returns-then-numbers-ends c = ranks_no_room _ _ _ _ (sym (lt-leb _ _ c.if-numbers-ends.true)) (is_square _ _ c.requires, refl)

pub returns-in_err-n : goal.returns-in_err-n
returns-in_err-n c =
    let h : c.from_residual.result ≡ Err (Refused c.in_err-n.field-0.0) = search rules in
    rw h (ranks_refusing _ _ _ _ (sym (le-leb _ _ c.if-numbers-ends.false)) c.in_err-n.ensures)

pub returns : goal.returns
returns c =
    ranks-ending _ _ _ _ (sym (le-leb _ _ c.if-numbers-ends.false)) (Ok _) _ c.in_ok-n.ensures.ends (rw c.counts-parts.ensures at c.number_each.ensures)
