-- `arch::count_own` meets its contract: a refusal, or the family's count. Assumes nothing.
use Rattle.std.proofs.Common.{rules, ◌≡◌}
use Rattle.std.specs.Prelude.{Ok, Err}
use Rattle.lines.proofs.Knowing.{count_refusing, count-ending}
use Rattle.arch.proofs.count_own.Goals as goal

pub returns-in_err-n : goal.returns-in_err-n
returns-in_err-n c =
    let h : c.from_residual.result ≡ Err c.in_err-n.field-0.0 = search rules in
    rw h (count_refusing _ c.in_err-n.ensures)

pub returns : goal.returns
returns c = count-ending _ (Ok _) c.in_ok-n.ensures.ends c.count.ensures
