-- `arch::known::known_of` meets its contract: each return by the tests that led there. Assumes nothing.
use Rattle.std.proofs.Common.{rules, ◌≡◌, sym, refl}
use Rattle.std.specs.Prelude.{Err}
use Rattle.job.proofs.Standing.{Kept, kept_of, told_of_lem}
use Rattle.lines.proofs.Knowing.{refusing_told}
use Rattle.arch.proofs.Knowing.{is_square, kept_fits, kept_over}
use Rattle.arch.proofs.known.known_of.Goals as goal
use Rattle.arch.proofs.known.known_of.Goals.{In_ok-job}

pub returns-in_err-job : goal.returns-in_err-job
returns-in_err-job c =
    let block = c.args.block.now in
    let h : c.from_residual.result ≡ Err c.in_err-job.field-0.0 = search rules in
    rw h (refusing_told block (is_square _ _ c.requires) refl (told_of_lem block c.of.ensures c.in_err-job.was))

kept : (c : In_ok-job) → Kept c.args.block.now c.in_ok-job.job
kept c = kept_of c.args.block.now (λ i. (c.type_inv.block i).fits) c.of.ensures c.in_ok-job.was

pub returns-then-limit-n : goal.returns-then-limit-n
returns-then-limit-n c =
    kept_over _ (kept (goal.at.returns-then-limit-n c).In_ok-job) _ c.requires (rw (sym c.limit-limit.ensures, sym c.from-n.ensures) c.if-limit-n.true)

pub returns : goal.returns
returns c =
    rw c.from-n.ensures (kept_fits _ (kept (goal.at.returns c).In_ok-job) _ c.requires (rw (sym c.limit-limit.ensures, sym c.from-n.ensures) c.if-limit-n.false))
