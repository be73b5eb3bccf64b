-- `questions::dip` meets its contract: by the job maker's answer, the count, the family, and the walk of the edge. Assumes nothing.
use mathlib.Core.Path.{◌≡◌, sym, ap, ◌∙◌}
use mathlib.Core.Bool.{Bool}
use Rattle.std.proofs.lemmas.Result.{err_from_is_err_and}
use Rattle.std.specs.Prelude.{Ok}
use Rattle.rules.specs.Blocks.{family_of, paired}
use Rattle.rules.specs.Answers.{count_answer}
use Rattle.job.specs.Replies.{reply}
use Rattle.job.proofs.Standing.{Kept, kept_of, told_of_lem}
use Rattle.questions.proofs.Dipping.{dip-told, dip-over, dip_kind, dip-walked, dip-stops, dip-digits, dip-value}
use Rattle.questions.proofs.dip.Goals as goal
use Rattle.questions.proofs.dip.Goals.{In_ok-job, In_ok-count, After-is_paired-without_steps}

pub returns-in_err-job : goal.returns-in_err-job
returns-in_err-job c =
    let told = err_from_is_err_and c.from_residual.result c.from_residual.ensures.1 in
    rw (told.1, told.2) (dip-told _ _ (told_of_lem _ c.of.ensures c.in_err-job.was))

pub returns-in_err-count : goal.returns-in_err-count
returns-in_err-count c =
    let told = err_from_is_err_and c.from_residual-in_err-count.result c.from_residual-in_err-count.ensures.1 in
    rw (told.1, told.2) (dip-over _ _ (sym c.in_err-count.was ∙ c.count.ensures))

-- the job that the block has; its count fits; whether it has pairs
kept : (c : In_ok-job) → Kept c.args.block.now c.in_ok-job.job
kept c = kept_of _ (λ i. (c.type_inv.block i).fits) c.of.ensures c.in_ok-job.was

fits : (c : In_ok-count) → Ok c.in_ok-count.field-0 ≡ reply (count_answer c.args.block.now)
fits c = sym c.in_ok-count.was ∙ c.count.ensures

pairs : (c : After-is_paired-without_steps) {b : Bool} → c.is_paired-without_steps.result ≡ b → paired (family_of c.args.block.now) ≡ b
pairs c e = sym (c.is_paired-without_steps.ensures ∙ ap paired c.family_of.ensures) ∙ e

pub returns-then-without_steps : goal.returns-then-without_steps
returns-then-without_steps c =
    dip_kind _ _ (kept (goal.at.returns-then-without_steps c).In_ok-job) (fits (goal.at.returns-then-without_steps c).In_ok-count)
    (pairs (goal.at.returns-then-without_steps c).After-is_paired-without_steps c.if-without_steps.true)

pub returns-in_err-walk : goal.returns-in_err-walk
returns-in_err-walk c = absurd (dip-walked _ _ (kept (goal.at.returns-in_err-walk c).In_ok-job) (fits (goal.at.returns-in_err-walk c).In_ok-count) c.walk.ensures c.in_err-walk.was)

pub first_rise-requires : goal.first_rise-requires
first_rise-requires c =
    dip-digits _ _ (kept (goal.at.first_rise-requires c).In_ok-job) (fits (goal.at.first_rise-requires c).In_ok-count) c.walk.ensures
    (pairs (goal.at.first_rise-requires c).After-is_paired-without_steps c.if-without_steps.false) (c.in_ok-walk.was ∙ ap Ok c.in-None.is)

pub returns-in-None : goal.returns-in-None
returns-in-None c =
    dip-value _ _ (kept (goal.at.returns-in-None c).In_ok-job) (fits (goal.at.returns-in-None c).In_ok-count) c.walk.ensures
    (pairs (goal.at.returns-in-None c).After-is_paired-without_steps c.if-without_steps.false) (c.in_ok-walk.was ∙ ap Ok c.in-None.is) _ c.first_rise.ensures

pub returns-in-Some : goal.returns-in-Some
returns-in-Some c =
    dip-stops _ _ (kept (goal.at.returns-in-Some c).In_ok-job) (fits (goal.at.returns-in-Some c).In_ok-count) c.walk.ensures
    (pairs (goal.at.returns-in-Some c).After-is_paired-without_steps c.if-without_steps.false) (c.in_ok-walk.was ∙ ap Ok c.in-Some.is)
