-- `rows::plain::Plain::of` meets its contract: by the job maker's answer. Assumes nothing.
use Rattle.std.proofs.Common.{refl}
use Rattle.std.proofs.lemmas.Result.{err_from_is_err_and}
use Rattle.job.proofs.Standing.{Kept, kept_of, told_of_lem}
use Rattle.lines.proofs.Knowing.{refusing_told}
use Rattle.rows.proofs.Plains.{plain-level, plain-answer}
use Rattle.rows.proofs.plain.Plain.of.Goals as goal
use Rattle.rows.proofs.plain.Plain.of.Goals.{In_ok-job}

-- the job is the block's
kept : (c : In_ok-job) → Kept c.args.block.now c.in_ok-job.job
kept c = kept_of _ (λ i. (c.type_inv.block i).fits) c.in_ok-job.ensures refl

pub returns-in_err-job : goal.returns-in_err-job
returns-in_err-job c =
    let p = err_from_is_err_and c.from_residual.result c.from_residual.ensures.1 in
    rw (p.1, p.2) (refusing_told _ c.requires refl (told_of_lem _ c.in_err-job.ensures refl))

pub of_job-requires : goal.of_job-requires
of_job-requires c = (plain-level _ _ (kept (goal.at.of_job-requires c).In_ok-job) c.requires).m_least

pub returns : goal.returns
returns c =
    let own = c.requires in (
      rw c.of_job.ensures (plain-level _ _ (kept (goal.at.returns c).In_ok-job) own).within,
      record { own = own; roomy = refl; answer = plain-answer _ _ (kept (goal.at.returns c).In_ok-job) own c.of_job.ensures },
    )
