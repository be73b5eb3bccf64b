-- `walks::walk` meets its contract: the job of the block is walked. Assumes nothing.
use Rattle.std.proofs.lemmas.Result.{err_from_is_err_and}
use Rattle.job.proofs.Standing.{Kept, kept_of, told_of_lem}
use Rattle.walks.proofs.Pacing.{held_n, held_paced, kept_paced}
use Rattle.walks.proofs.Checking.{answer-refused, answer-told}
use Rattle.walks.proofs.walk.Goals as goal
use Rattle.walks.proofs.walk.Goals.{In_ok-job}

pub returns-in_err-job : goal.returns-in_err-job
returns-in_err-job c =
    let told = err_from_is_err_and c.from_residual.result c.from_residual.ensures.1 in
    rw (told.1, told.2) (answer-refused _ _ (told_of_lem _ c.of.ensures c.in_err-job.was))

-- the job that the block has
kept : (c : In_ok-job) → Kept c.args.block.now c.in_ok-job.job
kept c = kept_of _ (λ i. (c.type_inv.block i).fits) c.of.ensures c.in_ok-job.was

pub paces_of-requires : goal.paces_of-requires
paces_of-requires c = held_n (kept (goal.at.paces_of-requires c).In_ok-job).stands

pub walk_one-requires : goal.walk_one-requires
walk_one-requires c = kept_paced (kept (goal.at.walk_one-requires c).In_ok-job) c.paces_of.ensures

pub returns : goal.returns
returns c =
    let k = kept (goal.at.returns c).In_ok-job in
    answer-told _ _ k (c.walk_one.ensures k.job (held_paced c.paces_of.ensures k.stands))
