-- `walks::walk_all` meets its contract: the job of the block is walked. Assumes nothing.
use Rattle.std.proofs.lemmas.Result.{err_from_is_err_and}
use Rattle.job.proofs.Standing.{Kept, kept_of, told_of_lem}
use Rattle.walks.proofs.Pacing.{held_n, held_paced, kept_paced}
use Rattle.walks.proofs.Checking.{answer-refused, answer-told}
use Rattle.walks.proofs.walk_all.Goals as goal
use Rattle.walks.proofs.walk_all.Goals.{In_ok-of}

pub returns-in_err-of : goal.returns-in_err-of
returns-in_err-of c =
    let told = err_from_is_err_and c.from_residual.result c.from_residual.ensures.1 in
    rw (told.1, told.2) (answer-refused _ _ (told_of_lem _ c.of.ensures c.in_err-of.was))

-- the job that the block has
kept : (c : In_ok-of) → Kept c.args.block.now c.in_ok-of.field-0
kept c = kept_of _ (λ i. (c.type_inv.block i).fits) c.of.ensures c.in_ok-of.was

pub paces_of-paces-requires : goal.paces_of-paces-requires
paces_of-paces-requires c = held_n (kept (goal.at.paces_of-paces-requires c).In_ok-of).stands

pub walk_each-requires : goal.walk_each-requires
walk_each-requires c = kept_paced (kept (goal.at.walk_each-requires c).In_ok-of) c.paces_of-paces.ensures

pub returns : goal.returns
returns c =
    let k = kept (goal.at.returns c).In_ok-of in
    answer-told _ _ k (c.walk_each.ensures k.job (held_paced c.paces_of-paces.ensures k.stands))
