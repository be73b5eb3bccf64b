-- `grid::known::shape_in` meets its contract: by the job maker's answer. Assumes nothing.
use mathlib.Core.Path.{refl}
use Rattle.job.proofs.Standing.{kept_of, told_of_lem}
use Rattle.std.proofs.lemmas.Result.{err_from_is_err_and}
use Rattle.lines.proofs.Knowing.{refusing_told}
use Rattle.grid.proofs.Paired.{shape_needs, shaped_as}
use Rattle.grid.proofs.known.shape_in.Goals as goal

pub returns-in_err-job : goal.returns-in_err-job
returns-in_err-job c =
    let p = err_from_is_err_and c.from_residual.result c.from_residual.ensures.1 in
    rw (p.1, p.2) (refusing_told c.args.block.now c.requires refl (told_of_lem c.args.block.now c.of.ensures c.in_err-job.was))

pub shape_of-requires : goal.shape_of-requires
shape_of-requires c = shape_needs c.args.block.now c.in_ok-job.job (kept_of c.args.block.now (λ i. (c.type_inv.block i).fits) c.of.ensures c.in_ok-job.was) c.requires

pub returns : goal.returns
returns c = shaped_as c.args.block.now c.in_ok-job.job (kept_of c.args.block.now (λ i. (c.type_inv.block i).fits) c.of.ensures c.in_ok-job.was) c.requires c.shape_of.ensures
