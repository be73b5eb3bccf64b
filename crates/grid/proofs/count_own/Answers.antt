-- `grid::count_own` meets its contract: by the shape of the block's job. Assumes nothing.
use Rattle.std.proofs.lemmas.Result.{err_from_is_err_and}
use Rattle.lines.proofs.Knowing.{count_refusing, count-ending}
use Rattle.grid.proofs.count_own.Goals as goal

pub returns-in_err-shape_in : goal.returns-in_err-shape_in
returns-in_err-shape_in c =
    let p = err_from_is_err_and c.from_residual.result c.from_residual.ensures.1 in rw (p.1, p.2) (count_refusing _ c.in_err-shape_in.ensures)

pub returns : goal.returns
returns c = let s = c.in_ok-shape_in.ensures in count-ending _ c.count.result s.ending (c.count.ensures s.shape.job s.shape.shaped)
