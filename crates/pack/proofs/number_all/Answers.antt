-- `pack::number_all` meets its contract: "8 first for packs", then the edges. Assumes nothing.
use Rattle.std.proofs.lemmas.Result.{err_from_is_err_and}
use Rattle.pack.proofs.Wholes.{whole-bad, whole-laid}
use Rattle.pack.proofs.number_all.Goals as goal

pub returns-in_err-of : goal.returns-in_err-of
returns-in_err-of c = let p = err_from_is_err_and c.from_residual.result c.from_residual.ensures.1 in rw (p.1, p.2) (whole-bad _ _ _ c.in_err-of.ensures.0 c.in_err-of.ensures.1)

pub returns : goal.returns
returns c = whole-laid _ _ _ _ _ c.in_ok-of.ensures c.in_ok-of.field-0.laid c.number_edges.ensures
