-- `packing::too_many` meets its contract: the count's refusal, or 10. Assumes nothing.
use mathlib.Core.List.{[]}
use Rattle.std.proofs.lemmas.Result.{err_from_is_err_and}
use Rattle.packing.proofs.Wholes.{many-told, many-known}
use Rattle.packing.proofs.too_many.Goals as goal

pub returns-in_err-count : goal.returns-in_err-count
returns-in_err-count c = let p = err_from_is_err_and c.from_residual.result c.from_residual.ensures.1 in rw (p.1, p.2) (many-told _ [] _ c.in_err-count.ensures)

pub returns : goal.returns
returns c = many-known _ [] _ c.in_ok-count.ensures
