-- `whole::keep` meets its contract: all numbers are written, or none. Assumes nothing.
use mathlib.Core.Path.{ap}
use mathlib.Core.List.{List, ◌++◌}
use Prim.Native.Nat.{ℕ}
use lib.ListN.{drop}
use Rattle.std.proofs.lemmas.Result.{err_from_is_err_and}
use Rattle.pack.proofs.Wholes.{kept-none, kept-all}
use Rattle.pack.proofs.whole.keep.Goals as goal

pub returns-in_err-c : goal.returns-in_err-c
returns-in_err-c c =
    let p = err_from_is_err_and c.from_residual.result c.from_residual.ensures.1 in rw (p.1, p.2) (kept-none _ _ _ _ c.in_err-c.ensures)

pub returns : goal.returns
returns c =
    kept-all _ _ _ c.in_ok-c.ensures (ap (λ (z : List ℕ). z ++ drop c.in_ok-c.c c.args.list.now) c.copy_from_slice.ensures.after)
