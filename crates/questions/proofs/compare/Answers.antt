-- `questions::compare` meets its contract, from both numbers. Assumes nothing.
use mathlib.Core.Path.{sym, ap, ◌∙◌}
use Rattle.std.proofs.lemmas.Result.{err_from_is_err_and}
use Rattle.std.specs.Prelude.{Ok}
use Rattle.questions.proofs.Comparing.{second-refused, second-refused_too, second-value}
use Rattle.questions.proofs.compare.Goals as goal

pub returns-in_err-x : goal.returns-in_err-x
returns-in_err-x c =
    let told = err_from_is_err_and c.from_residual.result c.from_residual.ensures.1 in
    rw (told.1, told.2) (second-refused _ _ _ (sym c.in_err-x.was ∙ c.number.ensures))

pub returns-in_err-y : goal.returns-in_err-y
returns-in_err-y c =
    let told = err_from_is_err_and c.from_residual-in_err-y.result c.from_residual-in_err-y.ensures.1 in
    rw (told.1, told.2) (second-refused_too _ _ _ (sym c.in_ok-x.was ∙ c.number.ensures) (sym c.in_err-y.was ∙ c.number-2.ensures))

pub returns : goal.returns
returns c = ap Ok c.which_of.ensures ∙ second-value _ _ _ (sym c.in_ok-x.was ∙ c.number.ensures) (sym c.in_ok-y.was ∙ c.number-2.ensures)
