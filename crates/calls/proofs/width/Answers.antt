-- `calls::width` meets its contract, from the count's. Assumes nothing.
use mathlib.Core.Path.{◌≡◌, sym, ◌∙◌}
use Rattle.std.proofs.Common.{rules, Err}
use Rattle.calls.proofs.Routes.{width_value, width_refusal}
use Rattle.calls.proofs.width.Goals as goal

pub returns-in_err-count : goal.returns-in_err-count
returns-in_err-count c =
    let h : c.from_residual.result ≡ Err c.in_err-count.field-0.0 = search rules in
    h ∙ width_refusal _ _ (sym c.in_err-count.was ∙ c.count.ensures)

pub returns : goal.returns
returns c = width_value _ _ _ c.width_of.ensures (sym c.in_ok-count.was ∙ c.count.ensures)
