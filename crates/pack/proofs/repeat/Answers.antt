-- `pack::repeat` meets its contract, from that of `first_repeat`. Assumes nothing.
use mathlib.Core.Path.{ap, ◌∙◌}
use Rattle.std.proofs.lemmas.Result.{err_from_is_err_and}
use Rattle.rules.specs.Questions.{twice_in}
use Rattle.pack.specs.Layout.{edges_in}
use Rattle.pack.specs.Replies.{paired}
use Rattle.pack.proofs.Reading.{repeat-refused, repeat_read}
use Rattle.pack.proofs.repeat.Goals as goal

pub returns-in_err-read : goal.returns-in_err-read
returns-in_err-read c = let p = err_from_is_err_and c.from_residual.result c.from_residual.ensures.1 in rw (p.1, p.2) (repeat-refused _ _ c.in_err-read.ensures)

pub returns : goal.returns
returns c = repeat_read _ c.in_ok-read.ensures.1 (c.first_repeat.ensures ∙ ap (λ p. paired (twice_in (edges_in p))) c.in_ok-read.ensures.0)
