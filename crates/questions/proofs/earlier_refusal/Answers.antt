-- `questions::earlier_refusal` meets its contract: the comparison's refusal, or 0. Assumes nothing.
use mathlib.Core.Path.{◌∙◌}
use Rattle.questions.proofs.Comparing.{refusal-some}
use Rattle.questions.proofs.earlier_refusal.Goals as goal

pub returns-in-Err : goal.returns-in-Err
returns-in-Err c = c.from.ensures ∙ refusal-some _ c.in-Err.ensures
