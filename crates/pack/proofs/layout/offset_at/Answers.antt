-- `layout::offset_at` meets its contract. Assumes nothing.
use mathlib.Core.Path.{◌∙◌}
use Rattle.pack.proofs.Layouts.{offset-is}
use Rattle.pack.proofs.layout.offset_at.Goals as goal

pub returns : goal.returns
returns c = c.word_at.ensures.0 ∙ offset-is _ _
