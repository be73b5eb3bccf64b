-- `job::is_sized` meets its contract: by family. Assumes nothing.
use Rattle.std.proofs.Common.{sym, ◌∙◌}
use Rattle.job.proofs.Blocks.{sized-is}
use Rattle.job.proofs.is_sized.Goals as goal

pub returns-then-is_paired : goal.returns-then-is_paired
returns-then-is_paired c =
    c.is_sized_directed.ensures ∙ sym (sized-is _ ∙ simp (sym c.is_paired.ensures ∙ c.if-is_paired.true))

pub returns : goal.returns
returns c =
    c.is_sized_lettered.ensures ∙ sym (sized-is _ ∙ simp (sym c.is_paired.ensures ∙ c.if-is_paired.false))
