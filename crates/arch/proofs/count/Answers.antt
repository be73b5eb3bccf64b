-- `arch::count` meets its contract: by the block's family. Assumes nothing.
use Rattle.std.proofs.Common.{sym, ap, ◌∙◌}
use Rattle.rules.specs.Blocks.{square}
use Rattle.lines.proofs.Mines.{other-count}
use Rattle.arch.proofs.count.Goals as goal

pub returns-in_err-family : goal.returns-in_err-family
returns-in_err-family c = rw c.from_residual.ensures (other-count (ap square (sym c.family_of.ensures) ∙ c.in_err-family.ensures) _)
