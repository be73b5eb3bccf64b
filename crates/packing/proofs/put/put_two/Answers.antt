-- `packing::put::put_two` meets its contract: the two bytes of a number, the low one first. Assumes nothing.
use mathlib.Core.Path.{ap, ◌∙◌}
use Rattle.packing.specs.Packing.{pasted}
use Rattle.packing.proofs.Pastes.{two-bytes}
use Rattle.packing.proofs.put.put_two.Goals as goal

pub returns : goal.returns
returns c = c.put_bytes.ensures ∙ ap (pasted c.args.out.now c.args.at) (c.to_le_bytes-two.ensures ∙ two-bytes _ c.requires.1)
