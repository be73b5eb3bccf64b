-- `Parts::put_front` meets its contract: four parts, one after the other. Assumes nothing.
use mathlib.Core.Path.{ap, ◌∙◌}
use Prim.Native.Nat.{ℕ}
use Rattle.rules.specs.Packs.{offsets_at, two}
use Rattle.packing.specs.Packing.{pasted}
use Rattle.packing.proofs.Pastes.{front-all}
use Rattle.packing.proofs.put.Parts.put_front.Goals as goal

pub returns : goal.returns
returns c = front-all c.args.out.now c.args.self.now.block.now _ _ _ _ _ c.args.self.now.whole c.put_bytes.ensures c.put_bytes-2.ensures c.put_two.ensures (c.put_two-2.ensures ∙ ap (λ (v : ℕ). pasted c.put_two.new.out offsets_at (two v)) c.first.ensures)
