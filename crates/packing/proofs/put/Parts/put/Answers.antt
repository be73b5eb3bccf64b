-- `Parts::put` meets its contract: refusal 7, or the three parts one after the other. Assumes nothing.
use mathlib.Core.Path.{refl}
use native.Mathlib.Omega.{arith}
use Rattle.packing.proofs.Pastes.{pack-short, pack-put}
use Rattle.packing.proofs.put.Parts.put.Goals as goal

pub returns-then-out-len : goal.returns-then-out-len
returns-then-out-len c = pack-short _ _ _ _ c.args.self.now.whole (omega (arith, c.if-out-len.true, c.first-first.ensures))

pub returns : goal.returns
returns c =
    pack-put c.args.self.now.block.now c.args.self.now.ends.now c.args.self.now.steps.now c.args.out.now _ _ _ _ _ c.args.self.now.whole c.first-first.ensures refl c.if-out-len.false c.put_front.ensures c.put_offsets.ensures c.put_bytes.ensures
