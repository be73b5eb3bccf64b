-- `Parts::put_offsets` meets its contract: the loop holds the offsets of the edges before i. Assumes nothing.
use mathlib.Core.Path.{refl, ap, ◌∙◌}
use Prim.Native.Nat.{ℕ, ◌+◌, ◌<◌}
use native.Mathlib.Omega.{arith}
use lib.ListN.{get_or}
use Rattle.rules.specs.Packs.{shortest}
use Rattle.packing.specs.Packing.{pasted, offsets_of}
use Rattle.packing.proofs.Pastes.{offsets-none, offsets-next, offsets-all}
use Rattle.packing.proofs.put.Parts.put_offsets.Goals as goal
use Rattle.packing.proofs.put.Parts.put_offsets.Goals.{In-loop-i}

pub loop-i-init : goal.loop-i-init
loop-i-init c = (omega arith, refl, offsets-none c.args.out.now c.args.self.now.ends.now c.first-first.result)

-- the offset that is put fits two bytes
low : (c : In-loop-i) → c.first-first.result + get_or c.args.self.now.ends.now c.loop-i.i 0 < 65536
low c = omega (arith, c.first-first.ensures, c.args.self.now.few, c.args.self.now.within c.loop-i.i c.loop-i-test.true)

pub overflow_add-first : goal.overflow_add-first
overflow_add-first c = omega (arith, low (goal.at.overflow_add-first c).In-loop-i)

pub put_two-requires : goal.put_two-requires
put_two-requires c = (omega (arith, c.requires, c.loop-i.invariant.1), omega (arith, low (goal.at.put_two-requires c).In-loop-i))

pub loop-i-preserved : goal.loop-i-preserved
loop-i-preserved c = (omega arith, c.put_two.auto.out ∙ c.loop-i.invariant.1, offsets-next c.args.out.now c.args.self.now.ends.now c.first-first.result c.loop-i.i _ _ c.loop-i-test.true (omega (arith, c.requires)) c.loop-i.invariant.2 c.put_two.ensures)

pub returns : goal.returns
returns c =
    c.loop-i.invariant.2 ∙ offsets-all c.args.out.now c.args.self.now.ends.now c.first-first.result c.loop-i.i (omega arith)
    ∙ ap (λ (v : ℕ). pasted c.args.out.now shortest (offsets_of v c.args.self.now.ends.now)) c.first-first.ensures
