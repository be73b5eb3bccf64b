-- `Parts::put_offsets` meets its contract: the loop holds the offsets of the edges before i. Assumes nothing.
use mathlib.Core.Path.{◌≡◌}
use Prim.Native.Nat.{◌≤◌}
use lib.ListN.{length, take}
use Rattle.rules.specs.Packs.{shortest}
use Rattle.packing.specs.Packing.{pasted, offsets_of}
use Rattle.packing.proofs.put.Parts.put_offsets.Given as goal

abbrev pub invariant-loop-i : goal.invariant-loop-i
invariant-loop-i l = (l.i ≤ length l.self.ends.now) × (length l.out ≡ length l.initial.out) × (l.out ≡ pasted l.initial.out shortest (offsets_of l.first (take l.i l.self.ends.now)))
