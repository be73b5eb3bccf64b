-- `edgelist_cases::print` shows what was written, and is never refused: no listing is longer than the text it lends. Assumes nothing.
use mathlib.Core.Path.{sym}
use Prim.Native.Nat.{ℕ}
use native.Mathlib.Omega.{arith}
use lib.ListN.{replicate, length-replicate}
use lib.Seq.{length-take-le}
use Rattle.listing.proofs.Putting.{put-fits}
use Rattle.listing.proofs.Longest.{never-refused}
use Rattle.edgelist_cases.proofs.print.Goals as goal

pub slice_bounds-text-end : goal.slice_bounds-text-end
slice_bounds-text-end g c = put-fits _ _ _ _ _ c.in-Ok.is c.write.ensures

pub slice_bounds-write_all-end : goal.slice_bounds-write_all-end
slice_bounds-write_all-end g c = sym (length-take-le _ _ (put-fits _ _ _ _ _ c.in-Ok.is c.write.ensures))

pub unreachable-requires : goal.unreachable-requires
unreachable-requires g c =
    never-refused _ (replicate 152000 0) _ _ _ (omega (arith, length-replicate {A = ℕ} 152000 0)) c.write.ensures c.in-Err.is
