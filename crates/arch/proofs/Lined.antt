-- The edges of a list of numbers, written: what stands after a refusal, and after each edge. Assumes nothing.
--
--   none-lined      refusal 6
--   next-lined      one edge more; all-lined: all of them
use mathlib.Core.Path.{◌≡◌, refl, sym}
use mathlib.Core.Bool.{Bool, true, false}
use mathlib.Core.List.{List}
use Prim.Native.Nat.{ℕ, ◌+◌, ◌-◌, ◌≤◌, ◌<◌}
use native.Mathlib.Omega.{arith}
use lib.ListN.{length, get_or, take, drop, set}
use borrow.Rule.Slice.PartMut.{put_mid}
use Rattle.arches.specs.Counts.{count}
use Rattle.rules.specs.Refusals.Refusal.{beyond}
use Rattle.rules.specs.Questions.{all_below}
use Rattle.std.specs.Prelude.{Ok, Err}
use Rattle.job.specs.declared.Refusal.TheVariants.{Beyond}
use Rattle.lines.specs.Known.{BuildsOf}
use Rattle.lines.proofs.Lining.{Lining, lining_next, lining_all, lined-refused}
use Rattle.arch.specs.Answers.{arch_job, EdgeInFront}
use Rattle.arch.specs.Table.{Table}
use Rattle.arch.proofs.Calls.{edge_by, edges_for, edges-of}

module _ {d : Bool} {v n : ℕ} {table : List ℕ} (full : Table d v n table) (ns : List ℕ) where
  module _ (steps ends : List ℕ) where
    pub none-lined : all_below (count d v n) ns ≡ false → BuildsOf (arch_job d v n) ns steps ends steps ends (Err Beyond)
    none-lined e = rw (edges-of full ns) (lined-refused (edges_for d v n ns) beyond Beyond steps ends (rw e refl) refl)

    module _ (i at : ℕ) (s t : List ℕ) (so : Lining (edge_by d v n) ns steps ends i at s t) where
      pub next-lined : (k : ℕ) (part : List ℕ) → i < length ns → n + n ≤ 128 → EdgeInFront d v n (get_or ns i 0) (take (length s - at) (drop at s)) part k
          → Lining (edge_by d v n) ns steps ends (i + 1) (at + k) (put_mid at (length s - at) s part) (set t i (at + k))
      next-lined k part l h w =
          lining_next (edge_by d v n) ns steps ends i at s t so k part l (sym w.long) (omega (arith, w.short)) w.shown

      pub all-lined : all_below (count d v n) ns ≡ true → length ns ≤ i → BuildsOf (arch_job d v n) ns steps ends s t (Ok at)
      all-lined e l = rw (edges-of full ns, e) (lining_all (edge_by d v n) ns steps ends i at s t so (omega (arith, so.passed)))
