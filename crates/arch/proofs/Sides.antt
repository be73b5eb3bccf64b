-- The products from either side: the product for i is that for m - i, so their sum from one end is the whole less that from the
-- other. Assumes nothing.
--
--   sides          the products below i and those below m + 1 - i are all of them
--   near, far      what stands before the arches of a size, from the near and from the far side
--   offset-fits    that fits 64 bits
--   whole_is       the count is those that end in `D` and all products
use mathlib.Core.Path.{◌≡◌, ap}
use mathlib.Core.Bool.{Bool}
use mathlib.Core.List.{List}
use Prim.Native.Nat.{ℕ, zero, suc, ◌+◌, ◌-◌, ◌*◌, ◌^◌, ◌≤◌, ◌<◌}
use native.Mathlib.Nat.{mul_comm}
use native.Mathlib.Omega.{arith}
use Rattle.arches.specs.Counts.{if_d, count, before}
use Rattle.arches.proofs.Counting.{count-arch, before-suc, before_mono}
use Rattle.arches.proofs.Limits.{count_mono}
use Rattle.arch.specs.Table.{Table}
use Rattle.arch.specs.Sums.{offset}
use Rattle.arch.proofs.Tables.{family_of, before-none}

module _ (d : Bool) (v m : ℕ) where
  mirrored : (i : ℕ) → i ≤ m → count d v (m - i) * count d v (m - (m - i)) ≡ count d v i * count d v (m - i)
  mirrored i h = let e : m - (m - i) ≡ i = omega arith in rw e (mul_comm (count d v (m - i)) (count d v i))

  pub sides : (i : ℕ) → i ≤ m + 1 → before d v m i + before d v m (m + 1 - i) ≡ before d v m (m + 1)
  sides zero h = let e : m + 1 - 0 ≡ m + 1 = omega arith in omega (arith, before-none d v m, ap (before d v m) e)
  sides (suc i) h =
      let e : m + 1 - suc i ≡ m - i = omega arith in
      let g : m + 1 - i ≡ suc (m - i) = omega arith in
      omega (
        arith,
        sides i (omega arith),
        before-suc d v m i,
        before-suc d v m (m - i),
        mirrored i (omega arith),
        ap (before d v m) e,
        ap (before d v m) g,
      )

  pub whole_is : count d v (m + v + 1) ≡ if_d d (count d v (m + v)) + before d v m (m + 1)
  whole_is =
      let e : m + v + 1 ≡ suc (m + v) = omega arith in
      let g : m + 1 ≡ suc m = omega arith in
      rw (e, g) (count-arch d v m)

  pub near : (i s h : ℕ) → s ≡ before d v m i → h ≡ if_d d (count d v (m + v)) → h + s ≡ offset d v m i
  unfolding offset
  near i s h es eh = omega arith

  pub far : (i s c : ℕ) → i ≤ m → s ≡ before d v m (m + 1 - i) → c ≡ count d v (m + v + 1) → (s ≤ c) × (c - s ≡ offset d v m i)
  unfolding offset
  far i s c h es ec =
      (omega (arith, whole_is, sides i (omega arith)), omega (arith, whole_is, sides i (omega arith)))

  pub offset-fits : (n i : ℕ) (l : List ℕ) → Table d v n l → m + v < n → i ≤ m + 1 → offset d v m i < 2 ^ 64
  unfolding offset
  offset-fits n i l t h g =
      let e : m + v + 1 ≤ n = omega arith in
      omega (arith, whole_is, before_mono d v m i (m + 1) g, count_mono d v (family_of t) (m + v + 1) n e, t.fits)
