-- The width of a count, from the leading zeros of the count less one. Assumes nothing.
--
--   width_small     0 for counts 0 and 1
--   width_zeros     64 less the leading zeros
use Prim.Native.Nat.{ℕ, suc, ◌+◌, ◌*◌, ◌-◌, ◌≤◌, ◌<◌, ◌^◌}
use mathlib.Core.Path.{◌≡◌, subst, sym}
use native.Mathlib.Nat.{lt_of_not-le, le_of_suc-le-suc, pow-suc}
use native.Mathlib.Omega.{arith}
use lib.Pow.{pow_mono}
use lib.Count.{count_leading_zeros, leading_length}
use Rattle.rules.specs.Width.{IsWidth, width_of}
use Rattle.rules.proofs.Widths.{width_is, width_one}

pub width_small : (c : ℕ) → c ≤ 1 → 0 ≡ width_of c
width_small c h =
    width_one c 0 (width_of c) (record { holds = λ k q. omega arith; least = λ v q. omega arith }) (width_is c)

least-of : (a m v : ℕ) → 2 ^ m ≤ 2 * a + 1 → a < 2 ^ v → m ≤ v
least-of a m v l h =
    le_of_suc-le-suc (lt_of_not-le (λ (g : suc v ≤ m).
    let p : 2 ^ suc v ≤ 2 ^ m = pow_mono g in omega (arith, pow-suc 2 v)))

pub width_zeros : (c z : ℕ) → 1 < c → c < 2 ^ 64 → z ≡ count_leading_zeros 64 (c - 1) → 64 - z ≡ width_of c
width_zeros c z p h e =
    let t = leading_length 64 (c - 1) (omega arith) in
    let same : 64 - z ≡ t.0 = omega (arith, t.1) in
    width_one c (64 - z) (width_of c) (subst (λ (w : ℕ). IsWidth c w) (sym same) (record {
      holds = λ k q. omega (arith, t.2);
      least = λ v q. least-of (c - 1) t.0 v t.3 (q (c - 1) (omega arith));
    })) (width_is c)
