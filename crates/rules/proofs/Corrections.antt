-- What document 01 corrects in source document 000, computed; and that M's sum with a term more is right for no n above 1, unless that term
-- is nothing, by M's recurrence.
-- Assumes nothing.
--
--   M-some         no M is 0
--   corrections    the corrections
use mathlib.Core.Path.{◌≡◌, refl}
use mathlib.Core.Bool.{true}
use Prim.Native.Nat.{ℕ, zero, suc, ◌-◌, ◌*◌, ◌≤◌, ◌<◌}
use native.Mathlib.Nat.{mul-le-mul_left}
use native.Mathlib.Omega.{arith}
use Rattle.howmany.specs.Sum.{sum}
use Rattle.arches.specs.Counts.{count, counts}
use Rattle.arches.proofs.Counting.{count-zero, count-suc}
use Rattle.rules.specs.Counts.{L, Dl, M}
use Rattle.rules.specs.Corrections.{Corrections, one_term_more}
use Rattle.rules.proofs.Recurrences.{M_rules}

M-some : (n : ℕ) → 0 < M n
unfolding M
M-some zero = omega (arith, count-zero true 1)
M-some (suc n) = omega (arith, count-suc true 1 n, M-some n)

none : (a c : ℕ) → 0 < a → a * c ≡ 0 → c ≡ 0
none a zero l e = refl
none a (suc c) l e = let h : 1 ≤ suc c = omega arith in absurd (omega (arith, mul-le-mul_left a h))

pub corrections : Corrections
unfolding L Dl M count counts sum
corrections = record {
  sums_from_one = refl;
  decides = refl;
  sums_from_zero = refl;
  figure_7 = (refl, refl, refl);
  ends_at_one = (refl, refl);
  one_too_far = too_far;
}
  where
    too_far : (n c : ℕ) → 1 < n → one_term_more c n ≡ M n → c ≡ 0
    too_far n c l e = none (M (n - 1)) c (M-some (n - 1)) (omega (arith, e, M_rules.others n l))
