-- Laws of the counts of families 1 and 3. Assumes nothing.
--
--   ends-none, ends-rim    1 where n or m is 0
--   ends_next              the recurrence
--   ends-up, ends-right    they grow with m and with n; ends-most: with both
--   ends_turned            the same for n and m turned
--   ends-over              above 64 bits where n and m are above 33
use Rattle.std.proofs.Common.{◌≡◌, ℕ, zero, suc, ◌+◌, ◌-◌, ◌^◌, ◌<◌, ◌≤◌, Bool, true, false, sym, refl, ap, ◌∙◌, le_trans, le_refl, arith, lit≤}
use native.Mathlib.Decide.{le_ind}
use Rattle.howmany.specs.Choose.{pick}
use Rattle.rules.specs.Counts.{L, Dl}
use Rattle.plains.specs.Plains.{ends}

pub ends-none : (d : Bool) (m : ℕ) → ends d 0 m ≡ 1
unfolding L Dl
ends-none false m = refl
ends-none true m = refl

pub ends-rim : (d : Bool) (n : ℕ) → ends d n 0 ≡ 1
unfolding L Dl
ends-rim false zero = refl
ends-rim false (suc n) = refl
ends-rim true zero = refl
ends-rim true (suc n) = refl

ends-step : (d : Bool) (n m : ℕ) → ends d (suc n) (suc m) ≡ ends d (suc n) m + ends d n (suc m) + pick d (ends d n m) 0
unfolding L Dl
ends-step false n m = omega arith
ends-step true n m = refl

pub ends_next : (d : Bool) (n m : ℕ) → 1 ≤ n → ends d n (m + 1) ≡ ends d (n - 1) (m + 1) + ends d n m + pick d (ends d (n - 1) m) 0
ends_next d n m h =
    let e : n ≡ suc (n - 1) = omega arith in
    let g : m + 1 ≡ suc m = omega arith in
    ap (λ (z : ℕ). ends d z (m + 1)) e ∙ ap (ends d (suc (n - 1))) g ∙ ends-step d (n - 1) m
    ∙ omega (arith, ap (λ (z : ℕ). ends d z m) (sym e), ap (ends d (n - 1)) (sym g))

pub ends-up : (d : Bool) (n m : ℕ) → ends d n m ≤ ends d n (suc m)
ends-up d zero m = omega (arith, ends-none d m, ends-none d (suc m))
ends-up d (suc n) m = omega (arith, ends-step d n m)

pub ends-right : (d : Bool) (n m : ℕ) → ends d n m ≤ ends d (suc n) m
ends-right d n zero = omega (arith, ends-rim d n, ends-rim d (suc n))
ends-right d n (suc m) = omega (arith, ends-step d n m)

pub ends-most : (d : Bool) (n m p q : ℕ) → n ≤ p → m ≤ q → ends d n m ≤ ends d p q
ends-most d n m p q l h =
    le_trans (le_ind (λ (k : ℕ). ends d n m ≤ ends d n k) (le_refl (ends d n m)) (λ k g ih. le_trans ih (ends-up d n k)) q h)
    (le_ind (λ (k : ℕ). ends d n q ≤ ends d k q) (le_refl (ends d n q)) (λ k g ih. le_trans ih (ends-right d k q)) p l)

pub ends_turned : (d : Bool) (n m : ℕ) → ends d n m ≡ ends d m n
ends_turned d zero m = ends-none d m ∙ sym (ends-rim d m)
ends_turned d (suc n) zero = ends-rim d (suc n) ∙ sym (ends-none d (suc n))
ends_turned d (suc n) (suc m) =
    let t : pick d (ends d n m) 0 ≡ pick d (ends d m n) 0 = ap (λ (z : ℕ). pick d z 0) (ends_turned d n m) in
    omega (arith, ends-step d n m, ends-step d m n, ends_turned d (suc n) m, ends_turned d n (suc m))

at_34 : (d : Bool) → 2 ^ 64 ≤ ends d 34 34
unfolding L Dl
at_34 false = lit≤ tt
at_34 true = lit≤ tt

pub ends-over : (d : Bool) (n m : ℕ) → 33 < n → 33 < m → 2 ^ 64 ≤ ends d n m
ends-over d n m l h = le_trans (at_34 d) (ends-most d 34 34 n m l h)
