-- Laws of numbers in digits. Assumes nothing.
--
--   decimal-is      the fewest digits that hold n are n in digits
--   decimal-long    a number has 20 digits at most
--   signed_low, signed_high    a byte below 128, and from 128 on
use mathlib.Core.Path.{◌≡◌, refl, sym, ap, subst}
use mathlib.Core.Bool.{Bool, false}
use mathlib.Core.List.{[], ◌∷◌}
use Prim.Native.Nat.{ℕ, zero, suc, ◌-◌, ◌/◌, ◌%◌, ◌^◌, ◌≤◌, ◌<◌}
use native.Mathlib.Nat.{pow-le-pow_right, le_trans}
use native.Mathlib.Decide.{dec_lt}
use native.Mathlib.Omega.{arith}
use lib.Dec.{ltb}
use lib.ListN.{length, length-append}
use borrow.Author.Tests.{lt-ltb, le-ltb}
use Rattle.io.specs.Digits.{last_digits, hex_digit_ascii, IsDigitCount}
use Rattle.howmany.specs.Least.{least}
use Rattle.howmany.proofs.Leasts.{least_at, least-none, least-most}
use Rattle.rules.specs.Blocks.{signed}
use Rattle.listing.specs.Listing.{places, decimal, signed_text}

-- k + 1 digits hold n
abbrev holds : ℕ → ℕ → Bool
holds n k = ltb n (10 ^ suc k)

places-suc : (n k : ℕ) → IsDigitCount 10 1 n (suc k) → k ≤ 19 → suc k ≡ places n
unfolding places
places-suc n k f l = ap suc (sym (go (dec_lt k 19)))
  where
    fails : (i : ℕ) → i < k → holds n i ≡ false
    fails i h =
        let s : suc k - 1 ≡ k = omega arith in
        let more : 10 ^ k ≤ n = subst (λ (z : ℕ). 10 ^ z ≤ n) s (f.2 (omega arith)) in
        let grows : 10 ^ suc i ≤ 10 ^ k = pow-le-pow_right {n = 10} (omega arith) {i = suc i} {j = k} (omega arith) in
        le-ltb n (10 ^ suc i) (le_trans grows more)

    go : Dec (k < 19) → least (holds n) 19 ≡ k
    go (yes h) = least_at (holds n) k 19 (least-none (holds n) k fails) (lt-ltb n (10 ^ suc k) f.1) h
    go (no h) = let q : 19 ≡ k = omega arith in subst (λ (z : ℕ). least (holds n) z ≡ k) (sym q) (least-none (holds n) k fails)

places_is : (n r : ℕ) → IsDigitCount 10 1 n r → r ≤ 20 → r ≡ places n
places_is n zero f l = absurd (omega (arith, f.0))
places_is n (suc k) f l = places-suc n k f (omega arith)

pub decimal-is : (n r : ℕ) → IsDigitCount 10 1 n r → r ≤ 20 → last_digits 10 r n ≡ decimal n
unfolding decimal
decimal-is n r f l = ap (λ (k : ℕ). last_digits 10 k n) (places_is n r f l)

length_digits : (k n : ℕ) → length (last_digits 10 k n) ≡ k
length_digits zero n = refl
length_digits (suc k) n = omega (arith, length-append (last_digits 10 k (n / 10)) (hex_digit_ascii (n % 10) ∷ []), length_digits k (n / 10))

twenty : (k : ℕ) → k ≤ 19 → suc k ≤ 20
twenty k l = omega arith

places-most : (n : ℕ) → places n ≤ 20
unfolding places
places-most n = twenty (least (holds n) 19) (least-most (holds n) 19)

pub decimal-long : (n : ℕ) → length (decimal n) ≤ 20
unfolding decimal
decimal-long n = subst (λ (k : ℕ). k ≤ 20) (sym (length_digits (places n) n)) (places-most n)

pub signed_low : (x : ℕ) → x < 128 → decimal x ≡ signed_text (signed x)
unfolding signed signed_text
signed_low x l = rw (lt-ltb x 128 l) refl

pub signed_high : (x : ℕ) → 128 ≤ x → x < 256 → 45 ∷ decimal (256 - x) ≡ signed_text (signed x)
unfolding signed signed_text
signed_high x l h =
    let q : 256 - x ≡ suc (255 - x) = omega arith in
    rw (le-ltb x 128 l) (ap (λ (k : ℕ). 45 ∷ decimal k) q)
