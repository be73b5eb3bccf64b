-- What the functions ask of a few numbers, each by itself: a search inside a function's proof reads all that the function knows, and
-- is slow where that is much. Assumes nothing.
--
--   none_left                      a number up to 0 is 0
--   back_on                        one less than a number, and one more
--   half_back                      what is before a half
--   falls-less, falls-first        the measure falls: where two functions call each other, and where three do
--   twice_most, twice_le, in_as_many    room for the bytes of an edge, and for one among as many
--   span_less, first-le, first-less    the sizes of an arch's parts
--   both-le                        the size of the first of both parts, in the room
--   parts_fit, sum-parts           the sums that the code makes fit
use mathlib.Core.Path.{◌≡◌}
use Prim.Native.Nat.{ℕ, ◌+◌, ◌-◌, ◌*◌, ◌/◌, ◌^◌, ◌≤◌, ◌<◌}
use native.Mathlib.Omega.{arith}

-- ---- one number, or a sum
pub none_left : (n : ℕ) → n ≤ 0 → n ≡ 0
none_left n h = omega arith

pub back_on : (k : ℕ) → 0 < k → k - 1 + 1 ≡ k
back_on k h = omega arith

pub half_back : (i n : ℕ) → 0 < n → i ≤ n / 2 → i - 1 < n
half_back i n h l = omega arith

-- ---- what falls
pub falls-less : (m n t : ℕ) → 2 * n ≡ t → m < n → 2 * m + 1 < t
falls-less m n t e l = omega arith

pub falls-first : (m n t : ℕ) → 3 * n ≡ t → m < n → 3 * m + 1 < t
falls-first m n t e l = omega arith

-- ---- room and places
pub twice_most : (n : ℕ) → n ≤ 45 → n + n ≤ 128
twice_most n h = omega arith

pub twice_le : (n k : ℕ) → n ≤ 45 → 128 ≤ k → n + n ≤ k
twice_le n k h l = omega arith

pub in_as_many : (i m k l : ℕ) → i < m → m ≤ l → k ≡ l → i < k
in_as_many i m k l h g e = omega arith

-- ---- sizes
pub span_less : (v n : ℕ) → 0 < n → v ≤ n - 1 → n - 1 - v + v < n
span_less v n h l = omega arith

pub first-le : (i v n : ℕ) → i ≤ n - 1 - v → i ≤ n
first-le i v n l = omega arith

pub first-less : (i v n : ℕ) → 0 < n → i ≤ n - 1 - v → i < n
first-less i v n h l = omega arith

pub both-le : (i j room n : ℕ) → i + j + 1 ≤ room → room ≤ n → i ≤ n
both-le i j room n h l = omega arith

-- ---- what fits 64 bits
pub parts_fit : (a b c : ℕ) → a + (b + c) < 2 ^ 64 → (c < 2 ^ 64) × (b + c < 2 ^ 64)
parts_fit a b c h = (omega arith, omega arith)

pub sum-parts : (a b k : ℕ) → a + b ≡ k → k < 2 ^ 64 → (b < 2 ^ 64) × (a + b < 2 ^ 64)
sum-parts a b k e h = (omega arith, omega arith)
