-- What document 01 corrects in source document 000.
--
--   binomial n i       the binomial coefficient, by equation 1: L(n,m) is that of n + m over m
--   equation5 a n m    equation 5, with i from a to the lesser of n and m
--   one_term_more c n        M(n), were its sum to have the term more that algorithm 10's loop would look at, that of i = n-1: it asks for M(-1), and
--                      c is taken for that
--   Corrections        the corrections
use Rattle.std.specs.Prelude.{◌≡◌, ℕ, suc, ◌+◌, ◌-◌, ◌*◌, ◌^◌, ◌<◌, min}
use Rattle.howmany.specs.Sum.{sum}
use Rattle.rules.specs.Counts.{L, Dl, M}

abbrev pub binomial : ℕ → ℕ → ℕ
binomial n i = L (n - i) i

abbrev pub equation5 : ℕ → ℕ → ℕ → ℕ
equation5 a n m = sum (λ j. binomial n (a + j) * binomial m (a + j) * 2 ^ (a + j)) (suc (min n m) - a)

abbrev pub one_term_more : ℕ → ℕ → ℕ
one_term_more c n = M (n - 1) + (sum (λ i. M i * M (n - 2 - i)) (n - 1) + M (n - 1) * c)

pub record Corrections : Type 0 where
  -- "Equation 5 there sums from 1 and gives 2 for D(1,1); the recurrence gives 3 and decides."
  pub sums_from_one : equation5 1 1 1 ≡ 2
  pub decides : Dl 1 1 ≡ 3
  -- from 0 it gives what the recurrence gives; so too for figure 7's 25 paths to (3,2)
  pub sums_from_zero : equation5 0 1 1 ≡ 3
  pub figure_7 : (equation5 1 3 2 ≡ 24) × (Dl 3 2 ≡ 25) × (equation5 0 3 2 ≡ 25)
  -- "M(n) = M(n-1) + sum over i from 0 to n-2 of M(i)·M(n-2-i). Algorithm 10 in 000 runs i one too far.": for n = 3 i runs to 1, and with a
  -- term more the sum is right only if that term is nothing
  pub ends_at_one : (M 3 ≡ 4) × (M 2 + (M 0 * M 1 + M 1 * M 0) ≡ 4)
  pub one_too_far : (n c : ℕ) → 1 < n → one_term_more c n ≡ M n → c ≡ 0
