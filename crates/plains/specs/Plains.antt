-- The counts of families 1 and 3 by n and m, and a row of them.
--
--   ends d n m          L(n,m), or D(n,m) where d
--   plain_answer d n m  it, or refusal 4
--   Row d n j l         the list l has the counts to (0, j), (1, j), .., (n, j)
--   NextRow d n l k r   from the row of any j the row of j + 1 is made, and its last count fits 64 bits, or, where r is false, it doesn't
use Rattle.std.specs.Prelude.{◌≡◌, ℕ, ◌+◌, ◌^◌, ◌<◌, ◌≤◌, Bool, true, false, List, length, nat_le, slice_index}
use Rattle.rules.specs.Counts.{L, Dl}
use Rattle.rules.specs.Answers.{most}
use Rattle.rules.specs.Refusals.{Answer, check}
use Rattle.rules.specs.Refusals.Refusal.{over}
use Rattle.rules.specs.Refusals.Answer.{accepted}

-- "Family 1 (000, eq. 2): L(n,m) = L(n,m-1) + L(n-1,m); 1 if n or m is 0." "Family 3 (000, eq. 6): D(n,m) = D(n,m-1) + D(n-1,m) +
-- D(n-1,m-1); 1 if n or m is 0."
abbrev pub ends : Bool → ℕ → ℕ → ℕ
ends false n m = L n m
ends true n m = Dl n m

-- "The answer is a count or a refusal number, never both."; "4 Over: the count exceeds 18446744073709551615"
abbrev pub plain_answer : Bool → ℕ → ℕ → Answer ℕ
plain_answer d n m = check (nat_le (ends d n m) most) over (accepted (ends d n m))

unfoldable pub Row : Bool → ℕ → ℕ → List ℕ → Type 0
Row d n j l = (i : ℕ) → i ≤ n → slice_index l i ≡ ends d i j

pub record NextRow (d : Bool) (n : ℕ) (l k : List ℕ) (r : Bool) : Type 0 where
  pub long : length k ≡ length l
  pub row : (j : ℕ) → Row d n j l → r ≡ true → Row d n (j + 1) k
  pub fits : (j : ℕ) → Row d n j l → r ≡ true → ends d n (j + 1) < 2 ^ 64
  pub over : (j : ℕ) → Row d n j l → r ≡ false → 2 ^ 64 ≤ ends d n (j + 1)
