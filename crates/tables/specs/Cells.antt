-- The cells of the table: what they say, where they stand, and a run of them summed.
--
--   cap_of w                  the answer for a number: itself, or none where it needs more than 64 bits
--   cap_by                    the same, by whether it fits
--   cell_of v o               what a cell of value v and flag o says: none where the flag is not 0
--   cell_at val ov j          what cell j of a table with flags says
--   Put                      a table after cell i was made to say r
--   stride_of m ey            how many cells a column has: m zeros, and the heights 0 to ey
--   place m ey u y           where height y of column u stands; in front of column 0 is a column of zeros
--   source_of sa off x p i    where step i finds what it brings to cell p of column x: in the zeros in front where it leads left of the start
--   col_of n .. x d t         the sum that belongs at d + t, over the first n steps
--   Run n .. x d l           l cells from d can be summed: what they are summed from ends before them, and no sum is above 64 bits
--   Column n .. x d l        the table after: the sums in the run, and every other cell as it was
use Rattle.std.specs.Prelude.{◌≡◌, Bool, true, false, List, ℕ, ◌+◌, ◌-◌, ◌*◌, ◌^◌, ◌≤◌, ◌<◌, ltb, eqb, length, get_or}
use Rattle.howmany.specs.Choose.{pick}
use Rattle.howmany.specs.Sum.{sum}
use Rattle.std.specs.Prelude.{Option, Some, None}

abbrev pub cap_by : Bool → ℕ → Option ℕ
cap_by true w = Some w
cap_by false w = None

unfoldable pub cap_of : ℕ → Option ℕ
cap_of w = cap_by (ltb w (2 ^ 64)) w

unfoldable pub cell_of : ℕ → ℕ → Option ℕ
cell_of v o = pick (eqb o 0) (Some v) None

abbrev pub cell_at : List ℕ → List ℕ → ℕ → Option ℕ
cell_at val ov j = cell_of (get_or val j 0) (get_or ov j 0)

pub record Put (v o v' o' : List ℕ) (i : ℕ) (r : Option ℕ) : Type 0 where
  pub here : cell_at v' o' i ≡ r
  pub elsewhere : (j : ℕ) → (j ≡ i → ⊥) → cell_at v' o' j ≡ cell_at v o j

abbrev pub stride_of : ℕ → ℕ → ℕ
stride_of m ey = m + ey + 1

abbrev pub place : ℕ → ℕ → ℕ → ℕ → ℕ
place m ey u y = (u + 1) * stride_of m ey + (m + y)

unfoldable pub source_of : List ℕ → List ℕ → ℕ → ℕ → ℕ → ℕ
source_of sa off x p i = pick (ltb x (get_or sa i 0)) 0 (p - get_or off i 0)

abbrev pub col_of : ℕ → List ℕ → List ℕ → List ℕ → ℕ → ℕ → ℕ → ℕ
col_of n val sa off x d t = sum (λ i. get_or val (source_of sa off x d i + t) 0) n

pub record Run (n : ℕ) (val sa off : List ℕ) (x d l : ℕ) : Type 0 where
  pub inside : d + l ≤ length val
  pub back : (i : ℕ) → i < n → get_or sa i 0 ≤ x → get_or off i 0 ≤ d
  pub apart : (i : ℕ) → i < n → source_of sa off x d i + l ≤ d
  pub fits : (t : ℕ) → t < l → col_of n val sa off x d t < 2 ^ 64

pub record Column (n : ℕ) (val val' sa off : List ℕ) (x d l : ℕ) : Type 0 where
  pub here : (t : ℕ) → t < l → get_or val' (d + t) 0 ≡ col_of n val sa off x d t
  pub before : (j : ℕ) → j < d → get_or val' j 0 ≡ get_or val j 0
  pub after : (j : ℕ) → d + l ≤ j → get_or val' j 0 ≡ get_or val j 0
