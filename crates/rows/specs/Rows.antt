-- A table filled row by row, where the steps are those of families 1 and 3: "L(n,m) = L(n,m-1) + L(n-1,m)" and "D(n,m) = D(n,m-1) +
-- D(n-1,m) + D(n-1,m-1)", so along a row each cell is the one before it and what the row below brings, and a sum is kept in hand.
--
--   Rises a b       one of the two is 1, the other 0
--   PlainMoves three    the steps are (1,1) and (1,0), in either order, and (2,1) where three is true
--   PlainSteps        such steps, so that hi is 6 and m is 1, for an end that they can reach; PlainStepsFor: by a plan
--   Done y i u v    of row v the cell in column u is filled, when the rows below y are, and i cells of row y
--   Rows .. y i     the cells that are filled are right, and every other one is 0; row v runs from column v to v + n
--   RowsFor         the same by a plan
--   Rowing          what filling row y asks
--   Rowed           what it leaves: row y too, or, where r is false, a count at the end that needs more than 64 bits
--   Risen           the same for all rows
use Rattle.std.specs.Prelude.{◌≡◌, ℕ, ◌+◌, ◌-◌, ◌^◌, ◌<◌, ◌≤◌, Bool, true, false, ◌⊎◌, List, length, ◌==◌, ◌≢◌, slice_index, slice_index_or}
use Rattle.howmany.specs.Choose.{pick}
use Rattle.tables.specs.Form.{walks_to, unwalled}
use Rattle.tables.specs.Cells.{place}
use Rattle.tables.specs.declared.Plan.{Plan}
use Rattle.tables.specs.Plans.{PreparedFor, walks_for}
use Rattle.tables.specs.Filling.{FilledTo}
use Rattle.tables.specs.declared.Wall.{Wall}

abbrev pub Rises : ℕ → ℕ → Type 0
Rises a b = ((a ≡ 1) × (b ≡ 0)) ⊎ ((a ≡ 0) × (b ≡ 1))

pub record PlainMoves (three : Bool) (k : ℕ) (f : Wall) (sa sc : List ℕ) : Type 0 where
  pub level : f ≡ unwalled
  pub many : k ≡ pick three 3 2
  pub one : slice_index_or sa 0 0 ≡ 1
  pub two : slice_index_or sa 1 0 ≡ 1
  pub rise : Rises (slice_index sc 0) (slice_index sc 1)
  pub third : three ≡ true → (slice_index sa 2 ≡ 2) × (slice_index sc 2 ≡ 1)

pub record PlainSteps (k : ℕ) (f : Wall) (sa sc : List ℕ) (hi m ex ey : ℕ) : Type 0 where
  pub plain : PlainMoves (k == 3) k f sa sc
  pub slope : hi ≡ 6
  pub deep : m ≡ 1
  pub wide : ey ≤ ex

-- the steps sa, sc are those of families 1 and 3, and can reach the plan's end
abbrev pub PlainStepsFor : Plan → List ℕ → List ℕ → Type 0
PlainStepsFor p sa sc = PlainSteps p.k p.wall sa sc p.hi p.deep p.ex p.ey

abbrev pub Done : ℕ → ℕ → ℕ → ℕ → Type 0
Done y i u v = (v < y) ⊎ ((v ≡ y) × (u < y + i))

pub record Rows (k : ℕ) (f : Wall) (sa sc : List ℕ) (m ey n : ℕ) (val : List ℕ) (y i : ℕ) : Type 0 where
  pub right : (u v : ℕ) → Done y i u v → v ≤ u → u ≤ v + n → slice_index val (place m ey u v) ≡ walks_to k f sa sc u v
  pub other : (j : ℕ) → ((u v : ℕ) → Done y i u v → v ≤ u → u ≤ v + n → j ≢ place m ey u v) → slice_index val j ≡ 0

abbrev pub RowsFor : Plan → List ℕ → List ℕ → List ℕ → ℕ → ℕ → Type 0
RowsFor p sa sc val y i = Rows p.k p.wall sa sc p.deep p.ey (p.ex - p.ey) val y i

pub record Rowing (p : Plan) (sa sc off val : List ℕ) (y : ℕ) : Type 0 where
  pub ready : PreparedFor p sa sc off (length val)
  pub steps : PlainStepsFor p sa sc
  pub rows : RowsFor p sa sc val y 0
  pub inside : y ≤ p.ey

pub record Rowed (p : Plan) (sa sc val : List ℕ) (y : ℕ) (r : Bool) : Type 0 where
  pub rows : r ≡ true → RowsFor p sa sc val (y + 1) 0
  pub over : r ≡ false → 2 ^ 64 ≤ walks_for p sa sc

pub record Risen (p : Plan) (sa sc val : List ℕ) (r : Bool) : Type 0 where
  pub got : r ≡ true → FilledTo p sa sc val (p.ex + 1)
  pub over : r ≡ false → 2 ^ 64 ≤ walks_for p sa sc
