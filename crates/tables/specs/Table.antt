-- The table of counts, as far as its cells can matter to the end (ex, ey), and what is found out of a form before it is filled.
--
--   Steepest, Deepest    six times the steepest of the first n steps that are there, and the deepest
--   Offsets              how far back each step's cells lie
--   Few                  where few is true, only the first four steps are there
--   Slopes               hi is six times the steepest step, m the deepest; what isn't there is too far
--   Bounded f            bounds of the wall f
--   Sizes                bounds of the numbers, so that no place of a cell is above 64 bits
--   Prepared             all of these, for a table of that size
--   Ends hi ex ey u y    from height y of column u the end's height can still be reached
--   Fence f x r          r is the lowest height of column x that the wall f allows if it is a fence, else 0
--   Roof f x y r         r is no higher than the wall f allows if it is a roof, and of the heights above r those that it allows are above y
--   From, To             where the heights of column x that matter begin, and end
--   Spans                where those of the columns from 1 to before n begin, and end; there are no more than 32
--   Cells T at           the columns before x are right, as far as they can matter; at is what a cell says, T how it says a number
--   Sheet T at           the same, and every cell of the columns from x on says 0
--   itself               a number as a table of values says it
--   Table                a sheet of values
--   Flagged              a sheet of values and flags
--   Small                eight numbers of the columns before x can be summed
use Rattle.std.specs.Prelude.{◌≡◌, Bool, true, false, List, ℕ, ◌+◌, ◌-◌, ◌*◌, ◌≤◌, ◌<◌, T, get_or}
use Rattle.tables.specs.Form.{wall, walks_to}
use Rattle.tables.specs.Cells.{cap_of, cell_at, stride_of, place}
use Rattle.tables.specs.declared.Wall.{Wall}

pub record Steepest (sa sc : List ℕ) (ex hi n : ℕ) : Type 0 where
  pub le : hi ≤ 72
  pub all : (i : ℕ) → i < n → get_or sa i 0 ≤ ex → 6 * get_or sc i 0 ≤ hi * get_or sa i 0

pub record Deepest (sa sc : List ℕ) (top ex m n : ℕ) : Type 0 where
  pub le : m ≤ top
  pub all : (i : ℕ) → i < n → get_or sa i 0 ≤ ex → get_or sc i 0 ≤ m

pub record Offsets (sa sc off : List ℕ) (stride : ℕ) : Type 0 where
  pub is : (i : ℕ) → i < 8 → get_or off i 0 ≡ get_or sa i 0 * stride + get_or sc i 0

pub record Few (few : Bool) (sa : List ℕ) (ex : ℕ) : Type 0 where
  pub gone : few ≡ true → (i : ℕ) → 4 ≤ i → i < 8 → ex < get_or sa i 0

pub record Slopes (k : ℕ) (sa sc : List ℕ) (hi m ex : ℕ) : Type 0 where
  pub most : k ≤ 8
  pub pos : (i : ℕ) → i < 8 → 1 ≤ get_or sa i 0
  pub away : (i : ℕ) → k ≤ i → i < 8 → ex < get_or sa i 0
  pub steep : (i : ℕ) → i < 8 → get_or sa i 0 ≤ ex → 6 * get_or sc i 0 ≤ hi * get_or sa i 0
  pub deep : (i : ℕ) → i < 8 → get_or sa i 0 ≤ ex → get_or sc i 0 ≤ m

pub record Bounded (f : Wall) : Type 0 where
  pub slope_le : f.slope ≤ 100
  pub start_le : f.start ≤ 100

pub record Sizes (f : Wall) (hi m ex ey : ℕ) : Type 0 where
  pub wall_le : Bounded f
  pub hi_le : hi ≤ 1000
  pub m_le : m ≤ 1000
  pub ex_le : ex ≤ 97
  pub ey_le : ey ≤ 1000
  pub cells : (ex + 2) * stride_of m ey ≤ 3712

pub record Prepared (few : Bool) (k : ℕ) (f : Wall) (sa sc off : List ℕ) (hi m ex ey size : ℕ) : Type 0 where
  pub sizes : Sizes f hi m ex ey
  pub slopes : Slopes k sa sc hi m ex
  pub offs : Offsets sa sc off (stride_of m ey)
  pub fewer : Few few sa ex
  pub room : (ex + 2) * stride_of m ey ≤ size

abbrev pub Ends : ℕ → ℕ → ℕ → ℕ → ℕ → Type 0
Ends hi ex ey u y = (y ≤ ey) × (6 * ey ≤ 6 * y + hi * (ex - u))

pub record Fence (f : Wall) (x r : ℕ) : Type 0 where
  pub most : r ≤ f.slope * x
  pub inside : f.roof ≡ false → f.slope * x ≤ r + f.start
  pub least : (y : ℕ) → y < r → T (wall f x y) → ⊥

pub record From (f : Wall) (hi ex ey x r : ℕ) : Type 0 where
  pub inside : f.roof ≡ false → f.slope * x ≤ r + f.start
  pub ends : 6 * ey ≤ 6 * r + hi * (ex - x)
  pub least : (y : ℕ) → y < r → 6 * ey ≤ 6 * y + hi * (ex - x) → T (wall f x y) → ⊥

pub record Roof (f : Wall) (x y r : ℕ) : Type 0 where
  pub inside : f.roof ≡ true → r ≤ f.slope * x + f.start
  pub beyond : (v : ℕ) → r < v → T (wall f x v) → y < v

pub record To (f : Wall) (hi ey x r : ℕ) : Type 0 where
  pub under : r ≤ ey + 1
  pub inside : f.roof ≡ true → (y : ℕ) → y < r → y ≤ f.slope * x + f.start
  pub beyond : (y : ℕ) → r ≤ y → y ≤ ey → T (wall f x y) → hi * x < 6 * y

pub record Spans (f : Wall) (hi ex ey : ℕ) (starts stops : List ℕ) (n : ℕ) : Type 0 where
  pub narrow : ex ≤ 32
  pub low : (x : ℕ) → 1 ≤ x → x < n → From f hi ex ey x (get_or starts x 0)
  pub high : (x : ℕ) → 1 ≤ x → x < n → To f hi ey x (get_or stops x 0)

pub record Cells {A : Type 0} (T : ℕ → A) (at : ℕ → A) (k : ℕ) (f : Wall) (sa sc : List ℕ) (hi m ex ey x : ℕ) : Type 0 where
  pub right : (u y : ℕ) → u < x → Ends hi ex ey u y → at (place m ey u y) ≡ T (walks_to k f sa sc u y)
  pub margin : (u t : ℕ) → t < m → at (u * stride_of m ey + t) ≡ T 0
  pub front : (t : ℕ) → t < stride_of m ey → at t ≡ T 0

pub record Sheet {A : Type 0} (T : ℕ → A) (at : ℕ → A) (k : ℕ) (f : Wall) (sa sc : List ℕ) (hi m ex ey x : ℕ) : Type 0 where
  pub cells : Cells T at k f sa sc hi m ex ey x
  pub blank : (j : ℕ) → (x + 1) * stride_of m ey ≤ j → at j ≡ T 0

abbrev pub itself : ℕ → ℕ
itself w = w

abbrev pub Table : ℕ → Wall → List ℕ → List ℕ → ℕ → ℕ → ℕ → ℕ → List ℕ → ℕ → Type 0
Table k f sa sc hi m ex ey val x = Sheet itself (λ j. get_or val j 0) k f sa sc hi m ex ey x

abbrev pub Flagged : ℕ → Wall → List ℕ → List ℕ → ℕ → ℕ → ℕ → ℕ → List ℕ → List ℕ → ℕ → Type 0
Flagged k f sa sc hi m ex ey val ov x = Sheet cap_of (cell_at val ov) k f sa sc hi m ex ey x

pub record Small (k : ℕ) (f : Wall) (sa sc : List ℕ) (hi ex ey x : ℕ) : Type 0 where
  pub small : (u y : ℕ) → u < x → Ends hi ex ey u y → walks_to k f sa sc u y ≤ 2305843009213693951
