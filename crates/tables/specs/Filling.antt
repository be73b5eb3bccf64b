-- What the functions that fill the table of a plan ask and leave.
--
--   Blank      a table of zeros, ready to be filled
--   Unflagged     before column x, with no flags needed yet
--   ColumnDone      after column x; where r is true the next one needs no flags either
--   FilledTo        the columns before r are right
--   Unfinished    the columns from x on are still to be filled, with flags
--   Flagging       before column x, with flags
--   FlaggingSpan       the same, where the heights that matter run from `from` to `to`
--   Part       column x filled as far as height y
--   Parts      what the eight steps bring to cell p of column x can be read
--   Says       what that is; Totals: r says their sum
--   AllRight      with flags beside them all cells that matter are right
--   Filled     the answer for the end, and a table filled where there is one
--   Readable       a filled table, and the end's count fits
--   Legible        the same of some steps, where only their offsets are at hand
--   BySteps        P holds of all steps whose readable table this is
use Rattle.std.specs.Prelude.{◌≡◌, Bool, true, List, ℕ, ◌+◌, ◌^◌, ◌≤◌, ◌<◌, length, get_or}
use Rattle.howmany.specs.Sum.{sum}
use Rattle.std.specs.Prelude.{Option, None}
use Rattle.tables.specs.declared.Plan.{Plan}
use Rattle.tables.specs.Form.{walks_to}
use Rattle.tables.specs.Cells.{cap_of, cell_at, place, source_of}
use Rattle.tables.specs.Table.{From, To, Cells}
use Rattle.tables.specs.Plans.{cells_for, PreparedFor, TableFor, FlaggedFor, SmallFor, walks_for, count_for}

pub record Blank (p : Plan) (sa sc off val : List ℕ) : Type 0 where
  pub ready : PreparedFor p sa sc off (length val)
  pub zero_at : (j : ℕ) → get_or val j 0 ≡ 0

pub record Unflagged (p : Plan) (sa sc off val : List ℕ) (x : ℕ) : Type 0 where
  pub ready : PreparedFor p sa sc off (length val)
  pub table : TableFor p sa sc val x
  pub small : SmallFor p sa sc x
  pub start : 1 ≤ x
  pub end : x ≤ p.ex

pub record ColumnDone (p : Plan) (sa sc val : List ℕ) (x : ℕ) (r : Bool) : Type 0 where
  pub table : TableFor p sa sc val (x + 1)
  pub small : r ≡ true → SmallFor p sa sc (x + 1)

pub record FilledTo (p : Plan) (sa sc val : List ℕ) (r : ℕ) : Type 0 where
  pub table : TableFor p sa sc val r
  pub start : 1 ≤ r
  pub end : r ≤ p.ex + 1

pub record Unfinished (p : Plan) (sa sc off val : List ℕ) (x : ℕ) : Type 0 where
  pub ready : PreparedFor p sa sc off (length val)
  pub table : TableFor p sa sc val x
  pub start : 1 ≤ x
  pub end : x ≤ p.ex

pub record Flagging (p : Plan) (sa sc off val ov : List ℕ) (x : ℕ) : Type 0 where
  pub ready : PreparedFor p sa sc off (length val)
  pub room : cells_for p ≤ length ov
  pub table : FlaggedFor p sa sc val ov x
  pub start : 1 ≤ x
  pub end : x ≤ p.ex

pub record FlaggingSpan (p : Plan) (sa sc off val ov : List ℕ) (x from to : ℕ) : Type 0 where
  pub turn : Flagging p sa sc off val ov x
  pub fr : From p.wall p.hi p.ex p.ey x from
  pub up : To p.wall p.hi p.ey x to
  pub lt : from < to

pub record Part (p : Plan) (sa sc : List ℕ) (x from : ℕ) (val₀ ov₀ val ov : List ℕ) (y : ℕ) : Type 0 where
  pub before : (j : ℕ) → j < place p.deep p.ey x from → cell_at val ov j ≡ cell_at val₀ ov₀ j
  pub after : (j : ℕ) → place p.deep p.ey x y ≤ j → cell_at val ov j ≡ cell_at val₀ ov₀ j
  pub here : (t : ℕ) → from ≤ t → t < y → cell_at val ov (place p.deep p.ey x t) ≡ cap_of (walks_to p.k p.wall sa sc x t)

pub record Parts (sa off val ov : List ℕ) (x p : ℕ) : Type 0 where
  pub back : (i : ℕ) → i < 8 → get_or sa i 0 ≤ x → get_or off i 0 ≤ p
  pub in_val : (i : ℕ) → i < 8 → source_of sa off x p i < length val
  pub in_ov : (i : ℕ) → i < 8 → source_of sa off x p i < length ov

abbrev pub Says : List ℕ → List ℕ → List ℕ → List ℕ → ℕ → ℕ → (ℕ → ℕ) → Type 0
Says sa off val ov x p g = (i : ℕ) → i < 8 → cell_at val ov (source_of sa off x p i) ≡ cap_of (g i)

abbrev pub Totals : List ℕ → List ℕ → List ℕ → List ℕ → ℕ → ℕ → Option ℕ → Type 0
Totals sa off val ov x p r = (g : ℕ → ℕ) → Says sa off val ov x p g → r ≡ cap_of (sum g 8)

pub record AllRight (p : Plan) (sa sc val : List ℕ) : Type 0 where
  pub ov : List ℕ
  pub flags : Cells cap_of (cell_at val ov) p.k p.wall sa sc p.hi p.deep p.ex p.ey (p.ex + 1)

pub record Filled (p : Plan) (sa sc val : List ℕ) (r : Option ℕ) : Type 0 where
  pub answer : r ≡ count_for p sa sc
  pub solid : (r ≡ None → ⊥) → AllRight p sa sc val

pub record Readable (p : Plan) (sa sc off val : List ℕ) : Type 0 where
  pub ready : PreparedFor p sa sc off (length val)
  pub solid : AllRight p sa sc val
  pub fits : walks_for p sa sc < 2 ^ 64

pub record Legible (p : Plan) (off val : List ℕ) : Type 0 where
  pub sa : List ℕ
  pub sc : List ℕ
  pub readable : Readable p sa sc off val

abbrev pub BySteps : Plan → List ℕ → List ℕ → (List ℕ → List ℕ → Type 0) → Type 0
BySteps p off val P = (sa sc : List ℕ) → Readable p sa sc off val → P sa sc
