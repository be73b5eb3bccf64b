-- What is said of a table by the plan of its shape.
--
--   stride_for p, cells_for p           how many cells a column has, and all of the table
--   start_for p, end_for p              where the cells of the start and of the end stand
--   Narrow p                          the plan has no more than the 32 columns of families 6 and 7
--   SizesFor p                        bounds of the plan's numbers
--   FormFor p sa sc                   the steps sa, sc with the plan's end are a form
--   Planned sa sc p                   the steps sa, sc have the form, the steepest and the deepest step that the plan p says, and are few if it says so
--   PlanOf s p                        the plan p is that of the shape s
--   PreparedFor, TableFor, FlaggedFor, SmallFor    Prepared, Table, Flagged and Small by a plan
--   SpansFor p starts stops           where the heights that matter of the plan's columns begin, and end
--   walks_for p sa sc                  how many walks lead to the end
--   count_for p sa sc                  the count by a plan
--   valid_for, rank_for lettered p sa sc e    whether e is an edge, written N E D where lettered is true, and its number if so; RankFor: r says which
--   NumbersFor lettered p sa sc es ..    the numbers of the edges es written, up to the first that is none, or refusal 4
--   edge_for lettered p sa sc r          the edge of the number r; ListsFor, BuildsFor: those of the numbers ns written, and those or refusal 4 or 6
--   RoomFor ns steps ends             there is room for the edges of the numbers ns
use Rattle.std.specs.Prelude.{◌≡◌, Bool, List, ℕ, ◌+◌, ◌*◌, ◌≤◌, length}
use Rattle.rules.specs.Refusals.Answer.{accepted}
use Rattle.std.specs.Prelude.{Result, Ok, Option}
use Rattle.job.specs.declared.Refusal.{Refusal}
use Rattle.lines.specs.Lines.{lined, LinedAs, Room}
use Rattle.lines.specs.Ranks.{RankIs, ranked, RankedAs}
use Rattle.tables.specs.declared.Plan.{Plan}
use Rattle.tables.specs.declared.Shape.{Shape}
use Rattle.tables.specs.Form.{Form, walks_to}
use Rattle.tables.specs.Cells.{cap_of, stride_of, place}
use Rattle.tables.specs.Table.{Steepest, Deepest, Few, Sizes, Prepared, Spans, Table, Flagged, Small}
use Rattle.tables.specs.Edges.{is_walk, walk_number, walk_at}
use Rattle.tables.specs.Numbering.{table_ranks}
use Rattle.tables.specs.Spelling.{edges_by, edges_for}

abbrev pub stride_for : Plan → ℕ
stride_for p = stride_of p.deep p.ey

abbrev pub cells_for : Plan → ℕ
cells_for p = (p.ex + 2) * stride_for p

abbrev pub start_for : Plan → ℕ
start_for p = place p.deep p.ey 0 0

abbrev pub end_for : Plan → ℕ
end_for p = place p.deep p.ey p.ex p.ey

abbrev pub SizesFor : Plan → Type 0
SizesFor p = Sizes p.wall p.hi p.deep p.ex p.ey

abbrev pub Narrow : Plan → Type 0
Narrow p = p.ex ≤ 32

abbrev pub FormFor : Plan → List ℕ → List ℕ → Type 0
FormFor p sa sc = Form p.k p.wall sa sc p.top p.ex p.ey

pub record Planned (sa sc : List ℕ) (p : Plan) : Type 0 where
  pub form : FormFor p sa sc
  pub steep : Steepest sa sc p.ex p.hi 8
  pub deep : Deepest sa sc p.top p.ex p.deep 8
  pub fewer : Few p.few sa p.ex

pub record PlanOf (s : Shape) (p : Plan) : Type 0 where
  pub planned : Planned s.sa s.sc p
  pub k_is : p.k ≡ s.k
  pub wall_is : p.wall ≡ s.wall
  pub ex_is : p.ex ≡ s.ex
  pub ey_is : p.ey ≡ s.ey

abbrev pub PreparedFor : Plan → List ℕ → List ℕ → List ℕ → ℕ → Type 0
PreparedFor p sa sc off size = Prepared p.few p.k p.wall sa sc off p.hi p.deep p.ex p.ey size

abbrev pub TableFor : Plan → List ℕ → List ℕ → List ℕ → ℕ → Type 0
TableFor p sa sc val x = Table p.k p.wall sa sc p.hi p.deep p.ex p.ey val x

abbrev pub SmallFor : Plan → List ℕ → List ℕ → ℕ → Type 0
SmallFor p sa sc x = Small p.k p.wall sa sc p.hi p.ex p.ey x

abbrev pub FlaggedFor : Plan → List ℕ → List ℕ → List ℕ → List ℕ → ℕ → Type 0
FlaggedFor p sa sc val ov x = Flagged p.k p.wall sa sc p.hi p.deep p.ex p.ey val ov x

abbrev pub SpansFor : Plan → List ℕ → List ℕ → Type 0
SpansFor p starts stops = Spans p.wall p.hi p.ex p.ey starts stops (p.ex + 1)

abbrev pub walks_for : Plan → List ℕ → List ℕ → ℕ
walks_for p sa sc = walks_to p.k p.wall sa sc p.ex p.ey

abbrev pub count_for : Plan → List ℕ → List ℕ → Option ℕ
count_for p sa sc = cap_of (walks_for p sa sc)

abbrev pub valid_for : Bool → Plan → List ℕ → List ℕ → List ℕ → Bool
valid_for lettered p sa sc e = is_walk lettered p.k p.wall sa sc p.ex p.ey e

abbrev pub rank_for : Bool → Plan → List ℕ → List ℕ → List ℕ → ℕ
rank_for lettered p sa sc e = walk_number lettered p.k p.wall sa sc p.ex p.ey e

abbrev pub RankFor : Bool → Plan → List ℕ → List ℕ → List ℕ → Option ℕ → Type 0
RankFor lettered p sa sc e r = RankIs (valid_for lettered p sa sc e) (rank_for lettered p sa sc e) r

abbrev pub NumbersFor : Bool → Plan → List ℕ → List ℕ → List (List ℕ) → List ℕ → List ℕ → Result ℕ Refusal → Type 0
NumbersFor lettered p sa sc es before after r = RankedAs (ranked (table_ranks lettered p.k p.wall sa sc p.ex p.ey es) before) r after

abbrev pub edge_for : Bool → Plan → List ℕ → List ℕ → ℕ → List ℕ
edge_for lettered p sa sc r = walk_at lettered p.k p.wall sa sc p.ex p.ey r

abbrev pub ListsFor : Bool → Plan → List ℕ → List ℕ → List ℕ → List ℕ → List ℕ → List ℕ → List ℕ → ℕ → Type 0
ListsFor lettered p sa sc ns steps ends after-steps after-ends at =
    LinedAs (lined (accepted (edges_by lettered p.k p.wall sa sc p.ex p.ey ns)) steps ends) (Ok at) after-steps after-ends

abbrev pub BuildsFor : Bool → Plan → List ℕ → List ℕ → List ℕ → List ℕ → List ℕ → List ℕ → List ℕ → Result ℕ Refusal → Type 0
BuildsFor lettered p sa sc ns steps ends after-steps after-ends r =
    LinedAs (lined (edges_for lettered p.k p.wall sa sc p.ex p.ey ns) steps ends) r after-steps after-ends

abbrev pub RoomFor : List ℕ → List ℕ → List ℕ → Type 0
RoomFor ns steps ends = Room (length ns) (length steps) (length ends)
