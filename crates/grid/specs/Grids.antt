-- What the functions over the table of a plan and its grid ask and leave: the words of `tables`, of the grid's steps and offsets.
--
--   LaidOut p g        the steps of the grid g have the form that the plan p says, its offsets are right, and there are no more than 32 columns
--   GridOf s p g       the grid g is that of the shape s and its plan p
--   PreparedBy, BlankBy, UnflaggedBy, ColumnDoneBy, FilledToBy, UnfinishedBy, FlaggingBy, FlaggedBy, FlaggingSpanBy, FilledBy, ReadableBy    PreparedFor, Blank, .., Readable
--   SpansBy p r        where the heights that matter of the plan's columns begin, and end
use Rattle.std.specs.Prelude.{◌≡◌, Bool, List, ℕ, Option}
use Rattle.tables.specs.declared.Plan.{Plan}
use Rattle.tables.specs.declared.Shape.{Shape}
use Rattle.tables.specs.Table.{Offsets}
use Rattle.tables.specs.Plans.{stride_for, Narrow, Planned, PreparedFor, FlaggedFor, SpansFor}
use Rattle.tables.specs.Filling.{Blank, Unflagged, ColumnDone, FilledTo, Unfinished, Flagging, FlaggingSpan, Filled, Readable}
use Rattle.grid.specs.declared.plan.Grid.{Grid}
use Rattle.grid.specs.declared.cone.Ranges.{Ranges}

pub record LaidOut (p : Plan) (g : Grid) : Type 0 where
  pub planned : Planned g.sa g.sc p
  pub offs : Offsets g.sa g.sc g.off (stride_for p)
  pub narrow : Narrow p

pub record GridOf (s : Shape) (p : Plan) (g : Grid) : Type 0 where
  pub sa_is : g.sa ≡ s.sa
  pub sc_is : g.sc ≡ s.sc
  pub offs : Offsets g.sa g.sc g.off (stride_for p)

abbrev pub PreparedBy : Plan → Grid → ℕ → Type 0
PreparedBy p g cells = PreparedFor p g.sa g.sc g.off cells

abbrev pub BlankBy : Plan → Grid → List ℕ → Type 0
BlankBy p g val = Blank p g.sa g.sc g.off val

abbrev pub UnflaggedBy : Plan → Grid → List ℕ → ℕ → Type 0
UnflaggedBy p g val x = Unflagged p g.sa g.sc g.off val x

abbrev pub ColumnDoneBy : Plan → Grid → List ℕ → ℕ → Bool → Type 0
ColumnDoneBy p g val x r = ColumnDone p g.sa g.sc val x r

abbrev pub FilledToBy : Plan → Grid → List ℕ → ℕ → Type 0
FilledToBy p g val r = FilledTo p g.sa g.sc val r

abbrev pub UnfinishedBy : Plan → Grid → List ℕ → ℕ → Type 0
UnfinishedBy p g val x = Unfinished p g.sa g.sc g.off val x

abbrev pub FlaggingBy : Plan → Grid → List ℕ → List ℕ → ℕ → Type 0
FlaggingBy p g val ov x = Flagging p g.sa g.sc g.off val ov x

abbrev pub FlaggedBy : Plan → Grid → List ℕ → List ℕ → ℕ → Type 0
FlaggedBy p g val ov x = FlaggedFor p g.sa g.sc val ov x

abbrev pub FlaggingSpanBy : Plan → Grid → List ℕ → List ℕ → ℕ → ℕ → ℕ → Type 0
FlaggingSpanBy p g val ov x from to = FlaggingSpan p g.sa g.sc g.off val ov x from to

abbrev pub FilledBy : Plan → Grid → List ℕ → Option ℕ → Type 0
FilledBy p g val r = Filled p g.sa g.sc val r

abbrev pub ReadableBy : Plan → Grid → List ℕ → Type 0
ReadableBy p g val = Readable p g.sa g.sc g.off val

abbrev pub SpansBy : Plan → Ranges → Type 0
SpansBy p r = SpansFor p r.starts r.stops
