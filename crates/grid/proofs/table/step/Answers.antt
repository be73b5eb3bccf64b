-- `grid::table::step` meets its contract: the column's run is summed over no more steps than there are, and is small for its place or as
-- seen. Assumes nothing.
use native.Mathlib.Omega.{arith}
use Rattle.grid.proofs.Turns.{first2, first4, first8, step_fits, step-empty, run, run_inside, early, early_2, early_4, early_8, seen}
use borrow.Author.Rules.{rules}
use Rattle.grid.proofs.table.step.Goals as goal

pub offset_bounds-ranges-x : goal.offset_bounds-ranges-x
offset_bounds-ranges-x c = record { fits = (step_fits c.requires.unflagged c.requires.spans_for).byte }

pub bounds-ranges-x : goal.bounds-ranges-x
bounds-ranges-x c = (step_fits c.requires.unflagged c.requires.spans_for).column

pub offset_bounds-ranges-x-2 : goal.offset_bounds-ranges-x-2
offset_bounds-ranges-x-2 c = record { fits = (step_fits c.requires.unflagged c.requires.spans_for).byte }

pub bounds-ranges-x-2 : goal.bounds-ranges-x-2
bounds-ranges-x-2 c = (step_fits c.requires.unflagged c.requires.spans_for).column

pub returns-then-to-from : goal.returns-then-to-from
returns-then-to-from c = step-empty c.requires.unflagged c.requires.spans_for c.if-to-from.true

pub overflow_add-d : goal.overflow_add-d
overflow_add-d c = record { fits = (step_fits c.requires.unflagged c.requires.spans_for).next }

pub overflow_add-d-2 : goal.overflow_add-d-2
overflow_add-d-2 c = record { fits = (step_fits c.requires.unflagged c.requires.spans_for).tall }

pub overflow_add-d-3 : goal.overflow_add-d-3
overflow_add-d-3 c = record { fits = (step_fits c.requires.unflagged c.requires.spans_for).stride }

pub overflow_mul-d : goal.overflow_mul-d
overflow_mul-d c = record { fits = (step_fits c.requires.unflagged c.requires.spans_for).base }

pub overflow_add-d-4 : goal.overflow_add-d-4
overflow_add-d-4 c = record { fits = (step_fits c.requires.unflagged c.requires.spans_for).height c.if-to-from.false }

pub overflow_add-d-5 : goal.overflow_add-d-5
overflow_add-d-5 c = record { fits = (step_fits c.requires.unflagged c.requires.spans_for).cell c.if-to-from.false }

pub column-requires : goal.column-requires
column-requires c = (omega arith, run c.requires.unflagged c.requires.spans_for c.if-to-from.false (first2 c.requires.unflagged c.if-p-le2.true))

pub returns-then-p-le2 : goal.returns-then-p-le2
returns-then-p-le2 c = early c.requires.unflagged c.requires.spans_for c.if-to-from.false (first2 c.requires.unflagged c.if-p-le2.true) c.column.ensures 60 early_2 (omega (arith, (step_fits c.requires.unflagged c.requires.spans_for).column))

pub column-requires-then-p : goal.column-requires-then-p
column-requires-then-p c = (omega arith, run c.requires.unflagged c.requires.spans_for c.if-to-from.false (first4 c.requires.unflagged c.if-p.true))

pub returns-then-x-le30 : goal.returns-then-x-le30
returns-then-x-le30 c = early c.requires.unflagged c.requires.spans_for c.if-to-from.false (first4 c.requires.unflagged c.if-p.true) c.column-then-p.ensures 30 early_4 c.if-x-le30.true

pub is_small-requires : goal.is_small-requires
is_small-requires c = run_inside c.requires.unflagged c.requires.spans_for c.if-to-from.false (first4 c.requires.unflagged c.if-p.true) (search rules)

pub returns-then-p : goal.returns-then-p
returns-then-p c = seen c.requires.unflagged c.requires.spans_for c.if-to-from.false (first4 c.requires.unflagged c.if-p.true) c.column-then-p.ensures _ c.is_small.ensures

pub column-requires-2 : goal.column-requires-2
column-requires-2 c = (omega arith, run c.requires.unflagged c.requires.spans_for c.if-to-from.false (first8 c.requires.unflagged))

pub returns-then-x-le20 : goal.returns-then-x-le20
returns-then-x-le20 c = early c.requires.unflagged c.requires.spans_for c.if-to-from.false (first8 c.requires.unflagged) c.column-2.ensures 20 early_8 c.if-x-le20.true

pub is_small-requires-2 : goal.is_small-requires-2
is_small-requires-2 c = run_inside c.requires.unflagged c.requires.spans_for c.if-to-from.false (first8 c.requires.unflagged) (search rules)

pub returns : goal.returns
returns c = seen c.requires.unflagged c.requires.spans_for c.if-to-from.false (first8 c.requires.unflagged) c.column-2.ensures _ c.is_small-2.ensures
