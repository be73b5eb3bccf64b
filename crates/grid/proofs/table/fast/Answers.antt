-- `grid::table::fast` meets its contract: column by column, while the next one needs no test. Assumes nothing.
use mathlib.Core.Path.{◌≡◌, refl}
use Prim.Native.Nat.{◌+◌}
use native.Mathlib.Omega.{arith}
use Rattle.tables.proofs.Phases.{ready_len, first_in, begin_table, begin_small, begin_ready}
use Rattle.grid.proofs.table.fast.Goals as goal

pub offset_bounds-val-start : goal.offset_bounds-val-start
offset_bounds-val-start c = let h = first_in c.requires.blank c.start_of-start.ensures in omega arith

pub bounds-val-start : goal.bounds-val-start
bounds-val-start c = first_in c.requires.blank c.start_of-start.ensures

pub loop-x-init : goal.loop-x-init
loop-x-init c =
    let b = c.requires.blank in
    let s = c.start_of-start.ensures in
    (refl, begin_ready b s, begin_table b s, begin_small b s)

pub step-small-requires : goal.step-small-requires
step-small-requires c = record { unflagged = record { ready = c.loop-x.invariant.1; table = c.loop-x.invariant.2; small = c.loop-x.invariant.3; start = omega arith; end = omega arith }; spans_for = c.requires.spans_for }

pub returns-then-not-small : goal.returns-then-not-small
returns-then-not-small c = record { table = c.step-small.ensures.table; start = omega arith; end = omega arith }

pub loop-x-preserved : goal.loop-x-preserved
loop-x-preserved c = (omega arith, ready_len c.loop-x.invariant.1 (omega arith), c.step-small.ensures.table, c.step-small.ensures.small c.if-not-small.false)

pub returns : goal.returns
returns c = let e : c.loop-x.x ≡ c.args.p.ex + 1 = omega (arith, c.requires.blank.ready.sizes.ex_le) in record { table = rw e at c.loop-x.invariant.2; start = omega arith; end = omega arith }
