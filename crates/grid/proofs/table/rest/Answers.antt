-- `grid::table::rest` meets its contract: column by column, with flags that are all 0 at first. Assumes nothing.
use mathlib.Core.Path.{refl}
use native.Mathlib.Omega.{arith}
use Rattle.tables.proofs.Phases.{ready_len, resume, flagged_filled, end-cells, end-room}
use Rattle.grid.proofs.table.rest.Goals as goal

pub loop-x-init : goal.loop-x-init
loop-x-init c = (refl, refl, c.requires.unfinished.ready, resume c.args.val.now c.requires.unfinished.table (λ j. (c.type_inv.val j).fits))

pub turn-requires : goal.turn-requires
turn-requires c = record { flagging = record { ready = c.loop-x.invariant.2; room = omega (arith, c.loop-x.invariant.2.sizes.cells); table = c.loop-x.invariant.3; start = omega arith; end = omega arith }; spans_for = c.requires.spans_for }

pub loop-x-preserved : goal.loop-x-preserved
loop-x-preserved c = (omega arith, omega arith, ready_len c.loop-x.invariant.2 (omega arith), c.turn.ensures)

pub cell-requires : goal.cell-requires
cell-requires c =
    let q = end-cells c.loop-x.invariant.2 in
    let r = end-room c.loop-x.invariant.2 in
    let e = c.end_of.ensures in
    (omega arith, omega arith)

pub returns : goal.returns
returns c = flagged_filled c.loop-x.val c.loop-x.ov c.loop-x.invariant.3 (omega (arith, c.loop-x.auto.x-end (omega (arith, c.requires.unfinished.end)))) c.cell.ensures c.end_of.ensures
