-- `grid::edges::spell` meets its contract: at each step what is written so far and what is left make up the edge. Assumes nothing.
use mathlib.Core.Path.{refl}
use mathlib.Core.Bool.{false}
use native.Mathlib.Omega.{arith}
use lib.ListN.{length-set}
use Rattle.tables.proofs.Numbers.{end_is}
use Rattle.tables.proofs.Building.{writing_start, writing-done, writing_more, seek_needs, spell-room, picked, step_in, step_back, next-letter, writing-end}
use Rattle.grid.proofs.edges.spell.Goals as goal

pub loop-at-init : goal.loop-at-init
loop-at-init c = (refl, record { x = _; writing = writing_start false c.requires.0 (omega (arith, c.requires.1, end_is c.requires.0)) c.requires.2 c.end_of-at.ensures })

pub seek-q-requires : goal.seek-q-requires
seek-q-requires c = let w = c.loop-at.invariant.1.writing in let n = seek_needs w (writing_more w c.start_of-start.ensures c.loop-at-test.true) in record { summed = n.0; r_bound = n.1 }

pub overflow_sub-s : goal.overflow_sub-s
overflow_sub-s c = let w = c.loop-at.invariant.1.writing in (spell-room w (writing_more w c.start_of-start.ensures c.loop-at-test.true)).0

pub glyph_of-requires : goal.glyph_of-requires
glyph_of-requires c = let w = c.loop-at.invariant.1.writing in let px = writing_more w c.start_of-start.ensures c.loop-at-test.true in step_in w px (picked w px c.seek-q.ensures.0)

pub bounds-buf-s : goal.bounds-buf-s
bounds-buf-s c = let w = c.loop-at.invariant.1.writing in (spell-room w (writing_more w c.start_of-start.ensures c.loop-at-test.true)).1

pub loop-at-smaller : goal.loop-at-smaller
loop-at-smaller c = let w = c.loop-at.invariant.1.writing in let px = writing_more w c.start_of-start.ensures c.loop-at-test.true in let b = step_back w px (picked w px c.seek-q.ensures.0) in omega (arith, c.seek-q.ensures.1)

pub loop-at-preserved : goal.loop-at-preserved
loop-at-preserved c = (simp length-set c.loop-at.invariant.0, let w = c.loop-at.invariant.1.writing in let px = writing_more w c.start_of-start.ensures c.loop-at-test.true in record { x = _; writing = next-letter w px (picked w px c.seek-q.ensures.0) c.seek-q.ensures.1 c.glyph_of.ensures })

pub returns : goal.returns
returns c = (c.loop-at.invariant.1.writing.s_le, let w = c.loop-at.invariant.1.writing in (writing-end w (writing-done w c.start_of-start.ensures c.loop-at-test.false)).1)
