-- `grid::edges::read` meets its contract: at each step what is read so far and what is left make up the edge's validity and its number.
-- Assumes nothing.
use mathlib.Core.Bool.{false}
use native.Mathlib.Omega.{arith}
use Rattle.tables.proofs.Numbers.{stand_in, end-stand, reads-summed, not_there, walking_start, walking-reads, walking-fits, not_letter, not_back, stepped, not_start, walking-end}
use Rattle.grid.proofs.edges.read.Goals as goal

pub offset_bounds-val-at : goal.offset_bounds-val-at
offset_bounds-val-at c = let h = stand_in c.requires (end-stand c.requires c.end_of-at.ensures) in omega arith

pub bounds-val-at : goal.bounds-val-at
bounds-val-at c = stand_in c.requires (end-stand c.requires c.end_of-at.ensures)

pub returns-then-val-at-eq0 : goal.returns-then-val-at-eq0
returns-then-val-at-eq0 c = not_there false _ c.requires c.end_of-at.ensures c.if-val-at-eq0.true

pub loop-i-init : goal.loop-i-init
loop-i-init c = walking_start false _ c.requires c.end_of-at.ensures c.if-val-at-eq0.false

pub returns-then-p-l : goal.returns-then-p-l
returns-then-p-l c = not_letter c.loop-i.invariant c.loop-i-test.true c.ordinal_of-l.ensures c.if-p-l.true

pub offset_bounds-val-from : goal.offset_bounds-val-from
offset_bounds-val-from c = let h = (walking-reads c.loop-i.invariant).inside in omega arith

pub bounds-val-from : goal.bounds-val-from
bounds-val-from c = omega (arith, (walking-reads c.loop-i.invariant).inside)

pub returns-then-val-from-eq0 : goal.returns-then-val-from-eq0
returns-then-val-from-eq0 c = not_back c.loop-i.invariant c.loop-i-test.true c.ordinal_of-l.ensures c.if-p-l.false c.back-from.ensures c.if-val-from-eq0.true

pub part_sum-acc-requires : goal.part_sum-acc-requires
part_sum-acc-requires c = reads-summed (walking-reads c.loop-i.invariant) _ (omega arith)

pub overflow_add-acc : goal.overflow_add-acc
overflow_add-acc c = record { fits = walking-fits c.loop-i.invariant _ (omega arith) c.part_sum-acc.ensures }

pub loop-i-preserved : goal.loop-i-preserved
loop-i-preserved c = stepped c.loop-i.invariant c.loop-i-test.true c.ordinal_of-l.ensures c.if-p-l.false c.back-from.ensures (λ q. omega arith) c.part_sum-acc.ensures

pub returns-then-at-start_of : goal.returns-then-at-start_of
returns-then-at-start_of c = not_start c.loop-i.invariant c.loop-i-test.false c.start_of.ensures c.if-at-start_of.true

pub returns : goal.returns
returns c = walking-end c.loop-i.invariant c.loop-i-test.false c.start_of.ensures c.if-at-start_of.false
