-- `grid::plan::plan_of` meets its contract: the steepest and the deepest step are found by one loop. Assumes nothing.
use Rattle.tables.specs.Table.{Steepest, Deepest}
use Rattle.grid.proofs.plan.plan_of.Given as goal

abbrev pub invariant-loop-i : goal.invariant-loop-i
invariant-loop-i l = Steepest l.s.sa l.s.sc l.s.ex l.hi l.i × Deepest l.s.sa l.s.sc l.s.top l.s.ex l.deep l.i
