-- `grid::heights::heights` meets its contract: the heights are laid one by one. Assumes nothing.
use Rattle.tables.specs.Heights.{Heights}
use Rattle.tables.proofs.Lowering.{Until}
use Rattle.grid.proofs.heights.heights.Given as goal

abbrev pub invariant-loop-i : goal.invariant-loop-i
invariant-loop-i l = Until (Heights l.mirrored l.d l.s.sa l.s.sc l.up) l.s.k l.i
