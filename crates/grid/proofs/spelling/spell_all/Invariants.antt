-- `grid::spelling::spell_all` meets its contract: each edge is spelt where the one before it ends. Assumes nothing.
use mathlib.Core.Bool.{false}
use Rattle.lines.proofs.Lining.{Lining}
use Rattle.tables.specs.Plans.{edge_for}
use Rattle.grid.proofs.spelling.spell_all.Given as goal

abbrev pub invariant-loop-i : goal.invariant-loop-i
invariant-loop-i l = Lining (edge_for false l.p l.g.sa l.g.sc) l.numbers l.initial.steps l.initial.ends l.i l.at l.steps l.ends
