-- `grid::numbering::number_each` meets its contract: an edge more at each turn. Assumes nothing.
use mathlib.Core.Bool.{false}
use Rattle.lines.proofs.Ranking.{Ranking}
use Rattle.tables.specs.Plans.{valid_for, rank_for}
use Rattle.grid.proofs.numbering.number_each.Given as goal

abbrev pub invariant-loop-i : goal.invariant-loop-i
invariant-loop-i l =
    Ranking (valid_for false l.p l.g.sa l.g.sc) (rank_for false l.p l.g.sa l.g.sc) l.from l.ends l.bytes l.initial.numbers l.i l.at l.numbers
