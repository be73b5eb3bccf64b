-- `grid::column::column` meets its contract: each turn sums one cell more. Assumes nothing.
use Rattle.grid.proofs.Sums.{Summing, Sources}
use Rattle.grid.proofs.column.column.Given as goal

abbrev pub invariant-loop-i : goal.invariant-loop-i
invariant-loop-i g l = Summing g.row.K l.initial.val l.g.sa l.g.off l.x l.d l.n l.val l.i × Sources g.row.K l.g.sa l.g.off l.x l.d l.n l.from
