-- `grid::numbering::number_edges` meets its contract: by whether there is a shape, and then by its plan. Assumes nothing.
use Rattle.lines.specs.Lines.{cut_from}
use Rattle.tables.proofs.Counted.{numbers-none}
use Rattle.grid.proofs.Paired.{numbers_as}
use Rattle.grid.proofs.numbering.number_edges.Goals as goal

pub returns-in_default : goal.returns-in_default
returns-in_default c = rw c.in_default.is (λ J w. numbers-none J _ _ w.none w.empty)

pub returns : goal.returns
returns c = rw c.in-Some.is (numbers_as c.plan_of-p.ensures c.grid_of-g.ensures (cut_from c.args.from c.args.ends.now c.args.bytes.now) _ _ _ c.number_planned.ensures)
