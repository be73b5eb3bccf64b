-- `grid::counting::count` meets its contract: by whether there is a shape, and then by the table's answer. Assumes nothing.
use native.Mathlib.Omega.{arith}
use Rattle.tables.proofs.Counted.{counts-value, counts-told, plan_count}
use Rattle.grid.proofs.Paired.{count_laid}
use Rattle.grid.proofs.counting.count.Goals as goal

pub returns-in_default : goal.returns-in_default
returns-in_default c = rw c.in_default.is (λ J w. counts-value J 0 w.none (omega arith))

pub returns : goal.returns
returns c =
    rw c.in-Some.is (λ J w. counts-told J (plan_count J _ w.fits c.plan_of-p.ensures) (count_laid c.plan_of-p.ensures c.grid_of-g.ensures c.count_walks.ensures) c.ok_or.ensures.value)
