-- `grid::plan::plan_of` meets its contract: the steepest and the deepest step are found by one loop. Assumes nothing.
use mathlib.Core.Path.{refl}
use native.Mathlib.Omega.{arith}
use Rattle.tables.proofs.Prepare.{steepest_more, steepest_at, deepest_more, deepest_at}
use Rattle.grid.proofs.plan.plan_of.Goals as goal

pub loop-i-preserved : goal.loop-i-preserved
loop-i-preserved c = (steepest_more c.loop-i.invariant.0 _ c.steeper-hi.ensures.0 c.steeper-hi.ensures.1 c.steeper-hi.ensures.2, deepest_more c.loop-i.invariant.1 _ c.deeper-deep.ensures.0 c.deeper-deep.ensures.1 c.deeper-deep.ensures.2)

pub returns : goal.returns
returns c = record {
  planned = record { form = c.requires.0; steep = steepest_at c.loop-i.invariant.0 (omega arith); deep = deepest_at c.loop-i.invariant.1 (omega arith); fewer = c.is_few-few.ensures };
  k_is = refl;
  wall_is = refl;
  ex_is = refl;
  ey_is = refl;
}
