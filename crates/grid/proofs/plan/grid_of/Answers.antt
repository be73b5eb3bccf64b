-- `grid::plan::grid_of` meets its contract: what is too far has room too. Assumes nothing.
use mathlib.Core.Path.{refl}
use native.Mathlib.Omega.{arith}
use lib.ListN.{length-set}
use Rattle.tables.specs.Plans.{stride_for}
use Rattle.tables.proofs.Prepare.{offset-more}
use Rattle.grid.proofs.plan.grid_of.Goals as goal

pub loop-i-preserved : goal.loop-i-preserved
loop-i-preserved c = (simp length-set c.loop-i.invariant.0, offset-more c.args.s.now.sa c.args.s.now.sc c.loop-i.off (stride_for c.args.p) c.loop-i.i _ c.loop-i.invariant.1 (omega arith) refl)

pub returns : goal.returns
returns c = record { sa_is = refl; sc_is = refl; offs = record { is = λ i l. c.loop-i.invariant.1 i (omega arith) } }
