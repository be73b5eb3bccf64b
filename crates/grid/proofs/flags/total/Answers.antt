-- `grid::flags::total` meets its contract: the sum so far fits, or the whole doesn't. Assumes nothing.
use mathlib.Core.Path.{refl, ◌∙◌}
use native.Mathlib.Omega.{arith}
use Rattle.howmany.specs.Sum.{sum}
use Rattle.tables.proofs.Laws.{total-done, total-over, total-more, total_wraps}
use Rattle.tables.proofs.Phases.{said}
use Rattle.grid.proofs.flags.total.Goals as goal

pub loop-i-init : goal.loop-i-init
unfolding sum
loop-i-init c = (omega arith, λ g says. refl)

pub source-s-requires : goal.source-s-requires
source-s-requires c = record { i_bound = omega arith; i_bound_2 = c.requires.back _ (omega arith) }

pub returns-in_err-v : goal.returns-in_err-v
returns-in_err-v c = λ g says. c.from_residual.ensures ∙ total-over g _ _ _ (c.loop-i.invariant.1 g says) c.loop-i-test.true _ (said c.args.g.now.sa c.args.g.now.off c.args.val.now c.args.ov.now c.args.x c.args.at g says _ c.loop-i-test.true c.source-s.ensures c.cell.ensures) c.in_err-v.was

pub returns-in_err-acc : goal.returns-in_err-acc
returns-in_err-acc c =
    λ g says. c.from_residual-in_err-acc.ensures ∙ total_wraps g _ _ _ (c.loop-i.invariant.1 g says) c.loop-i-test.true _ (said c.args.g.now.sa c.args.g.now.off c.args.val.now c.args.ov.now c.args.x c.args.at g says _ c.loop-i-test.true c.source-s.ensures c.cell.ensures) _ c.in_ok-v.was (omega (arith, c.in_err-acc.ensures))

pub loop-i-preserved : goal.loop-i-preserved
loop-i-preserved c = (omega (arith, c.in_ok-acc.ensures), λ g says. c.in_ok-acc.ensures.1 ∙ total-more g _ _ _ (c.loop-i.invariant.1 g says) c.loop-i-test.true _ (said c.args.g.now.sa c.args.g.now.off c.args.val.now c.args.ov.now c.args.x c.args.at g says _ c.loop-i-test.true c.source-s.ensures c.cell.ensures) _ c.in_ok-v.was)

pub returns : goal.returns
returns c = λ g says. total-done g _ _ _ (c.loop-i.invariant.1 g says) (omega arith) c.loop-i-test.false c.loop-i.invariant.0
