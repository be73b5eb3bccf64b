-- `body::lines_of` meets its contract: after i turns i lines are printed. Assumes nothing.
use Rattle.listing.proofs.Printing.{printed-none, printed-next}
use Rattle.listing.proofs.body.lines_of.Goals as goal

pub loop-i-init : goal.loop-i-init
loop-i-init c = printed-none _ _ _

pub loop-i-preserved : goal.loop-i-preserved
loop-i-preserved c = printed-next _ _ _ c.requires _ _ _ c.loop-i.invariant c.loop-i-test.true _ c.line.ensures
