-- `grid::cone::roof_at` meets its contract: by whether the wall is a roof, and whether it is lower. Assumes nothing.
use borrow.Author.Tests.{not-true, not-false}
use Rattle.tables.proofs.Walls.{roof_free, roof-under}
use Rattle.grid.proofs.cone.roof_at.Goals as goal

pub returns-then-not-f : goal.returns-then-not-f
returns-then-not-f c = roof_free _ _ _ (not-true _ c.if-not-f.true)

pub returns : goal.returns
returns c = rw c.min.ensures (roof-under _ _ _ (not-false _ c.if-not-f.false))
