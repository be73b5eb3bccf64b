-- `grid::column::source` meets its contract: by the test that led there. Assumes nothing.
use borrow.Author.Tests.{lt-ltb, le-ltb}
use Rattle.tables.specs.Cells.{source_of}
use Rattle.grid.proofs.column.source.Goals as goal

pub returns-then-x-g : goal.returns-then-x-g
unfolding source_of
returns-then-x-g c = rw (lt-ltb _ _ c.if-x-g.true)

pub returns-else-x-g : goal.returns-else-x-g
unfolding source_of
returns-else-x-g c = rw (le-ltb _ _ c.if-x-g.false)
