-- `grid::flags::cell` meets its contract: by the flag. Assumes nothing.
use Rattle.tables.proofs.Laws.{cell-zero, cell-over}
use mathlib.Core.Path.{sym}
use Rattle.grid.proofs.flags.cell.Goals as goal

pub returns-then-ov-i-eq0 : goal.returns-then-ov-i-eq0
returns-then-ov-i-eq0 c = sym (cell-zero _ _ c.if-ov-i-eq0.true)

pub returns-else-ov-i-eq0 : goal.returns-else-ov-i-eq0
returns-else-ov-i-eq0 c = sym (cell-over _ _ c.if-ov-i-eq0.false)
