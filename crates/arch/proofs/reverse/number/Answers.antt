-- `arch::reverse::number` meets its contract: the path that is read starts at the first byte and ends at (n, n), or no walk goes by the bytes.
-- Assumes nothing.
use Rattle.arch.proofs.ReadingBack.{none-way, none-front, none-size, is_edge_lem}
use Rattle.arch.proofs.reverse.number.Goals as goal

pub returns-in_err-p : goal.returns-in_err-p
returns-in_err-p c = rw c.from_residual.ensures (none-way _ _ c.in_err-p.ensures)

pub returns-then-p-ne0 : goal.returns-then-p-ne0
returns-then-p-ne0 c = none-front _ _ c.in_ok-p.ensures c.if-p-ne0.true

pub returns-then-p-parts : goal.returns-then-p-parts
returns-then-p-parts c = none-size _ _ c.in_ok-p.ensures c.if-p-ne0.false c.if-p-parts.true

pub returns : goal.returns
returns c = is_edge_lem _ _ c.in_ok-p.ensures c.if-p-ne0.false c.if-p-parts.false
