-- `arch::forward::number` meets its contract: all of the bytes are read, and to (n, n), or no walk goes by them. Assumes nothing.
use Rattle.arch.proofs.Reading.{none-way, none-long, none-size, is_edge_lem}
use Rattle.arch.proofs.forward.number.Goals as goal

pub returns-in_err-p : goal.returns-in_err-p
returns-in_err-p c = rw c.from_residual.ensures (none-way _ _ _ c.in_err-p.ensures)

pub returns-then-p-s : goal.returns-then-p-s
returns-then-p-s c = none-long c.in_ok-p.ensures c.if-p-s.true

pub returns-then-p-parts : goal.returns-then-p-parts
returns-then-p-parts c = none-size c.in_ok-p.ensures c.if-p-parts.true

pub returns : goal.returns
returns c = is_edge_lem c.in_ok-p.ensures c.if-p-s.false c.if-p-parts.false
