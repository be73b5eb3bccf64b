-- `arch::numbering::rank` meets its contract: by the reader that d picks. Assumes nothing.
use Rattle.arch.proofs.Tables.{dee_table, dyck_table}
use Rattle.arch.proofs.Calls.{rank-of}
use Rattle.arch.proofs.numbering.rank.Goals as goal

pub returns-then-d : goal.returns-then-d
returns-then-d c =
    let full = dee_table c.if-d.true c.args.parts.now.full in
    rw c.if-d.true (rank-of full c.args.edge.now c.number.result c.number.ensures)

pub number-requires-2 : goal.number-requires-2
number-requires-2 c = c.if-d.false

pub returns : goal.returns
returns c =
    let full = dyck_table c.if-d.false c.args.parts.now.full in
    rw c.if-d.false (rank-of full c.args.edge.now c.number-2.result c.number-2.ensures)
