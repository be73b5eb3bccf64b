-- `edges::edges_number` meets its contract, from that of `calls::number`. Assumes nothing.
use Rattle.edges.proofs.Shows.{seen-told}
use Rattle.edges.proofs.edges_number.Goals as goal

pub returns : goal.returns
returns c = seen-told _ c.number-answer.ensures c.tell.ensures
