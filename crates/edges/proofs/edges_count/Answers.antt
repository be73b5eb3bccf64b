-- `edges::edges_count` meets its contract, from that of `calls::count`. Assumes nothing.
use Rattle.edges.proofs.Shows.{seen-told}
use Rattle.edges.proofs.edges_count.Goals as goal

pub returns : goal.returns
returns c = seen-told _ c.count-answer.ensures c.tell.ensures
