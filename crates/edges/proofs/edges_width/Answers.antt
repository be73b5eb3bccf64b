-- `edges::edges_width` meets its contract, from that of `calls::width`. Assumes nothing.
use Rattle.edges.proofs.Shows.{seen-told}
use Rattle.edges.proofs.edges_width.Goals as goal

pub returns : goal.returns
returns c = seen-told _ c.width-answer.ensures c.tell.ensures
