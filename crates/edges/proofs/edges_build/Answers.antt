-- `edges::edges_build` meets its contract, from that of the write. Assumes nothing.
use Rattle.edges.proofs.Shows.{write-told}
use Rattle.edges.proofs.edges_build.Goals as goal

pub returns : goal.returns
returns c = write-told c.build-answer.ensures c.tell.ensures
