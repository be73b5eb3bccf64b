-- `edges::edges_pack_write` meets its contract, from that of the write. Assumes nothing.
use Rattle.edges.proofs.Shows.{write-told}
use Rattle.edges.proofs.edges_pack_write.Goals as goal

pub returns : goal.returns
returns c = write-told c.write-written.ensures c.tell.ensures
