-- `edges::edges_pack_edge` meets its contract: a refusal is told by its number. Assumes nothing.
use Rattle.edges.proofs.Shows.{part_refused}
use Rattle.edges.proofs.edges_pack_edge.Goals as goal

pub returns-in-Err : goal.returns-in-Err
returns-in-Err c = part_refused c.from.ensures _ c.part.ensures c.in-Err.is
