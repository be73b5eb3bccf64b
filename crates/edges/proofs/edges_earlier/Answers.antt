-- `edges::edges_earlier` meets its contract: a refusal is told by its number. Assumes nothing.
use Rattle.edges.proofs.Shows.{second_refused}
use Rattle.edges.proofs.edges_earlier.Goals as goal

pub returns-in-Err : goal.returns-in-Err
returns-in-Err c = second_refused c.from.ensures _ c.compare.ensures c.in-Err.is
