-- `edges::edges_dip` meets its contract: a refusal is told by its number. Assumes nothing.
use Rattle.edges.proofs.Shows.{dip_refused}
use Rattle.edges.proofs.edges_dip.Goals as goal

pub returns-in-Err : goal.returns-in-Err
returns-in-Err c = dip_refused c.from.ensures _ c.dip.ensures c.in-Err.is
