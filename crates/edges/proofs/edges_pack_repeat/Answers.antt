-- `edges::edges_pack_repeat` meets its contract: a refusal is told by its number. Assumes nothing.
use Rattle.edges.proofs.Shows.{repeat_refused}
use Rattle.edges.proofs.edges_pack_repeat.Goals as goal

pub returns-in-Err : goal.returns-in-Err
returns-in-Err c = repeat_refused c.from.ensures _ c.repeat.ensures c.in-Err.is
