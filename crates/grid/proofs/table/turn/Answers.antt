-- `grid::table::turn` meets its contract: a column with no height that matters is left as it is. Assumes nothing.
use Rattle.tables.proofs.Walls.{span_low, span_high}
use Rattle.tables.proofs.Phases.{turn-none}
use Rattle.grid.proofs.table.turn.Goals as goal

pub returns-then-to-from : goal.returns-then-to-from
returns-then-to-from c = turn-none c.requires.flagging (span_low c.requires.spans_for c.requires.flagging.start c.requires.flagging.end) (span_high c.requires.spans_for c.requires.flagging.start c.requires.flagging.end) c.if-to-from.true
