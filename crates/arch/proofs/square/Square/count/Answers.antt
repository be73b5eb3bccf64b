-- `arch::square::Square::count` meets its contract: the last of the memo's counts, or a constant, which is what the recurrence computes. Assumes nothing.
use mathlib.Core.Bool.{true}
use Rattle.howmany.specs.Sum.{sum}
use Rattle.arches.specs.Counts.{counts}
use Rattle.arch.proofs.Tables.{table-less}
use Rattle.arch.proofs.Constants.{turned, upwards, schroder-table, motzkin-table}
use Rattle.arch.proofs.Calls.{count-of}
use Rattle.arch.proofs.square.Square.count.Goals as goal

pub returns-in-Dyck : goal.returns-in-Dyck
returns-in-Dyck c = rw c.in-Dyck.is (count-of c.dyck_counts.ensures)

pub returns-in-Schroder : goal.returns-in-Schroder
unfolding upwards turned counts sum
returns-in-Schroder c = rw c.in-Schroder.is (count-of (table-less true 0 28 _ _ (rw c.in-Schroder.is at c.requires) schroder-table))

pub returns-in-Motzkin : goal.returns-in-Motzkin
unfolding upwards turned counts sum
returns-in-Motzkin c = rw c.in-Motzkin.is (count-of (table-less true 1 45 _ _ (rw c.in-Motzkin.is at c.requires) motzkin-table))
