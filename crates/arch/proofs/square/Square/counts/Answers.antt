-- `arch::square::Square::counts` meets its contract: the memo's counts, or the constants, which are what the recurrence computes. Assumes nothing.
use mathlib.Core.Bool.{true}
use Rattle.howmany.specs.Sum.{sum}
use Rattle.arches.specs.Counts.{counts}
use Rattle.arch.proofs.Tables.{table-less}
use Rattle.arch.proofs.Constants.{turned, upwards, schroder-table, motzkin-table}
use Rattle.arch.proofs.square.Square.counts.Goals as goal
use Rattle.arch.proofs.square.Square.counts.Goals.{in-Dyck, in-Schroder, in-Motzkin}

pub invariant_of-result : goal.invariant_of-result
unfolding upwards turned counts sum
invariant_of-result c =
    elim c.match-self.branch [
      | in-Dyck w ↦ rw w.result-is (record { full = w.dyck_counts.ensures })
      | in-Schroder w ↦ rw w.result-is (record { full = table-less true 0 28 _ _ (rw w.in-Schroder.is at c.requires) schroder-table })
      | in-Motzkin w ↦ rw w.result-is (record { full = table-less true 1 45 _ _ (rw w.in-Motzkin.is at c.requires) motzkin-table })
    ]
