-- `job::is_small` ends: the pairs behind are fewer. Assumes nothing.
use Rattle.std.proofs.Common.{length}
use Rattle.job.proofs.+is_small.Given as goal

abbrev pub decreases-is_small : goal.decreases-is_small
decreases-is_small l = length l.pairs.now
