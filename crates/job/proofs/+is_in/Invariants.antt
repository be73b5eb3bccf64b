-- `job::is_in` ends: the pairs behind are fewer. Assumes nothing.
use Rattle.std.proofs.Common.{length}
use Rattle.job.proofs.+is_in.Given as goal

abbrev pub decreases-is_in : goal.decreases-is_in
decreases-is_in l = length l.pairs.now
