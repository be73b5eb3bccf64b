-- `job::has_twins` ends: the pairs behind are fewer. Assumes nothing.
use Rattle.std.proofs.Common.{length}
use Rattle.job.proofs.+has_twins.Given as goal

abbrev pub decreases-has_twins : goal.decreases-has_twins
decreases-has_twins l = length l.pairs.now
