-- `job::Job::held` meets its contract: each byte where it stands, m and each b raised. Assumes nothing.
use Rattle.job.specs.Made.{held_by}
use Rattle.job.proofs.Job.held.Goals as goal

pub returns : goal.returns
unfolding held_by
returns c =
    simp (
      c.raise.ensures,
      c.raise-2.ensures,
      c.raise-3.ensures,
      c.raise-4.ensures,
      c.raise-5.ensures,
      c.raise-6.ensures,
      c.raise-7.ensures,
      c.raise-8.ensures,
      c.raise-9.ensures,
    )
