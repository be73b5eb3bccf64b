-- A block whose count is told has a job, and its count fits. Assumes nothing.
--
--   Accepted b      the job of the block b, whose count fits; known_of: from the count
use mathlib.Core.Path.{◌≡◌, refl, ap, ◌∙◌}
use mathlib.Core.List.{List}
use Prim.Native.Nat.{ℕ, ◌^◌, ◌<◌}
use native.Mathlib.Decide.{dec_lt}
use native.Mathlib.Omega.{arith}
use Rattle.rules.specs.Jobs.{Job}
use Rattle.rules.specs.Counts.{count_of}
use Rattle.rules.specs.Refusals.{Answer, Refusal}
use Rattle.rules.specs.Refusals.Refusal.{over}
use Rattle.rules.specs.Refusals.Answer.{accepted, refused}
use Rattle.rules.specs.Blocks.{job_answer}
use Rattle.rules.specs.Answers.{known_job, count_answer}
use Rattle.rules.proofs.Answering.{known-told, known_over, known-fits, count-told}
use Rattle.job.specs.Replies.{reply}
use Rattle.std.specs.Prelude.{Ok}
use Rattle.job.proofs.Says.{value_not}

pub record Accepted (b : List ℕ) : Type 0 where
  pub job : Job
  pub answer : known_job b ≡ accepted job
  pub made : job_answer b ≡ accepted job

pub known_of : (b : List ℕ) (n : ℕ) → Ok n ≡ reply (count_answer b) → Accepted b
known_of b n v = go (job_answer b) refl
  where
    uncounted : (x : Refusal) → known_job b ≡ refused x → ⊥
    uncounted x e = value_not (v ∙ ap reply (count-told b x e))

    fits : (J : Job) → job_answer b ≡ accepted J → Dec (count_of J < 2 ^ 64) → Accepted b
    fits J e (yes l) = record { job = J; answer = known-fits b J e l; made = e }
    fits J e (no l) = absurd (uncounted over (known_over b J e (omega arith)))

    go : (a : Answer Job) → job_answer b ≡ a → Accepted b
    go (accepted J) e = fits J e (dec_lt (count_of J) (2 ^ 64))
    go (refused x) e = absurd (uncounted x (known-told b x e))
