-- What is known of a block: from the job that is held of it to its family and n, or to its refusal. One argument for all three families,
-- each with the largest n whose count fits. Assumes nothing.
--
--   job_by f n                    the job of family f, if that is 2, 4 or 5
--   by-square, is_square           which it is
--   Limit family limit           the counts up to limit fit 64 bits, and no others
--   limits                         the three limits
--   kept_fits, kept_over           the count of the job that is held of a block fits, or refusal 4
use mathlib.Core.Path.{◌≡◌, refl, ap, ◌∙◌}
use mathlib.Core.Bool.{true}
use mathlib.Core.List.{List}
use Prim.Native.Nat.{ℕ, ◌^◌, ◌≤◌, ◌<◌}
use lib.Dec.{eqb}
use Rattle.howmany.specs.Choose.{pick}
use Rattle.rules.specs.Jobs as rules
use Rattle.rules.specs.Jobs.Job.{dyck, schroder, motzkin}
use Rattle.rules.specs.Counts.{count_of}
use Rattle.rules.specs.Refusals.Refusal.{over}
use Rattle.rules.specs.Refusals.Answer.{accepted}
use Rattle.rules.specs.Blocks.{family_of, square, job_answer}
use Rattle.rules.proofs.Answering.{known_over}
use Rattle.rules.proofs.Recurrences.{C_limit, S_limit, M_limit}
use Rattle.job.specs.declared.Job.{Job}
use Rattle.job.specs.declared.Family.{Family}
use Rattle.job.specs.declared.Family.TheVariants.{NorthEast, Dyck, Delannoy, Schroder, Motzkin, Open, Fenced}
use Rattle.job.specs.declared.Refusal.TheVariants.{Over}
use Rattle.job.specs.Stands.{Stands, family_number}
use Rattle.job.proofs.Sorts.{square_job, AsSquare, square-of}
use Rattle.job.proofs.Sorts.AsSquare.{as_square}
use Rattle.job.proofs.Standing.{Kept}
use Rattle.lines.specs.Known.{Refusing}
use Rattle.arch.specs.declared.square.Square.{Square}
use Rattle.arch.specs.declared.square.Square.TheVariants as squares
use Rattle.arch.specs.Squares.{job_of, limit_of, number_of_family}
use Rattle.arch.specs.Calls.{Limited}

abbrev pub job_by : ℕ → ℕ → rules.Job
job_by f n = pick (eqb f 2) (dyck n) (pick (eqb f 4) (schroder n) (motzkin n))

pub by-square : (f : ℕ) (s : Square) → f ≡ number_of_family s → (n : ℕ) → job_by f n ≡ job_of s n
by-square f squares.Dyck e n = rw e refl
by-square f squares.Schroder e n = rw e refl
by-square f squares.Motzkin e n = rw e refl

pub is_square : (f : ℕ) (s : Square) → f ≡ number_of_family s → square f ≡ true
is_square f squares.Dyck e = rw e refl
is_square f squares.Schroder e = rw e refl
is_square f squares.Motzkin e = rw e refl

by_number : (f : Family) (n : ℕ) → square_job f n ≡ job_by (family_number f) n
by_number NorthEast n = refl
by_number Dyck n = refl
by_number Delannoy n = refl
by_number Schroder n = refl
by_number Motzkin n = refl
by_number Open n = refl
by_number Fenced n = refl

stands_by : {j : Job} {J : rules.Job} → Stands j J → square (family_number j.family) ≡ true → J ≡ job_by (family_number j.family) j.n
stands_by st h = go (square-of st h)
  where
    go : {j : Job} {J : rules.Job} → AsSquare j J → J ≡ job_by (family_number j.family) j.n
    go {j} (as_square l) = by_number j.family j.n

abbrev pub Limit : (ℕ → rules.Job) → ℕ → Type 0
Limit family limit = (n : ℕ) → (n ≤ limit → count_of (family n) < 2 ^ 64) × (limit < n → 2 ^ 64 ≤ count_of (family n))

pub limits : (s : Square) → Limit (job_of s) (limit_of s)
unfolding count_of
limits squares.Dyck n = C_limit n
limits squares.Schroder n = S_limit n
limits squares.Motzkin n = M_limit n

module _ (b : List ℕ) {j : Job} (kept : Kept b j) (s : Square) (same : family_of b ≡ number_of_family s) where
  own : square (family_of b) ≡ true
  own = is_square (family_of b) s same

  job_is : job_answer b ≡ accepted (job_of s j.n)
  job_is =
      kept.answer ∙ ap accepted (stands_by kept.stands (ap square kept.family ∙ own) ∙ by-square _ s (kept.family ∙ same) j.n)

  pub kept_fits : j.n ≤ limit_of s → Limited b s j.n
  kept_fits l = record { ends = record { own = own; roomy = refl; answer = job_is }; small = l }

  pub kept_over : limit_of s < j.n → Refusing (square (family_of b)) true b Over
  kept_over l = record {
    own = own;
    roomy = refl;
    refusal = over;
    answer = known_over b (job_of s j.n) job_is ((limits s j.n).1 l);
    name = refl;
  }
