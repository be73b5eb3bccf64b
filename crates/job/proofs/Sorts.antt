-- What a held job stands for, by what its family has in common with others. Assumes nothing.
--
--   AsPlain, plain-of           families 1 and 3; the job has a step D or not
--   square_job f n, AsSquare, square-of    families 2, 4 and 5
--   AsDirected, directed_of     families 6 and 7; the job has a fence or not
--   directs                     a job has a step set of its own exactly if its family has pairs
use Rattle.std.proofs.Common.{◌≡◌, ℕ, ◌≤◌, Bool, true, false, T, List, ℤ, sym, refl, ap, ◌∙◌, subst}
use Rattle.howmany.specs.Choose.{pick}
use Rattle.rules.specs.Jobs as rules
use Rattle.rules.specs.Jobs.{Pair, is_directed}
use Rattle.rules.specs.Jobs.Job.{north_east, dyck, delannoy, schroder, motzkin, directed}
use Rattle.rules.specs.Blocks.{plain, square, paired}
use Rattle.job.specs.declared.Family.{Family}
use Rattle.job.specs.declared.Family.TheVariants.{NorthEast, Dyck, Delannoy, Schroder, Motzkin, Open, Fenced}
use Rattle.job.specs.declared.Job.{Job}
use Rattle.job.specs.Stands.{Level, Directed, start_held, family_number, Stands}
use Rattle.job.specs.Stands.Stands.{as_north_east, as_dyck, as_delannoy, as_schroder, as_motzkin, as_open, as_fenced}

pub data AsPlain (j : Job) : rules.Job → Type 0 where
  as_plain : (diagonal : Bool) {m : ℕ} → j.family ≡ pick diagonal Delannoy NorthEast → Level j m → AsPlain j (pick diagonal (delannoy j.n m) (north_east j.n m))

-- of the families that aren't plain or paired
abbrev pub square_job : Family → ℕ → rules.Job
square_job NorthEast n = motzkin n
square_job Dyck n = dyck n
square_job Delannoy n = motzkin n
square_job Schroder n = schroder n
square_job Motzkin n = motzkin n
square_job Open n = motzkin n
square_job Fenced n = motzkin n

pub data AsSquare (j : Job) : rules.Job → Type 0 where
  as_square : j.n ≤ 64 → AsSquare j (square_job j.family j.n)

pub data AsDirected (j : Job) : rules.Job → Type 0 where
  as_directed : (fenced : Bool) {m : ℤ} {pairs : List Pair} → j.family ≡ pick fenced Fenced Open → Directed j m pairs → AsDirected j (directed fenced j.n m (start_held j) pairs)

-- a family of another kind
other : (kind : ℕ → Bool) {f g : Family} → f ≡ g → kind (family_number g) ≡ false → kind (family_number f) ≡ true → ⊥
other kind e q h = subst T (sym h ∙ ap (λ (f : Family). kind (family_number f)) e ∙ q) tt

pub plain-of : {j : Job} {J : rules.Job} → Stands j J → plain (family_number j.family) ≡ true → AsPlain j J
plain-of (as_north_east e v) q = as_plain false e v
plain-of (as_dyck e v) q = absurd (other plain e refl q)
plain-of (as_delannoy e v) q = as_plain true e v
plain-of (as_schroder e v) q = absurd (other plain e refl q)
plain-of (as_motzkin e v) q = absurd (other plain e refl q)
plain-of (as_open e v) q = absurd (other plain e refl q)
plain-of (as_fenced e v) q = absurd (other plain e refl q)

squared : {j : Job} (J : rules.Job) → j.n ≤ 64 → square_job j.family j.n ≡ J → AsSquare j J
squared {j} J l e = subst (AsSquare j) e (as_square l)

pub square-of : {j : Job} {J : rules.Job} → Stands j J → square (family_number j.family) ≡ true → AsSquare j J
square-of (as_north_east e v) q = absurd (other square e refl q)
square-of (as_dyck e v) q = squared _ v (rw e refl)
square-of (as_delannoy e v) q = absurd (other square e refl q)
square-of (as_schroder e v) q = squared _ v (rw e refl)
square-of (as_motzkin e v) q = squared _ v (rw e refl)
square-of (as_open e v) q = absurd (other square e refl q)
square-of (as_fenced e v) q = absurd (other square e refl q)

pub directed_of : {j : Job} {J : rules.Job} → Stands j J → paired (family_number j.family) ≡ true → AsDirected j J
directed_of (as_north_east e v) q = absurd (other paired e refl q)
directed_of (as_dyck e v) q = absurd (other paired e refl q)
directed_of (as_delannoy e v) q = absurd (other paired e refl q)
directed_of (as_schroder e v) q = absurd (other paired e refl q)
directed_of (as_motzkin e v) q = absurd (other paired e refl q)
directed_of (as_open e v) q = as_directed false e v
directed_of (as_fenced e v) q = as_directed true e v

pub directs : {j : Job} {J : rules.Job} → Stands j J → is_directed J ≡ paired (family_number j.family)
directs (as_north_east e v) = rw e refl
directs (as_dyck e v) = rw e refl
directs (as_delannoy e v) = rw e refl
directs (as_schroder e v) = rw e refl
directs (as_motzkin e v) = rw e refl
directs (as_open e v) = rw e refl
directs (as_fenced e v) = rw e refl
