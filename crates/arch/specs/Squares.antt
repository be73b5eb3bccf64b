-- The families 2, 4 and 5, "Square" for the figure that their edges stay in.
--
--   job_of s n          the job of the family s and n
--   limit_of s          the largest n whose count fits
--   number_of_family s  the number that a block has for it
--   SquareIs f r        r is the family of the number f, if that is 2, 4 or 5
use Rattle.std.specs.Prelude.{◌≡◌, false, ℕ, Option, Some, None}
use Rattle.rules.specs.Jobs.{Job}
use Rattle.rules.specs.Jobs.Job.{dyck, schroder, motzkin}
use Rattle.rules.specs.Blocks.{square}
use Rattle.arch.specs.declared.square.Square.{Square}
use Rattle.arch.specs.declared.square.Square.TheVariants.{Dyck, Schroder, Motzkin}

abbrev pub job_of : Square → ℕ → Job
job_of Dyck = dyck
job_of Schroder = schroder
job_of Motzkin = motzkin

abbrev pub limit_of : Square → ℕ
limit_of Dyck = 36
limit_of Schroder = 28
limit_of Motzkin = 45

abbrev pub number_of_family : Square → ℕ
number_of_family Dyck = 2
number_of_family Schroder = 4
number_of_family Motzkin = 5

abbrev pub SquareIs : ℕ → Option Square → Type 0
SquareIs f (Some s) = f ≡ number_of_family s
SquareIs f None = square f ≡ false
