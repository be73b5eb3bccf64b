-- One edge's number, by a list of one.
--
--   told_of n number    the number, where one edge got it, else refusal 5
use Rattle.std.specs.Prelude.{ℕ, eqb, Result, Ok, Err}
use Rattle.howmany.specs.Choose.{pick}
use Rattle.job.specs.declared.Refusal.{Refusal}
use Rattle.job.specs.declared.Refusal.TheVariants.{NotEdge}

abbrev pub told_of : ℕ → ℕ → Result ℕ Refusal
told_of n number = pick (eqb n 1) (Ok number) (Err NotEdge)
