-- What is known of a block of family 2, 4 or 5.
--
--   Limited b s n     the block is of the family s and n, which is no more than the most whose count fits
--   KnownIs b s r     r is such an n, or the block's refusal, 1 to 4
use Rattle.std.specs.Prelude.{true, List, ℕ, ◌≤◌, Result, Ok, Err}
use Rattle.rules.specs.Blocks.{family_of, square}
use Rattle.job.specs.declared.Refusal.{Refusal}
use Rattle.lines.specs.Known.{Refusing, Ending}
use Rattle.arch.specs.declared.square.Square.{Square}
use Rattle.arch.specs.Squares.{job_of, limit_of}

pub record Limited (b : List ℕ) (s : Square) (n : ℕ) : Type 0 where
  pub ends : Ending (square (family_of b)) true b (job_of s n)
  pub small : n ≤ limit_of s

abbrev pub KnownIs : List ℕ → Square → Result ℕ Refusal → Type 0
KnownIs b s (Ok n) = Limited b s n
KnownIs b s (Err r) = Refusing (square (family_of b)) true b r
