-- What is known of a block of family 6 or 7.
--
--   ShapedAs b s       s is the shape of the block's job, or none where nothing leads to its end
--   KnownIs b r        r is that shape, or why the block is refused
use Rattle.std.specs.Prelude.{List, ℕ, true, Option, Result, Ok, Err}
use Rattle.rules.specs.Blocks.{family_of, paired}
use Rattle.job.specs.declared.Refusal.{Refusal}
use Rattle.lines.specs.Known.{Refusing, Ending}
use Rattle.tables.specs.declared.Shape.{Shape}
use Rattle.tables.specs.Calls.{Countable}

pub record ShapedAs (b : List ℕ) (s : Option Shape) : Type 0 where
  pub shape : Countable s
  pub ending : Ending (paired (family_of b)) true b shape.job

abbrev pub KnownIs : List ℕ → Result (Option Shape) Refusal → Type 0
KnownIs b (Ok s) = ShapedAs b s
KnownIs b (Err r) = Refusing (paired (family_of b)) true b r
