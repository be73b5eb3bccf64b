-- What is answered over the table of every job of a shape.
--
--   counted_of a           the count a, or refusal 4 where it needs more than 64 bits
--   Countable s        s is some job's shape, or none where nothing leads to its end; ShapedIn b s: that of the block's job
--   CountsAs s r, NumbersAs s es .., BuildsAs s ns ..    CountsOf, NumbersOf and BuildsOf of every job whose shape is s
use Rattle.std.specs.Prelude.{◌≡◌, List, ℕ}
use Rattle.rules.specs.Jobs as rules
use Rattle.rules.specs.Refusals.Answer.{accepted}
use Rattle.rules.specs.Blocks.{job_answer}
use Rattle.std.specs.Prelude.{Result, Option}
use Rattle.std.specs.Option.{ok_or}
use Rattle.job.specs.declared.Refusal.{Refusal}
use Rattle.job.specs.declared.Refusal.TheVariants.{Over}
use Rattle.lines.specs.Known.{CountsOf, NumbersOf, BuildsOf}
use Rattle.tables.specs.Shapes.{Shaped}
use Rattle.tables.specs.declared.Shape.{Shape}

pub record Countable (s : Option Shape) : Type 0 where
  pub job : rules.Job
  pub shaped : Shaped job s

-- the shape s is that of the block's job
pub record ShapedIn (b : List ℕ) (s : Option Shape) : Type 0 where
  pub shape : Countable s
  pub answer : job_answer b ≡ accepted shape.job

abbrev pub counted_of : Option ℕ → Result ℕ Refusal
counted_of a = ok_or a Over

abbrev pub CountsAs : Option Shape → Result ℕ Refusal → Type 0
CountsAs s r = (J : rules.Job) → Shaped J s → CountsOf J r

abbrev pub NumbersAs : Option Shape → List (List ℕ) → List ℕ → List ℕ → Result ℕ Refusal → Type 0
NumbersAs s es before after r = (J : rules.Job) → Shaped J s → NumbersOf J es before after r

abbrev pub BuildsAs : Option Shape → List ℕ → List ℕ → List ℕ → List ℕ → List ℕ → Result ℕ Refusal → Type 0
BuildsAs s ns steps ends after-steps after-ends r =
    (J : rules.Job) → Shaped J s → BuildsOf J ns steps ends after-steps after-ends r
