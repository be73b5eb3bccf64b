-- What is answered of a known job, and what the crate of some families knows of a block before it works anything out.
--
--   CountsOf J r            r says the count of the job J, or refusal 4
--   ranks_from J es          the numbers of the edges es of the job J, up to the first that isn't valid, or refusal 4
--   NumbersOf J es ..       those numbers written
--   edges_of J ns            the edges of the numbers ns of the job J, or refusal 4 or 6
--   BuildsOf J ns ..        those edges written
--   Refusing mine room b r  the family is mine, there is room, and the block is refused with r, 1 to 4
--   Ending mine room b J    the family is mine, there is room, and J is the block's job, whose count may not fit
use Rattle.std.specs.Prelude.{◌≡◌, Bool, true, List, map, ℕ, leb, Result}
use Rattle.rules.specs.Jobs.{Job}
use Rattle.rules.specs.Counts.{count_of}
use Rattle.rules.specs.Numbers.{edge_of}
use Rattle.rules.specs.Refusals as rules
use Rattle.rules.specs.Refusals.{Answer, check}
use Rattle.rules.specs.Refusals.Refusal.{over, beyond}
use Rattle.rules.specs.Refusals.Answer.{accepted, refused}
use Rattle.rules.specs.Blocks.{job_answer}
use Rattle.rules.specs.Answers.{most, known_job}
use Rattle.rules.specs.Questions.{all_below}
use Rattle.job.specs.declared.Refusal.{Refusal}
use Rattle.job.specs.Replies.{named, reply}
use Rattle.lines.specs.Lines.{lined, LinedAs}
use Rattle.lines.specs.Ranks.{ranks_of, ranked, RankedAs}

-- "4 Over" goes before everything that is said of edges and numbers
abbrev pub CountsOf : Job → Result ℕ Refusal → Type 0
CountsOf J r = r ≡ reply (check (leb (count_of J) most) over (accepted (count_of J)))

abbrev pub ranks_from : Job → List (List ℕ) → Answer (List ℕ)
ranks_from J es = check (leb (count_of J) most) over (accepted (ranks_of J es))

abbrev pub NumbersOf : Job → List (List ℕ) → List ℕ → List ℕ → Result ℕ Refusal → Type 0
NumbersOf J es before after r = RankedAs (ranked (ranks_from J es) before) r after

abbrev pub edges_of : Job → List ℕ → Answer (List (List ℕ))
edges_of J ns = check (leb (count_of J) most) over (check (all_below (count_of J) ns) beyond (accepted (map (edge_of J) ns)))

abbrev pub BuildsOf : Job → List ℕ → List ℕ → List ℕ → List ℕ → List ℕ → Result ℕ Refusal → Type 0
BuildsOf J ns steps ends after-steps after-ends r = LinedAs (lined (edges_of J ns) steps ends) r after-steps after-ends

pub record Refusing (mine room : Bool) (b : List ℕ) (r : Refusal) : Type 0 where
  pub own : mine ≡ true
  pub roomy : room ≡ true
  pub refusal : rules.Refusal
  pub answer : known_job b ≡ refused refusal
  pub name : r ≡ named refusal

pub record Ending (mine room : Bool) (b : List ℕ) (J : Job) : Type 0 where
  pub own : mine ≡ true
  pub roomy : room ≡ true
  pub answer : job_answer b ≡ accepted J
