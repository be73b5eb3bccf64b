-- What each public function of `calls` answers, and every lent byte after it, by what was lent: its contract is this relation, applied to
-- its parameters, and `promises` speaks of it.
--
--   CountMeets        the count of a job
--   WidthMeets        its width
--   NumberAllMeets    the numbers of a list of edges, up to the first that isn't valid
--   NumberMeets       the number of an edge
--   BuildAllMeets     the edges of a list of numbers
--   BuildMeets        the edge of a number
use Rattle.std.specs.Prelude.{◌≡◌, List, ℕ, length, Result}
use Rattle.rules.specs.Answers.{count_answer, width_answer, number_answer, build_answer}
use Rattle.rules.specs.Questions.{edges_answer}
use Rattle.job.specs.Replies.{reply, BuiltAs}
use Rattle.lines.specs.Lines.{cut_from, lines, WroteAs}
use Rattle.lines.specs.Ranks.{ranks, ranks_answer, RanksAs}
use Rattle.job.specs.declared.Refusal.{Refusal}
use Rattle.lines.specs.declared.Unanswered.{Unanswered}

-- "A job may have count 0. That is an answer …"; "The answer is a count or a refusal number, never both."
abbrev pub CountMeets : List ℕ → Result ℕ Refusal → Type 0
CountMeets block r = r ≡ reply (count_answer block)

-- "The width of a job is the least number of bits that holds every number below the count"
abbrev pub WidthMeets : List ℕ → Result ℕ Refusal → Type 0
WidthMeets block r = r ≡ reply (width_answer block)

-- each as `NumberMeets` says it of one, with "4 Over" before all of them
abbrev pub NumberAllMeets : List ℕ → List ℕ → ℕ → List ℕ → List ℕ → Result ℕ Unanswered → List ℕ → Type 0
NumberAllMeets block bytes from ends numbers r numbers_after = RanksAs (ranks (ranks_answer block (cut_from from ends bytes)) (length ends) numbers) r numbers_after

-- "5 Not an edge: the bytes aren't a valid edge of the job"
abbrev pub NumberMeets : List ℕ → List ℕ → Result ℕ Refusal → Type 0
NumberMeets block edge r = r ≡ reply (number_answer block edge)

-- each as `BuildMeets` says it of one, with 4 and 6 before all of them
abbrev pub BuildAllMeets : List ℕ → List ℕ → List ℕ → List ℕ → Result ℕ Unanswered → List ℕ → List ℕ → Type 0
BuildAllMeets block numbers steps ends r steps-after ends-after = WroteAs (lines (edges_answer block numbers) numbers steps ends) r steps-after ends-after

-- "An accepted write fills the front of the output, reports its length and touches nothing behind it."
abbrev pub BuildMeets : List ℕ → ℕ → List ℕ → Result ℕ Refusal → List ℕ → Type 0
BuildMeets block number out r out-after = BuiltAs (build_answer block number out) r out-after
