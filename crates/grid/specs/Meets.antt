-- What each public function of `grid` answers, and every lent byte after it, by what was lent: its contract is this relation, applied to
-- its parameters, and `promises` speaks of it.
--
--   CountMeets        the count of a job of families 6 and 7; any other family is another crate's
--   NumberAllMeets    the numbers of a list of edges, likewise
--   BuildAllMeets     the edges of a list of numbers, likewise
use Rattle.std.specs.Prelude.{List, ℕ, length}
use Rattle.rules.specs.Blocks.{family_of, paired}
use Rattle.rules.specs.Answers.{count_answer}
use Rattle.rules.specs.Questions.{edges_answer}
use Rattle.lines.specs.Lines.{cut_from, lines}
use Rattle.lines.specs.Ranks.{ranks, ranks_answer}
use Rattle.lines.specs.Mine.{CountsFor, RanksFor, LinesFor}
use Rattle.std.specs.Prelude.{Result, Option}
use Rattle.job.specs.declared.Refusal.{Refusal}
use Rattle.lines.specs.declared.Unanswered.{Unanswered}

abbrev pub CountMeets : List ℕ → Option (Result ℕ Refusal) → Type 0
CountMeets block r = CountsFor (paired (family_of block)) (count_answer block) r

abbrev pub NumberAllMeets : List ℕ → List ℕ → ℕ → List ℕ → List ℕ → Option (Result ℕ Unanswered) → List ℕ → Type 0
NumberAllMeets block bytes from ends numbers r numbers_after = RanksFor (paired (family_of block)) (ranks (ranks_answer block (cut_from from ends bytes)) (length ends) numbers) r numbers numbers_after

abbrev pub BuildAllMeets : List ℕ → List ℕ → List ℕ → List ℕ → Option (Result ℕ Unanswered) → List ℕ → List ℕ → Type 0
BuildAllMeets block numbers steps ends r steps-after ends-after = LinesFor (paired (family_of block)) (lines (edges_answer block numbers) numbers steps ends) r steps ends steps-after ends-after
