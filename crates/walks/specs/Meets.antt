-- What each public function of `walks` answers, and every lent byte after it, by what was lent: its contract is this relation, applied to
-- its parameters, and `promises` speaks of it.
--
--   WalkMeets       whether a string is an edge, or where it goes wrong
--   WalkAllMeets    the same of the first of several that is none
use Rattle.std.specs.Prelude.{◌≡◌, List, ℕ, Option, Result}
use Rattle.rules.specs.Blocks.{job_answer}
use Rattle.job.specs.declared.Refusal.{Refusal}
use Rattle.lines.specs.Lines.{cut_from}
use Rattle.walks.specs.Walks.{finding, walk_of, check_of}

-- "Start at (0,0). Each byte is a step of the job …; the last point is the end."
abbrev pub WalkMeets : List ℕ → List ℕ → Result (Option ℕ) Refusal → Type 0
WalkMeets block edge r = r ≡ finding (walk_of (job_answer block) edge)

-- the same of each, "from index 0"
abbrev pub WalkAllMeets : List ℕ → List ℕ → ℕ → List ℕ → Result (Option (ℕ × ℕ)) Refusal → Type 0
WalkAllMeets block bytes from ends r = r ≡ finding (check_of (job_answer block) (cut_from from ends bytes))
