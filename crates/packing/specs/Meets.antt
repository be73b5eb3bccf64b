-- What each public function of `packing` answers, and every lent byte after it, by what was lent: its contract is this relation, applied to
-- its parameters, and `promises` speaks of it.
--
--   WriteMeets    the pack of the edges of a list of numbers, at the front of the output
use Rattle.std.specs.Prelude.{List, ℕ, Result}
use Rattle.rules.specs.Questions.{pack_answer}
use Rattle.job.specs.Replies.{BuiltAs}
use Rattle.job.specs.declared.Refusal.{Refusal}

-- "Packs are written from a job block and a lent list of numbers."
abbrev pub WriteMeets : List ℕ → List ℕ → List ℕ → Result ℕ Refusal → List ℕ → Type 0
WriteMeets block numbers out r out-after = BuiltAs (pack_answer block numbers out) r out-after
