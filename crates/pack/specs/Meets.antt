-- What each public function of `pack` answers, and every lent byte after it, by what was lent: its contract is this relation, applied to
-- its parameters, and `promises` speaks of it.
--
--   PartMeets           where edge i of a pack begins and ends
--   EdgeMeets           that part itself, or the empty part at the front
--   EdgeRefusalMeets    the refusal number of that question
--   RepeatMeets         the first edge that equals an earlier one, with the earliest, or none
--   NumberAllMeets      the numbers of all edges of a pack, at the front of a list
--   FaultFromRefusalMeets      a refusal, as why the edges of a pack have no numbers
--   FaultFromUnansweredMeets   why a list isn't answered, as that: no room is refusal 7
use Rattle.std.specs.Prelude.{◌≡◌, List, ℕ, Option, Result}
use Rattle.std.specs.Borrow.{Bor}
use Rattle.rules.specs.Questions.{part_answer, repeat_answer}
use Rattle.rules.specs.Whole.{numbers_answer}
use Rattle.job.specs.declared.Refusal.{Refusal}
use Rattle.job.specs.Parts.{refusal_in}
use Rattle.pack.specs.Parts.{EdgeIs}
use Rattle.pack.specs.Whole.{ListedAs}
use Rattle.lines.specs.declared.Unanswered.{Unanswered}
use Rattle.lines.specs.Lines.{refusal_for}
use Rattle.pack.specs.declared.Fault.{Fault}
use Rattle.pack.specs.declared.Fault.TheVariants.{Refused}
use Rattle.pack.specs.Replies.{reply_by, placed, paired}

-- "Edge i of a pack", told by where it begins and ends
abbrev pub PartMeets : List ℕ → ℕ → Result (ℕ × ℕ) Refusal → Type 0
PartMeets pack i r = r ≡ reply_by placed (part_answer pack i)

-- "Edge i of a pack: handed back as part of the pack."
abbrev pub EdgeMeets : Bor (List ℕ) → ℕ → Bor (List ℕ) → Type 0
EdgeMeets pack i r = EdgeIs (part_answer pack.now i) pack r

-- "a partner question gives the refusal number, 0 if none"
abbrev pub EdgeRefusalMeets : List ℕ → ℕ → ℕ → Type 0
EdgeRefusalMeets pack i r = r ≡ refusal_in (part_answer pack i)

-- "Repeat: in a pack, the first edge that equals an earlier one, with the earliest it equals, or none."
abbrev pub RepeatMeets : List ℕ → Result (Option (ℕ × ℕ)) Refusal → Type 0
RepeatMeets pack r = r ≡ reply_by paired (repeat_answer pack)

-- "We want one call from a pack to a lent list of 64-bit numbers."
abbrev pub NumberAllMeets : List ℕ → List ℕ → Result ℕ Fault → List ℕ → Type 0
NumberAllMeets pack list r list-after = ListedAs (numbers_answer pack list) r list-after

abbrev pub FaultFromRefusalMeets : Refusal → Fault → Type 0
FaultFromRefusalMeets why r = r ≡ Refused why

-- "then 7 for a short list"
abbrev pub FaultFromUnansweredMeets : Unanswered → Fault → Type 0
FaultFromUnansweredMeets why r = r ≡ Refused (refusal_for why)
