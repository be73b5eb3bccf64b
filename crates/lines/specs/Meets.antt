-- What each public function of `lines` answers, and every lent byte after it, by what was lent: its contract is this relation, applied to
-- its parameters, and `promises` speaks of it.
--
--   HasRoomMeets     whether there is room for so many edges of any length
--   AllBelowMeets    whether every number is below the count
--   PartMeets        the bytes from one place to another, as part of what was lent
--   UnansweredFromRefusalMeets    a refusal, as why a list isn't answered
--   RefusalFromUnansweredMeets    that as a refusal: no room is 7
use Rattle.std.specs.Prelude.{◌≡◌, List, Bool, ℕ, length}
use Rattle.std.specs.Borrow.{Bor}
use Rattle.rules.specs.Questions.{all_below}
use Rattle.job.specs.Parts.{PartOf}
use Rattle.job.specs.declared.Refusal.{Refusal}
use Rattle.lines.specs.declared.Unanswered.{Unanswered}
use Rattle.lines.specs.declared.Unanswered.TheVariants.{Refused}
use Rattle.lines.specs.Lines.{roomy, lesser, refusal_for}

abbrev pub HasRoomMeets : ℕ → ℕ → ℕ → Bool → Type 0
HasRoomMeets many steps ends r = r ≡ roomy many steps ends

-- "6 Beyond: a number is not below the count"
abbrev pub AllBelowMeets : List ℕ → ℕ → Bool → Type 0
AllBelowMeets numbers count r = r ≡ all_below count numbers

abbrev pub PartMeets : Bor (List ℕ) → ℕ → ℕ → Bor (List ℕ) → Type 0
PartMeets s from to r = PartOf s (lesser from (length s.now)) to r

abbrev pub UnansweredFromRefusalMeets : Refusal → Unanswered → Type 0
UnansweredFromRefusalMeets refusal r = r ≡ Refused refusal

-- "7 Room: the output is shorter than this answer"
abbrev pub RefusalFromUnansweredMeets : Unanswered → Refusal → Type 0
RefusalFromUnansweredMeets why r = r ≡ refusal_for why
