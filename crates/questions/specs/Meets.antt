-- What each public function of `questions` answers, and every lent byte after it, by what was lent: its contract is this relation, applied to
-- its parameters, and `promises` speaks of it.
--
--   CompareMeets           which of two edges is the earlier
--   EarlierMeets           that edge itself, or the empty part at the front of the first
--   EarlierRefusalMeets    the refusal number of that question
--   DipMeets               the place of the first dip, or none
use Rattle.std.specs.Prelude.{◌≡◌, List, ℕ, Option, Result}
use Rattle.std.specs.Borrow.{Bor}
use Rattle.rules.specs.Questions.{second_answer, dip_answer}
use Rattle.job.specs.declared.Refusal.{Refusal}
use Rattle.job.specs.Parts.{refusal_in}
use Rattle.walks.specs.Walks.{finding}
use Rattle.questions.specs.Replies.{which, Handed}
use Rattle.questions.specs.declared.Which.{Which}

-- "Earlier of two: two lent edges of one job"
abbrev pub CompareMeets : List ℕ → List ℕ → List ℕ → Result Which Refusal → Type 0
CompareMeets block a b r = r ≡ which (second_answer block a b)

-- "handed back is the lent edge itself, not a copy; of equal ones the first."
abbrev pub EarlierMeets : List ℕ → Bor (List ℕ) → Bor (List ℕ) → Bor (List ℕ) → Type 0
EarlierMeets block a b r = Handed (second_answer block a.now b.now) a b r

-- "a partner question gives the refusal number, 0 if none"
abbrev pub EarlierRefusalMeets : List ℕ → List ℕ → List ℕ → ℕ → Type 0
EarlierRefusalMeets block a b r = r ≡ refusal_in (second_answer block a b)

-- "Dip (families 6 and 7): yes exactly if …; with the place of the first such later step, counted from 0."
abbrev pub DipMeets : List ℕ → List ℕ → Result (Option ℕ) Refusal → Type 0
DipMeets block edge r = r ≡ finding (dip_answer block edge)
