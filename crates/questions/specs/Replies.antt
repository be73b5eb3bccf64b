-- What the earlier of two is as the code has it, and what is handed back.
--
--   which_of second            the case for the second edge, or for the first
--   which a                    the answer on which it is
--   Handed a first second r    what the earlier of two hands back
use Rattle.std.specs.Prelude.{◌≡◌, Bool, true, false, List, ℕ, Result, Ok, Err}
use Rattle.std.specs.Borrow.{Bor}
use Rattle.rules.specs.Refusals.{Answer}
use Rattle.rules.specs.Refusals.Answer.{accepted, refused}
use Rattle.job.specs.declared.Refusal.{Refusal}
use Rattle.job.specs.Parts.{PartOf}
use Rattle.job.specs.Replies.{named}
use Rattle.questions.specs.declared.Which.{Which}
use Rattle.questions.specs.declared.Which.TheVariants.{First, Second}

-- "Earlier of two": whether the second is the earlier one
abbrev pub which_of : Bool → Which
which_of true = Second
which_of false = First

abbrev pub which : Answer Bool → Result Which Refusal
which (accepted second) = Ok (which_of second)
which (refused r) = Err (named r)

-- "handed back is the lent edge itself, not a copy; of equal ones the first"; "a refusal hands back the empty part at the front of .. the
-- first lent edge"
abbrev pub Handed : Answer Bool → Bor (List ℕ) → Bor (List ℕ) → Bor (List ℕ) → Type 0
Handed (accepted false) first second r = r ≡ first
Handed (accepted true) first second r = r ≡ second
Handed (refused x) first second r = PartOf first 0 0 r
