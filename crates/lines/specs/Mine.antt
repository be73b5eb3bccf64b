-- What the crate of some families answers: for its own families the answer, for any other that they aren't its own.
--
--   own mine a                   the answer a where the family is the crate's own, none where it is another's
--   CountsFor mine a r           r says the count a, if the family is mine
--   RanksFor mine w r before after        r and the numbers after it are those of w, if the family is mine
--   LinesFor mine w r steps ends after-steps after-ends    the same of edges written one after the other
use Rattle.std.specs.Prelude.{◌≡◌, Bool, List, ℕ, Option, Some, None, Result}
use Rattle.howmany.specs.Choose.{pick}
use Rattle.rules.specs.Refusals.{Answer}
use Rattle.job.specs.declared.Refusal.{Refusal}
use Rattle.job.specs.Replies.{reply}
use Rattle.lines.specs.declared.Unanswered.{Unanswered}
use Rattle.lines.specs.Lines.{Lines}
use Rattle.lines.specs.Ranks.{Ranks}

abbrev pub own : {A : Type 0} → Bool → A → Option A
own mine a = pick mine (Some a) None

abbrev pub CountsFor : Bool → Answer ℕ → Option (Result ℕ Refusal) → Type 0
CountsFor mine a r = r ≡ own mine (reply a)

pub record RanksFor (mine : Bool) (w : Ranks) (r : Option (Result ℕ Unanswered)) (before after : List ℕ) : Type 0 where
  pub says : r ≡ own mine w.told
  pub numbers_are : after ≡ pick mine w.numbers before

pub record LinesFor (mine : Bool) (w : Lines) (r : Option (Result ℕ Unanswered)) (steps ends after-steps after-ends : List ℕ) : Type 0 where
  pub says : r ≡ own mine w.told
  pub bytes : after-steps ≡ pick mine w.steps steps
  pub places : after-ends ≡ pick mine w.ends ends
