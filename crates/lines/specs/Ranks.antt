-- The numbers of a list of edges, up to the first that isn't valid.
--
--   front_by ok number es    the numbers of the edges es, up to the first that isn't ok
--   RankIs ok n r           r says that an edge is ok and has the number n, or that it isn't ok
--   FrontIn ok number es before after n    the first n of the numbers `before` are now those of front_by, and the others are as they were
--   ranks_of J es            front_by of the valid edges of the job J and their numbers; ranks_answer block es: of the job of a block
--   Ranked, RankedAs w r s  an answer, and the lent numbers after it; that r and s are those
--   ranked a numbers        the numbers written to the front, and how many; refused, nothing is written
--   Ranks, RanksAs w r s    the same, or that there was no room to begin with
--   ranks a many numbers    the numbers written to the front, and how many: only where there is room for all
use Rattle.std.specs.Prelude.{◌≡◌, Bool, true, false, List, [], ◌∷◌, ◌++◌, ℕ, leb, length, drop, Option, Some, None, Result, Err}
use Rattle.howmany.specs.Choose.{pick}
use Rattle.rules.specs.Jobs.{Job}
use Rattle.rules.specs.Valid.{is_edge}
use Rattle.rules.specs.Numbers.{number_of}
use Rattle.rules.specs.Refusals.{Answer, and_then}
use Rattle.rules.specs.Refusals.Answer.{accepted, refused}
use Rattle.rules.specs.Answers.{known_job}
use Rattle.job.specs.declared.Refusal.{Refusal}
use Rattle.job.specs.Replies.{reply}
use Rattle.lines.specs.declared.Unanswered.{Unanswered}
use Rattle.lines.specs.declared.Unanswered.TheVariants.{NoRoom}
use Rattle.lines.specs.Lines.{listed}

unfoldable pub front_by : (List ℕ → Bool) → (List ℕ → ℕ) → List (List ℕ) → List ℕ
front_by ok number [] = []
front_by ok number (e ∷ es) = pick (ok e) (number e ∷ front_by ok number es) []

abbrev pub RankIs : Bool → ℕ → Option ℕ → Type 0
RankIs ok n (Some r) = (ok ≡ true) × (r ≡ n)
RankIs ok n None = ok ≡ false

pub record FrontIn (ok : List ℕ → Bool) (number : List ℕ → ℕ) (es : List (List ℕ)) (before after : List ℕ) (n : ℕ) : Type 0 where
  pub many : n ≡ length (front_by ok number es)
  pub written : after ≡ front_by ok number es ++ drop n before

abbrev pub ranks_of : Job → List (List ℕ) → List ℕ
ranks_of J es = front_by (is_edge J) (number_of J) es

-- "Order: 8 first for packs; then 1, 2, 3, 4"; an edge that isn't valid is no refusal here: it is where the numbers end
unfoldable pub ranks_answer : List ℕ → List (List ℕ) → Answer (List ℕ)
unfolding known_job
ranks_answer block es = and_then (known_job block) (λ J. accepted (ranks_of J es))

pub record Ranked : Type 0 where
  pub answer : Answer ℕ
  pub numbers : List ℕ

-- "A refusal returns its number alone and writes nothing"; "An accepted write fills the front of the output, reports its length and
-- touches nothing behind it."
unfoldable pub ranked : Answer (List ℕ) → List ℕ → Ranked
ranked (accepted rs) numbers = record { answer = accepted (length rs); numbers = rs ++ drop (length rs) numbers }
ranked (refused r) numbers = record { answer = refused r; numbers = numbers }

pub record RankedAs (w : Ranked) (r : Result ℕ Refusal) (numbers : List ℕ) : Type 0 where
  pub says : r ≡ reply w.answer
  pub numbers_are : numbers ≡ w.numbers

pub record Ranks : Type 0 where
  pub told : Result ℕ Unanswered
  pub numbers : List ℕ

-- where there is no room for as many numbers, the edges aren't looked at
unfoldable pub ranks : Answer (List ℕ) → ℕ → List ℕ → Ranks
unfolding ranked
ranks a many numbers =
    let w = ranked a numbers in
    pick (leb many (length numbers))
    (record { told = listed w.answer; numbers = w.numbers })
    (record { told = Err NoRoom; numbers = numbers })

pub record RanksAs (w : Ranks) (r : Result ℕ Unanswered) (numbers : List ℕ) : Type 0 where
  pub says : r ≡ w.told
  pub numbers_are : numbers ≡ w.numbers
