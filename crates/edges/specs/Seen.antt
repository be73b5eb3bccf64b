-- What a caller in C sees of an answer: the call's result, and the lent bytes after it.
--
--   code a              0, or the refusal number
--   shown a before      the value, or on a refusal what stood there before
--   Tells y before r after               the result r, and what is behind the pointer afterwards, of an answer y of the code
--   Seen a r before after                the result r, and the number behind the pointer afterwards
--   SeenWrite w r before after output    the same for a write, with the output's bytes
--   found a before      1 if there is one, 0 if there is none; on a refusal what stood there before
--   of f a before       what f gives of it; if there is none, or on a refusal, what stood there before
--   SeenDip, SeenSecond, SeenPart, SeenRepeat    what is seen of the other answers; each number before, then each after
use Rattle.std.specs.Prelude.{◌≡◌, Bool, List, ℕ, Result, Ok, Err}
use Rattle.std.proofs.Math.Option.{Option, none, some}
use Rattle.howmany.specs.Choose.{bit}
use Rattle.rules.specs.Refusals.{Answer, refusal_number}
use Rattle.rules.specs.Refusals.Answer.{accepted, refused}
use Rattle.rules.specs.Answers.{Written}
use Rattle.rules.specs.Questions.{Part, Twice}
use Rattle.job.specs.declared.Refusal.{Refusal}
use Rattle.job.specs.Replies.{number_of}

-- "A refusal returns its number alone and writes nothing"
abbrev pub code : {A : Type 0} → Answer A → ℕ
code (accepted v) = 0
code (refused r) = refusal_number r

abbrev pub shown : {A : Type 0} → Answer A → A → A
shown (accepted v) before = v
shown (refused r) before = before

-- the same of an answer in the code
abbrev pub Tells : {A : Type 0} → Result A Refusal → A → ℕ → A → Type 0
Tells (Ok v) before r after = (r ≡ 0) × (after ≡ v)
Tells (Err x) before r after = (r ≡ number_of x) × (after ≡ before)

pub record Seen (a : Answer ℕ) (r before after : ℕ) : Type 0 where
  pub result : r ≡ code a
  pub number : after ≡ shown a before

-- "An accepted write fills the front of the output, reports its length and touches nothing behind it."
pub record SeenWrite (w : Written) (r before after : ℕ) (output : List ℕ) : Type 0 where
  pub seen : Seen w.answer r before after
  pub bytes : output ≡ w.output

-- 0 or 1; where there is no dip, or no repeat, the places are left as they were (`include/edges.h`)
abbrev pub found : {A : Type 0} → Answer (Option A) → ℕ → ℕ
found (accepted none) before = 0
found (accepted (some a)) before = 1
found (refused r) before = before

abbrev pub of : {A : Type 0} → (A → ℕ) → Answer (Option A) → ℕ → ℕ
of f (accepted none) before = before
of f (accepted (some a)) before = f a
of f (refused r) before = before

-- "yes exactly if a step with b below 0 has a later step with b above 0; with the place of the first such later step"
pub record SeenDip (a : Answer (Option ℕ)) (r dips place dips-after place_after : ℕ) : Type 0 where
  pub result : r ≡ code a
  pub yes : dips-after ≡ found a dips
  pub where_first : place_after ≡ of (λ i. i) a place

-- "Earlier of two", told by 1 for the second lent edge and 0 for the first: "of equal ones the first"
abbrev pub second_in : Answer Bool → ℕ → ℕ
second_in (accepted t) before = bit t
second_in (refused r) before = before

pub record SeenSecond (a : Answer Bool) (r second second-after : ℕ) : Type 0 where
  pub result : r ≡ code a
  pub which : second-after ≡ second_in a second

-- "Edge i of a pack: handed back as part of the pack", told by where it begins and ends
abbrev pub place_in : (Part → ℕ) → Answer Part → ℕ → ℕ
place_in f (accepted p) before = f p
place_in f (refused r) before = before

pub record SeenPart (a : Answer Part) (r start end start-after end_after : ℕ) : Type 0 where
  pub result : r ≡ code a
  pub begins : start-after ≡ place_in (λ p. p.start) a start
  pub ends : end_after ≡ place_in (λ p. p.end) a end

-- "in a pack, the first edge that equals an earlier one, with the earliest it equals, or none"
pub record SeenRepeat (a : Answer (Option Twice)) (r yes later earlier yes-after later-after earlier-after : ℕ) : Type 0 where
  pub result : r ≡ code a
  pub some_repeat : yes-after ≡ found a yes
  pub second : later-after ≡ of (λ t. t.later) a later
  pub first : earlier-after ≡ of (λ t. t.earlier) a earlier
