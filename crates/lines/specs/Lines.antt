-- Edges written one after the other.
--
--   ends_from at es          where each of the edges ends, if the first begins at `at`
--   roomy many steps ends   there is room for so many edges of 128 steps, and for their ends; Room: the same, to be asked for
--   Lined, LinedAs w r s e  an answer, and both lent slices after it; that r, s and e are those
--   lined a steps ends      the edges written to the front of steps, their ends to the front of ends; refused, nothing is written
--   listed a                an answer, told of a list; widened r: of one that is in hand
--   Lines, WroteAs w r s e  the same, or that there was no room to begin with
--   lines a ns steps ends   what is told of the edges of the numbers ns: only where there is room for any
--   refusal_for, narrowed w    what is refused where there is no room, and the answer then
--   lesser a b              whichever is less
--   cut_from at ends s       the parts of s one after the other: the first begins at `at`, each ends where ends says, the next begins there
use Rattle.std.specs.Prelude.{◌≡◌, Bool, ◌&&◌, List, [], ◌∷◌, ◌++◌, ℕ, ◌+◌, ◌*◌, ◌≤◌, leb, ltb, length, drop, Result, Ok, Err}
use Rattle.howmany.specs.Choose.{pick}
use Rattle.rules.specs.Refusals as refusals
use Rattle.rules.specs.Refusals.Answer.{accepted, refused}
use Rattle.rules.specs.Packs.{part_of, joined}
use Rattle.job.specs.declared.Refusal.{Refusal}
use Rattle.job.specs.declared.Refusal.TheVariants.{Room as RoomRefusal}
use Rattle.job.specs.Replies.{named, reply}
use Rattle.lines.specs.declared.Unanswered.{Unanswered}
use Rattle.lines.specs.declared.Unanswered.TheVariants.{NoRoom, Refused}

-- where a pack's offsets after the first come from: "offsets .. measured from the pack's start", less where the first edge begins
unfoldable pub ends_from : ℕ → List (List ℕ) → List ℕ
ends_from at [] = []
ends_from at (e ∷ es) = (at + length e) ∷ ends_from (at + length e) es

-- asked for the longest edge of each number, since no edge is known before the first is written
abbrev pub roomy : ℕ → ℕ → ℕ → Bool
roomy many steps ends = leb many ends && leb (128 * many) steps

pub record Room (many steps ends : ℕ) : Type 0 where
  pub for_steps : 128 * many ≤ steps
  pub for_ends : many ≤ ends

pub record Lined : Type 0 where
  pub answer : refusals.Answer ℕ
  pub steps : List ℕ
  pub ends : List ℕ

-- "A refusal returns its number alone and writes nothing"; "An accepted write fills the front of the output, reports its length and touches nothing behind it."
unfoldable pub lined : refusals.Answer (List (List ℕ)) → List ℕ → List ℕ → Lined
unfolding joined ends_from
lined (accepted es) steps ends = record {
  answer = accepted (length (joined es));
  steps = joined es ++ drop (length (joined es)) steps;
  ends = ends_from 0 es ++ drop (length es) ends;
}
lined (refused r) steps ends = record { answer = refused r; steps = steps; ends = ends }

pub record LinedAs (w : Lined) (r : Result ℕ Refusal) (steps ends : List ℕ) : Type 0 where
  pub says : r ≡ reply w.answer
  pub bytes : steps ≡ w.steps
  pub places : ends ≡ w.ends

abbrev pub listed : {A : Type 0} → refusals.Answer A → Result A Unanswered
listed (accepted a) = Ok a
listed (refused r) = Err (Refused (named r))

abbrev pub widened : {A : Type 0} → Result A Refusal → Result A Unanswered
widened (Ok a) = Ok a
widened (Err r) = Err (Refused r)

pub record Lines : Type 0 where
  pub told : Result ℕ Unanswered
  pub steps : List ℕ
  pub ends : List ℕ

-- where there is no room for any edges, the numbers aren't looked at
unfoldable pub lines : refusals.Answer (List (List ℕ)) → List ℕ → List ℕ → List ℕ → Lines
unfolding lined
lines a ns steps ends =
    let w = lined a steps ends in
    pick (roomy (length ns) (length steps) (length ends))
    (record { told = listed w.answer; steps = w.steps; ends = w.ends })
    (record { told = Err NoRoom; steps = steps; ends = ends })

-- "7 Room"
abbrev pub refusal_for : Unanswered → Refusal
refusal_for NoRoom = RoomRefusal
refusal_for (Refused r) = r

abbrev pub narrowed : {A : Type 0} → Result A Unanswered → Result A Refusal
narrowed (Ok a) = Ok a
narrowed (Err w) = Err (refusal_for w)

pub record WroteAs (w : Lines) (r : Result ℕ Unanswered) (steps ends : List ℕ) : Type 0 where
  pub says : r ≡ w.told
  pub bytes : steps ≡ w.steps
  pub places : ends ≡ w.ends

abbrev pub lesser : ℕ → ℕ → ℕ
lesser a b = pick (ltb a b) a b

-- a part that would end before it begins, or begin behind the end of s, is empty; so any numbers are ends
unfoldable pub cut_from : ℕ → List ℕ → List ℕ → List (List ℕ)
cut_from at [] s = []
cut_from at (e ∷ es) s = part_of s at e ∷ cut_from e es s
