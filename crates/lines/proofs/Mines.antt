-- Laws of what the crate of some families answers. Assumes nothing.
--
--   mine_count, mine_ranks, mine_lines           the answer for a family of the crate's own
--   other-count, other-ranks, other-lines        for any other
--   is_mine, not_mine                            what a case of the answer says of the family
--   count_mine, ranks_mine, lines_mine           the answer that a case holds; ranks-other, lines_other: nothing was written
use mathlib.Core.Path.{◌≡◌, refl, sym, ap, ◌∙◌}
use mathlib.Core.Bool.{Bool, true, false}
use mathlib.Core.List.{List}
use native.Mathlib.Omega.{arith}
use Prim.Native.Nat.{ℕ}
use Rattle.std.specs.Prelude.{Some, None, Result}
use Rattle.howmany.specs.Choose.{pick}
use Rattle.rules.specs.Refusals.{Answer}
use Rattle.job.specs.declared.Refusal.{Refusal}
use Rattle.job.specs.Replies.{reply}
use Rattle.lines.specs.declared.Unanswered.{Unanswered}
use Rattle.lines.specs.Lines.{Lines, WroteAs}
use Rattle.lines.specs.Ranks.{Ranks, RanksAs}
use Rattle.lines.specs.Mine.{own, CountsFor, RanksFor, LinesFor}

module _ {mine : Bool} (e : mine ≡ true) where
  pub mine_count : (a : Answer ℕ) (r : Result ℕ Refusal) → r ≡ reply a → CountsFor mine a (Some r)
  mine_count a r w = rw e (ap Some w)

  pub mine_ranks : (w : Ranks) (r : Result ℕ Unanswered) (before after : List ℕ) → RanksAs w r after → RanksFor mine w (Some r) before after
  mine_ranks w r before after h = rw e (record { says = ap Some h.says; numbers_are = h.numbers_are })

  pub mine_lines : (w : Lines) (r : Result ℕ Unanswered) (steps ends after-steps after-ends : List ℕ) → WroteAs w r after-steps after-ends
      → LinesFor mine w (Some r) steps ends after-steps after-ends
  mine_lines w r steps ends s t h = rw e (record { says = ap Some h.says; bytes = h.bytes; places = h.places })

module _ {mine : Bool} (e : mine ≡ false) where
  pub other-count : (a : Answer ℕ) → CountsFor mine a None
  other-count a = rw e refl

  pub other-ranks : (w : Ranks) (before : List ℕ) → RanksFor mine w None before before
  other-ranks w before = rw e (record { says = refl; numbers_are = refl })

  pub other-lines : (w : Lines) (steps ends : List ℕ) → LinesFor mine w None steps ends steps ends
  other-lines w steps ends = rw e (record { says = refl; bytes = refl; places = refl })

some_not : {A : Type 0} {a : A} → Some a ≡ None → ⊥
some_not e = let z : ◌≡◌ {A = ℕ} 0 1 = cc in omega arith

pub is_mine : {A : Type 0} {a b : A} (mine : Bool) → Some a ≡ own mine b → (mine ≡ true) × (a ≡ b)
is_mine true e = (refl, cc)
is_mine false e = absurd (some_not e)

pub not_mine : {A : Type 0} (b : A) (mine : Bool) → None ≡ own mine b → mine ≡ false
not_mine b true e = absurd (some_not (sym e))
not_mine b false e = refl

pub count_mine : (mine : Bool) (a : Answer ℕ) (r : Result ℕ Refusal) → CountsFor mine a (Some r) → r ≡ reply a
count_mine mine a r w = (is_mine mine w).1

pub ranks_mine : (mine : Bool) (w : Ranks) (r : Result ℕ Unanswered) (before after : List ℕ) → RanksFor mine w (Some r) before after → RanksAs w r after
ranks_mine mine w r before after h =
    let (t, q) = is_mine mine h.says in
    record { says = q; numbers_are = h.numbers_are ∙ ap (λ (b : Bool). pick b w.numbers before) t }

pub lines_mine : (mine : Bool) (w : Lines) (r : Result ℕ Unanswered) (steps ends after-steps after-ends : List ℕ) → LinesFor mine w (Some r) steps ends after-steps after-ends → WroteAs w r after-steps after-ends
lines_mine mine w r steps ends s t h =
    let (u, q) = is_mine mine h.says in
    record {
      says = q;
      bytes = h.bytes ∙ ap (λ (b : Bool). pick b w.steps steps) u;
      places = h.places ∙ ap (λ (b : Bool). pick b w.ends ends) u;
    }

pub ranks-other : (mine : Bool) (w : Ranks) (before after : List ℕ) → RanksFor mine w None before after → (mine ≡ false) × (after ≡ before)
ranks-other mine w before after h =
    let u = not_mine w.told mine h.says in
    (u, h.numbers_are ∙ ap (λ (b : Bool). pick b w.numbers before) u)

pub lines_other : (mine : Bool) (w : Lines) (steps ends after-steps after-ends : List ℕ) → LinesFor mine w None steps ends after-steps after-ends
    → (mine ≡ false) × (after-steps ≡ steps) × (after-ends ≡ ends)
lines_other mine w steps ends s t h =
    let u = not_mine w.told mine h.says in
    (u, h.bytes ∙ ap (λ (b : Bool). pick b w.steps steps) u, h.places ∙ ap (λ (b : Bool). pick b w.ends ends) u)
