-- Answers, from what the code replies. Assumes nothing.
--
--   refused_not                   no value is a refusal
--   accepted-one                  equal values are of one thing
--   named-as                      the refusal that is replied; refused_then: it stays one
--   found_part                    the part that is answered
--   Refusing a r                  the answer a is the refusal r; no_part: from what is replied
use mathlib.Core.Path.{◌≡◌, refl, sym, ap, ap₂, ◌∙◌}
use Prim.Native.Nat.{ℕ}
use Rattle.std.specs.Prelude.{Result, Ok, Err}
use Rattle.rules.specs.Refusals as rules
use Rattle.rules.specs.Refusals.{Answer, and_then}
use Rattle.rules.specs.Refusals.Answer.{accepted, refused}
use Rattle.rules.specs.Questions.{Part}
use Rattle.job.specs.declared.Refusal.{Refusal}
use Rattle.job.specs.Replies.{named, reply}
use Rattle.job.proofs.Says.{value_not, value-one, refusal-one}
use Rattle.pack.specs.Replies.{reply_by, placed}

module _ {A : Type 0} where
  pub refused_not : {v : A} {x : rules.Refusal} → accepted v ≡ refused x → ⊥
  refused_not e = value_not (ap reply e)

  pub accepted-one : {u v : A} → accepted u ≡ accepted v → u ≡ v
  accepted-one e = value-one (ap reply e)

  pub named-as : {a : Answer A} {r : Refusal} {x : rules.Refusal} → Err r ≡ reply a → a ≡ refused x → r ≡ named x
  named-as e g = refusal-one (e ∙ ap reply g)

  pub refused_then : {B C : Type 0} (f : B → C) (a : Answer A) (g : A → Answer B) (r : Refusal) → Err r ≡ reply a → Err r ≡ reply_by f (and_then a g)
  refused_then f (accepted v) g r e = absurd (value_not (sym e))
  refused_then f (refused x) g r e = ap (λ (y : Refusal). (let z : Result _ Refusal = Err y in z)) (refusal-one e)

pub found_part : (a : Answer Part) (start end : ℕ) → Ok (start, end) ≡ reply_by placed a → a ≡ accepted (record { start = start; end = end })
found_part (accepted q) start end e =
    let w = value-one e in sym (ap₂ (λ (s e : ℕ). accepted (record { start = s; end = e })) (ap (λ p. p.0) w) (ap (λ p. p.1) w))
found_part (refused x) start end e = absurd (value_not e)

pub record Refusing {A : Type 0} (a : Answer A) (r : Refusal) : Type 0 where
  pub refusal : rules.Refusal
  pub answer : a ≡ refused refusal
  pub name : r ≡ named refusal

pub no_part : (a : Answer Part) (r : Refusal) → Err r ≡ reply_by placed a → Refusing a r
no_part (accepted q) r e = absurd (value_not (sym e))
no_part (refused x) r e = record { refusal = x; answer = refl; name = refusal-one e }
