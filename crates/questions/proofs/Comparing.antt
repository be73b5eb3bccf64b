-- The earlier of two, from the numbers of both. Assumes nothing.
--
--   carried                                             a refusal is the same in an answer of any kind
--   second-refused, second-refused_too, second-value    the answer, from those of both numbers
--   refusal-some                                        the refusal number, from the answer
use mathlib.Core.Path.{◌≡◌, refl, sym, ap, ap₂, ◌∙◌}
use mathlib.Core.Bool.{Bool, true, false}
use mathlib.Core.List.{List}
use Prim.Native.Nat.{ℕ}
use lib.Dec.{ltb}
use Rattle.std.specs.Prelude.{Result, Ok, Err}
use Rattle.rules.specs.Refusals.{Answer, and_then}
use Rattle.rules.specs.Refusals.Answer.{accepted, refused}
use Rattle.rules.specs.Answers.{number_answer}
use Rattle.rules.specs.Questions.{second_answer}
use Rattle.job.specs.declared.Refusal.{Refusal}
use Rattle.job.specs.Replies.{number_of, reply}
use Rattle.job.specs.Parts.{refusal_in}
use Rattle.job.proofs.Says.{value_not, refusal-one, answer-value, named_number}
use Rattle.questions.specs.Replies.{which_of, which}

-- a refusal is the same in answers of any kind
pub carried : {A B : Type 0} {k r : Refusal} → ◌≡◌ {A = Result A Refusal} (Err k) (Err r) → ◌≡◌ {A = Result B Refusal} (Err k) (Err r)
carried e = ap Err (refusal-one e)

both : Answer ℕ → Answer ℕ → Answer Bool
both n m = and_then n (λ x. and_then m (λ y. accepted (ltb y x)))

module _ (block a b : List ℕ) where
  second_is : second_answer block a b ≡ both (number_answer block a) (number_answer block b)
  unfolding second_answer both
  second_is = refl

  pub second-refused : {k : Refusal} → Err k ≡ reply (number_answer block a) → Err k ≡ which (second_answer block a b)
  unfolding both
  second-refused {k} e = go (number_answer block a) e ∙ ap which (sym second_is)
    where
      go : (n : Answer ℕ) → Err k ≡ reply n → Err k ≡ which (both n (number_answer block b))
      go (accepted x) e = absurd (value_not (sym e))
      go (refused r) e = carried e

  pub second-refused_too : {x : ℕ} {k : Refusal} → Ok x ≡ reply (number_answer block a) → Err k ≡ reply (number_answer block b) → Err k ≡ which (second_answer block a b)
  unfolding both
  second-refused_too {x} {k} e f = go (number_answer block b) f ∙ ap (λ (n : Answer ℕ). which (both n (number_answer block b))) (sym (answer-value (number_answer block a) x e)) ∙ ap which (sym second_is)
    where
      go : (m : Answer ℕ) → Err k ≡ reply m → Err k ≡ which (both (accepted x) m)
      go (accepted z) f = absurd (value_not (sym f))
      go (refused r) f = carried f

  pub second-value : {x y : ℕ} → Ok x ≡ reply (number_answer block a) → Ok y ≡ reply (number_answer block b) → Ok (which_of (ltb y x)) ≡ which (second_answer block a b)
  unfolding both
  second-value {x} {y} e f = ap which (ap₂ both (sym (answer-value (number_answer block a) x e)) (sym (answer-value (number_answer block b) y f)) ∙ sym second_is)

-- ---- the refusal number

pub refusal-some : (x : Answer Bool) {k : Refusal} → Err k ≡ which x → number_of k ≡ refusal_in x
refusal-some (accepted true) e = absurd (value_not (sym e))
refusal-some (accepted false) e = absurd (value_not (sym e))
refusal-some (refused r) e = ap number_of (refusal-one e) ∙ named_number r
