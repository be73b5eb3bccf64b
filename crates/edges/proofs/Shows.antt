-- From what an answer says to what C sees of it. Assumes nothing.
--
--   seen-told         what C is told of an answer; write-told: of a write
--   dip_refused, second_refused, part_refused, repeat_refused    what it sees where another answer is a refusal
use Rattle.std.proofs.Common.{◌≡◌, ℕ, Bool, List, refl, sym, ap, ◌∙◌, Result, Err}
use Rattle.std.specs.Prelude.{Option}
use Rattle.std.proofs.Math.Option as math
use Rattle.rules.specs.Refusals as rules
use Rattle.rules.specs.Refusals.{Answer, refusal_number}
use Rattle.rules.specs.Refusals.Answer.{accepted, refused}
use Rattle.rules.specs.Answers.{Written}
use Rattle.rules.specs.Questions.{Part, Twice}
use Rattle.job.specs.declared.Refusal.{Refusal}
use Rattle.job.specs.Replies.{named, number_of, reply, BuiltAs}
use Rattle.job.proofs.Says.{value_not, refusal-one, named_number}
use Rattle.walks.specs.Walks.{finding}
use Rattle.questions.specs.declared.Which.{Which}
use Rattle.questions.specs.Replies.{which}
use Rattle.pack.specs.Replies.{reply_by, placed, paired}
use Rattle.edges.specs.Seen.{Tells, Seen, SeenWrite, SeenDip, SeenSecond, SeenPart, SeenRepeat}

pub seen-told : (a : Answer ℕ) {y : Result ℕ Refusal} {before r after : ℕ} → y ≡ reply a → Tells y before r after → Seen a r before after
seen-told (accepted v) e t = let u = rw e at t in record { result = u.0; number = u.1 }
seen-told (refused x) e t = let u = rw e at t in record { result = u.0 ∙ named_number x; number = u.1 }

pub write-told : {w : Written} {y : Result ℕ Refusal} {before r after : ℕ} {output : List ℕ} → BuiltAs w y output → Tells y before r after → SeenWrite w r before after output
write-told {w} h t = record { seen = seen-told w.answer h.says t; bytes = h.output }

-- a refusal that is told is the answer's
told : (z : rules.Refusal) {x : Refusal} {r : ℕ} → named z ≡ x → r ≡ number_of x → r ≡ refusal_number z
told z e n = n ∙ ap number_of (sym e) ∙ named_number z

module _ {x : Refusal} {r : ℕ} (n : r ≡ number_of x) where
  pub dip_refused : (a : Answer (math.Option ℕ)) {y : Result (Option ℕ) Refusal} {d p : ℕ} → y ≡ finding a → y ≡ Err x → SeenDip a r d p d p
  dip_refused (accepted o) e q = absurd (value_not (sym e ∙ q))
  dip_refused (refused z) e q = record { result = told z (refusal-one (sym e ∙ q)) n; yes = refl; where_first = refl }

  pub second_refused : (a : Answer Bool) {y : Result Which Refusal} {s : ℕ} → y ≡ which a → y ≡ Err x → SeenSecond a r s s
  second_refused (accepted t) e q = absurd (value_not (sym e ∙ q))
  second_refused (refused z) e q = record { result = told z (refusal-one (sym e ∙ q)) n; which = refl }

  pub part_refused : (a : Answer Part) {y : Result (ℕ × ℕ) Refusal} {s e : ℕ} → y ≡ reply_by placed a → y ≡ Err x → SeenPart a r s e s e
  part_refused (accepted p) e q = absurd (value_not (sym e ∙ q))
  part_refused (refused z) e q = record { result = told z (refusal-one (sym e ∙ q)) n; begins = refl; ends = refl }

  pub repeat_refused : (a : Answer (math.Option Twice)) {y : Result (Option (ℕ × ℕ)) Refusal} {f l e : ℕ} → y ≡ reply_by paired a → y ≡ Err x → SeenRepeat a r f l e f l e
  repeat_refused (accepted o) e q = absurd (value_not (sym e ∙ q))
  repeat_refused (refused z) e q = record { result = told z (refusal-one (sym e ∙ q)) n; some_repeat = refl; second = refl; first = refl }
