-- Laws of replies. Assumes nothing.
--
--   value_not       a value is no refusal
--   value-one       equal values are of one thing; named-one: so are equal refusals
--   answer-value    an answer, from its reply
--   named_number    the number of a refusal's name; named-meant, meant_named: the names and what they mean
use Rattle.std.proofs.Common.{◌≡◌, ℕ, sym, ap, refl, arith, Result, Ok, Err}
use Rattle.rules.specs.Refusals as rules
use Rattle.rules.specs.Refusals.{Answer, refusal_number}
use Rattle.rules.specs.Refusals.Refusal.{form, size, twin, over, not-an-edge, beyond, room, bad-pack, no-such-edge, many, kind}
use Rattle.rules.specs.Refusals.Answer.{accepted, refused}
use Rattle.job.specs.declared.Refusal.{Refusal}
use Rattle.job.specs.declared.Refusal.TheVariants.{Form, Size, Twin, Over, NotEdge, Beyond, Room, BadPack, NoSuchEdge, Many, Kind}
use Rattle.job.specs.Replies.{named, meant, number_of, reply}

module _ {A E : Type 0} where
  pub value_not : {v : A} {k : E} → ◌≡◌ {A = Result A E} (Ok v) (Err k) → ⊥
  value_not e = let z : ◌≡◌ {A = ℕ} 0 1 = cc in omega arith

  pub value-one : {u v : A} → ◌≡◌ {A = Result A E} (Ok u) (Ok v) → u ≡ v
  value-one e = cc

  pub refusal-one : {u v : E} → ◌≡◌ {A = Result A E} (Err u) (Err v) → u ≡ v
  refusal-one e = cc

module _ {A : Type 0} where
  pub answer-value : (a : Answer A) (v : A) → Ok v ≡ reply a → a ≡ accepted v
  answer-value (accepted u) v e = ap accepted (sym (value-one e))
  answer-value (refused r) v e = absurd (value_not e)

pub named-meant : (r : Refusal) → named (meant r) ≡ r
named-meant Form = refl
named-meant Size = refl
named-meant Twin = refl
named-meant Over = refl
named-meant NotEdge = refl
named-meant Beyond = refl
named-meant Room = refl
named-meant BadPack = refl
named-meant NoSuchEdge = refl
named-meant Many = refl
named-meant Kind = refl

pub meant_named : (r : rules.Refusal) → meant (named r) ≡ r
meant_named form = refl
meant_named size = refl
meant_named twin = refl
meant_named over = refl
meant_named not-an-edge = refl
meant_named beyond = refl
meant_named room = refl
meant_named bad-pack = refl
meant_named no-such-edge = refl
meant_named many = refl
meant_named kind = refl

pub named_number : (r : rules.Refusal) → number_of (named r) ≡ refusal_number r
unfolding refusal_number
named_number form = refl
named_number size = refl
named_number twin = refl
named_number over = refl
named_number not-an-edge = refl
named_number beyond = refl
named_number room = refl
named_number bad-pack = refl
named_number no-such-edge = refl
named_number many = refl
named_number kind = refl
