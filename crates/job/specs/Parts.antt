-- What is handed back of a lent slice, and its partner.
--
--   PartOf s a e r    r is the part of s from a up to, not including, e: it points there, and holds these bytes
--   refusal_in a       the refusal number of an answer, 0 if none
use Rattle.std.specs.Prelude.{◌≡◌, ℕ, ◌+◌, List}
use Rattle.std.specs.Borrow.{Bor}
use Rattle.rules.specs.Packs.{part_of}
use Rattle.rules.specs.Refusals.{Answer, refusal_number}
use Rattle.rules.specs.Refusals.Answer.{accepted, refused}

pub record PartOf (s : Bor (List ℕ)) (a e : ℕ) (r : Bor (List ℕ)) : Type 0 where
  pub block : r.ref_ptr.0 ≡ s.ref_ptr.0
  pub place : r.ref_ptr.1 ≡ a + s.ref_ptr.1
  pub bytes : r.now ≡ part_of s.now a e

-- "a partner question gives the refusal number, 0 if none"
abbrev pub refusal_in : {A : Type 0} → Answer A → ℕ
refusal_in (accepted a) = 0
refusal_in (refused r) = refusal_number r
