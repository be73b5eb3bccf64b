-- The calls for C answer what `calls` answers: so demand 3 of the calls is theirs. Assumes nothing.
--
--   told-value, told-refusal    what a caller in C is told, with 0 and with any other result
--   count-told, number-told     `edges_count` and `edges_number`: 0 and what is behind the pointer, or a refusal and nothing changed
--   build-told                  `edges_build`: the same, and the output's bytes
use mathlib.Core.Path.{◌≡◌, refl, sym, ap, ◌∙◌}
use mathlib.Core.Logic.{◌≢◌}
use mathlib.Core.List.{List}
use Prim.Native.Nat.{ℕ, ◌<◌}
use native.Mathlib.Omega.{arith}
use Rattle.rules.specs.Refusals as rules
use Rattle.rules.specs.Refusals.{Answer, refusal_number}
use Rattle.rules.specs.Refusals.Refusal.{form, size, twin, over, not-an-edge, beyond, room, bad-pack, no-such-edge, many, kind}
use Rattle.rules.specs.Refusals.Answer.{accepted, refused}
use Rattle.rules.specs.Answers.{count_answer, number_answer, build_answer}
use Rattle.std.specs.Prelude.{Result, Ok, Err}
use Rattle.job.specs.declared.Refusal.{Refusal}
use Rattle.job.specs.Replies.{named, number_of, reply}
use Rattle.job.proofs.Says.{named_number}
use Rattle.calls.specs.Meets.{CountMeets, NumberMeets, BuildMeets}
use Rattle.edges.specs.Seen.{Seen}
use Rattle.edges.specs.Meets.{EdgesCountMeets, EdgesNumberMeets, EdgesBuildMeets}

-- no refusal has the number 0
some_number : (x : rules.Refusal) → 0 < refusal_number x
unfolding refusal_number
some_number form = omega arith
some_number size = omega arith
some_number twin = omega arith
some_number over = omega arith
some_number not-an-edge = omega arith
some_number beyond = omega arith
some_number room = omega arith
some_number bad-pack = omega arith
some_number no-such-edge = omega arith
some_number many = omega arith
some_number kind = omega arith

told-value : (a : Answer ℕ) (before after : ℕ) → Seen a 0 before after → Ok after ≡ reply a
told-value (accepted v) before after h = ap (λ (n : ℕ). (let r : Result ℕ Refusal = Ok n in r)) h.number
told-value (refused x) before after h = absurd (omega (arith, some_number x, h.result))

-- a refusal of the number r, of what P says
abbrev pub Refuses : ℕ → (Refusal → Type 0) → Type 0
Refuses r P = (x : Refusal) × (r ≡ number_of x) × P x

told-refusal : (a : Answer ℕ) (r before after : ℕ) → r ≢ 0 → Seen a r before after → Refuses r (λ x. Err x ≡ reply a) × (after ≡ before)
told-refusal (accepted v) r before after n h = absurd (n h.result)
told-refusal (refused x) r before after n h = ((named x, h.result ∙ sym (named_number x), refl), h.number)

pub count-told : (b : List ℕ) (r before after : ℕ) → EdgesCountMeets b before r after
    → (r ≡ 0 → CountMeets b (Ok after)) × (r ≢ 0 → Refuses r (λ x. CountMeets b (Err x)) × (after ≡ before))
count-told b r before after h = (λ z. told-value (count_answer b) before after (rw z at h), λ n. told-refusal (count_answer b) r before after n h)

pub number-told : (b e : List ℕ) (r before after : ℕ) → EdgesNumberMeets b e before r after
    → (r ≡ 0 → NumberMeets b e (Ok after)) × (r ≢ 0 → Refuses r (λ x. NumberMeets b e (Err x)) × (after ≡ before))
number-told b e r before after h = (λ z. told-value (number_answer b e) before after (rw z at h), λ n. told-refusal (number_answer b e) r before after n h)

pub build-told : (b : List ℕ) (n : ℕ) (out : List ℕ) (before r : ℕ) (out-after : List ℕ) (after : ℕ) → EdgesBuildMeets b n out before r out-after after
    → (r ≡ 0 → BuildMeets b n out (Ok after) out-after) × (r ≢ 0 → Refuses r (λ x. BuildMeets b n out (Err x) out-after) × (after ≡ before))
build-told b n out before r out-after after h = (
  λ z. record { says = told-value (build_answer b n out).answer before after (rw z at h.seen); output = h.bytes },
  λ k.
      let t = told-refusal (build_answer b n out).answer r before after k h.seen in
      let x = t.0 in
      ((x.0, x.1, record { says = x.2; output = h.bytes }), t.1),
)
