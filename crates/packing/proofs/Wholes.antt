-- The pack of the edges that were lined up, and each refusal. Assumes nothing.
--
--   many-known, many-told    what is answered to too many numbers
--   many-built       more than 200 numbers: refusals 1 to 4, then 10
--   packed-few       up to 200 numbers: the edges' refusal, or their pack
--   from-ends        a pack by where its edges end is the pack of the edges
--   Whole, whole_of  what was lined up
--   whole-built, whole-refused    the pack put to the output; the refusal
use mathlib.Core.Path.{◌≡◌, refl, sym, ap, ap₂, ◌∙◌}
use mathlib.Core.List.{List, [], ◌∷◌, ◌++◌, append_assoc}
use Prim.Native.Nat.{ℕ, zero, suc, ◌+◌, ◌*◌, ◌≤◌, ◌<◌}
use native.Mathlib.Omega.{arith}
use lib.ListN.{length, get_or, take, drop, length-append, length-map}
use lib.Seq.{take_at}
use borrow.Author.Tests.{le-leb, lt-leb}
use Rattle.rules.specs.Blocks.{block_length}
use Rattle.rules.specs.Jobs.{Job}
use Rattle.rules.specs.Counts.{count_of}
use Rattle.rules.specs.Numbers.{edge_of}
use Rattle.rules.specs.Refusals.{Answer, and_then}
use Rattle.rules.specs.Refusals.Refusal.{many}
use Rattle.rules.specs.Refusals.Answer.{accepted, refused}
use Rattle.rules.specs.Answers.{known_job, count_answer, written}
use Rattle.rules.specs.Packs.{shortest, mark, two, joined, offsets, pack_bytes}
use Rattle.rules.specs.Questions.{edges_answer, packed_answer, pack_answer}
use Rattle.rules.proofs.Answering.{edges-told}
use Rattle.rules.proofs.Demand3.{then_passed}
use Rattle.rules.proofs.Hence.{known-job}
use Rattle.rules.proofs.Packed.{whole-block, edges-of}
use Rattle.std.specs.Prelude.{Result, Ok, Err}
use Rattle.job.specs.declared.Refusal.{Refusal}
use Rattle.job.specs.declared.Refusal.TheVariants.{Many}
use Rattle.job.specs.Replies.{reply, BuiltAs}
use Rattle.job.proofs.Says.{value-one, value_not}
use Rattle.lines.specs.declared.Unanswered.{Unanswered}
use Rattle.lines.specs.Lines.{Room, ends_from, lined, lines, LinedAs, refusal_for, WroteAs}
use Rattle.lines.proofs.Lining.{lines-built, length-ends}
use Rattle.packing.specs.Packing.{front_of, offsets_of, pack_from, too_many, TooMany}

-- ---- the number of numbers

module _ (b ns : List ℕ) where
  pack-is : (out : List ℕ) → pack_answer b ns out ≡ written (packed_answer b ns) out
  unfolding pack_answer
  pack-is out = refl

  packed-many : 200 < length ns → packed_answer b ns ≡ and_then (known_job b) (λ J. refused many)
  unfolding packed_answer
  packed-many l = rw (lt-leb (length ns) 200 l) refl

  pub many-built : (out : List ℕ) (r : Result ℕ Refusal) → 200 < length ns → TooMany b r → BuiltAs (pack_answer b ns out) r out
  unfolding written
  many-built out r l t = rw (pack-is out, packed-many l) (go (known_job b) t)
    where
      go : (a : Answer Job) → r ≡ reply {A = ℕ} (and_then a (λ J. refused many)) → BuiltAs (written (and_then a (λ J. refused many)) out) r out
      go (accepted J) h = record { says = h; output = refl }
      go (refused x) h = record { says = h; output = refl }

  pub many-known : (v : ℕ) → Ok v ≡ reply (count_answer b) → Err Many ≡ reply (too_many b)
  unfolding count_answer
  many-known v h = go (known_job b) h
    where
      go : (a : Answer Job) → Ok v ≡ reply (and_then a (λ J. accepted (count_of J))) → Err Many ≡ reply {A = ℕ} (and_then a (λ J. refused many))
      go (accepted J) q = refl
      go (refused y) q = absurd (value_not q)

  pub many-told : (r : Refusal) → Err r ≡ reply (count_answer b) → Err r ≡ reply (too_many b)
  unfolding count_answer
  many-told r h = go (known_job b) h
    where
      go : (a : Answer Job) → Err r ≡ reply (and_then a (λ J. accepted (count_of J))) → Err r ≡ reply {A = ℕ} (and_then a (λ J. refused many))
      go (accepted J) q = absurd (value_not (sym q))
      go (refused y) q = q

  pub packed-few : length ns ≤ 200 → packed_answer b ns ≡ and_then (edges_answer b ns) (λ es. accepted (pack_bytes b es))
  unfolding packed_answer
  packed-few l = rw (le-leb (length ns) 200 l) (go (known_job b) refl)
    where
      go : (a : Answer Job) → known_job b ≡ a → and_then a (λ J. and_then (edges_answer b ns) (λ es. accepted (pack_bytes b es))) ≡ and_then (edges_answer b ns) (λ es. accepted (pack_bytes b es))
      go (accepted J) e = refl
      go (refused x) e = sym (ap (λ (a : Answer (List (List ℕ))). and_then a (λ es. accepted (pack_bytes b es))) (edges-told b ns x e))

  -- as many edges as numbers, of a block of 20 bytes
  edges-many : (es : List (List ℕ)) → edges_answer b ns ≡ accepted es → (length es ≡ length ns) × (length b ≡ block_length)
  unfolding edges_answer
  edges-many es e =
      let (J, known, q) = then_passed (known_job b) _ es e in
      (sym (ap length (edges-of b J known ns es e).1) ∙ length-map ns (edge_of J), whole-block b J (known-job b J known).job)

-- ---- ends and offsets

offsets-ends : (first at : ℕ) (es : List (List ℕ)) → offsets (first + at) es ≡ two (first + at) ++ offsets_of first (ends_from at es)
unfolding offsets offsets_of ends_from
offsets-ends first at [] = refl
offsets-ends first at (e ∷ es) =
    let q : first + at + length e ≡ first + (at + length e) = omega arith in
    ap (λ (z : List ℕ). two (first + at) ++ z) (ap (λ (k : ℕ). offsets k es) q ∙ offsets-ends first (at + length e) es)

pub from-ends : (b : List ℕ) (es : List (List ℕ)) → pack_from b (ends_from 0 es) (joined es) ≡ pack_bytes b es
unfolding pack_from pack_bytes
from-ends b es =
    let c : length (ends_from 0 es) ≡ length es = length-ends 0 es in
    let first : ℕ = shortest + 2 * length es in
    let zero_more : first + 0 ≡ first = omega arith in
    let o : offsets first es ≡ two first ++ offsets_of first (ends_from 0 es) =
    sym (ap (λ (k : ℕ). offsets k es) zero_more) ∙ offsets-ends first 0 es ∙ ap (λ (k : ℕ). two k ++ offsets_of first (ends_from 0 es)) zero_more in
    ap (λ (k : ℕ). front_of b k ++ (offsets_of (shortest + 2 * k) (ends_from 0 es) ++ joined es)) c
    ∙ ap (λ (z : List ℕ). mark ++ z)
    (append_assoc b (two (length es) ++ two first) (offsets_of first (ends_from 0 es) ++ joined es)
    ∙ ap (λ (z : List ℕ). b ++ (two (length es) ++ z))
    (ap (λ (z : List ℕ). z ++ joined es) (sym o)))

ends-within : (at : ℕ) (es : List (List ℕ)) (i : ℕ) → i < length es → get_or (ends_from at es) i 0 ≤ at + length (joined es)
unfolding ends_from joined
ends-within at [] i l = absurd (omega arith)
ends-within at (e ∷ es) zero l = omega (arith, length-append e (joined es))
ends-within at (e ∷ es) (suc i) l = omega (arith, ends-within (at + length e) es i (omega arith), length-append e (joined es))

-- ---- what was lined up

pub record Whole (b ns s t : List ℕ) (n : ℕ) : Type 0 where
  pub edges : List (List ℕ)
  pub answer : edges_answer b ns ≡ accepted edges
  pub fits : n ≤ length s
  pub steps : take n s ≡ joined edges
  pub many : length ns ≤ length t
  pub ends : take (length ns) t ≡ ends_from 0 edges
  pub whole : length b ≡ block_length
  pub few : length (take (length ns) t) ≤ 200
  pub short : length (take n s) ≤ 25600
  pub within : (i : ℕ) → i < length (take (length ns) t) → get_or (take (length ns) t) i 0 ≤ 25600

module _ (b ns steps ends : List ℕ) (room : Room (length ns) (length steps) (length ends)) (few : length ns ≤ 200) where
  pub whole_of : (n : ℕ) (s t : List ℕ) → WroteAs (lines (edges_answer b ns) ns steps ends) (Ok n) s t → length s ≤ 25600 → Whole b ns s t n
  unfolding lined
  whole_of n s t w short = go (edges_answer b ns) refl (lines-built (edges_answer b ns) ns steps ends (Ok n) (Ok n) s t room refl w)
    where
      go : (a : Answer (List (List ℕ))) → edges_answer b ns ≡ a → LinedAs (lined a steps ends) (Ok n) s t → Whole b ns s t n
      go (refused y) e v = absurd (value_not v.says)
      go (accepted es) e v =
          let long : n ≡ length (joined es) = value-one v.says in
          let (c, whole) = edges-many b ns es e in
          let l : length (ends_from 0 es) ≡ length ns = length-ends 0 es ∙ c in
          let fits : n ≤ length s = omega (arith, ap length v.bytes, length-append (joined es) (drop (length (joined es)) steps)) in
          let S : take n s ≡ joined es = ap (take n) v.bytes ∙ take_at (joined es) (drop (length (joined es)) steps) n (sym long) in
          let E : take (length ns) t ≡ ends_from 0 es = ap (take (length ns)) v.places ∙ take_at (ends_from 0 es) (drop (length es) ends) (length ns) l in
          let m : length (take (length ns) t) ≡ length ns = ap length E ∙ l in
          record {
            edges = es;
            answer = e;
            fits = fits;
            steps = S;
            many = omega (arith, ap length v.places, length-append (ends_from 0 es) (drop (length es) ends));
            ends = E;
            whole = whole;
            few = omega arith;
            short = omega (arith, ap length S);
            within = λ i h. omega (arith, ap (λ (l : List ℕ). get_or l i 0) E, ends-within 0 es i (omega arith));
          }

  pub whole-built : (n : ℕ) (s t : List ℕ) → Whole b ns s t n → (out after : List ℕ) (y : Result ℕ Refusal)
      → BuiltAs (written (accepted (pack_from b (take (length ns) t) (take n s))) out) y after → BuiltAs (pack_answer b ns out) y after
  whole-built n s t w out after y h =
      let p : pack_from b (take (length ns) t) (take n s) ≡ pack_bytes b w.edges = ap₂ (pack_from b) w.ends w.steps ∙ from-ends b w.edges in
      rw (pack-is b ns out, packed-few b ns few, w.answer, sym p) h

  pub whole-refused : (y : Unanswered) (s t out : List ℕ) → WroteAs (lines (edges_answer b ns) ns steps ends) (Err y) s t → BuiltAs (pack_answer b ns out) (Err (refusal_for y)) out
  unfolding lined written
  whole-refused y s t out w =
      rw (pack-is b ns out, packed-few b ns few)
      (go (edges_answer b ns) (lines-built (edges_answer b ns) ns steps ends (Err y) (Err (refusal_for y)) s t room refl w))
    where
      go : (a : Answer (List (List ℕ))) → LinedAs (lined a steps ends) (Err (refusal_for y)) s t → BuiltAs (written (and_then a (λ es. accepted (pack_bytes b es))) out) (Err (refusal_for y)) out
      go (accepted es) v = absurd (value_not (sym v.says))
      go (refused x) v = record { says = v.says; output = refl }
