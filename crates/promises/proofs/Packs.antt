-- What the contracts of packs and of `compare` settle together. Assumes nothing.
--
--   written-pack      a pack that was written: its bytes are at the output's front
--   written-part      edge i of it is the edge of number i of the list, whatever i below the list's length: every edge, not only the first
--   written-number    and its number is that number
--   compare_second, compare_first    the second is the earlier one exactly if it stands before the first in document 01's order
use mathlib.Core.Path.{◌≡◌, refl, sym, ap, ap₂, ◌∙◌}
use mathlib.Core.List.{List}
use Prim.Native.Nat.{ℕ, ◌<◌}
use lib.ListN.{length, get_or, take, drop}
use lib.Seq.{take-append_seam}
use Rattle.rules.specs.Jobs.{Job}
use Rattle.rules.specs.Valid.{Valid}
use Rattle.rules.specs.Order.{Before}
use Rattle.rules.specs.Refusals.Answer.{accepted}
use Rattle.rules.specs.Answers.{known_job, edge_answer, written}
use Rattle.rules.specs.Packs.{part_of}
use Rattle.rules.specs.Questions.{Part, packed_answer, pack_answer}
use Rattle.rules.proofs.Packed.{packed-known, packed-edge}
use Rattle.rules.proofs.Earlier.{before-second, first_else}
use Rattle.rules.proofs.Hence as hence
use Rattle.std.specs.Prelude.{Result, Ok}
use Rattle.job.specs.declared.Refusal.{Refusal}
use Rattle.job.specs.Replies.{reply}
use Rattle.questions.specs.declared.Which.{Which}
use Rattle.questions.specs.declared.Which.TheVariants.{First, Second}
use Rattle.job.proofs.Says.{value-one}
use Rattle.questions.specs.Replies.{which}
use Rattle.pack.specs.Replies.{reply_by, placed}
use Rattle.calls.specs.Meets.{NumberMeets}
use Rattle.packing.specs.Meets.{WriteMeets}
use Rattle.pack.specs.Meets.{PartMeets}
use Rattle.questions.specs.Meets.{CompareMeets}
use Rattle.promises.proofs.One.{equal_one}
use Rattle.promises.proofs.Carried.{Put, put_of}

pack-is : (b ns output : List ℕ) → pack_answer b ns output ≡ written (packed_answer b ns) output
unfolding pack_answer
pack-is b ns output = refl

module _ (b ns output after : List ℕ) (l : ℕ) (w : WriteMeets b ns output (Ok l) after) where
  put : Put (packed_answer b ns) output l after
  put = put_of (packed_answer b ns) output after l (rw (pack-is b ns output) at w)

  pub written-pack : packed_answer b ns ≡ accepted (take l after)
  written-pack =
      let p = put in
      p.is ∙ ap accepted (sym (ap (λ (k : ℕ). take k after) (sym p.long) ∙ ap (take (length p.edge)) p.bytes ∙ take-append_seam p.edge (drop (length p.edge) output)))

  pub written-part : (i : ℕ) → i < length ns → (x : Result (ℕ × ℕ) Refusal) → PartMeets (take l after) i x
      → (q : Part) × (x ≡ Ok (q.start, q.end)) × (edge_answer b (get_or ns i 0) ≡ accepted (part_of (take l after) q.start q.end))
  written-part i h x y =
      let (q, e, f) = packed-edge b ns (take l after) written-pack i h in
      (q, equal_one _ x (Ok (q.start, q.end)) y (ap (reply_by placed) (sym e)), f)

  pub written-number : (i : ℕ) → i < length ns → (s e : ℕ) → PartMeets (take l after) i (Ok (s, e)) → (y : Result ℕ Refusal) → NumberMeets b (part_of (take l after) s e) y
      → y ≡ Ok (get_or ns i 0)
  written-number i h s e p y n =
      let (q, same, f) = written-part i h (Ok (s, e)) p in
      let (J, known, a) = packed-known b ns (take l after) written-pack in
      let edge : edge_answer b (get_or ns i 0) ≡ accepted (part_of (take l after) s e)
      = f ∙ ap₂ (λ (u v : ℕ). accepted (part_of (take l after) u v)) (sym (ap (λ (z : ℕ × ℕ). z.0) (value-one same))) (sym (ap (λ (z : ℕ × ℕ). z.1) (value-one same))) in
      equal_one _ y (Ok (get_or ns i 0)) n (ap reply (sym (hence.built-number b J known (get_or ns i 0) (part_of (take l after) s e) edge)))

-- the order of document 01, which mentions no number
module _ (b : List ℕ) (J : Job) (known : known_job b ≡ accepted J) (e f : List ℕ) (v : Valid J e) (u : Valid J f) (x : Result Which Refusal) (h : CompareMeets b e f x) where
  pub compare_second : Before J f e → x ≡ Ok Second
  compare_second t = equal_one _ x (Ok Second) h (ap which (sym (before-second b J known e f v u t)))

  pub compare_first : (Before J f e → ⊥) → x ≡ Ok First
  compare_first t = equal_one _ x (Ok First) h (ap which (sym (first_else b J known e f v u t)))
