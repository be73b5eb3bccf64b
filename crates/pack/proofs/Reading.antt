-- The answers on a pack, step by step, for the code that works them out so. Assumes nothing.
--
--   read-bad, read_told           refusal 8, and 1 to 4
--   read-fine, read-wrong         no refusal, and refusal 5
--   part-refused, repeat-refused  the refusals of `read_answer` are those of the questions
--   repeat_read                   the repeat of a pack that is read
--   part_none, part_read          edge i of a pack that is read
--   Inside p q                    the part q lies in p; part-inside: a part that is answered does
use mathlib.Core.Path.{◌≡◌, refl, ap, sym, ◌∙◌, subst}
use mathlib.Core.Bool.{Bool, true, false}
use mathlib.Core.List.{List}
use Prim.Native.Nat.{ℕ, ◌+◌, ◌≤◌, ◌<◌}
use native.Mathlib.Decide.{dec_lt}
use native.Mathlib.Omega.{arith}
use lib.Dec.{ltb}
use lib.ListN.{length}
use borrow.Author.Tests.{lt-ltb, le-ltb}
use Rattle.std.specs.Prelude as code
use Rattle.std.specs.Prelude.{Ok, Err}
use Rattle.rules.specs.Jobs as rules
use Rattle.rules.specs.Refusals.{Answer, check, and_then}
use Rattle.rules.specs.Refusals.Refusal.{not-an-edge, bad-pack, no-such-edge}
use Rattle.rules.specs.Refusals.Answer.{accepted, refused}
use Rattle.rules.specs.Answers.{known_job, count_answer}
use Rattle.rules.specs.Packs.{Pack, pack_of, laid, block_in, count_in, offset}
use Rattle.rules.specs.Questions.{read_answer, all_valid, Part, part_answer, twice_in, repeat_answer}
use Rattle.rules.proofs.Answering.{count-told, count-known}
use Rattle.rules.proofs.PackLaws.{edges-length}
use Rattle.job.specs.Replies.{reply}
use Rattle.job.specs.declared.Refusal.{Refusal}
use Rattle.job.specs.declared.Refusal.TheVariants.{BadPack, NoSuchEdge}
use Rattle.job.proofs.Says.{value_not}
use Rattle.pack.specs.Replies.{reply_by, placed, paired}
use Rattle.pack.specs.Layout.{edges_in, pack_in, EdgesAs}
use Rattle.pack.proofs.Layouts.{edge_stands}
use Rattle.calls.proofs.Fitting.{Accepted}
use Rattle.pack.proofs.Knowing.{accepted-one, named-as, refused_then, refused_not}

module _ (p : List ℕ) where
  -- what is asked once the job is known
  abbrev asked : Pack → rules.Job → Answer Pack
  asked k J = check (all_valid J k.edges) not-an-edge (accepted k)

  abbrev asks : Pack → Answer Pack
  asks k = and_then (known_job k.block) (asked k)

  read_is : (t : Bool) → laid p ≡ t → read_answer p ≡ and_then (check t bad-pack (accepted (pack_in p))) asks
  unfolding read_answer pack_of
  read_is t e = ap (λ (t : Bool). and_then (check t bad-pack (accepted (pack_in p))) asks) e

  pub read-bad : (r : Refusal) → r ≡ BadPack → laid p ≡ false → Err r ≡ reply (read_answer p)
  read-bad r q e = rw (q, read_is false e) refl

  read_known : laid p ≡ true → (a : Answer rules.Job) → known_job (block_in p) ≡ a → read_answer p ≡ and_then a (asked (pack_in p))
  read_known e a q = read_is true e ∙ ap (λ (a : Answer rules.Job). and_then a (asked (pack_in p))) q

  pub read_told : laid p ≡ true → (r : Refusal) → Err r ≡ reply (count_answer (block_in p)) → Err r ≡ reply (read_answer p)
  read_told e r f = go (known_job (block_in p)) refl
    where
      go : (a : Answer rules.Job) → known_job (block_in p) ≡ a → Err r ≡ reply (read_answer p)
      go (accepted j) q = absurd (value_not (sym (f ∙ ap reply (count-known (block_in p) j q))))
      go (refused x) q = rw (named-as f (count-told (block_in p) x q), read_known e (refused x) q) refl

  module _ (e : laid p ≡ true) (k : Accepted (block_in p)) where
    read-edges : (t : Bool) → all_valid k.job (edges_in p) ≡ t → read_answer p ≡ check t not-an-edge (accepted (pack_in p))
    read-edges t f = read_known e (accepted k.job) k.answer ∙ ap (λ (t : Bool). check t not-an-edge (accepted (pack_in p))) f

    pub read-fine : {u : Unit {0}} → EdgesAs (block_in p) (edges_in p) (Ok u) → read_answer p ≡ accepted (pack_in p)
    read-fine f = read-edges true (f k.job k.made)

    pub read-wrong : {r : Refusal} → EdgesAs (block_in p) (edges_in p) (Err r) → Err r ≡ reply (read_answer p)
    read-wrong f = let w = f k.job k.made in rw (w.0, read-edges false w.1) refl

  -- ---- the questions

  pub part-refused : (i : ℕ) (r : Refusal) → Err r ≡ reply (read_answer p) → Err r ≡ reply_by placed (part_answer p i)
  unfolding part_answer
  part-refused i r e = refused_then placed (read_answer p) _ r e

  pub repeat-refused : (r : Refusal) → Err r ≡ reply (read_answer p) → Err r ≡ reply_by paired (repeat_answer p)
  unfolding repeat_answer
  repeat-refused r e = refused_then paired (read_answer p) _ r e

  -- no question refuses the pack
  abbrev pub Read : Type 0
  Read = read_answer p ≡ accepted (pack_in p)

  pub repeat_read : Read → {r : code.Option (ℕ × ℕ)} → r ≡ paired (twice_in (edges_in p)) → Ok r ≡ reply_by paired (repeat_answer p)
  unfolding repeat_answer
  repeat_read h e = rw (e, h) refl

  abbrev part_in : ℕ → Part
  part_in i = record { start = offset p i; end = offset p (i + 1) }

  part-is : (i : ℕ) → Read → part_answer p i ≡ check (ltb i (count_in p)) no-such-edge (accepted (part_in i))
  unfolding part_answer
  part-is i h =
      ap (λ (a : Answer Pack). and_then a (λ k. check (ltb i (length k.edges)) no-such-edge (accepted (part_in i)))) h
      ∙ ap (λ (n : ℕ). check (ltb i n) no-such-edge (accepted (part_in i))) (edges-length p 0 (count_in p))

  part-beyond : (i : ℕ) → Read → count_in p ≤ i → part_answer p i ≡ refused no-such-edge
  part-beyond i h l = part-is i h ∙ ap (λ (t : Bool). check t no-such-edge (accepted (part_in i))) (le-ltb i (count_in p) l)

  pub part_none : (i : ℕ) → Read → count_in p ≤ i → Err NoSuchEdge ≡ reply_by placed (part_answer p i)
  part_none i h l = rw (part-beyond i h l) refl

  part_at : (i : ℕ) → Read → i < count_in p → part_answer p i ≡ accepted (part_in i)
  part_at i h l = part-is i h ∙ ap (λ (t : Bool). check t no-such-edge (accepted (part_in i))) (lt-ltb i (count_in p) l)

  pub part_read : (i start end : ℕ) → Read → i < count_in p → start ≡ offset p i → end ≡ offset p (i + 1) → Ok (start, end) ≡ reply_by placed (part_answer p i)
  part_read i start end h l s e = rw (s, e, part_at i h l) refl

  pub record Inside (q : Part) : Type 0 where
    pub rise : q.start ≤ q.end
    pub within : q.end ≤ length p

  -- a pack that no question refuses
  read_of : {k : Pack} → read_answer p ≡ accepted k → (laid p ≡ true) × Read
  read_of {k} f = lay (laid p) refl
    where
      valid : (t : Bool) → read_answer p ≡ check t not-an-edge (accepted (pack_in p)) → Read
      valid true q = q
      valid false q = absurd (refused_not (sym f ∙ q))

      known : (a : Answer rules.Job) → read_answer p ≡ and_then a (asked (pack_in p)) → Read
      known (accepted j) q = valid (all_valid j (edges_in p)) q
      known (refused x) q = absurd (refused_not (sym f ∙ q))

      lay : (t : Bool) → laid p ≡ t → (laid p ≡ true) × Read
      lay true e = (e, known (known_job (block_in p)) (read_known e (known_job (block_in p)) refl))
      lay false e = absurd (refused_not (sym f ∙ read_is false e))

  pub part-inside : (i : ℕ) (q : Part) → part_answer p i ≡ accepted q → Inside q
  unfolding part_answer
  part-inside i q e = go (read_answer p) refl
    where
      lies : (laid p ≡ true) × Read → Dec (i < count_in p) → Inside q
      lies (l, h) (yes m) =
          let w = edge_stands p l i m in
          subst Inside (accepted-one (sym (part_at i h m) ∙ e)) (record { rise = w.rise; within = w.within })
      lies (l, h) (no m) = absurd (refused_not (sym e ∙ part-beyond i h (omega arith)))

      go : (a : Answer Pack) → read_answer p ≡ a → Inside q
      go (accepted k) f = lies (read_of f) (dec_lt i (count_in p))
      go (refused x) f = absurd (refused_not (sym e ∙ ap (λ (a : Answer Pack). and_then a (λ k. check (ltb i (length k.edges)) no-such-edge (accepted (part_in i)))) f))
