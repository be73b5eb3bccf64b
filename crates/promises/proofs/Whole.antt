-- A pack that is numbered whole, by the contracts of `pack::number_all` and `calls::number`: entry i is what `calls::number` answers for edge i
-- alone, and the index that is told is the first for which it refuses. Assumes nothing.
--
--   whole-many, whole_long, whole-entry, whole-past    where it is accepted: how many, each entry, and the entries past them
--   whole-fault, whole_before, whole-kept    where an edge isn't valid: that edge, those before it, and the list as it was
--   whole-refused                            any other refusal: the list as it was; its number is neither 0 nor 5
--   whole_part                               edge i is the part that `pack::part` tells
--   numbers_in_c                             what `edges_pack_numbers` tells of the same pack and list: its result word, the count and the list
--   word-accepted, word-bad-edge, word-refused    and what a result word tells of `pack::number_all`
use mathlib.Core.Path.{◌≡◌, refl, sym, ap, ap₂, ◌∙◌, subst}
use mathlib.Core.Logic.{◌≢◌}
use mathlib.Core.Bool.{Bool, true, false}
use mathlib.Core.List.{List, ◌++◌}
use Prim.Native.Nat.{ℕ, ◌+◌, ◌≤◌, ◌<◌}
use native.Mathlib.Omega.{arith}
use lib.Dec.{leb, ltb}
use lib.ListN.{length, get_or, drop}
use Rattle.rules.specs.Refusals.{Answer, refusal_number, check}
use Rattle.rules.specs.Refusals.Refusal.{not-an-edge, no-such-edge}
use Rattle.rules.specs.Refusals.Answer.{accepted, refused}
use Rattle.rules.specs.Packs.{count_in, part_of, offset, edge_in}
use Rattle.rules.specs.Questions.{Part, read_answer, part_answer}
use Rattle.howmany.specs.Choose.{pick}
use Rattle.rules.specs.Whole.{Gathered, Indexed, Listed, listed, numbers_in, numbers_answer, alone_answer, AsAlone, AtFault}
use Rattle.rules.specs.Whole.Gathered.{all, fault}
use Rattle.rules.specs.Whole.Indexed.{value, refusal, bad_edge}
use Rattle.rules.proofs.Demand3.{passed, then_passed, accepted-one}
use Rattle.rules.proofs.Wholes.{numbers-value, numbers-fault, numbers-refusal, numbers_index, Telling, numbers-number}
use Rattle.std.specs.Prelude.{Result, Ok, Err}
use Rattle.job.specs.declared.Refusal.{Refusal}
use Rattle.job.specs.Replies.{named, number_of, reply}
use Rattle.job.proofs.Says.{value-one, value_not, named_number}
use Rattle.job.specs.declared.Refusal.TheVariants.{NotEdge, Room}
use Rattle.pack.specs.declared.Fault.{Fault}
use Rattle.pack.specs.declared.Fault.TheVariants.{NotEdge as BadEdge, Refused}
use Rattle.pack.specs.Replies.{reply_by, placed, numbers_says}
use Rattle.pack.specs.Meets.{PartMeets, NumberAllMeets}
use Rattle.edges.specs.ResultWords.{result_word, shown_in, refusal_bits, place_bits, index_bits, rest_bits}
use Rattle.edges.specs.Meets.{EdgesPackNumbersMeets}
use Rattle.edges.proofs.Words.{index_small, word-value, word-told, word-edge, word-refusal, word-place, word_index, word-rest, word_number}
use Rattle.promises.specs.Whole.{Alone, InC}
use Rattle.promises.proofs.One.{equal_one}

alone_of : (p : List ℕ) (i : ℕ) (x : Result ℕ Refusal) (a : Answer ℕ) → alone_answer p i ≡ a → Alone p i x → x ≡ reply a
unfolding alone_answer
alone_of p i x a q h = h ∙ ap reply q

module _ (p list after : List ℕ) where
  module _ (c : ℕ) (w : NumberAllMeets p list (Ok c) after) where
    so : AsAlone p list c (numbers_answer p list).list
    so = numbers-value p list c (sym w.says)

    pub whole-many : c ≡ count_in p
    whole-many = so.many

    pub whole_long : (c ≤ length list) × (length after ≡ length list)
    whole_long = (so.room, ap length w.list_is ∙ so.as_long)

    pub whole-entry : (i : ℕ) → i < c → (x : Result ℕ Refusal) → Alone p i x → x ≡ Ok (get_or after i 0)
    whole-entry i l x h =
        equal_one _ x (Ok (get_or after i 0)) (alone_of p i x _ (so.entry i l ∙ ap (λ (z : List ℕ). accepted (get_or z i 0)) (sym w.list_is)) h) refl

    pub whole-past : (i : ℕ) → c ≤ i → get_or after i 0 ≡ get_or list i 0
    whole-past i l = ap (λ (z : List ℕ). get_or z i 0) w.list_is ∙ so.past i l

  module _ (i : ℕ) (w : NumberAllMeets p list (Err (BadEdge i)) after) where
    bad : AtFault p list i (numbers_answer p list).list
    bad = numbers-fault p list i (sym w.says)

    pub whole-fault : (i < count_in p) × ((x : Result ℕ Refusal) → Alone p i x → x ≡ Err NotEdge)
    unfolding refusal_number
    whole-fault = (bad.below, λ x h. equal_one _ x (Err NotEdge) (alone_of p i x (refused not-an-edge) bad.wrong h) refl)

    pub whole_before : (j : ℕ) → j < i → (n : ℕ) × ((x : Result ℕ Refusal) → Alone p j x → x ≡ Ok n)
    whole_before j l =
        let m = bad.before j l in
        (m.0, λ x h. equal_one _ x (Ok m.0) (alone_of p j x (accepted m.0) m.1 h) refl)

    pub whole-kept : after ≡ list
    whole-kept = w.list_is ∙ bad.as_it_was

  pub whole-refused : (r : Refusal) → NumberAllMeets p list (Err (Refused r)) after → (after ≡ list) × Telling (number_of r)
  whole-refused r w = (w.list_is ∙ numbers-refusal p list (number_of r) (sym w.says), numbers-number p list (number_of r) (sym w.says))

-- where an edge begins and ends, from what is told of it
placed_at : (a : Answer Part) (start end : ℕ) → Ok (start, end) ≡ reply_by placed a → a ≡ accepted (record { start = start; end = end })
placed_at (accepted q) start end h = ap (λ (z : ℕ × ℕ). accepted (record { start = z.0; end = z.1 })) (sym (value-one h))
placed_at (refused r) start end h = absurd (value_not h)

pub whole_part : (p : List ℕ) (i start end : ℕ) → PartMeets p i (Ok (start, end)) → edge_in p i ≡ part_of p start end
unfolding part_answer edge_in
whole_part p i start end h =
    let a = placed_at (part_answer p i) start end h in
    let own : Part = record { start = offset p i; end = offset p (i + 1) } in
    let w = then_passed (read_answer p) (λ k. check (ltb i (length k.edges)) no-such-edge (accepted own)) _ a in
    let v = passed (ltb i (length w.0.edges)) no-such-edge (accepted own) _ w.2 in
    let q : own ≡ record { start = start; end = end } = accepted-one own _ v.1 in
    ap₂ (part_of p) (ap (λ (z : Part). z.start) q) (ap (λ (z : Part). z.end) q)

-- ---- the same from C

pub numbers_in_c : (p list : List ℕ) (x : Result ℕ Fault) (after : List ℕ) (before r : ℕ) (list-after : List ℕ) (count-after : ℕ) → NumberAllMeets p list x after
    → EdgesPackNumbersMeets p list before r list-after count-after → InC x r before count-after × (list-after ≡ after)
numbers_in_c p list x after before r list-after count-after w h =
    let word : r ≡ result_word (numbers_says x) = h.result ∙ ap result_word (sym w.says) in
    let count : count-after ≡ shown_in (numbers_says x) before = h.count ∙ ap (λ (y : Indexed ℕ). shown_in y before) (sym w.says) in
    (go x w word count, h.entries ∙ sym w.list_is)
  where
    go : (x : Result ℕ Fault) → NumberAllMeets p list x after → r ≡ result_word (numbers_says x) → count-after ≡ shown_in (numbers_says x) before → InC x r before count-after
    go (Ok c) w q k = (q ∙ word-value c, k)
    go (Err (BadEdge i)) w q k =
        let l : i < 200 = index_small p list after (Err (BadEdge i)) i w refl in
        (ap refusal_bits q ∙ word-refusal i l, ap place_bits q ∙ word-place i l, ap index_bits q ∙ word_index i l, ap rest_bits q ∙ word-rest i l, k)
    go (Err (Refused m)) w q k = (q ∙ word-told (number_of m), k)

-- a refusal number that is told is a refusal's
Named : ℕ → Type 0
Named m = (x : Refusal) × (number_of x ≡ m)

refusal-same : (r s : ℕ) → ◌≡◌ {A = Indexed ℕ} (refusal r) (refusal s) → r ≡ s
refusal-same r s e = cc

IsRefusal : Indexed ℕ → Type 0
IsRefusal (value v) = ⊥
IsRefusal (refusal r) = Unit {0}
IsRefusal (bad_edge i) = ⊥

named-listed : (a : Answer (Gathered ℕ)) (list : List ℕ) (m : ℕ) → (listed a list).answer ≡ refusal m → Named m
unfolding listed refusal_number Named IsRefusal
named-listed (accepted (all ns)) list m e = go (leb (length ns) (length list)) refl e
  where
    go : (t : Bool) → leb (length ns) (length list) ≡ t
        → (pick {A = Listed} t (record { answer = value (length ns); list = ns ++ drop (length ns) list }) (record { answer = refusal 7; list = list })).answer ≡ refusal m → Named m
    go true q e = absurd (subst IsRefusal (sym e) tt)
    go false q e = (Room, refusal-same 7 m e)
named-listed (accepted (fault i)) list m e = absurd (subst IsRefusal (sym e) tt)
named-listed (refused r) list m e = (named r, named_number r ∙ refusal-same (refusal_number r) m e)

-- the answer of `pack::number_all` that a result word tells
module _ (p list : List ℕ) (before r : ℕ) (list-after : List ℕ) (after : ℕ) (h : EdgesPackNumbersMeets p list before r list-after after) where
  -- each case of the answer, with what the word then is
  data Cases : Type 0 where
    is_value : (c : ℕ) → (numbers_answer p list).answer ≡ value c → r ≡ 0 → after ≡ c → Cases
    is_edge_lem : (i : ℕ) → (numbers_answer p list).answer ≡ bad_edge i → i < 200 → r ≡ result_word (bad_edge i) → after ≡ before → Cases
    is_refusal : (k : ℕ) → (numbers_answer p list).answer ≡ refusal k → Named k → Telling k → r ≡ k → after ≡ before → Cases

  names : (m : ℕ) → (numbers_answer p list).answer ≡ refusal m → Named m
  unfolding numbers_answer
  names m e = named-listed (numbers_in p) list m e

  cases : Cases
  cases = go (numbers_answer p list).answer refl h.result h.count
    where
      go : (y : Indexed ℕ) → (numbers_answer p list).answer ≡ y → r ≡ result_word y → after ≡ shown_in y before → Cases
      go (value c) e q k = is_value c e (q ∙ word-value c) k
      go (bad_edge i) e q k = is_edge_lem i e (numbers_index p list i e) q k
      go (refusal m) e q k = is_refusal m e (names m e) (numbers-number p list m e) (q ∙ word-told m) k

  pub word-accepted : r ≡ 0 → NumberAllMeets p list (Ok after) list-after
  word-accepted z = go cases
    where
      go : Cases → NumberAllMeets p list (Ok after) list-after
      go (is_value c e q k) = record { says = ap value k ∙ sym e; list_is = h.entries }
      go (is_edge_lem i e l q k) = absurd (omega (arith, word-edge i))
      go (is_refusal m e n t q k) = absurd (omega (arith, t.some))

  pub word-bad-edge : refusal_bits r ≡ 5 → NumberAllMeets p list (Err (BadEdge (index_bits r))) list-after × (after ≡ before)
  word-bad-edge z = go cases
    where
      go : Cases → NumberAllMeets p list (Err (BadEdge (index_bits r))) list-after × (after ≡ before)
      go (is_value c e q k) = absurd (omega arith)
      go (is_edge_lem i e l q k) = (record { says = ap bad_edge (ap index_bits q ∙ word_index i l) ∙ sym e; list_is = h.entries }, k)
      go (is_refusal m e n t q k) = absurd (t.no_five (sym (word_number m t.byte) ∙ ap refusal_bits (sym q) ∙ z))

  pub word-refused : r ≢ 0 → refusal_bits r ≢ 5 → (x : Refusal) × (number_of x ≡ r) × NumberAllMeets p list (Err (Refused x)) list-after × (after ≡ before)
  unfolding Named
  word-refused z f = go cases
    where
      go : Cases → (x : Refusal) × (number_of x ≡ r) × NumberAllMeets p list (Err (Refused x)) list-after × (after ≡ before)
      go (is_value c e q k) = absurd (z q)
      go (is_edge_lem i e l q k) = absurd (f (ap refusal_bits q ∙ word-refusal i l))
      go (is_refusal m e n t q k) =
          let told : NumberAllMeets p list (Err (Refused n.0)) list-after = record { says = ap (λ (v : ℕ). (let y : Indexed ℕ = refusal v in y)) n.1 ∙ sym e; list_is = h.entries } in
          (n.0, n.1 ∙ sym q, told, k)
