-- Laws of the edges of a pack as a list. Assumes nothing.
--
--   edge-is          edge i, as the part between its offsets
--   equals-is        two of them are the same bytes
--   cut-edges        the parts between the offsets, one after the other, are the edges
--   edges-fine, edges-wrong, edges_none    what is told of the edges of a pack
--   Ending p ends c i    where the first i edges end is known
use mathlib.Core.Path.{◌≡◌, refl, ap, ap₂, sym, ◌∙◌}
use mathlib.Core.Bool.{true, false}
use mathlib.Core.Option.{Option, none, some, none-ne-some}
use mathlib.Core.List.{List, [], ◌∷◌}
use Prim.Native.Nat.{ℕ, suc, ◌+◌, ◌≤◌, ◌<◌}
use native.Mathlib.Nat.{zero-add}
use native.Mathlib.Numerals.{add-one}
use native.Mathlib.Omega.{arith}
use lib.ListN.{length, get_or, take}
use lib.Seq.{get_or-take, length-take-le}
use Rattle.std.specs.Prelude.{Option as Maybe, Some, None, Result, Ok, Err}
use Rattle.rules.specs.Jobs.{Job}
use Rattle.rules.specs.Blocks.{job_answer}
use Rattle.rules.specs.Refusals.Answer.{accepted}
use Rattle.rules.specs.Packs.{part_of, offset, count_in, edge_in, edges_from, same_bytes}
use Rattle.rules.specs.Questions.{all_valid, equals}
use Rattle.job.specs.declared.Refusal.{Refusal}
use Rattle.job.specs.declared.Refusal.TheVariants.{NotEdge}
use Rattle.job.proofs.Says.{value_not, value-one}
use Rattle.rules.proofs.PackLaws.{edges_at}
use Rattle.lines.specs.Lines.{cut_from}
use Rattle.walks.specs.Walks.{found, finding, first_wrong, check_of}
use Rattle.walks.proofs.Checking.{all_valid_lem, not_all}
use Rattle.pack.specs.Layout.{edges_in, EndsOf, EdgesAs}

module _ (p : List ℕ) where
  pub edge-is : (i : ℕ) → part_of p (offset p i) (offset p (i + 1)) ≡ edge_in p i
  unfolding edge_in
  edge-is i = refl

  edge-of : (c i : ℕ) → i < c → get_or (edges_from p 0 c) i [] ≡ edge_in p i
  edge-of c i l = edges_at p 0 c i i (zero-add i) l

  pub equals-is : (c i j : ℕ) → i < c → j < c → equals (edges_from p 0 c) i j ≡ same_bytes (edge_in p i) (edge_in p j)
  equals-is c i j l m = rw (edge-of c i l, edge-of c j m)

  -- ---- the edges as parts

  cuts : (ends : List ℕ) (i : ℕ) → ((k : ℕ) → k < length ends → get_or ends k 0 ≡ offset p (i + k + 1)) → cut_from (offset p i) ends p ≡ edges_from p i (length ends)
  unfolding cut_from edges_from edge_in
  cuts [] i h = refl
  cuts (e ∷ ends) i h =
      let q : e ≡ offset p (i + 1) = h 0 (omega arith) ∙ (let z : i + 0 + 1 ≡ i + 1 = omega arith in ap (offset p) z) in
      let z : i + 1 ≡ suc i = add-one i in
      let rest : cut_from (offset p (suc i)) ends p ≡ edges_from p (suc i) (length ends) =
      cuts ends (suc i) (λ k l. h (suc k) (omega arith) ∙ (let z : i + suc k + 1 ≡ suc i + k + 1 = omega arith in ap (offset p) z)) in
      ap₂ {C = List (List ℕ)} (λ (x : List ℕ) (y : List (List ℕ)). x ∷ y) (ap (part_of p (offset p i)) q) (ap (λ (k : ℕ). cut_from k ends p) (q ∙ ap (offset p) z) ∙ rest)

  pub cut-edges : (c from : ℕ) (ends : List ℕ) → c ≡ count_in p → c ≤ 200 → from ≡ offset p 0 → EndsOf p ends → cut_from from (take c ends) p ≡ edges_in p
  cut-edges c from ends e few o h =
      let l : length (take c ends) ≡ c = length-take-le c ends (omega (arith, h.long)) in
      ap (λ (k : ℕ). cut_from k (take c ends) p) o
      ∙ cuts (take c ends) 0 (λ k m. get_or-take c ends k 0 (omega arith) ∙ h.is k (omega arith) ∙ (let z : k + 1 ≡ 0 + k + 1 = omega arith in ap (offset p) z))
      ∙ ap (edges_from p 0) (l ∙ e)

-- ---- what is told of the edges

abbrev sought : {A : Type 0} → Maybe A → Option A
sought None = none
sought (Some x) = some x

module _ (b : List ℕ) (es : List (List ℕ)) {r : Result (Maybe (ℕ × ℕ)) Refusal} (w : r ≡ finding (check_of (job_answer b) es)) where
  told : (J : Job) → job_answer b ≡ accepted J → r ≡ Ok (found (first_wrong J es))
  told J q = w ∙ ap (λ a. finding (check_of a es)) q

  pub edges-fine : {o : Maybe (ℕ × ℕ)} → r ≡ Ok o → o ≡ None → EdgesAs b es (Ok tt)
  edges-fine e n J q = go (first_wrong J es) refl (sym n ∙ value-one (sym e ∙ told J q))
    where
      go : (o : Option (ℕ × ℕ)) → first_wrong J es ≡ o → None ≡ found o → all_valid J es ≡ true
      go none e f = all_valid_lem J es e
      go (some x) e f = absurd (none-ne-some x (ap sought f))

  pub edges-wrong : {o : Maybe (ℕ × ℕ)} {x : ℕ × ℕ} → r ≡ Ok o → o ≡ Some x → EdgesAs b es (Err NotEdge)
  edges-wrong {o} {x} e n J q = (refl, go (first_wrong J es) refl (sym n ∙ value-one (sym e ∙ told J q)))
    where
      go : (o : Option (ℕ × ℕ)) → first_wrong J es ≡ o → Some x ≡ found o → all_valid J es ≡ false
      go none e f = absurd (none-ne-some x (sym (ap sought f)))
      go (some y) e f = not_all J es y e

  pub edges_none : {x : Refusal} → r ≡ Err x → EdgesAs b es (Err x)
  edges_none e J q = absurd (value_not (sym (told J q) ∙ e))

-- ---- where each edge ends

pub record Ending (p ends : List ℕ) (c i : ℕ) : Type 0 where
  pub many : c ≡ count_in p
  pub passed : i ≤ c
  pub long : length ends ≡ 200
  pub so_far : (k : ℕ) → k < i → get_or ends k 0 ≡ offset p (k + 1)
