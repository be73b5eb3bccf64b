-- Families 1 and 3: numbers and edges keep the rules of 000's algorithms 1, 2, 5 and 6, and nothing else does; so stopping at the rim
-- gives the same numbers as going on to (0,0). By the last step; the edges' rules follow from the numbers', as an edge has one number.
-- Assumes nothing.
--
--   Plainly            what the two families share: their steps, end and counts
--   number-last, edge-last    what a last step adds, and the edge of a smaller end with a step more
--   plain-stops        the algorithms, which stop at the rim, give these numbers; plain-rim: as every further sum is 0 there
--   plain-number_rules, plain-edge_rules    the rules are kept
--   plain-number-only, plain-edge-only      two functions that keep them agree on valid edges, and on numbers below the count
use mathlib.Core.Path.{◌≡◌, refl, sym, ap, ap₂, ◌∙◌, subst, subst₂}
use mathlib.Core.Bool.{Bool, true, false}
use mathlib.Core.Logic.{◌⊎◌, inl, inr}
use mathlib.Core.List.{List, [], ◌∷◌, ◌++◌, reverse, reverse-append, reverse-cons, reverse-reverse}
use Prim.Native.Nat.{ℕ, zero, suc, ◌+◌, ◌-◌, ◌≤◌, ◌<◌}
use native.Mathlib.Decide.{dec_lt}
use native.Mathlib.Omega.{arith}
use lib.Dec.{T, leb, eqb, eqb→eq, le→leb}
use lib.IntN.{ℤ, pos, ◌-ℤ◌, pos-+ℤ-pos, +ℤ-neg_ℤ_cancel}
use lib.ListN.{length, replicate, replicate-append-replicate}
use Rattle.howmany.specs.Choose.{pick}
use Rattle.howmany.specs.Sum.{sum}
use Rattle.howmany.specs.Numbering.{Numbering}
use Rattle.howmany.proofs.Choices.{is_true}
use Rattle.howmany.proofs.Sums.{sum-zero}
use Rattle.arches.specs.Counts.{if_d}
use Rattle.arches.proofs.Counting.{if_d-pos}
use Rattle.rules.specs.Points.{Point, Step, origin, same, moved, undone}
use Rattle.rules.specs.Jobs.{Job, N, E, D, step, steps_of, start_of, end_of, stays}
use Rattle.rules.specs.Jobs.Job.{north_east, delannoy}
use Rattle.rules.specs.Valid.{place, at, walks, Valid}
use Rattle.rules.specs.Order.{Before}
use Rattle.rules.specs.Counts.{L, Dl, count_of}
use Rattle.rules.specs.Numbers.{rimmed, ending, number_back, number_of, edge_of}
use Rattle.rules.specs.StepRules.{PlainFamily, RulesPlainNumber, rank_plain, RulesPlainEdge}
use Rattle.rules.specs.StepRules.PlainFamily.{of_north_east, of_delannoy}
use Rattle.rules.proofs.Letters.{point_eq, same_eq}
use Rattle.rules.proofs.Plains.{L-rim, D-rim}
use Rattle.rules.proofs.ArchPaths.{if_diag, point}
use Rattle.rules.proofs.LastSteps.{Kin, undone-moved, walks-on, walks-known, walks-off, number_snoc}
use Rattle.rules.proofs.Demand3.{numbering}

abbrev plain_steps : Bool → List Step
plain_steps d = step N 0 (pos 1) ∷ step E 1 (pos 0) ∷ if_diag d

record Plainly (family : ℕ → ℕ → Job) (count : ℕ → ℕ → ℕ) (d : Bool) : Type 0 where
  steps : (n m : ℕ) → steps_of (family n m) ≡ plain_steps d
  start : (n m : ℕ) → start_of (family n m) ≡ origin
  end : (n m : ℕ) → end_of (family n m) ≡ point n m
  free : (n m : ℕ) (p : Point) → stays (family n m) p ≡ true
  numbers : (n m : ℕ) (e : List ℕ) → number_of (family n m) e ≡ number_back (family n m) (rimmed count) (end_of (family n m)) (reverse e)
  all : (n m : ℕ) → Numbering (Valid (family n m)) (Before (family n m)) (count n m) (number_of (family n m)) (edge_of (family n m))
  left : (m : ℕ) → count 0 m ≡ 1
  low : (n : ℕ) → count n 0 ≡ 1
  others : (n m : ℕ) → count (suc n) (suc m) ≡ count (suc n) m + count n (suc m) + if_d d (count n m)

north-east_plainly : Plainly north_east L false
unfolding number_of L count_of
north-east_plainly = record {
  steps = λ n m. refl;
  start = λ n m. refl;
  end = λ n m. refl;
  free = λ n m p. refl;
  numbers = λ n m e. refl;
  all = λ n m. numbering (north_east n m) tt;
  left = λ m. refl;
  low = L-rim;
  others = λ n m. omega arith;
}

delannoy_plainly : Plainly delannoy Dl true
unfolding number_of Dl count_of
delannoy_plainly = record {
  steps = λ n m. refl;
  start = λ n m. refl;
  end = λ n m. refl;
  free = λ n m p. refl;
  numbers = λ n m e. refl;
  all = λ n m. numbering (delannoy n m) tt;
  left = λ m. refl;
  low = D-rim;
  others = λ n m. refl;
}

-- what a last step adds: the counts at the points before the earlier ones
term : (K : ℕ → ℕ → ℕ) (x y a c l n m : ℕ) → x + a ≡ n → y + c ≡ m → ending (rimmed K) (point n m) (step l a (pos c)) ≡ K x y
term K x y a c l n m e h =
    let q : n - a ≡ x = omega arith in
    let z : pos m -ℤ pos c ≡ pos y = ap (λ (k : ℕ). pos k -ℤ pos c) (sym h) ∙ ap (λ (w : ℤ). w -ℤ pos c) (sym (pos-+ℤ-pos y c)) ∙ +ℤ-neg_ℤ_cancel (pos y) (pos c) in
    ap (λ (t : Bool). pick t (rimmed K (n - a) (pos m -ℤ pos c)) 0) (is_true (leb a n) (le→leb a n (omega arith))) ∙ ap₂ (rimmed K) q z

onto : (x y a c l n m : ℕ) → x + a ≡ n → y + c ≡ m → moved (point x y) (step l a (pos c)) ≡ point n m
onto x y a c l n m e h = point_eq e (pos-+ℤ-pos y c ∙ ap pos h)

once_more : (n b : ℕ) → replicate n b ++ (b ∷ []) ≡ replicate (suc n) b
once_more n b = replicate-append-replicate n 1 b ∙ let e : n + 1 ≡ suc n = omega arith in ap (λ (k : ℕ). replicate k b) e

module _ (family : ℕ → ℕ → Job) (count : ℕ → ℕ → ℕ) (d : Bool) (A : Plainly family count d) where
  abbrev ss : List Step
  ss = plain_steps d

  kin : (x y n m : ℕ) → Kin (family x y) (family n m)
  kin x y n m = record { steps = A.steps x y ∙ sym (A.steps n m); stay = λ p. A.free x y p ∙ sym (A.free n m p) }

  -- the step i, whose letter is b, leads from (x,y) to (n,m)
  record Leads (b i x y n m : ℕ) : Type 0 where
    named : place b ss ≡ i
    there : i < length ss
    moves : moved (point x y) (at ss i) ≡ point n m

  module _ (b i x y n m : ℕ) (s : Leads b i x y n m) where
    back : end_of (family x y) ≡ undone (end_of (family n m)) (at (steps_of (family n m)) i)
    back = rw (A.end x y, A.end n m, A.steps n m) (sym (undone-moved (point x y) (at ss i)) ∙ ap (λ (p : Point). undone p (at ss i)) s.moves)

    number-last : (e : List ℕ) → number_of (family n m) (e ++ (b ∷ [])) ≡ sum (λ j. ending (rimmed count) (point n m) (at ss j)) i + number_of (family x y) e
    number-last e =
        A.numbers n m (e ++ (b ∷ []))
        ∙ number_snoc (family x y) (family n m) (kin x y n m) (rimmed count) b i e (rw (A.steps n m) s.named) back
        ∙ ap₂ ◌+◌ (ap₂ (λ (p : Point) (t : List Step). sum (λ j. ending (rimmed count) p (at t j)) i) (A.end n m) (A.steps n m)) (sym (A.numbers x y e))

    rest-valid : (e : List ℕ) → Valid (family n m) (e ++ (b ∷ [])) → Valid (family x y) e
    unfolding Valid
    rest-valid e t =
        rw (A.start x y) (walks-off (family x y) (family n m) (kin x y n m) b (rw (A.steps n m, s.named) (rw (A.steps n m) at back)) e origin (rw (A.start n m) at t))

    longer-valid : (e : List ℕ) → Valid (family x y) e → Valid (family n m) (e ++ (b ∷ []))
    unfolding Valid
    longer-valid e t =
        rw (A.start n m) (walks-on (family x y) (family n m) (kin x y n m) b (rw (A.steps n m, s.named) s.there)
        (rw (A.steps n m, s.named, A.end x y, A.end n m) s.moves) (rw (A.free n m) tt) e origin (rw (A.start x y) at t))

    edge-last : (r : ℕ) → r < count x y → edge_of (family n m) (sum (λ j. ending (rimmed count) (point n m) (at ss j)) i + r) ≡ edge_of (family x y) r ++ (b ∷ [])
    edge-last r l =
        let e : List ℕ = edge_of (family x y) r in
        ap (edge_of (family n m)) (sym (number-last e ∙ ap (λ (k : ℕ). sum (λ j. ending (rimmed count) (point n m) (at ss j)) i + k) ((A.all x y).there r l)))
        ∙ (A.all n m).back (e ++ (b ∷ [])) (longer-valid e ((A.all x y).has r l))

  -- ---- the three steps

  by-N : (n m : ℕ) → Leads N 0 n m n (suc m)
  unfolding place
  by-N n m = record { named = refl; there = omega arith; moves = onto n m 0 1 N n (suc m) (omega arith) (omega arith) }

  by-E : (n m : ℕ) → Leads E 1 n m (suc n) m
  unfolding place
  by-E n m = record { named = refl; there = omega arith; moves = onto n m 1 0 E (suc n) m (omega arith) (omega arith) }

  by-D : (n m : ℕ) → T d → Leads D 2 n m (suc n) (suc m)
  unfolding place
  by-D n m t =
      let e : d ≡ true = is_true d t in
      record { named = rw e; there = rw e (omega arith); moves = rw e (onto n m 1 1 D (suc n) (suc m) (omega arith) (omega arith)) }

  data Last (b : ℕ) : Type 0 where
    in_N : b ≡ N → Last b
    in_E : b ≡ E → Last b
    in_D : T d → b ≡ D → Last b

  last : (b n m : ℕ) (e : List ℕ) → Valid (family n m) (e ++ (b ∷ [])) → Last b
  unfolding Valid place
  last b n m e t = go (eqb b N) (eqb→eq b N) (eqb b E) (eqb→eq b E) d refl (rw (A.steps n m) at (walks-known (family n m) (family n m) (kin n m n m) b e (start_of (family n m)) t))
    where
      diagonal : (p : Bool) → (T p → b ≡ D) → T d → suc (suc (pick p 0 1)) < 3 → Last b
      diagonal true h t l = in_D t (h tt)
      diagonal false h t l = absurd (omega arith)

      go : (p : Bool) → (T p → b ≡ N) → (q : Bool) → (T q → b ≡ E) → (c : Bool) → d ≡ c
          → pick p 0 (suc (pick q 0 (suc (place b (if_diag d))))) < suc (suc (length (if_diag d))) → Last b
      go true h q k c e l = in_N (h tt)
      go false h true k c e l = in_E (k tt)
      go false h false k false e l = let w : 3 ≤ 2 = rw e at l in absurd (omega arith)
      go false h false k true e l = diagonal (eqb b D) (eqb→eq b D) (subst T (sym e) tt) (rw e at l)

  -- ---- numbers

  abbrev terms : ℕ → ℕ → ℕ → ℕ
  terms n m j = ending (rimmed count) (point n m) (at ss j)

  terms-one : (n m : ℕ) → sum (terms (suc n) (suc m)) 1 ≡ count (suc n) m
  unfolding sum
  terms-one n m = omega (arith, term count (suc n) m 0 1 N (suc n) (suc m) (omega arith) (omega arith))

  terms-two : (n m : ℕ) → sum (terms (suc n) (suc m)) 2 ≡ count (suc n) m + count n (suc m)
  unfolding sum
  terms-two n m = ap₂ ◌+◌ (terms-one n m) (term count n (suc m) 1 0 E (suc n) (suc m) (omega arith) (omega arith))

  number_rules : RulesPlainNumber family count (λ n m. number_of (family n m))
  number_rules = record {
    left = λ m e t. omega (arith, (A.all 0 m).below e t, A.left m);
    low = λ n e t. omega (arith, (A.all n 0).below e t, A.low n);
    north = λ n m e t. omega (arith, number-last N 0 (suc n) m (suc n) (suc m) (by-N (suc n) m) e, sum-zero (terms (suc n) (suc m)));
    east = λ n m e t. omega (arith, number-last E 1 n (suc m) (suc n) (suc m) (by-E n (suc m)) e, terms-one n m);
    diagonal = λ n m e t. diagonal n m e (last D (suc n) (suc m) e t);
  }
    where
      diagonal : (n m : ℕ) (e : List ℕ) → Last D → number_of (family (suc n) (suc m)) (e ++ (D ∷ [])) ≡ count (suc n) m + count n (suc m) + number_of (family n m) e
      diagonal n m e (in_N q) = absurd (omega arith)
      diagonal n m e (in_E q) = absurd (omega arith)
      diagonal n m e (in_D t q) = omega (arith, number-last D 2 n m (suc n) (suc m) (by-D n m t) e, terms-two n m)

  rim : (n m : ℕ) → (n ≡ 0) ⊎ (m ≡ 0) → (e : List ℕ) (b : ℕ) → Valid (family n m) (e ++ (b ∷ []))
      → sum (λ j. ending (rimmed count) (end_of (family n m)) (at (steps_of (family n m)) j)) (place b (steps_of (family n m))) ≡ 0
  unfolding number_back
  rim n m r e b t = omega (arith, one r, (A.all n m).below (e ++ (b ∷ [])) t, rw (reverse-append e (b ∷ [])) at (A.numbers n m (e ++ (b ∷ []))))
    where
      one : (n ≡ 0) ⊎ (m ≡ 0) → count n m ≡ 1
      one (inl z) = rw z (A.left m)
      one (inr z) = rw z (A.low n)

  number-only : (F G : ℕ → ℕ → List ℕ → ℕ) → RulesPlainNumber family count F → RulesPlainNumber family count G → (n m : ℕ) (e : List ℕ) → Valid (family n m) e → F n m e ≡ G n m e
  unfolding Valid walks
  number-only F G f g n m e t = rw reverse-reverse at (go (reverse e) n m (rw reverse-reverse t))
    where
      Agree : List ℕ → Type 0
      Agree e = (n m : ℕ) → Valid (family n m) e → F n m e ≡ G n m e

      later : (b n m : ℕ) (e : List ℕ) → Agree e → Valid (family (suc n) (suc m)) (e ++ (b ∷ [])) → Last b → F (suc n) (suc m) (e ++ (b ∷ [])) ≡ G (suc n) (suc m) (e ++ (b ∷ []))
      later b n m e ih t (in_N q) =
          let v : Valid (family (suc n) (suc m)) (e ++ (N ∷ [])) = rw q at t in
          rw q (f.north n m e v ∙ ih (suc n) m (rest-valid N 0 (suc n) m (suc n) (suc m) (by-N (suc n) m) e v) ∙ sym (g.north n m e v))
      later b n m e ih t (in_E q) =
          let v : Valid (family (suc n) (suc m)) (e ++ (E ∷ [])) = rw q at t in
          rw q (f.east n m e v
          ∙ ap (λ (k : ℕ). count (suc n) m + k) (ih n (suc m) (rest-valid E 1 n (suc m) (suc n) (suc m) (by-E n (suc m)) e v))
          ∙ sym (g.east n m e v))
      later b n m e ih t (in_D h q) =
          let v : Valid (family (suc n) (suc m)) (e ++ (D ∷ [])) = rw q at t in
          rw q (f.diagonal n m e v
          ∙ ap (λ (k : ℕ). count (suc n) m + count n (suc m) + k) (ih n m (rest-valid D 2 n m (suc n) (suc m) (by-D n m h) e v))
          ∙ sym (g.diagonal n m e v))

      at-start : (n m : ℕ) → Valid (family n m) [] → origin ≡ point n m
      at-start n m t = sym (A.start n m) ∙ same_eq (start_of (family n m)) (end_of (family n m)) t ∙ A.end n m

      -- "if n = 0 or m = 0 then r := 0"
      stops : (e : List ℕ) → ((n m : ℕ) → Valid (family (suc n) (suc m)) e → F (suc n) (suc m) e ≡ G (suc n) (suc m) e) → Agree e
      stops e h zero m t = f.left m e t ∙ sym (g.left m e t)
      stops e h (suc n) zero t = f.low (suc n) e t ∙ sym (g.low (suc n) e t)
      stops e h (suc n) (suc m) t = h n m t

      go : (u : List ℕ) → Agree (reverse u)
      go [] = stops [] (λ n m t. absurd (omega (arith, ap (λ (p : Point). p.x) (at-start (suc n) (suc m) t))))
      go (b ∷ u) =
          let h : Agree (reverse u) = go u in
          rw (reverse-cons b u) (stops (reverse u ++ (b ∷ [])) (λ n m t. later b n m (reverse u) h t (last b (suc n) (suc m) (reverse u) t)))

  -- ---- edges

  edge_at : (n m : ℕ) {r k : ℕ} → r ≡ k → edge_of (family n m) r ≡ edge_of (family n m) k
  edge_at n m e = ap (edge_of (family n m)) e

  edge-empty : edge_of (family 0 0) 0 ≡ []
  unfolding Valid walks number_back
  edge-empty = edge_at 0 0 (sym (A.numbers 0 0 [])) ∙ (A.all 0 0).back [] (subst₂ (λ (p q : Point). T (same p q)) (sym (A.start 0 0)) (sym (A.end 0 0)) tt)

  -- no edge to (n,0) ends in `N`
  terms-rim : (n : ℕ) → sum (terms (suc n) 0) 1 ≡ 0
  unfolding sum
  terms-rim n = go (leb 0 (suc n))
    where
      go : (b : Bool) → 0 + pick b 0 0 ≡ 0
      go true = refl
      go false = refl

  edge-left : (m : ℕ) → edge_of (family 0 m) 0 ≡ replicate m N
  edge-left zero = edge-empty
  edge-left (suc m) =
      edge_at 0 (suc m) (omega (arith, sum-zero (terms 0 (suc m))))
      ∙ edge-last N 0 0 m 0 (suc m) (by-N 0 m) 0 (omega (arith, A.left m))
      ∙ ap {B = List ℕ} (λ e. e ++ (N ∷ [])) (edge-left m)
      ∙ once_more m N

  edge-low : (n : ℕ) → edge_of (family n 0) 0 ≡ replicate n E
  edge-low zero = edge-empty
  edge-low (suc n) =
      edge_at (suc n) 0 (omega (arith, terms-rim n))
      ∙ edge-last E 1 n 0 (suc n) 0 (by-E n 0) 0 (omega (arith, A.low n))
      ∙ ap {B = List ℕ} (λ e. e ++ (E ∷ [])) (edge-low n)
      ∙ once_more n E

  edge_rules : RulesPlainEdge count (λ n m. edge_of (family n m))
  edge_rules = record {
    left = edge-left;
    low = edge-low;
    north = λ n m r l. edge_at (suc n) (suc m) (omega (arith, sum-zero (terms (suc n) (suc m)))) ∙ edge-last N 0 (suc n) m (suc n) (suc m) (by-N (suc n) m) r l;
    east = λ n m r l. edge_at (suc n) (suc m) (omega (arith, terms-one n m)) ∙ edge-last E 1 n (suc m) (suc n) (suc m) (by-E n (suc m)) r l;
    diagonal = λ n m r l.
        let h = if_d-pos d r (count n m) (omega (arith, A.others n m)) in
        edge_at (suc n) (suc m) (omega (arith, terms-two n m)) ∙ edge-last D 2 n m (suc n) (suc m) (by-D n m h.0) r h.1;
  }

  edge-only : (F G : ℕ → ℕ → ℕ → List ℕ) → RulesPlainEdge count F → RulesPlainEdge count G → (n m r : ℕ) → r < count n m → F n m r ≡ G n m r
  edge-only F G f g = go
    where
      later : (n m r : ℕ) → r < count (suc n) (suc m)
          → ((r : ℕ) → r < count (suc n) m → F (suc n) m r ≡ G (suc n) m r)
          → ((r : ℕ) → r < count n (suc m) → F n (suc m) r ≡ G n (suc m) r)
          → ((r : ℕ) → r < count n m → F n m r ≡ G n m r)
          → Dec (r < count (suc n) m) → Dec (r < count (suc n) m + count n (suc m)) → F (suc n) (suc m) r ≡ G (suc n) (suc m) r
      later n m r l north east diagonal (yes h) k = f.north n m r h ∙ ap {B = List ℕ} (λ e. e ++ (N ∷ [])) (north r h) ∙ sym (g.north n m r h)
      later n m r l north east diagonal (no h) (yes k) =
          let t : ℕ = r - count (suc n) m in
          let e : count (suc n) m + t ≡ r = omega arith in
          let q : t < count n (suc m) = omega arith in
          rw e at (f.east n m t q ∙ ap {B = List ℕ} (λ e. e ++ (E ∷ [])) (east t q) ∙ sym (g.east n m t q))
      later n m r l north east diagonal (no h) (no k) =
          let t : ℕ = r - (count (suc n) m + count n (suc m)) in
          let e : count (suc n) m + count n (suc m) + t ≡ r = omega arith in
          let q : count (suc n) m + count n (suc m) + t < count (suc n) (suc m) = omega arith in
          let w = if_d-pos d t (count n m) (omega (arith, A.others n m)) in
          rw e at (f.diagonal n m t q ∙ ap {B = List ℕ} (λ e. e ++ (D ∷ [])) (diagonal t w.1) ∙ sym (g.diagonal n m t q))

      go : (n m r : ℕ) → r < count n m → F n m r ≡ G n m r
      go zero m r l = let z : r ≡ 0 = omega (arith, A.left m) in rw z (f.left m ∙ sym (g.left m))
      go (suc n) zero r l = let z : r ≡ 0 = omega (arith, A.low (suc n)) in rw z (f.low (suc n) ∙ sym (g.low (suc n)))
      go (suc n) (suc m) r l = later n m r l (go (suc n) m) (go n (suc m)) (go n m) (dec_lt r (count (suc n) m)) (dec_lt r (count (suc n) m + count n (suc m)))

-- ---- the two families

pub plain-number_rules : {family : ℕ → ℕ → Job} {count : ℕ → ℕ → ℕ} → PlainFamily family count → RulesPlainNumber family count (λ n m. number_of (family n m))
plain-number_rules of_north_east = number_rules north_east L false north-east_plainly
plain-number_rules of_delannoy = number_rules delannoy Dl true delannoy_plainly

pub plain-number-only : {family : ℕ → ℕ → Job} {count : ℕ → ℕ → ℕ} → PlainFamily family count
    → (F G : ℕ → ℕ → List ℕ → ℕ) → RulesPlainNumber family count F → RulesPlainNumber family count G → (n m : ℕ) (e : List ℕ) → Valid (family n m) e → F n m e ≡ G n m e
plain-number-only of_north_east = number-only north_east L false north-east_plainly
plain-number-only of_delannoy = number-only delannoy Dl true delannoy_plainly

pub plain-edge_rules : {family : ℕ → ℕ → Job} {count : ℕ → ℕ → ℕ} → PlainFamily family count → RulesPlainEdge count (λ n m. edge_of (family n m))
plain-edge_rules of_north_east = edge_rules north_east L false north-east_plainly
plain-edge_rules of_delannoy = edge_rules delannoy Dl true delannoy_plainly

pub plain-edge-only : {family : ℕ → ℕ → Job} {count : ℕ → ℕ → ℕ} → PlainFamily family count
    → (F G : ℕ → ℕ → ℕ → List ℕ) → RulesPlainEdge count F → RulesPlainEdge count G → (n m r : ℕ) → r < count n m → F n m r ≡ G n m r
plain-edge-only of_north_east = edge-only north_east L false north-east_plainly
plain-edge-only of_delannoy = edge-only delannoy Dl true delannoy_plainly

-- ---- where the algorithms stop

rank_rules : (family : ℕ → ℕ → Job) (count : ℕ → ℕ → ℕ) → RulesPlainNumber family count (λ n m e. rank_plain count n m (reverse e))
unfolding rank_plain
rank_rules family count = record {
  left = λ m e t. left m (reverse e);
  low = λ n e t. low n (reverse e);
  north = λ n m e t. rw (reverse-append e (N ∷ []));
  east = λ n m e t. rw (reverse-append e (E ∷ []));
  diagonal = λ n m e t. rw (reverse-append e (D ∷ []));
}
  where
    left : (m : ℕ) (u : List ℕ) → rank_plain count 0 m u ≡ 0
    left m [] = refl
    left m (b ∷ u) = refl

    low : (n : ℕ) (u : List ℕ) → rank_plain count n 0 u ≡ 0
    low n [] = refl
    low zero (b ∷ u) = refl
    low (suc n) (b ∷ u) = refl

-- "if n = 0 or m = 0 then r := 0": stopping there gives the same number
pub plain-stops : {family : ℕ → ℕ → Job} {count : ℕ → ℕ → ℕ} → PlainFamily family count
    → (n m : ℕ) (e : List ℕ) → Valid (family n m) e → number_of (family n m) e ≡ rank_plain count n m (reverse e)
plain-stops {family} {count} P = plain-number-only P (λ n m. number_of (family n m)) (λ n m e. rank_plain count n m (reverse e)) (plain-number_rules P) (rank_rules family count)

-- as every further sum is 0 there
pub plain-rim : {family : ℕ → ℕ → Job} {count : ℕ → ℕ → ℕ} → PlainFamily family count → (n m : ℕ) → (n ≡ 0) ⊎ (m ≡ 0) → (e : List ℕ) (b : ℕ) → Valid (family n m) (e ++ (b ∷ []))
    → sum (λ j. ending (rimmed count) (end_of (family n m)) (at (steps_of (family n m)) j)) (place b (steps_of (family n m))) ≡ 0
plain-rim of_north_east = rim north_east L false north-east_plainly
plain-rim of_delannoy = rim delannoy Dl true delannoy_plainly
