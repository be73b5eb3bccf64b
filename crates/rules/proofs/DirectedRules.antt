-- Families 6 and 7: numbers and edges keep the rules of 001's algorithms 7 and 8, and nothing else does. By the last step; the edges'
-- rules follow from the numbers', as an edge has one number. Assumes nothing.
--
--   from-lt                                      what a step brings, where it brings anything
--   directed-number_rules, directed-edge_rules   the rules are kept; of edges, where there are at most eight steps, each goes on and no b is below -3 (`Small`)
--   directed-number-only, directed-edge-only     two functions that keep them agree on valid edges, and, with such steps, on numbers below the count
use mathlib.Core.Path.{◌≡◌, refl, sym, ap, ap₂, ◌∙◌, subst}
use mathlib.Core.Bool.{Bool, true, false, not}
use mathlib.Core.List.{List, [], ◌∷◌, ◌++◌, reverse, reverse-cons, reverse-reverse}
use Prim.Native.Nat.{ℕ, zero, suc, ◌+◌, ◌-◌, ◌≤◌, ◌<◌}
use native.Mathlib.Nat.{not-suc-le-zero, sub-add_cancel}
use native.Mathlib.Omega.{arith}
use lib.Dec.{T, leb, leb→le}
use lib.IntN.{ℤ, pos, ◌-ℤ◌, -ℤ-+ℤ_cancel, ℤ_discrete}
use lib.ListN.{length}
use Rattle.howmany.specs.Choose.{pick}
use Rattle.howmany.specs.Sum.{sum, find, Falls}
use Rattle.howmany.proofs.Sums.{sum_cong, find-falls}
use Rattle.rules.specs.Points.{Point, Step, leℤ, moved, undone}
use Rattle.rules.specs.Jobs.{Job, Pair, pair_at, one, numbered, start_of, end_of, stays, fence}
use Rattle.rules.specs.Jobs.Job.{directed}
use Rattle.rules.specs.Valid.{place, at, walks, Valid}
use Rattle.rules.specs.Counts.{W, from, under, RulesW, count_of}
use Rattle.rules.specs.Numbers.{number_back, edge_back, number_of, edge_of}
use Rattle.rules.specs.StepRules.{digit, brings, RulesDirectedNumber, RulesDirectedEdge}
use Rattle.rules.proofs.Ranges.{Small}
use Rattle.rules.proofs.Letters.{place-letter, point_eq, same_eq}
use Rattle.rules.proofs.Slopes.{digit_at, digit-place, numbered-length}
use Rattle.rules.proofs.LastSteps.{Kin, walks-on, walks-known, walks-off, number_snoc}
use Rattle.rules.proofs.Recurrences.{complete, W_rules}
use Rattle.rules.proofs.Demand3.{numbering}

pub from-lt : (F : ℕ → ℤ → ℕ) (n : ℕ) (m : ℤ) (a : ℕ) (b : ℤ) (r : ℕ) → r < from F n m a b → (a ≤ n) × (r < F (n - a) (m -ℤ b))
from-lt F n m a b r l = go (leb a n) (leb→le a n) l
  where
    go : (c : Bool) → (T c → a ≤ n) → r < pick c (F (n - a) (m -ℤ b)) 0 → (a ≤ n) × (r < F (n - a) (m -ℤ b))
    go true h l = (h tt, l)
    go false h l = absurd (not-suc-le-zero l)

module _ (fenced : Bool) (s : ℕ) (pairs : List Pair) where
  abbrev job : ℕ → ℤ → Job
  job n m = directed fenced n m s pairs

  abbrev steps : List Step
  steps = numbered one pairs

  abbrev a : ℕ → ℕ
  a i = (pair_at pairs i).a

  abbrev b : ℕ → ℤ
  b i = (pair_at pairs i).b

  kin : (x n : ℕ) (y m : ℤ) → Kin (job x y) (job n m)
  kin x n y m = record { steps = refl; stay = λ p. refl }

  -- the end without step i
  end-off : (n : ℕ) (m : ℤ) (i : ℕ) → i < length pairs → end_of (job (n - a i) (m -ℤ b i)) ≡ undone (end_of (job n m)) (at steps i)
  end-off n m i l = let d = digit_at one pairs i l in point_eq (ap (λ (x : ℕ). n - x) (sym d.right)) (ap (λ (y : ℤ). m -ℤ y) (sym d.up))

  end_on : (n : ℕ) (m : ℤ) (i : ℕ) → i < length pairs → a i ≤ n → moved (end_of (job (n - a i) (m -ℤ b i))) (at steps i) ≡ end_of (job n m)
  end_on n m i l h =
      let d = digit_at one pairs i l in
      point_eq (ap (λ (x : ℕ). n - a i + x) d.right ∙ sub-add_cancel h) (rw d.up (-ℤ-+ℤ_cancel m (b i)))

  pub directed-number_rules : RulesDirectedNumber fenced s pairs (λ n m. number_of (job n m))
  unfolding number_of number_back
  directed-number_rules = record { start = refl; others = λ n m e i l t. others n m e i l }
    where
      others : (n : ℕ) (m : ℤ) (e : List ℕ) (i : ℕ) → i < length pairs
          → number_of (job n m) (e ++ (digit i ∷ [])) ≡ sum (brings (W fenced s pairs) pairs n m) i + number_of (job (n - a i) (m -ℤ b i)) e
      others n m e i l =
          number_snoc (job (n - a i) (m -ℤ b i)) (job n m) (kin (n - a i) n (m -ℤ b i) m) (W fenced s pairs) (digit i) i e (digit-place one pairs i l) (end-off n m i l)
          ∙ ap (λ (x : ℕ). x + number_of (job (n - a i) (m -ℤ b i)) e)
          (sum_cong _ _ i (λ j k. let d = digit_at one pairs j (omega arith) in ap₂ (λ (x : ℕ) (y : ℤ). from (W fenced s pairs) n m x y) d.right d.up))

  pub directed-number-only : (F G : ℕ → ℤ → List ℕ → ℕ) → RulesDirectedNumber fenced s pairs F → RulesDirectedNumber fenced s pairs G
      → (n : ℕ) (m : ℤ) (e : List ℕ) → Valid (job n m) e → F n m e ≡ G n m e
  unfolding Valid walks
  directed-number-only F G f g n m e t = rw reverse-reverse at (go (reverse e) n m (rw reverse-reverse t))
    where
      -- the step that a last byte is
      step_of : (c n : ℕ) (m : ℤ) (e : List ℕ) → Valid (job n m) (e ++ (c ∷ [])) → (i : ℕ) × (i < length pairs) × (digit i ≡ c) × Valid (job (n - a i) (m -ℤ b i)) e
      step_of c n m e t =
          let i : ℕ = place c steps in
          let h = walks-known (job n m) (job n m) (kin n n m m) c e (start_of (job n m)) t in
          let l : i < length pairs = rw (numbered-length one pairs) at h in (
            i,
            l,
            sym (digit_at one pairs i l).letter ∙ place-letter c steps h,
            walks-off (job (n - a i) (m -ℤ b i)) (job n m) (kin (n - a i) n (m -ℤ b i) m) c (end-off n m i l) e (start_of (job n m)) t,
          )

      go : (u : List ℕ) (n : ℕ) (m : ℤ) → Valid (job n m) (reverse u) → F n m (reverse u) ≡ G n m (reverse u)
      go [] n m t =
          let e : record { x = 0; y = pos s } ≡ end_of (job n m) = same_eq (record { x = 0; y = pos s }) (end_of (job n m)) t in
          subst (λ (p : Point). F p.x p.y [] ≡ G p.x p.y []) e (f.start ∙ sym g.start)
      go (c ∷ u) n m t = later (step_of c n m (reverse u) t') (go u)
        where
          t' : Valid (job n m) (reverse u ++ (c ∷ []))
          t' = rw (reverse-cons c u) at t

          later : (i : ℕ) × (i < length pairs) × (digit i ≡ c) × Valid (job (n - a i) (m -ℤ b i)) (reverse u)
              → ((n : ℕ) (m : ℤ) → Valid (job n m) (reverse u) → F n m (reverse u) ≡ G n m (reverse u)) → F n m (reverse (c ∷ u)) ≡ G n m (reverse (c ∷ u))
          later (i, l, q, w) ih =
              let v : Valid (job n m) (reverse u ++ (digit i ∷ [])) = rw q t' in
              rw (reverse-cons c u, ← q)
              (f.others n m (reverse u) i l v
              ∙ ap (λ (x : ℕ). sum (brings (W fenced s pairs) pairs n m) i + x) (ih (n - a i) (m -ℤ b i) w)
              ∙ sym (g.others n m (reverse u) i l v))

  module _ (S : Small pairs) where
    counts : RulesW fenced s pairs (W fenced s pairs)
    counts = W_rules fenced s pairs S.on

    -- where there are edges, the fence lets a walk be
    above : (n : ℕ) (m : ℤ) (r : ℕ) → r < W fenced s pairs n m → T (not (under fenced m)) × T (stays (job n m) (end_of (job n m)))
    above n m r l = go fenced (λ t. omega (arith, counts.fence n m t))
      where
        both : (c : Bool) → (T (not c) → ⊥) → T (not (not c)) × T c
        both true h = (tt, tt)
        both false h = absurd (h tt)

        go : (c : Bool) → (T (under c m) → ⊥) → T (not (under c m)) × T (fence c (end_of (job n m)))
        go true h = both (leℤ (pos 0) m) h
        go false h = (tt, tt)

    -- the edge of a smaller job, with one step more
    longer : (n : ℕ) (m : ℤ) (i r : ℕ) → i < length pairs → r < brings (W fenced s pairs) pairs n m i → sum (brings (W fenced s pairs) pairs n m) i + r < W fenced s pairs n m
        → edge_of (job n m) (sum (brings (W fenced s pairs) pairs n m) i + r) ≡ edge_of (job (n - a i) (m -ℤ b i)) r ++ (digit i ∷ [])
    unfolding Valid count_of
    longer n m i r l h q =
        let K : Job = job (n - a i) (m -ℤ b i) in
        let J : Job = job n m in
        let w = from-lt (W fenced s pairs) n m (a i) (b i) r h in
        let z : place (digit i) steps ≡ i = digit-place one pairs i l in
        let e : List ℕ = edge_of K r in
        let t : Valid J (e ++ (digit i ∷ [])) =
        walks-on K J (kin (n - a i) n (m -ℤ b i) m) (digit i) (rw (z, numbered-length one pairs) l) (rw z (end_on n m i l w.0))
        (above n m (sum (brings (W fenced s pairs) pairs n m) i + r) q).1 e (start_of K) ((numbering K S).has r w.1) in
        let v : number_of J (e ++ (digit i ∷ [])) ≡ sum (brings (W fenced s pairs) pairs n m) i + r =
        directed-number_rules.others n m e i l t ∙ ap (λ (x : ℕ). sum (brings (W fenced s pairs) pairs n m) i + x) ((numbering K S).there r w.1) in
        ap (edge_of J) (sym v) ∙ (numbering J S).back (e ++ (digit i ∷ [])) t

    pub directed-edge_rules : RulesDirectedEdge fenced s pairs (λ n m. edge_of (job n m))
    unfolding edge_of edge_back
    directed-edge_rules = record { start = refl; others = longer }

    pub directed-edge-only : (F G : ℕ → ℤ → ℕ → List ℕ) → RulesDirectedEdge fenced s pairs F → RulesDirectedEdge fenced s pairs G
        → (n : ℕ) (m : ℤ) (r : ℕ) → r < W fenced s pairs n m → F n m r ≡ G n m r
    directed-edge-only F G f g = complete (λ n. (m : ℤ) (r : ℕ) → r < W fenced s pairs n m → F n m r ≡ G n m r) go
      where
        Agree : ℕ → Type 0
        Agree n = (m : ℤ) (r : ℕ) → r < W fenced s pairs n m → F n m r ≡ G n m r

        first : (m : ℤ) (r : ℕ) → r < W fenced s pairs 0 m → Dec (m ≡ pos s) → F 0 m r ≡ G 0 m r
        first m r l (yes e) = let z : r ≡ 0 = omega (arith, counts.start, ap (W fenced s pairs 0) e) in rw (e, z) (f.start ∙ sym g.start)
        first m r l (no d) = absurd (omega (arith, counts.beside m d))

        go : (n : ℕ) → ((x : ℕ) → x < n → Agree x) → Agree n
        go zero ih m r l = first m r l (ℤ_discrete m (pos s))
        go (suc n) ih m r l =
            let t : ℕ → ℕ = brings (W fenced s pairs) pairs (suc n) m in
            let i : ℕ = find t (length pairs) r in
            let p : Falls t (length pairs) r i = find-falls t (length pairs) r (omega (arith, counts.others (suc n) m (omega arith) (above (suc n) m r l).0)) in
            let h : r - sum t i < t i = omega (arith, p.low, p.high) in
            let e : sum t i + (r - sum t i) ≡ r = omega (arith, p.low) in
            let q : sum t i + (r - sum t i) < W fenced s pairs (suc n) m = omega arith in
            let w = from-lt (W fenced s pairs) (suc n) m (a i) (b i) (r - sum t i) h in
            rw e at (f.others (suc n) m i (r - sum t i) p.inside h q
            ∙ ap {B = List ℕ} (λ x. x ++ (digit i ∷ [])) (ih (suc n - a i) (omega (arith, S.on i p.inside)) (m -ℤ b i) (r - sum t i) w.1)
            ∙ sym (g.others (suc n) m i (r - sum t i) p.inside h q))
