-- Families 2, 4 and 5: document 01's sentences on how a path ends hold, numbers and edges keep the rules of the papers' algorithms, and
-- nothing else does. By the trees that print the paths; the edges' rules follow from the numbers', as an edge has one number. Assumes
-- nothing.
--
--   OfD, OfArch                            the trees of what a path is made of
--   splits, number_rules, number-only, edge_rules, edge-only    the laws, over (has D, width less one); then of the three families:
--   arch-splits                            how paths end
--   arch-number_rules, arch-edge_rules     the rules are kept
--   arch-number-only, arch-edge-only       two functions that keep them agree on valid paths, and on numbers below the count
use mathlib.Core.Path.{◌≡◌, refl, sym, ap, ap₂, ◌∙◌, subst, subst₂}
use mathlib.Core.Bool.{Bool, true, false}
use mathlib.Core.Logic.{◌⊎◌, inl, inr}
use mathlib.Core.List.{List, [], ◌∷◌, ◌++◌, append_assoc, reverse, reverse-append, reverse-reverse}
use Prim.Native.Nat.{ℕ, zero, suc, ◌+◌, ◌-◌, ◌*◌, ◌/◌, ◌%◌, ◌≤◌, ◌<◌}
use native.Mathlib.Nat.{mod-add-div, mod-lt, div-lt_iff_lt-mul, mul_comm}
use native.Mathlib.Decide.{dec_le, dec_lt}
use native.Mathlib.Omega.{arith}
use lib.Dec.{T}
use lib.ListN.{length, length-append}
use Rattle.howmany.specs.Sum.{sum, find, Falls}
use Rattle.howmany.proofs.Sums.{find-falls}
use Rattle.arches.specs.Counts.{if_d, count, before}
use Rattle.arches.specs.Trees.{Tree, size, number, build, print, run, read, tree_of, last}
use Rattle.arches.specs.Trees.Tree.{empty, dee, arch}
use Rattle.arches.proofs.Counting.{if_d-pos, count-zero, count-suc, count-short}
use Rattle.arches.proofs.Ranking.{number-arch, pos-of_product}
use Rattle.arches.proofs.Paths.{tree_of_print, print-one}
use Rattle.rules.specs.Jobs.{Job, N, E, D}
use Rattle.rules.specs.Jobs.Job.{dyck, schroder, motzkin}
use Rattle.rules.specs.Valid.{Valid}
use Rattle.rules.specs.Order.{EndsInD, EndsInArch}
use Rattle.rules.specs.Counts.{C, S, M}
use Rattle.rules.specs.Numbers.{number_of, edge_of}
use Rattle.rules.specs.ArchRules.{ArchFamily, products, Splits, RulesArchNumber, RulesArchEdge}
use Rattle.rules.specs.ArchRules.ArchFamily.{of_dyck, of_schroder, of_motzkin}
use Rattle.rules.proofs.ArchPaths.{Arched, printed, print-valid, has-D, ends-dee, ends-arch, tree-size, ends_in_D, ends_in_arch, arched, dyck-arched, schroder-arched, motzkin-arched}
use Rattle.rules.proofs.Recurrences.{complete}

-- two strings that end in a byte are equal in it and before it
same-last : (p q : List ℕ) (b c : ℕ) → p ++ (b ∷ []) ≡ q ++ (c ∷ []) → (p ≡ q) × (b ≡ c)
same-last p q b c e =
    let h : b ∷ reverse p ≡ c ∷ reverse q = sym (reverse-append p (b ∷ [])) ∙ ap reverse e ∙ reverse-append q (c ∷ []) in
    let r : reverse p ≡ reverse q = cc in
    (sym (reverse-reverse p) ∙ ap reverse r ∙ reverse-reverse q, cc)

some-last : (p : List ℕ) (b : ℕ) → p ++ (b ∷ []) ≡ [] → ⊥
some-last p b e = omega (arith, length-append p (b ∷ []), ap length e)

module _ (family : ℕ → Job) (d : Bool) (v : ℕ) (A : Arched family d v) where
  -- ---- how a path ends: the trees of what it is made of

  record OfD (s p : List ℕ) : Type 0 where
    has : T d
    rest : Tree d
    prints : print d v rest ≡ p
    whole : print d v (dee has rest) ≡ s

  of-D : {s p : List ℕ} → EndsInD family s p → OfD s p
  of-D {s} {p} e =
      let a = printed family d v A e.k p e.before in
      record { has = has-D family d v A s p e; rest = a.tree; prints = a.prints; whole = ends-dee family d v A s p e a.tree a.prints }

  record OfArch (s : List ℕ) (I k : ℕ) (f i : List ℕ) : Type 0 where
    first : Tree d
    inner : Tree d
    prints_first : print d v first ≡ f
    prints_inner : print d v inner ≡ i
    size_first : size d v first ≡ I
    size_inner : size d v inner ≡ k
    whole : print d v (arch first inner) ≡ s

  of-arch : {s f i : List ℕ} {I : ℕ} (e : EndsInArch family s I f i) → OfArch s I e.k f i
  of-arch {s} {f} {i} {I} e =
      let a = printed family d v A I f e.first in
      let b = printed family d v A e.k i e.inside in
      record {
        first = a.tree;
        inner = b.tree;
        prints_first = a.prints;
        prints_inner = b.prints;
        size_first = a.sized;
        size_inner = b.sized;
        whole = ends-arch family d v A s f i I e a.tree b.tree a.prints b.prints;
      }

  -- two trees that print one string are one
  same-tree : {s : List ℕ} (t u : Tree d) → print d v t ≡ s → print d v u ≡ s → t ≡ u
  same-tree t u e h = print-one d v t u (e ∙ sym h)

  size-D : (n : ℕ) {s p : List ℕ} → Valid (family n) s → (o : OfD s p) → suc (size d v o.rest) ≡ n
  unfolding size
  size-D n {s} t o = tree-size family d v A n s (dee o.has o.rest) t o.whole

  size-arch : (n : ℕ) {s f i : List ℕ} {I k : ℕ} → Valid (family n) s → OfArch s I k f i → I + suc v + k ≡ n
  unfolding size
  size-arch n {s} t o = let e = tree-size family d v A n s (arch o.first o.inner) t o.whole in omega (arith, e, o.size_first, o.size_inner)

  made-D : (n : ℕ) (p : List ℕ) → T d → Valid (family n) p → Valid (family (suc n)) (p ++ (D ∷ []))
  unfolding print size
  made-D n p h t =
      let a = printed family d v A n p t in
      subst₂ (λ (k : ℕ) (l : List ℕ). Valid (family (suc k)) (l ++ (D ∷ []))) a.sized a.prints (print-valid family d v A (dee h a.tree))

  made-arch : (I k : ℕ) (f i : List ℕ) → Valid (family I) f → Valid (family k) i → Valid (family (I + suc v + k)) (f ++ (E ∷ (i ++ (N ∷ []))))
  unfolding print size
  made-arch I k f i s t =
      let a = printed family d v A I f s in
      let b = printed family d v A k i t in
      let e : suc (size d v a.tree + size d v b.tree + v) ≡ I + suc v + k = omega (arith, a.sized, b.sized) in
      subst (λ (n : ℕ). Valid (family n) (f ++ (E ∷ (i ++ (N ∷ []))))) e
      (subst₂ (λ (l m : List ℕ). Valid (family (suc (size d v a.tree + size d v b.tree + v))) (l ++ (E ∷ (m ++ (N ∷ []))))) a.prints b.prints
      (print-valid family d v A (arch a.tree b.tree)))

  abbrev Ends : List ℕ → Type 0
  Ends s = ((p : List ℕ) × EndsInD family s p) ⊎ ((I : ℕ) × (f : List ℕ) × (i : List ℕ) × EndsInArch family s I f i)

  tree-ends : (t : Tree d) → (print d v t ≡ [] → ⊥) → Ends (print d v t)
  unfolding print
  tree-ends empty h = absurd (h refl)
  tree-ends (dee p t) h = inl (print d v t, ends_in_D family d v A p t)
  tree-ends (arch f i) h = inr (size d v f, print d v f, print d v i, ends_in_arch family d v A f i)

  ends : (n : ℕ) (s : List ℕ) → Valid (family n) s → (s ≡ [] → ⊥) → Ends s
  ends n s t h = let a = printed family d v A n s t in subst Ends a.prints (tree-ends a.tree (λ e. h (sym a.prints ∙ e)))

  last_D : (p : List ℕ) → Ends (p ++ (D ∷ [])) → EndsInD family (p ++ (D ∷ [])) p
  last_D p (inl (q, e)) = subst (EndsInD family (p ++ (D ∷ []))) (sym (same-last p q D D e.shape).0) e
  last_D p (inr (I, f, i, e)) = absurd (omega (arith, (same-last p (f ++ (E ∷ i)) D N (e.shape ∙ sym (append_assoc f (E ∷ i) (N ∷ [])))).1))

  last_N : (p : List ℕ) → Ends (p ++ (N ∷ [])) → (I : ℕ) × (f : List ℕ) × (i : List ℕ) × EndsInArch family (p ++ (N ∷ [])) I f i
  last_N p (inl (q, e)) = absurd (omega (arith, (same-last p q N D e.shape).1))
  last_N p (inr e) = e

  last_E : (p : List ℕ) → Ends (p ++ (E ∷ [])) → ⊥
  last_E p (inl (q, e)) = omega (arith, (same-last p q E D e.shape).1)
  last_E p (inr (I, f, i, e)) = omega (arith, (same-last p (f ++ (E ∷ i)) E N (e.shape ∙ sym (append_assoc f (E ∷ i) (N ∷ [])))).1)

  splits : Splits family d (suc v)
  splits = record {
    ends = ends;
    last_D = λ n p t. last_D p (ends n (p ++ (D ∷ [])) t (some-last p D));
    last_N = λ n p t. last_N p (ends n (p ++ (N ∷ [])) t (some-last p N));
    last_E = λ n p t. last_E p (ends n (p ++ (E ∷ [])) t (some-last p E));
    one = λ e g.
        let a = of-D e in
        let b = of-arch g in
        let q = same-tree (dee a.has a.rest) (arch b.first b.inner) a.whole b.whole in
        let z : ◌≡◌ {A = ℕ} 0 1 = cc in
        omega arith;
    parts = λ e g.
        let a = of-arch e in
        let b = of-arch g in
        let q = same-tree (arch a.first a.inner) (arch b.first b.inner) a.whole b.whole in
        let f : a.first ≡ b.first = cc in
        let i : a.inner ≡ b.inner = cc in (
          sym a.size_first ∙ ap (size d v) f ∙ b.size_first,
          sym a.prints_first ∙ ap (print d v) f ∙ b.prints_first,
          sym a.prints_inner ∙ ap (print d v) i ∙ b.prints_inner,
        );
    rest = λ e g.
        let a = of-D e in
        let b = of-D g in
        let q = same-tree (dee a.has a.rest) (dee b.has b.rest) a.whole b.whole in
        let r : a.rest ≡ b.rest = cc in
        sym a.prints ∙ ap (print d v) r ∙ b.prints;
    before = λ n {s} {p} t e.
        let a = of-D e in
        let h : e.k ≡ n - 1 = omega (arith, size-D n t a, size-D (suc e.k) e.path a) in
        (a.has, omega (arith, size-D n t a), subst (λ (k : ℕ). Valid (family k) p) h e.before);
    inside = λ n {s} {f} {i} {I} t e.
        let h = size-arch n t (of-arch e) in
        let q : e.k ≡ n - suc v - I = omega arith in
        (omega arith, e.first, subst (λ (k : ℕ). Valid (family k) i) q e.inside);
    with_D = made-D;
    arched = made-arch;
  }

  -- ---- numbers

  num-print : {s : List ℕ} (t : Tree d) → print d v t ≡ s → number d v (tree_of d v s) ≡ number d v t
  num-print t e = ap (λ (l : List ℕ). number d v (tree_of d v l)) (sym e) ∙ ap (number d v) (tree_of_print d v t)

  num-empty : number d v (tree_of d v []) ≡ 0
  unfolding number tree_of read run last
  num-empty = refl

  num-D : {s p : List ℕ} → OfD s p → number d v (tree_of d v s) ≡ number d v (tree_of d v p)
  unfolding number
  num-D a = num-print (dee a.has a.rest) a.whole ∙ sym (num-print a.rest a.prints)

  num-arch : (n k : ℕ) {s f i : List ℕ} {I : ℕ} → I + suc v + k ≡ n → OfArch s I k f i
      → number d v (tree_of d v s) ≡ if_d d (count d v (n - 1)) + products (count d v) (suc v) n I + number d v (tree_of d v f) + count d v I * number d v (tree_of d v i)
  unfolding before
  num-arch n k {s} {f} {i} {I} z o =
      let p : I + k + v ≡ n - 1 = omega arith in
      let q : I + k ≡ n - suc v = omega arith in
      let r = number-arch d v o.first o.inner (I + k) I (number d v (tree_of d v f)) (number d v (tree_of d v i)) (ap₂ ◌+◌ o.size_first o.size_inner) o.size_first
      (sym (num-print o.first o.prints_first)) (sym (num-print o.inner o.prints_inner)) in
      omega (arith, num-print (arch o.first o.inner) o.whole, simp q at (rw p at r))

  number_rules : RulesArchNumber family (count d v) d (suc v) (λ n s. number d v (tree_of d v s))
  number_rules = record {
    empty = num-empty;
    ends_in_D = λ n t e. num-D (of-D e);
    ends_in_arch = λ n t e. num-arch n e.k (size-arch n t (of-arch e)) (of-arch e);
  }

  number-only : (K : ℕ → ℕ) (F G : ℕ → List ℕ → ℕ) → RulesArchNumber family K d (suc v) F → RulesArchNumber family K d (suc v) G
      → (n : ℕ) (s : List ℕ) → Valid (family n) s → F n s ≡ G n s
  unfolding print size
  number-only K F G f g n s t = let a = printed family d v A n s t in subst₂ (λ (k : ℕ) (l : List ℕ). F k l ≡ G k l) a.sized a.prints (on-trees a.tree)
    where
      -- where they agree on the parts, at whatever the rules have for their sizes
      at_size : (t : Tree d) (k : ℕ) → size d v t ≡ k → F (size d v t) (print d v t) ≡ G (size d v t) (print d v t) → F k (print d v t) ≡ G k (print d v t)
      at_size t k e h = subst (λ (k : ℕ). F k (print d v t) ≡ G k (print d v t)) e h

      on-trees : (t : Tree d) → F (size d v t) (print d v t) ≡ G (size d v t) (print d v t)
      on-trees empty = f.empty ∙ sym g.empty
      on-trees (dee p t) =
          let path = print-valid family d v A (dee p t) in
          let e = ends_in_D family d v A p t in
          f.ends_in_D (suc (size d v t)) path e ∙ at_size t (suc (size d v t) - 1) (omega arith) (on-trees t) ∙ sym (g.ends_in_D (suc (size d v t)) path e)
      on-trees (arch a b) =
          let n : ℕ = suc (size d v a + size d v b + v) in
          let I : ℕ = size d v a in
          let path = print-valid family d v A (arch a b) in
          let e = ends_in_arch family d v A a b in
          f.ends_in_arch n path e
          ∙ ap₂ (λ (x y : ℕ). if_d d (K (n - 1)) + products K (suc v) n I + x + K I * y) (on-trees a) (at_size b (n - suc v - I) (omega arith) (on-trees b))
          ∙ sym (g.ends_in_arch n path e)

  -- ---- edges

  abbrev edge : ℕ → ℕ → List ℕ
  edge n r = print d v (build d v n n r)

  -- the path that has the number is the path of the number
  edge-is : (n r : ℕ) (s : List ℕ) → Valid (family n) s → number d v (tree_of d v s) ≡ r → edge n r ≡ s
  edge-is n r s t e = ap (edge n) (sym e) ∙ (arched family d v A n).back s t

  edge-D : (n r : ℕ) → r < if_d d (count d v n) → edge (suc n) r ≡ edge n r ++ (D ∷ [])
  edge-D n r l =
      let q = if_d-pos d r (count d v n) l in
      let B = arched family d v A n in
      let path = made-D n (edge n r) q.0 (B.has r q.1) in
      edge-is (suc n) r (edge n r ++ (D ∷ [])) path
      (num-D (of-D (record { k = n; path = path; shape = refl; before = B.has r q.1 })) ∙ B.there r q.1)

  edge-arch : (n I l : ℕ) → I + suc v ≤ n → l < count d v I * count d v (n - suc v - I)
      → edge n (if_d d (count d v (n - 1)) + products (count d v) (suc v) n I + l)
      ≡ edge I (l % count d v I) ++ (E ∷ (edge (n - suc v - I) (l / count d v I) ++ (N ∷ [])))
  edge-arch n I l h q =
      let k : ℕ = n - suc v - I in
      let c : ℕ = count d v I in
      let pos : 0 < c = pos-of_product c (count d v k) l q in
      let low : l % c < count d v I = mod-lt l pos in
      let high : l / c < count d v k = (div-lt_iff_lt-mul pos).1 (rw mul_comm q) in
      let P = arched family d v A I in
      let Q = arched family d v A k in
      let f : List ℕ = edge I (l % c) in
      let i : List ℕ = edge k (l / c) in
      let z : I + suc v + k ≡ n = omega arith in
      let path = made-arch I k f i (P.has (l % c) low) (Q.has (l / c) high) in
      let o = of-arch (record { shape = refl; first = P.has (l % c) low; k = k; inside = Q.has (l / c) high }) in
      let e : number d v (tree_of d v (f ++ (E ∷ (i ++ (N ∷ []))))) ≡ if_d d (count d v (n - 1)) + products (count d v) (suc v) n I + l % c + c * (l / c) =
      num-arch n k z o ∙ ap₂ (λ (x y : ℕ). if_d d (count d v (n - 1)) + products (count d v) (suc v) n I + x + c * y) (P.there (l % c) low) (Q.there (l / c) high) in
      edge-is n (if_d d (count d v (n - 1)) + products (count d v) (suc v) n I + l) (f ++ (E ∷ (i ++ (N ∷ []))))
      (subst (λ (m : ℕ). Valid (family m) (f ++ (E ∷ (i ++ (N ∷ []))))) z path) (omega (arith, e, mod-add-div l c))

  edge_rules : RulesArchEdge (count d v) d (suc v) (λ n r. print d v (build d v n n r))
  unfolding build print
  edge_rules = record { empty = refl; ends_in_D = edge-D; ends_in_arch = edge-arch }

-- the same of building needs no family: the counts alone say which numbers there are
module _ (d : Bool) (v : ℕ) where
  edge-only : (F G : ℕ → ℕ → List ℕ) → RulesArchEdge (count d v) d (suc v) F → RulesArchEdge (count d v) d (suc v) G
      → (n r : ℕ) → r < count d v n → F n r ≡ G n r
  edge-only F G f g = complete (λ n. (r : ℕ) → r < count d v n → F n r ≡ G n r) go
    where
      Agree : ℕ → Type 0
      Agree n = (r : ℕ) → r < count d v n → F n r ≡ G n r

      arch : (n : ℕ) → ((i : ℕ) → i < n → Agree i) → (I l : ℕ) → I + suc v ≤ n → l < count d v I * count d v (n - suc v - I)
          → F n (if_d d (count d v (n - 1)) + products (count d v) (suc v) n I + l) ≡ G n (if_d d (count d v (n - 1)) + products (count d v) (suc v) n I + l)
      arch n ih I l h q =
          let pos : 0 < count d v I = pos-of_product (count d v I) (count d v (n - suc v - I)) l q in
          f.ends_in_arch n I l h q
          ∙ ap₂ {C = List ℕ} (λ x y. x ++ (E ∷ (y ++ (N ∷ []))))
          (ih I (omega arith) (l % count d v I) (mod-lt l pos))
          (ih (n - suc v - I) (omega arith) (l / count d v I) ((div-lt_iff_lt-mul pos).1 (rw mul_comm q)))
          ∙ sym (g.ends_in_arch n I l h q)

      later : (n : ℕ) → ((i : ℕ) → i < suc n → Agree i) → (r : ℕ) → r < count d v (suc n) → Dec (r < if_d d (count d v n)) → Dec (v ≤ n) → F (suc n) r ≡ G (suc n) r
      later n ih r l (yes h) c = f.ends_in_D n r h ∙ ap {B = List ℕ} (λ x. x ++ (D ∷ [])) (ih n (omega arith) r (if_d-pos d r (count d v n) h).1) ∙ sym (g.ends_in_D n r h)
      later n ih r l (no h) (no c) = absurd (omega (arith, count-short d v n (omega arith)))
      later n ih r l (no h) (yes c) =
          let t : ℕ → ℕ = λ i. count d v i * count d v (suc n - suc v - i) in
          let s : ℕ = r - if_d d (count d v n) in
          let q : suc n - suc v ≡ n - v = omega arith in
          let z : suc n - 1 ≡ n = omega arith in
          let I : ℕ = find t (suc n - v) s in
          let p : Falls t (suc n - v) s I = find-falls t (suc n - v) s (omega (arith, count-suc d v n, ap (λ (k : ℕ). sum (λ i. count d v i * count d v (k - i)) (suc n - v)) q)) in
          let e : if_d d (count d v (suc n - 1)) + products (count d v) (suc v) (suc n) I + (s - sum t I) ≡ r = rw z (omega (arith, p.low)) in
          rw e at (arch (suc n) ih I (s - sum t I) (omega (arith, p.inside)) (omega (arith, p.low, p.high)))

      go : (n : ℕ) → ((i : ℕ) → i < n → Agree i) → Agree n
      go zero ih r l = let e : r ≡ 0 = omega (arith, count-zero d v) in rw e (f.empty ∙ sym g.empty)
      go (suc n) ih r l = later n ih r l (dec_lt r (if_d d (count d v n))) (dec_le v n)

-- ---- the three families

pub arch-splits : {family : ℕ → Job} {count : ℕ → ℕ} {d : Bool} {w : ℕ} → ArchFamily family count d w → Splits family d w
arch-splits of_dyck = splits dyck false 0 dyck-arched
arch-splits of_schroder = splits schroder true 0 schroder-arched
arch-splits of_motzkin = splits motzkin true 1 motzkin-arched

pub arch-number_rules : {family : ℕ → Job} {count : ℕ → ℕ} {d : Bool} {w : ℕ} → ArchFamily family count d w → RulesArchNumber family count d w (λ n. number_of (family n))
unfolding number_of C S M
arch-number_rules of_dyck = number_rules dyck false 0 dyck-arched
arch-number_rules of_schroder = number_rules schroder true 0 schroder-arched
arch-number_rules of_motzkin = number_rules motzkin true 1 motzkin-arched

pub arch-number-only : {family : ℕ → Job} {count : ℕ → ℕ} {d : Bool} {w : ℕ} → ArchFamily family count d w → (F G : ℕ → List ℕ → ℕ) → RulesArchNumber family count d w F → RulesArchNumber family count d w G
    → (n : ℕ) (s : List ℕ) → Valid (family n) s → F n s ≡ G n s
arch-number-only of_dyck = number-only dyck false 0 dyck-arched C
arch-number-only of_schroder = number-only schroder true 0 schroder-arched S
arch-number-only of_motzkin = number-only motzkin true 1 motzkin-arched M

pub arch-edge_rules : {family : ℕ → Job} {count : ℕ → ℕ} {d : Bool} {w : ℕ} → ArchFamily family count d w → RulesArchEdge count d w (λ n. edge_of (family n))
unfolding edge_of C S M
arch-edge_rules of_dyck = edge_rules dyck false 0 dyck-arched
arch-edge_rules of_schroder = edge_rules schroder true 0 schroder-arched
arch-edge_rules of_motzkin = edge_rules motzkin true 1 motzkin-arched

pub arch-edge-only : {family : ℕ → Job} {count : ℕ → ℕ} {d : Bool} {w : ℕ} → ArchFamily family count d w → (F G : ℕ → ℕ → List ℕ) → RulesArchEdge count d w F → RulesArchEdge count d w G → (n r : ℕ) → r < count n → F n r ≡ G n r
unfolding C S M
arch-edge-only of_dyck = edge-only false 0
arch-edge-only of_schroder = edge-only true 0
arch-edge-only of_motzkin = edge-only true 1
