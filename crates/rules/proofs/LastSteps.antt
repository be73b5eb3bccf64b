-- An edge and the edge without its last step, over any two jobs that differ in their ends alone: what is valid of both, and their
-- numbers. By going along the edge. Assumes nothing.
--
--   Kin K J        the jobs K and J differ in their ends alone
--   walks-on       what leads to K's end leads to J's by one step more
--   walks-known    the last byte is a step
--   walks-off      without it the edge leads to K's end
--   number_snoc    what the last step adds to the number
use mathlib.Core.Path.{◌≡◌, refl, sym, ap, ◌∙◌, subst}
use mathlib.Core.Bool.{◌&&◌}
use mathlib.Core.List.{List, [], ◌∷◌, ◌++◌, reverse, reverse-append}
use Prim.Native.Nat.{ℕ, ◌+◌, ◌<◌}
use native.Mathlib.Nat.{add-sub_cancel}
use lib.Dec.{T, ltb, ltb→lt, lt→ltb}
use lib.IntN.{ℤ, +ℤ-neg_ℤ_cancel}
use lib.ListN.{length}
use Rattle.howmany.specs.Sum.{sum}
use Rattle.howmany.proofs.Choices.{and_left, and_right, and_both}
use Rattle.rules.specs.Points.{Point, Step, same, moved, undone}
use Rattle.rules.specs.Jobs.{Job, steps_of, end_of, stays}
use Rattle.rules.specs.Valid.{place, at, walks}
use Rattle.rules.specs.Numbers.{ending, number_back}
use Rattle.rules.proofs.Letters.{point_eq, same_eq, same_refl}

pub record Kin (K J : Job) : Type 0 where
  pub steps : steps_of K ≡ steps_of J
  pub stay : (p : Point) → stays K p ≡ stays J p

pub undone-moved : (p : Point) (s : Step) → undone (moved p s) s ≡ p
undone-moved p s = point_eq (add-sub_cancel p.x s.a) (+ℤ-neg_ℤ_cancel p.y s.b)

module _ (K J : Job) (H : Kin K J) where
  -- the step that a byte is
  abbrev ss : List Step
  ss = steps_of J

  abbrev by : ℕ → Step
  by b = at ss (place b ss)

  record Stepped (L : Job) (p : Point) (b : ℕ) (e : List ℕ) : Type 0 where
    known : place b ss < length ss
    kept : T (stays J (moved p (by b)))
    goes : T (walks L (moved p (by b)) e)

  stepped : (L : Job) (p : Point) (b : ℕ) (e : List ℕ) → steps_of L ≡ ss → ((p : Point) → stays L p ≡ stays J p) → T (walks L p (b ∷ e)) → Stepped L p b e
  unfolding walks
  stepped L p b e q z t =
      let w : T (ltb (place b ss) (length ss) && (stays J (moved p (by b)) && walks L (moved p (by b)) e)) = rw (q, z) at t in
      let u = and_right (ltb (place b ss) (length ss)) (stays J (moved p (by b)) && walks L (moved p (by b)) e) w in
      record {
        known = ltb→lt (place b ss) (length ss) (and_left (ltb (place b ss) (length ss)) (stays J (moved p (by b)) && walks L (moved p (by b)) e) w);
        kept = and_left (stays J (moved p (by b))) (walks L (moved p (by b)) e) u;
        goes = and_right (stays J (moved p (by b))) (walks L (moved p (by b)) e) u;
      }

  taken : (L : Job) (p : Point) (b : ℕ) (e : List ℕ) → steps_of L ≡ ss → ((p : Point) → stays L p ≡ stays J p) → Stepped L p b e → T (walks L p (b ∷ e))
  unfolding walks
  taken L p b e q z w =
      rw (q, z) (and_both (ltb (place b ss) (length ss)) (stays J (moved p (by b)) && walks L (moved p (by b)) e) (lt→ltb (place b ss) (length ss) w.known)
      (and_both (stays J (moved p (by b))) (walks L (moved p (by b)) e) w.kept w.goes))

  pub walks-on : (b : ℕ) → place b ss < length ss → moved (end_of K) (by b) ≡ end_of J → T (stays J (end_of J))
      → (e : List ℕ) (p : Point) → T (walks K p e) → T (walks J p (e ++ (b ∷ [])))
  unfolding walks
  walks-on b l m u [] p t =
      let q : moved p (by b) ≡ end_of J = ap (λ (z : Point). moved z (by b)) (same_eq p (end_of K) t) ∙ m in
      taken J p b [] refl (λ p. refl) (record { known = l; kept = rw q u; goes = subst (λ (z : Point). T (same z (end_of J))) (sym q) (same_refl (end_of J)) })
  walks-on b l m u (c ∷ e) p t =
      let w = stepped K p c e H.steps H.stay t in
      taken J p c (e ++ (b ∷ [])) refl (λ p. refl) (record { known = w.known; kept = w.kept; goes = walks-on b l m u e (moved p (by c)) w.goes })

  pub walks-known : (b : ℕ) (e : List ℕ) (p : Point) → T (walks J p (e ++ (b ∷ []))) → place b ss < length ss
  walks-known b [] p t = (stepped J p b [] refl (λ p. refl) t).known
  walks-known b (c ∷ e) p t = walks-known b e (moved p (by c)) (stepped J p c (e ++ (b ∷ [])) refl (λ p. refl) t).goes

  pub walks-off : (b : ℕ) → end_of K ≡ undone (end_of J) (by b) → (e : List ℕ) (p : Point) → T (walks J p (e ++ (b ∷ []))) → T (walks K p e)
  unfolding walks
  walks-off b m [] p t =
      let w = stepped J p b [] refl (λ p. refl) t in
      let q : p ≡ end_of K = sym (undone-moved p (by b)) ∙ ap (λ (z : Point). undone z (by b)) (same_eq (moved p (by b)) (end_of J) w.goes) ∙ sym m in
      subst (λ (z : Point). T (same p z)) q (same_refl p)
  walks-off b m (c ∷ e) p t =
      let w = stepped J p c (e ++ (b ∷ [])) refl (λ p. refl) t in
      taken K p c e H.steps H.stay (record { known = w.known; kept = w.kept; goes = walks-off b m e (moved p (by c)) w.goes })

  number-kin : (F : ℕ → ℤ → ℕ) (p : Point) (u : List ℕ) → number_back K F p u ≡ number_back J F p u
  unfolding number_back
  number-kin F p [] = refl
  number-kin F p (b ∷ u) = rw H.steps (ap (λ (n : ℕ). sum (λ i. ending F p (at ss i)) (place b ss) + n) (number-kin F (undone p (by b)) u))

  pub number_snoc : (F : ℕ → ℤ → ℕ) (b i : ℕ) (e : List ℕ) → place b ss ≡ i → end_of K ≡ undone (end_of J) (at ss i)
      → number_back J F (end_of J) (reverse (e ++ (b ∷ []))) ≡ sum (λ j. ending F (end_of J) (at ss j)) i + number_back K F (end_of K) (reverse e)
  unfolding number_back
  number_snoc F b i e q m =
      rw (reverse-append e (b ∷ []), q, m) (ap (λ (n : ℕ). sum (λ j. ending F (end_of J) (at ss j)) i + n) (sym (number-kin F (undone (end_of J) (at ss i)) (reverse e))))
