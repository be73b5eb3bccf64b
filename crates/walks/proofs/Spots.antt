-- The point at x and the height h = y + 3x + 128, and what a step does there. Assumes nothing.
--
--   is-under, is-least, is_same    tests of a difference
--   spot x h         the point at x and h; spot-start: where a walk starts
--   right, above     x and h after a step
--   kept-none        a byte that is no step breaks a rule; kept-beyond: so does a step that leads beyond the end
--   kept_on          any other step keeps the rules
--   step-to          where it leads
--   spot-end         whether a point is the end
use mathlib.Core.Path.{◌≡◌, refl, sym, ap, ap₂, ◌∙◌}
use mathlib.Core.Bool.{Bool, true, false, not, ◌&&◌, ◌||◌, and-false}
use Prim.Native.Nat.{ℕ, ◌+◌, ◌-◌, ◌*◌, ◌≤◌, ◌<◌}
use native.Mathlib.Decide.{dec_le, ℕ_discrete}
use native.Mathlib.Omega.{arith}
use lib.Dec.{leb, ltb, eqb}
use lib.IntN.{ℤ, pos, negsuc, sub_ℕ, ◌+ℤ◌}
use lib.ListN.{length, get_or}
use borrow.Author.Tests.{lt-ltb, le-ltb, le-leb, lt-leb, eq-eqb, ne_eqb}
use Rattle.howmany.specs.Choose.{pick}
use Rattle.rules.specs.Points.{Is, Point, Step, origin, same, moved, leℤ, eqℤ}
use Rattle.rules.specs.Jobs.{Job, steps_of, end_of, stays}
use Rattle.rules.specs.Valid.{place, at}
use Rattle.rules.specs.Places.{step_of, low, inside, keeps}
use Rattle.rules.proofs.Letters.{point_eq}
use Rattle.rules.proofs.Signed.{is_sub, is-shift, is_plus, is_one, is-fence}
use Rattle.walks.specs.declared.paces.Paces.{Paces}
use Rattle.walks.specs.Paces.{letter_of, within_by, within, PacesOf}

-- ---- tests of a difference

is-under : (z : ℤ) (p q x : ℕ) → Is z p q → leℤ z (pos x) ≡ leb p (x + q)
is-under (pos a) p q x h = leb-shift a x p (x + q) (λ l. omega arith) (λ l. omega arith)
  where
    leb-shift : (a b p r : ℕ) → (a ≤ b → p ≤ r) → (p ≤ r → a ≤ b) → leb a b ≡ leb p r
    leb-shift a b p r f g = go (dec_le a b)
      where
        go : Dec (a ≤ b) → leb a b ≡ leb p r
        go (yes l) = le-leb a b l ∙ sym (le-leb p r (f l))
        go (no l) = lt-leb a b (omega arith) ∙ sym (lt-leb p r (over (dec_le p r)))
          where
            over : Dec (p ≤ r) → r < p
            over (yes m) = absurd (l (g m))
            over (no m) = omega arith
is-under (negsuc a) p q x h = sym (le-leb p (x + q) (omega arith))

is-least : (z m : ℤ) (p r q : ℕ) → Is z p q → Is m r q → leℤ z m ≡ leb p r
is-least z (pos b) p r q h l = let e : b + q ≡ r = omega arith in is-under z p q b h ∙ ap (leb p) e
is-least (pos a) (negsuc b) p r q h l = sym (lt-leb p r (omega arith))
is-least (negsuc a) (negsuc b) p r q h l = go (dec_le b a)
  where
    go : Dec (b ≤ a) → leb b a ≡ leb p r
    go (yes o) = le-leb b a o ∙ sym (le-leb p r (omega arith))
    go (no o) = lt-leb b a (omega arith) ∙ sym (lt-leb p r (omega arith))

eqb-shift : (a b p r : ℕ) → (a ≡ b → p ≡ r) → (p ≡ r → a ≡ b) → eqb a b ≡ eqb p r
eqb-shift a b p r f g = go (ℕ_discrete a b)
  where
    go : Dec (a ≡ b) → eqb a b ≡ eqb p r
    go (yes e) = eq-eqb a b e ∙ sym (eq-eqb p r (f e))
    go (no e) = ne_eqb a b e ∙ sym (ne_eqb p r (λ q. e (g q)))

is_same : (z m : ℤ) (p r q : ℕ) → Is z p q → Is m r q → eqℤ z m ≡ eqb p r
is_same (pos a) (pos b) p r q h l = eqb-shift a b p r (λ e. omega arith) (λ e. omega arith)
is_same (pos a) (negsuc b) p r q h l = sym (ne_eqb p r (λ e. omega arith))
is_same (negsuc a) (pos b) p r q h l = sym (ne_eqb p r (λ e. omega arith))
is_same (negsuc a) (negsuc b) p r q h l = eqb-shift a b p r (λ e. omega arith) (λ e. omega arith)

-- ---- the point at x and h

unfoldable pub spot : ℕ → ℕ → Point
spot x h = record { x = x; y = sub_ℕ h (3 * x + 128) }

spot_up : (x h : ℕ) → Is (spot x h).y h (3 * x + 128)
unfolding spot
spot_up x h = is_sub h (3 * x + 128)

spot-across : (x h : ℕ) → (spot x h).x ≡ x
unfolding spot
spot-across x h = refl

pub spot-start : spot 0 128 ≡ origin
unfolding spot
spot-start = refl

-- ---- a step

pub and-true : (a : Bool) → a && true ≡ a
and-true true = refl
and-true false = refl

module _ (p : Paces) where
  abbrev pub right : ℕ → ℕ → ℕ
  right x l = x + get_or p.a l 0

  abbrev pub above : ℕ → ℕ → ℕ
  above h l = h + (get_or p.b l 0 + 3 * get_or p.a l 0 - 128)

module _ {p : Paces} {J : Job} (s : PacesOf p J) where
  spot-step : (x h l : ℕ) → l < p.k → moved (spot x h) (at (steps_of J) l) ≡ spot (right p x l) (above p h l)
  spot-step x h l o =
      let t : Step = at (steps_of J) l in
      let y : ℤ = (spot x h).y in
      point_eq (ap₂ ◌+◌ (spot-across x h) (s.strides.a_is l o) ∙ sym (spot-across (right p x l) (above p h l)))
      (is_one (y +ℤ t.b) (spot (right p x l) (above p h l)).y (above p h l) (3 * right p x l + 128)
      (is-shift (y +ℤ t.b) (h + get_or p.b l 0) ((3 * x + 128) + 128) (above p h l) (3 * right p x l + 128)
      (is_plus y t.b h (3 * x + 128) (get_or p.b l 0) 128 (spot_up x h) (s.strides.b_is l o)) (omega (arith, s.strides.upward l o)))
      (spot_up (right p x l) (above p h l)))

  spot_stays : (x h : ℕ) → stays J (spot x h) ≡ pick p.square (leb h (4 * x + 128)) (pick p.fenced (leb (3 * x + 128) h) true)
  spot_stays x h =
      s.keeps (spot x h)
      ∙ ap₂ (λ (a c : Bool). pick p.square a (pick p.fenced c true)) below (is-fence (spot x h).y h (3 * x + 128) (spot_up x h))
    where
      below : leℤ (spot x h).y (pos (spot x h).x) ≡ leb h (4 * x + 128)
      below =
          let e : (spot x h).x + (3 * x + 128) ≡ 4 * x + 128 = omega (arith, spot-across x h) in
          is-under (spot x h).y h (3 * x + 128) (spot x h).x (spot_up x h) ∙ ap (leb h) e

  end-up : (x : ℕ) → Is (end_of J).y (3 * x + p.m) (3 * x + 128)
  end-up x = is-shift (end_of J).y p.m 128 (3 * x + p.m) (3 * x + 128) s.m_is (omega arith)

  spot-low : (x h : ℕ) → low J (spot x h) ≡ not p.lettered || leb h (3 * x + p.m)
  spot-low x h = ap₂ ◌||◌ s.directs (is-least (spot x h).y (end_of J).y h (3 * x + p.m) (3 * x + 128) (spot_up x h) (end-up x))

  spot-within : (x h : ℕ) → stays J (spot x h) && low J (spot x h) ≡ within p x h
  spot-within x h = ap₂ ◌&&◌ (spot_stays x h) (spot-low x h) ∙ go p.lettered p.square p.fenced s.apart.0 s.apart.1
    where
      go : (t q f : Bool) → (t ≡ true → f ≡ false) → (t ≡ false → q ≡ false)
          → pick q (leb h (4 * x + 128)) (pick f (leb (3 * x + 128) h) true) && (not t || leb h (3 * x + p.m)) ≡ within_by t q f p.m x h
      go true q f e z = rw (e refl) refl
      go false q f e z = rw (z refl) (and-true (pick f (leb (3 * x + 128) h) true))

  module _ (x h b l : ℕ) (q : l ≡ letter_of p.lettered p.k b) where
    place_is : place b (steps_of J) ≡ l
    place_is = s.strides.letters b ∙ sym q

    -- what is asked of a byte, by its place
    abbrev asked : Bool → Point → Bool
    asked t z = t && (stays J z && inside J z)

    keeps-by : keeps J (spot x h) b ≡ asked (ltb l p.k) (moved (spot x h) (at (steps_of J) l))
    keeps-by =
        ap (λ (i : ℕ). asked (ltb i (length (steps_of J))) (moved (spot x h) (at (steps_of J) i))) place_is
        ∙ ap (λ (n : ℕ). asked (ltb l n) (moved (spot x h) (at (steps_of J) l))) s.strides.many

    pub kept-none : p.k ≤ l → keeps J (spot x h) b ≡ false
    kept-none o = keeps-by ∙ ap (λ (t : Bool). asked t (moved (spot x h) (at (steps_of J) l))) (le-ltb l p.k o)

    module _ (o : l < p.k) where
      pub step-to : moved (spot x h) (step_of J b) ≡ spot (right p x l) (above p h l)
      step-to = ap (λ (i : ℕ). moved (spot x h) (at (steps_of J) i)) place_is ∙ spot-step x h l o

      keeps-at : keeps J (spot x h) b ≡ stays J (spot (right p x l) (above p h l)) && (leb (right p x l) p.n && low J (spot (right p x l) (above p h l)))
      keeps-at =
          keeps-by
          ∙ ap₂ asked (lt-ltb l p.k o) (spot-step x h l o)
          ∙ ap₂ (λ (a c : ℕ). stays J (spot (right p x l) (above p h l)) && (leb a c && low J (spot (right p x l) (above p h l)))) (spot-across (right p x l) (above p h l)) s.n_is

      pub kept-beyond : p.n < right p x l → keeps J (spot x h) b ≡ false
      kept-beyond d =
          let z = spot (right p x l) (above p h l) in
          keeps-at ∙ ap (λ (t : Bool). stays J z && (t && low J z)) (lt-leb (right p x l) p.n d) ∙ and-false (stays J z)

      pub kept_on : right p x l ≤ p.n → keeps J (spot x h) b ≡ within p (right p x l) (above p h l)
      kept_on d =
          let z = spot (right p x l) (above p h l) in
          keeps-at ∙ ap (λ (t : Bool). stays J z && (t && low J z)) (le-leb (right p x l) p.n d) ∙ spot-within (right p x l) (above p h l)

  -- ---- the end

  pub spot-end : (x h : ℕ) → same (spot x h) (end_of J) ≡ eqb x p.n && eqb h (p.m + 3 * p.n)
  spot-end x h = ap₂ (λ (a b : ℕ). eqb a b && eqℤ (spot x h).y (end_of J).y) (spot-across x h) s.n_is ∙ go (ℕ_discrete x p.n)
    where
      go : Dec (x ≡ p.n) → eqb x p.n && eqℤ (spot x h).y (end_of J).y ≡ eqb x p.n && eqb h (p.m + 3 * p.n)
      go (yes e) =
          let u : 3 * x + p.m ≡ p.m + 3 * p.n = omega arith in
          ap (λ (b : Bool). eqb x p.n && b)
          (is_same (spot x h).y (end_of J).y h (3 * x + p.m) (3 * x + 128) (spot_up x h) (end-up x) ∙ ap (eqb h) u)
      go (no e) = rw (ne_eqb x p.n e)
