-- Laws of walls: fences and roofs, and how they are seen from another slope. Assumes nothing.
--
--   tested                   a test holds or doesn't
--   set_more                 what holds of the first i numbers of a list, and of the one put at i, holds of the first i + 1
--   fence-is, roof_is        what a wall asks
--   wall-none                no wall lets a walk be anywhere
--   wall-between             a wall lets a walk be above a fence, or below a roof
--   wall-start               every wall lets a walk begin
--   wall-slid, wall-mirrored a fence in lower heights, and in mirrored ones; wall-free: no wall in either
--   fenced-slight, slid-slight, mirrored-slight    each of them is low
--   fence-above, fence-free, roof_free, roof-under    what `fence_at` and `roof_at` find
--   sixth_of                 what `reach_of` finds
--   from-fence, from_end, to-lesser    what `from_at` and `to_at` find
--   spans_none, spans_more, spans_all    what `spans` has before its loop, after a turn of it, and at its end; span_low, span_high: what it finds of a column
--   wall_in                  the wall lets a walk be at the heights that matter
use mathlib.Core.Path.{◌≡◌, refl, sym, ap, ◌∙◌}
use mathlib.Core.Bool.{Bool, true, false}
use mathlib.Core.List.{List}
use Prim.Native.Nat.{ℕ, ◌+◌, ◌*◌, ◌-◌, ◌≤◌, ◌<◌}
use native.Mathlib.Decide.{dec_le}
use native.Mathlib.Nat.{add-mul, mul_comm, mul_assoc}
use native.Mathlib.Omega.{arith}
use lib.Dec.{T, leb, leb→le}
use lib.ListN.{length, get_or, set}
use Rattle.std.proofs.Common.{min}
use Rattle.std.proofs.Math.Nat.{min-eq_left, min-eq_right}
use lib.Seq.{get_or-set_same, get_or-set_other}
use borrow.Author.Count.{below_more}
use borrow.Author.Tests.{le-leb, lt-leb}
use Rattle.howmany.proofs.Choices.{holds}
use Rattle.tables.specs.declared.Wall.{Wall}
use Rattle.tables.specs.Form.{wall, fence_of, unwalled, Slight}
use Rattle.tables.specs.Shapes.{Fenced}
use Rattle.tables.specs.Heights.{Turned}
use Rattle.tables.specs.Table.{Fence, From, Roof, To, Spans}

pub tested : (b : Bool) → Dec (T b)
tested true = yes tt
tested false = no (λ t. t)

pub set_more : (l : List ℕ) (i v : ℕ) (P : ℕ → ℕ → Type 0) → i < length l → ((j : ℕ) → j < i → P j (get_or l j 0)) → P i v → (j : ℕ) → j < i + 1 → P j (get_or (set l i v) j 0)
set_more l i v P h all here =
    below_more (λ j. P j (get_or (set l i v) j 0)) i (λ j k. rw (get_or-set_other l i j v 0 (λ q. omega arith)) (all j k)) (rw (get_or-set_same l i v 0 h) here)

pub fence-is : (f : Wall) (x y : ℕ) → f.roof ≡ false → wall f x y ≡ leb (f.slope * x) (y + f.start)
unfolding wall
fence-is f x y e = rw e

pub roof_is : (f : Wall) (x y : ℕ) → f.roof ≡ true → wall f x y ≡ leb y (f.slope * x + f.start)
unfolding wall
roof_is f x y e = rw e

wall-between : (f : Wall) (x y : ℕ) → (f.roof ≡ false → f.slope * x ≤ y + f.start) → (f.roof ≡ true → y ≤ f.slope * x + f.start) → T (wall f x y)
wall-between f x y low high = go f.roof refl
  where
    go : (b : Bool) → f.roof ≡ b → T (wall f x y)
    go true e = holds (roof_is f x y e ∙ le-leb y (f.slope * x + f.start) (high e))
    go false e = holds (fence-is f x y e ∙ le-leb (f.slope * x) (y + f.start) (low e))

level_in : (f : Wall) → f.roof ≡ false → f.slope ≡ 0 → (x y : ℕ) → wall f x y ≡ true
level_in f e z x y =
    let l : f.slope * x ≡ 0 * x = ap (λ (n : ℕ). n * x) z in
    fence-is f x y e ∙ le-leb (f.slope * x) (y + f.start) (omega arith)

pub wall-none : (f : Wall) (x y : ℕ) → f ≡ unwalled → T (wall f x y)
wall-none f x y e = rw e (holds (level_in unwalled refl refl x y))

pub wall-start : (f : Wall) → T (wall f 0 0)
wall-start f = wall-between f 0 0 (λ l. omega arith) (λ l. omega arith)

-- ---- other heights

fence-slid : (g s d x y : ℕ) → leb ((g - d) * x) (y + s) ≡ leb (g * x) (y + d * x + s)
fence-slid g s d x y = go (dec_le d g)
  where
    same : (a b : ℕ) → a + d * x ≡ b → leb a (y + s) ≡ leb b (y + d * x + s)
    same a b e =
        elim (dec_le a (y + s)) [
          | yes l ↦ le-leb a (y + s) l ∙ sym (le-leb b (y + d * x + s) (omega arith))
          | no l ↦ lt-leb a (y + s) (omega arith) ∙ sym (lt-leb b (y + d * x + s) (omega arith))
        ]

    go : Dec (d ≤ g) → leb ((g - d) * x) (y + s) ≡ leb (g * x) (y + d * x + s)
    go (yes l) =
        let e : g - d + d ≡ g = omega arith in
        same ((g - d) * x) (g * x) (sym (add-mul (g - d) d x) ∙ ap (λ (n : ℕ). n * x) e)
    go (no l) =
        let e : g - d ≡ 0 = omega arith in
        let k : d - g + g ≡ d = omega arith in
        let h : (d - g) * x + g * x ≡ d * x = sym (add-mul (d - g) g x) ∙ ap (λ (n : ℕ). n * x) k in
        rw e (le-leb (0 * x) (y + s) (omega arith) ∙ sym (le-leb (g * x) (y + d * x + s) (omega arith)))

pub wall-slid : (f : Wall) (d : ℕ) → f.roof ≡ false → Turned false f d (fence_of (f.slope - d) f.start)
wall-slid f d e x y =
    fence-is (fence_of (f.slope - d) f.start) x y refl ∙ fence-slid f.slope f.start d x y ∙ sym (fence-is f x (y + d * x) e)

fence-turned : (g s u v y : ℕ) → g + u ≡ v → y ≤ v → leb y (g + s) ≡ leb u (v - y + s)
fence-turned g s u v y e l =
    elim (dec_le y (g + s)) [
      | yes h ↦ le-leb y (g + s) h ∙ sym (le-leb u (v - y + s) (omega arith))
      | no h ↦ lt-leb y (g + s) (omega arith) ∙ sym (lt-leb u (v - y + s) (omega arith))
    ]

pub wall-mirrored : (f : Wall) (d : ℕ) → f.roof ≡ false → f.slope ≤ d → Turned true f d (record { roof = true; slope = d - f.slope; start = f.start })
wall-mirrored f d e h x y k =
    let z : d - f.slope + f.slope ≡ d = omega arith in
    roof_is (record { roof = true; slope = d - f.slope; start = f.start }) x y refl
    ∙ fence-turned ((d - f.slope) * x) f.start (f.slope * x) (d * x) y (sym (add-mul (d - f.slope) f.slope x) ∙ ap (λ (n : ℕ). n * x) z) k
    ∙ sym (fence-is f x (d * x - y) e)

pub wall-free : (t : Bool) (f : Wall) (d : ℕ) → f.roof ≡ false → f.slope ≡ 0 → Turned t f d f
wall-free true f d e z = λ x y l. level_in f e z x y ∙ sym (level_in f e z x (d * x - y))
wall-free false f d e z = λ x y. level_in f e z x y ∙ sym (level_in f e z x (y + d * x))

-- a family's fence, seen from any slope, is as low as a form's wall is
module _ {f : Wall} (w : Fenced f) where
  pub fenced-slight : Slight f
  fenced-slight = record { slope_le = omega (arith, w.slope_le); start_le = w.start_le }

  pub slid-slight : (d : ℕ) → Slight (fence_of (f.slope - d) f.start)
  slid-slight d = record { slope_le = omega (arith, w.slope_le); start_le = w.start_le }

  pub mirrored-slight : (d : ℕ) → d ≤ 6 → Slight (record { roof = true; slope = d - f.slope; start = f.start })
  mirrored-slight d l = record { slope_le = omega arith; start_le = w.start_le }

-- ---- the heights that matter

clash : {b : Bool} → b ≡ true → b ≡ false → ⊥
clash p q = let z : ◌≡◌ {A = ℕ} 0 1 = cc in omega arith

module _ (f : Wall) (x : ℕ) where
  pub fence-above : f.roof ≡ false → Fence f x (f.slope * x - f.start)
  fence-above e = record {
    most = omega arith;
    inside = λ _. omega arith;
    least = λ y h t. omega (arith, leb→le (f.slope * x) (y + f.start) (rw (fence-is f x y e) at t));
  }

  pub fence-free : f.roof ≡ true → Fence f x 0
  fence-free e = record { most = omega arith; inside = λ q. absurd (clash e q); least = λ y h t. omega arith }

  module _ (y : ℕ) where
    pub roof_free : f.roof ≡ false → Roof f x y y
    roof_free e = record { inside = λ q. absurd (clash q e); beyond = λ v h t. h }

    pub roof-under : f.roof ≡ true → Roof f x y (min (f.slope * x + f.start) y)
    roof-under e = elim (dec_le (f.slope * x + f.start) y) [
      | yes l ↦ rw (min-eq_left l) (record { inside = λ _. omega arith; beyond = λ v h t. absurd (omega (arith, leb→le v (f.slope * x + f.start) (rw (roof_is f x v e) at t))) })
      | no l ↦ let k : y ≤ f.slope * x + f.start = omega arith in rw (min-eq_right k) (record { inside = λ _. k; beyond = λ v h t. h })
    ]

pub sixth_of : (hi slope x : ℕ) → slope * 6 ≡ hi → hi * x ≡ 6 * (slope * x)
sixth_of hi slope x e = rw (← e) (ap (λ (z : ℕ). z * x) (mul_comm slope 6) ∙ mul_assoc 6 slope x)

module _ {f : Wall} {hi ex ey x fence_of : ℕ} (w : Fence f x fence_of) (reach : ℕ) (l : 6 * reach ≤ hi * (ex - x)) where
  pub from-fence : ey ≤ fence_of + reach → From f hi ex ey x fence_of
  from-fence h = record { inside = w.inside; ends = omega arith; least = λ y k e t. w.least y k t }

  pub from_end : hi * (ex - x) < 6 * reach + 6 → fence_of + reach < ey → From f hi ex ey x (ey - reach)
  from_end k h = record { inside = λ e. omega (arith, w.inside e); ends = omega arith; least = λ y m e t. omega arith }

pub to-lesser : {f : Wall} {hi ey x high reach : ℕ} → Roof f x high reach → hi * x < 6 * high + 6 → To f hi ey x (min reach ey + 1)
to-lesser {f} {hi} {ey} {x} {high} {reach} w l = elim (dec_le reach ey) [
  | yes h ↦ rw (min-eq_left h) (record { under = omega arith; inside = λ e y k. omega (arith, w.inside e); beyond = λ y k e t. omega (arith, w.beyond y (omega arith) t) })
  | no h ↦
      let e : ey ≤ reach = omega arith in
      rw (min-eq_right e) (record { under = omega arith; inside = λ e y k. omega (arith, w.inside e); beyond = λ y k e t. absurd (omega arith) })
]

module _ {f : Wall} {hi ex ey x from to : ℕ} (fr : From f hi ex ey x from) (up : To f hi ey x to) where
  pub wall_in : (y : ℕ) → from ≤ y → y < to → T (wall f x y)
  wall_in y l h = wall-between f x y (λ k. omega (arith, fr.inside k)) (λ k. up.inside k y h)

module _ {f : Wall} {hi ex ey : ℕ} {starts stops : List ℕ} where
  pub spans_none : ex ≤ 32 → Spans f hi ex ey starts stops 1
  spans_none w = record { narrow = w; low = λ x p l. absurd (omega arith); high = λ x p l. absurd (omega arith) }

  pub spans_more : {n from to : ℕ} → Spans f hi ex ey starts stops n → n < length starts → n < length stops → From f hi ex ey n from → To f hi ey n to → Spans f hi ex ey (set starts n from) (set stops n to) (n + 1)
  spans_more {n} {from} {to} s l m fr up = record {
    narrow = s.narrow;
    low = λ x p h. set_more starts n from (λ j v. 1 ≤ j → From f hi ex ey j v) l (λ j h p. s.low j p h) (λ p. fr) x h p;
    high = λ x p h. set_more stops n to (λ j v. 1 ≤ j → To f hi ey j v) m (λ j h p. s.high j p h) (λ p. up) x h p;
  }

  pub spans_all : {n : ℕ} → Spans f hi ex ey starts stops n → n ≡ ex + 1 → Spans f hi ex ey starts stops (ex + 1)
  spans_all s e = rw e at s

  module _ (s : Spans f hi ex ey starts stops (ex + 1)) {x : ℕ} (p : 1 ≤ x) (l : x ≤ ex) where
    pub span_low : From f hi ex ey x (get_or starts x 0)
    span_low = s.low x p (omega arith)

    pub span_high : To f hi ey x (get_or stops x 0)
    span_high = s.high x p (omega arith)
