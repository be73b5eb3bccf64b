-- Laws of lower heights: slopes and heights over one step more, and what a shape in lower heights shows. Assumes nothing.
--
--   Until, until_more, until_idle, until_all    a loop of which only the first k turns do something
--   bounds-low, bounds-high, bounds-at    a slope that bounds the first steps, one step more, all steps
--   heights_more                            the heights of one step more
--   view_lowered                            a shape slid down or mirrored shows what it did
--   shows_same, beyond-same                 two grids with the same steps are shown alike, and have the same ends out of reach
--   beyond-barren                           nothing leads to such an end
use mathlib.Core.Path.{◌≡◌, refl, ap, ◌∙◌, subst}
use mathlib.Core.Bool.{Bool, true, false}
use mathlib.Core.List.{List}
use Prim.Native.Nat.{ℕ, ◌+◌, ◌*◌, ◌-◌, ◌≤◌, ◌<◌}
use native.Mathlib.Decide.{dec_lt}
use native.Mathlib.Nat.{mul-le-mul, le_trans, le_refl}
use native.Mathlib.Omega.{arith}
use borrow.Author.Count.{below_more}
use lib.ListN.{get_or, set, length-set}
use lib.Seq.{get_or-set_other}
use Rattle.backward.specs.Walk.{enter}
use Rattle.backward.specs.Grid.{Spot, Steps, grid, way}
use Rattle.backward.specs.Shears.{Slid}
use Rattle.backward.proofs.Carried.{Barren}
use Rattle.backward.proofs.Shears.{below-barren, above-barren, enter-barren}
use Rattle.tables.specs.Form.{Slight}
use Rattle.tables.specs.Heights.{Height, Bounds, Heights, Turned}
use Rattle.std.specs.Prelude.{Some}
use Rattle.tables.specs.Shapes.{FormOf, Shows, steps_at, end_at, Beyond, Lowered, View}
use Rattle.tables.specs.Shapes.Shows.{slid, mirrored}
use Rattle.tables.specs.Shapes.Beyond.{below, above}
use Rattle.tables.specs.declared.Shape.{Shape}
use Rattle.tables.proofs.Walls.{set_more}
use Rattle.tables.proofs.Laws.{mul_bound}
use Rattle.tables.specs.declared.Wall.{Wall}

-- ---- loops

-- P holds of the turns that did something, i of them or k
pub record Until (P : ℕ → Type 0) (k i : ℕ) : Type 0 where
  pub so_far : i ≤ k → P i
  pub done : k ≤ i → P k

pub until_more : {P : ℕ → Type 0} {k i : ℕ} → i < k → P (i + 1) → Until P k (i + 1)
until_more {P} {k} {i} l q = record { so_far = λ _. q; done = λ h. let e : i + 1 ≡ k = omega arith in subst P e q }

pub until_idle : {P : ℕ → Type 0} {k i : ℕ} → k ≤ i → Until P k i → Until P k (i + 1)
until_idle l u = record { so_far = λ h. absurd (omega arith); done = λ _. u.done l }

pub until_all : {P : ℕ → Type 0} {k i : ℕ} → Until P k i → k ≤ 8 → 8 ≤ i → P k
until_all u l h = u.done (omega arith)

module _ (sa sc : List ℕ) (d e i : ℕ) where
  pub bounds-low : Bounds false d i sa sc → e ≤ d → e * get_or sa i 0 ≤ get_or sc i 0 → Bounds false e (i + 1) sa sc
  bounds-low b l h = record {
    small = omega (arith, b.small);
    each = below_more (λ j. e * get_or sa j 0 ≤ get_or sc j 0) i (λ j k. le_trans (mul-le-mul l (le_refl (get_or sa j 0))) (b.each j k)) h;
  }

  pub bounds-high : Bounds true d i sa sc → d ≤ e → e ≤ 6 → get_or sc i 0 ≤ e * get_or sa i 0 → Bounds true e (i + 1) sa sc
  bounds-high b l m h = record {
    small = m;
    each = below_more (λ j. get_or sc j 0 ≤ e * get_or sa j 0) i (λ j k. le_trans (b.each j k) (mul-le-mul l (le_refl (get_or sa j 0)))) h;
  }

-- once every step is passed
pub bounds-at : {t : Bool} {d i k : ℕ} {sa sc : List ℕ} → Bounds t d i sa sc → i ≡ k → Bounds t d k sa sc
bounds-at b e = rw e at b

-- ---- heights

module _ (t : Bool) (d : ℕ) (sa sc up : List ℕ) (i y : ℕ) (w : Heights t d sa sc up i) (l : i < 8) (e : Height t (get_or sc i 0) (d * get_or sa i 0) y) where
  pub heights_more : Heights t d sa sc (set up i y) (i + 1)
  heights_more = record {
    eight = length-set up i y ∙ w.eight;
    each = set_more up i y (λ j v. Height t (get_or sc j 0) (d * get_or sa j 0) v) (omega (arith, w.eight)) w.each e;
    flat = λ j h k. get_or-set_other up i j y 0 (λ q. omega arith) ∙ w.flat j (omega arith) k;
  }

-- ---- a shape slid down or mirrored

module _ (s : Shape) (d : ℕ) (f : Wall) (ey : ℕ) (up : List ℕ) where
  abbrev seen : Shape
  seen = record { k = s.k; wall = f; top = s.top; ex = s.ex; ey = ey; sa = s.sa; sc = up }

  -- slid heights are no more than before, 3a + 3 at most; a mirrored one is 6a - c at most, and c is 3a - 3 at least
  there : (t : Bool) → View t d s → Heights t d s.sa s.sc up s.k → (i : ℕ) → i < s.k → get_or up i 0 ≤ s.top
  there false v u i l = omega (arith, u.each i l, v.gentle.lifted.near i l, v.gentle.lifted.most i l, v.gentle.top_is)
  there true v u i l =
      omega (
        arith,
        u.each i l,
        mul-le-mul v.bounds.small (le_refl (get_or s.sa i 0)),
        v.gentle.lifted.near i l,
        v.gentle.lifted.least i l,
        v.gentle.top_is,
      )

  low : (t : Bool) → View t d s → Heights t d s.sa s.sc up s.k → (i : ℕ) → i < 8 → Dec (i < s.k) → get_or up i 0 ≤ s.top
  low t v u i l (yes h) = there t v u i h
  low t v u i l (no h) = omega (arith, u.flat i (omega arith) l)

  -- 34 columns of 109 cells at most
  form : (t : Bool) → View t d s → Slight f → Height t s.ey (d * s.ex) ey → Heights t d s.sa s.sc up s.k → FormOf seen
  form t v e h u =
      let w = v.gentle in
      let l : ey ≤ 96 = v.near ey h in
      let top : s.top ≡ 12 = w.top_is in
      let wide : s.ex ≤ 32 = w.wide in (
        record {
          eight = w.eight;
          eight_too = u.eight;
          some = w.some;
          most = w.lifted.few;
          ahead = w.lifted.ahead;
          near = w.lifted.near;
          away = w.away;
          flat = u.flat;
          low = λ i k. low t v u i k (dec_lt i s.k);
          top_le = omega arith;
          slight = e;
          ex_le = omega arith;
          ey_le = l;
          cells = omega (arith, mul_bound (s.ex + 2) (s.top + ey + 1) 34 109 (omega arith) (omega arith));
        },
        wide,
      )

  shows : (t : Bool) → Turned t s.wall d f → Height t s.ey (d * s.ex) ey → Heights t d s.sa s.sc up s.k → Shows (steps_at s) (end_at s) seen
  shows false w h u = slid d (record { many = refl; right = λ i l. refl; up = u.each; wall = w }) (refl, h)
  shows true w h u = mirrored d (record { many = refl; right = λ i l. refl; up = u.each; wall = w }) (refl, h)

  pub view_lowered : (t : Bool) → View t d s → Slight f × Turned t s.wall d f → Height t s.ey (d * s.ex) ey → Heights t d s.sa s.sc up s.k → Lowered s (Some seen)
  view_lowered t v w h u = (form t v w.0 h u, shows t w.1 h u)

-- ---- two grids with the same steps

module _ (G K : Steps) (w : Slid 0 G K) where
  times : (d i : ℕ) → i < K.k → d * K.a i ≡ d * G.a i
  times d i l = ap (λ (x : ℕ). d * x) (w.right i l)

  same : (x y : ℕ) → K.stays x y ≡ G.stays x y
  same x y = let e : y + 0 * x ≡ y = omega arith in w.wall x y ∙ ap (G.stays x) e

  pub shows_same : (q : Spot) (r : Shape) → Shows K q r → Shows G q r
  shows_same q r (slid d l a) =
      slid d
      (record {
        many = l.many ∙ w.many;
        right = λ i h. l.right i h ∙ w.right i (omega (arith, l.many));
        up = λ i h. omega (arith, l.up i h, w.up i (omega (arith, l.many)), times d i (omega (arith, l.many)));
        wall = λ x y. l.wall x y ∙ same x (y + d * x);
      })
      a
  shows_same q r (mirrored d l a) =
      mirrored d
      (record {
        many = l.many ∙ w.many;
        right = λ i h. l.right i h ∙ w.right i (omega (arith, l.many));
        up = λ i h. omega (arith, l.up i h, w.up i (omega (arith, l.many)), times d i (omega (arith, l.many)));
        wall = λ x y h. l.wall x y h ∙ same x (d * x - y);
      })
      a

  pub beyond-same : (q : Spot) → Beyond K q → Beyond G q
  beyond-same q (below d l h) =
      below d (λ i k. let n : i < K.k = omega (arith, w.many) in omega (arith, l i n, w.up i n, times d i n)) h
  beyond-same q (above d l h) =
      above d (λ i k. let n : i < K.k = omega (arith, w.many) in omega (arith, l i n, w.up i n, times d i n)) h

pub beyond-barren : (G : Steps) (q : Spot) → Beyond G q → Barren (grid G) (enter (grid G) (way G) q)
beyond-barren G q (below d l h) = enter-barren G q (below-barren G d l q h)
beyond-barren G q (above d l h) = enter-barren G q (above-barren G d l q h)
