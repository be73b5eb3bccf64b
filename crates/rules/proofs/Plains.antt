-- Families 1 and 3 by the shear (x + y, y): what the backward-order theorem asks. L and D are the grid's counts, by going back over
-- both recurrences; above the diagonal of the sheared grid there are no walks. Assumes nothing.
--
--   PlainSteps               each step (a, b) of the family is (a + b, b) in the grid
--   no_walks               no walks lead above the diagonal
--   plain_shear, plain-counted    what the theorem asks, from the steps and from the counts
--   L-rim, D-rim, L-agrees, D-agrees    the counts
--   north-east_shear, delannoy_shear, north-east-counted, delannoy-counted
use mathlib.Core.Path.{◌≡◌, refl, sym, ap, ap₂, ◌∙◌}
use mathlib.Core.Bool.{Bool, true, false}
use mathlib.Core.List.{List}
use Prim.Native.Nat.{ℕ, zero, suc, ◌+◌, ◌-◌, ◌≤◌, ◌<◌}
use native.Mathlib.Decide.{dec_le}
use native.Mathlib.Nat.{not-suc-le-zero}
use native.Mathlib.Omega.{arith}
use lib.Dec.{T, leb, eqb, eqb→eq, le→leb, leb→le}
use lib.IntN.{pos, negsuc, ◌+ℤ◌, ◌-ℤ◌, pos-+ℤ-pos}
use lib.ListN.{length}
use Rattle.howmany.specs.Choose.{pick, bit}
use Rattle.howmany.specs.Sum.{sum}
use Rattle.howmany.proofs.Choices.{is_true, is_false, holds}
use Rattle.howmany.proofs.Cases.{two, three}
use Rattle.howmany.proofs.Sums.{sum-none}
use Rattle.backward.specs.Grid.{Spot, Steps, off, inside, reach, Onward, paths}
use Rattle.backward.proofs.Grids.{paths-start, paths-step, reached, reaches, spot_eq}
use Rattle.rules.specs.Points.{Point, Step, origin}
use Rattle.rules.specs.Jobs.{steps_of}
use Rattle.rules.specs.Jobs.Job.{north_east, delannoy}
use Rattle.rules.specs.Valid.{place, at}
use Rattle.rules.specs.Order.{standing}
use Rattle.rules.specs.Counts.{L, Dl}
use Rattle.rules.specs.Numbers.{rimmed}
use Rattle.rules.proofs.Shear.{Upright, north_east_grid, delannoy_grid}
use Rattle.rules.proofs.Letters.{point_eq}
use Rattle.rules.proofs.Signed.{is_one, is_minus}
use Rattle.rules.proofs.Sheared.{Back, Shear, Counted}
use Rattle.rules.proofs.Sheared.Back.{to, gone}

-- step i of ss is (a, b) with b = c i and a + c i = a i of the grid
pub record PlainSteps (ss : List Step) (G : Steps) : Type 0 where
  pub many : length ss ≡ G.k
  pub onward : Onward G
  pub free : (x y : ℕ) → G.stays x y ≡ true
  pub right : (i : ℕ) → i < G.k → (at ss i).a + G.c i ≡ G.a i
  pub up : (i : ℕ) → i < G.k → (at ss i).b ≡ pos (G.c i)

module _ (ss : List Step) (G : Steps) (H : PlainSteps ss G) where
  free : (q : Spot) → T (inside G q)
  free q = holds (H.free q.x q.y)

  -- one step goes up by no more than it goes on
  none_from : (p : Spot) → 0 < p.x → ((i : ℕ) → i < G.k → T (reach G p i) → paths G (off G p i) ≡ 0) → paths G p ≡ 0
  none_from p l h =
      paths-step G H.onward p l (free p)
      ∙ sum-none (λ i. pick (reach G p i) (paths G (off G p i)) 0) G.k (λ i k. go i k (reach G p i) refl)
    where
      go : (i : ℕ) → i < G.k → (b : Bool) → reach G p i ≡ b → pick b (paths G (off G p i)) 0 ≡ 0
      go i k true e = h i k (holds e)
      go i k false e = refl

  pub no_walks : (x y : ℕ) → x < y → paths G (record { x = x; y = y }) ≡ 0
  no_walks x y l = upto (suc x) x y (omega arith) l
    where
      upto : (b x y : ℕ) → x < b → x < y → paths G (record { x = x; y = y }) ≡ 0
      upto zero x y k l = absurd (not-suc-le-zero k)
      upto (suc b) zero y k l = paths-start G H.onward y ∙ ap bit (is_false (eqb y 0) (λ t. omega (arith, eqb→eq y 0 t)))
      upto (suc b) (suc x) y k l = none_from (record { x = suc x; y = y }) (omega arith) (λ i h t.
          let r = reached G (record { x = suc x; y = y }) i t in
          upto b (suc x - G.a i) (y - G.c i) (omega (arith, H.onward.ahead i h)) (omega (arith, H.onward.ahead i h, H.right i h)))

  -- ---- what each last step brings

  pub term : (p q : Spot) (i : ℕ) → G.a i + q.x ≡ p.x → G.c i + q.y ≡ p.y → pick (reach G p i) (paths G (off G p i)) 0 ≡ paths G q
  term p q i e f =
      ap (λ (b : Bool). pick b (paths G (off G p i)) 0) (is_true (reach G p i) (reaches G p i (omega arith) (omega arith)))
      ∙ ap (paths G) (spot_eq {p = off G p i} {q = q} (omega arith) (omega arith))

  pub term-out : (p : Spot) (i : ℕ) → p.y < G.c i → pick (reach G p i) (paths G (off G p i)) 0 ≡ 0
  term-out p i l = ap (λ (b : Bool). pick b (paths G (off G p i)) 0) (is_false (reach G p i) (λ t. omega (arith, reached G p i t)))

  pub term-none : (p : Spot) (i : ℕ) → p.x + G.c i < p.y + G.a i → pick (reach G p i) (paths G (off G p i)) 0 ≡ 0
  term-none p i l = go (reach G p i) refl
    where
      go : (b : Bool) → reach G p i ≡ b → pick b (paths G (off G p i)) 0 ≡ 0
      go true e = let r = reached G p i (holds e) in no_walks (p.x - G.a i) (p.y - G.c i) (omega arith)
      go false e = refl

-- ---- a step undone

diff : (y c : ℕ) → c ≤ y → pos y -ℤ pos c ≡ pos (y - c)
diff y c l = is_one (pos y -ℤ pos c) (pos (y - c)) (y + 0) (0 + c) (is_minus (pos y) (pos c) y 0 c 0 (omega arith) (omega arith)) (omega arith)

diff-below : (y c : ℕ) → y < c → pos y -ℤ pos c ≡ negsuc (c - suc y)
diff-below y c l = is_one (pos y -ℤ pos c) (negsuc (c - suc y)) (y + 0) (0 + c) (is_minus (pos y) (pos c) y 0 c 0 (omega arith) (omega arith)) (omega arith)

module _ (ss : List Step) (G : Steps) (H : PlainSteps ss G) (K : ℕ → ℕ → ℕ) where
  undo : (p : Point) (q : Spot) (i : ℕ) → i < G.k → Upright p q → Back ss G (rimmed K) Upright p q i
  undo p q i l a = go (dec_le (at ss i).a p.x) (dec_le (G.c i) q.y)
    where
      s : Step
      s = at ss i

      y : p.y -ℤ s.b ≡ pos q.y -ℤ pos (G.c i)
      y = ap₂ ◌-ℤ◌ a.up (H.up i l)

      go : Dec ((at ss i).a ≤ p.x) → Dec (G.c i ≤ q.y) → Back ss G (rimmed K) Upright p q i
      go (yes h) (yes k) =
          to (reaches G q i (omega (arith, a.across, H.right i l)) k) h
          (record { across = omega (arith, a.across, H.right i l); up = y ∙ diff q.y (G.c i) k })
      go (yes h) (no k) =
          gone (term-out ss G H q i (omega arith))
          (ap (λ (b : Bool). pick b (rimmed K (p.x - s.a) (p.y -ℤ s.b)) 0) (is_true (leb s.a p.x) (le→leb s.a p.x h))
          ∙ ap (rimmed K (p.x - s.a)) (y ∙ diff-below q.y (G.c i) (omega arith)))
      go (no h) d =
          gone (term-none ss G H q i (omega (arith, a.across, H.right i l)))
          (ap (λ (b : Bool). pick b (rimmed K (p.x - s.a) (p.y -ℤ s.b)) 0) (is_false (leb s.a p.x) (λ t. h (leb→le s.a p.x t))))

-- what the theorem asks, from the steps and their letters
pub plain_shear : (ss : List Step) (G : Steps) → PlainSteps ss G
    → ((i : ℕ) → i < G.k → place (at ss i).letter ss ≡ i)
    → ((i : ℕ) → i < G.k → standing (at ss i).letter ≡ i)
    → Shear ss origin (λ p. true) G Upright
plain_shear ss G H own stands = record {
  named = record { many = H.many; own = own; rising = λ i j l m. omega (arith, stands i (omega arith), stands j m) };
  onward = H.onward;
  start = record { across = refl; up = refl };
  one_spot = λ p q r a b. let e : q.y ≡ r.y = cc in spot_eq (omega (arith, a.across, b.across)) e;
  one_point = λ p s q a b. point_eq (omega (arith, a.across, b.across)) (a.up ∙ sym b.up);
  next = λ p q i l a. record {
    across = omega (arith, a.across, H.right i l);
    up = ap₂ ◌+ℤ◌ a.up (H.up i l) ∙ pos-+ℤ-pos q.y (G.c i);
  };
  keeps = λ p q a. sym (H.free q.x q.y);
}

-- and from the counts
pub plain-counted : (ss : List Step) (G : Steps) (K : ℕ → ℕ → ℕ) → PlainSteps ss G → ((x y : ℕ) → K x y ≡ paths G (record { x = x + y; y = y })) → Counted ss G (rimmed K) Upright
plain-counted ss G K H counts = record {
  undo = undo ss G H K;
  agrees = λ p q a. ap (rimmed K p.x) a.up ∙ counts p.x q.y ∙ ap (paths G) (spot_eq {q = q} a.across refl);
}

-- ---- case by case over two or three steps

-- ---- family 1

pub north-east-plain : (n m : ℕ) → PlainSteps (steps_of (north_east n m)) north_east_grid
north-east-plain n m = record {
  many = refl;
  onward = record { ahead = two (λ i. 0 < north_east_grid.a i) (omega arith) (omega arith); begins = tt };
  free = λ x y. refl;
  right = two (λ i. (at (steps_of (north_east n m)) i).a + north_east_grid.c i ≡ north_east_grid.a i) refl refl;
  up = two (λ i. (at (steps_of (north_east n m)) i).b ≡ pos (north_east_grid.c i)) refl refl;
}

pub L-rim : (n : ℕ) → L n 0 ≡ 1
unfolding L
L-rim zero = refl
L-rim (suc n) = refl

pub L-agrees : (n m : ℕ) → L n m ≡ paths north_east_grid (record { x = n + m; y = m })
unfolding L sum
L-agrees zero zero = sym (paths-start north_east_grid (north-east-plain 0 0).onward 0)
L-agrees zero (suc m) =
    let ss = steps_of (north_east 0 0) in
    let G = north_east_grid in
    let H = north-east-plain 0 0 in
    let p : Spot = record { x = 0 + suc m; y = suc m } in
    omega (
      arith,
      paths-step G H.onward p (omega arith) tt,
      L-agrees zero m,
      term ss G H p (record { x = 0 + m; y = m }) 0 (omega arith) (omega arith),
      term-none ss G H p 1 (omega arith),
    )
L-agrees (suc n) zero =
    let ss = steps_of (north_east 0 0) in
    let G = north_east_grid in
    let H = north-east-plain 0 0 in
    let p : Spot = record { x = suc n + 0; y = 0 } in
    omega (
      arith,
      paths-step G H.onward p (omega arith) tt,
      L-agrees n zero,
      L-rim n,
      term-out ss G H p 0 (omega arith),
      term ss G H p (record { x = n + 0; y = 0 }) 1 (omega arith) (omega arith),
    )
L-agrees (suc n) (suc m) =
    let ss = steps_of (north_east 0 0) in
    let G = north_east_grid in
    let H = north-east-plain 0 0 in
    let p : Spot = record { x = suc n + suc m; y = suc m } in
    omega (
      arith,
      paths-step G H.onward p (omega arith) tt,
      L-agrees (suc n) m,
      L-agrees n (suc m),
      term ss G H p (record { x = suc n + m; y = m }) 0 (omega arith) (omega arith),
      term ss G H p (record { x = n + suc m; y = suc m }) 1 (omega arith) (omega arith),
    )

pub north-east_shear : (n m : ℕ) → Shear (steps_of (north_east n m)) origin (λ p. true) north_east_grid Upright
unfolding place standing
north-east_shear n m =
    let ss = steps_of (north_east n m) in
    plain_shear ss north_east_grid (north-east-plain n m)
    (two (λ i. place (at ss i).letter ss ≡ i) refl refl) (two (λ i. standing (at ss i).letter ≡ i) refl refl)

pub north-east-counted : (n m : ℕ) → Counted (steps_of (north_east n m)) north_east_grid (rimmed L) Upright
north-east-counted n m = plain-counted (steps_of (north_east n m)) north_east_grid L (north-east-plain n m) L-agrees

-- ---- family 3

pub delannoy-plain : (n m : ℕ) → PlainSteps (steps_of (delannoy n m)) delannoy_grid
delannoy-plain n m = record {
  many = refl;
  onward = record { ahead = three (λ i. 0 < delannoy_grid.a i) (omega arith) (omega arith) (omega arith); begins = tt };
  free = λ x y. refl;
  right = three (λ i. (at (steps_of (delannoy n m)) i).a + delannoy_grid.c i ≡ delannoy_grid.a i) refl refl refl;
  up = three (λ i. (at (steps_of (delannoy n m)) i).b ≡ pos (delannoy_grid.c i)) refl refl refl;
}

pub D-rim : (n : ℕ) → Dl n 0 ≡ 1
unfolding Dl
D-rim zero = refl
D-rim (suc n) = refl

pub D-agrees : (n m : ℕ) → Dl n m ≡ paths delannoy_grid (record { x = n + m; y = m })
unfolding Dl sum
D-agrees zero zero = sym (paths-start delannoy_grid (delannoy-plain 0 0).onward 0)
D-agrees zero (suc m) =
    let ss = steps_of (delannoy 0 0) in
    let G = delannoy_grid in
    let H = delannoy-plain 0 0 in
    let p : Spot = record { x = 0 + suc m; y = suc m } in
    omega (
      arith,
      paths-step G H.onward p (omega arith) tt,
      D-agrees zero m,
      term ss G H p (record { x = 0 + m; y = m }) 0 (omega arith) (omega arith),
      term-none ss G H p 1 (omega arith),
      term-none ss G H p 2 (omega arith),
    )
D-agrees (suc n) zero =
    let ss = steps_of (delannoy 0 0) in
    let G = delannoy_grid in
    let H = delannoy-plain 0 0 in
    let p : Spot = record { x = suc n + 0; y = 0 } in
    omega (
      arith,
      paths-step G H.onward p (omega arith) tt,
      D-agrees n zero,
      D-rim n,
      term-out ss G H p 0 (omega arith),
      term ss G H p (record { x = n + 0; y = 0 }) 1 (omega arith) (omega arith),
      term-out ss G H p 2 (omega arith),
    )
D-agrees (suc n) (suc m) =
    let ss = steps_of (delannoy 0 0) in
    let G = delannoy_grid in
    let H = delannoy-plain 0 0 in
    let p : Spot = record { x = suc n + suc m; y = suc m } in
    omega (
      arith,
      paths-step G H.onward p (omega arith) tt,
      D-agrees (suc n) m,
      D-agrees n (suc m),
      D-agrees n m,
      term ss G H p (record { x = suc n + m; y = m }) 0 (omega arith) (omega arith),
      term ss G H p (record { x = n + suc m; y = suc m }) 1 (omega arith) (omega arith),
      term ss G H p (record { x = n + m; y = m }) 2 (omega arith) (omega arith),
    )

pub delannoy_shear : (n m : ℕ) → Shear (steps_of (delannoy n m)) origin (λ p. true) delannoy_grid Upright
unfolding place standing
delannoy_shear n m =
    let ss = steps_of (delannoy n m) in
    plain_shear ss delannoy_grid (delannoy-plain n m)
    (three (λ i. place (at ss i).letter ss ≡ i) refl refl refl) (three (λ i. standing (at ss i).letter ≡ i) refl refl refl)

pub delannoy-counted : (n m : ℕ) → Counted (steps_of (delannoy n m)) delannoy_grid (rimmed Dl) Upright
delannoy-counted n m = plain-counted (steps_of (delannoy n m)) delannoy_grid Dl (delannoy-plain n m) D-agrees
