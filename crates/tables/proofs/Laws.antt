-- Laws of sums, of the counts walks_to and of answers. Assumes nothing.
--
--   sum_more                         the sum with one term more
--   sum-le                           terms of at most b
--   sum-rest                         the terms from n on are 0
--   mul_bound                        a bound of a product
--   onward                           every step goes on, and the wall lets a walk begin
--   walks-start, walks-out, walks-step           the counts of column 0, beyond the wall, and elsewhere
--   via-left, via-under, via_in      what a step brings
--   via-pos, walks_in                where there are walks, the step and the spot are inside
--   via_any                          what holds of 0 and of every count before holds of what a step brings
--   cap_lt, cap_ge, cap_count, cap_over, count-over, cell-zero, cell-over, cell-value    answers
--   total-done, total-over, total-more, total_wraps    the loop over the steps
--   put_is                           a cell written
use mathlib.Core.Path.{◌≡◌, refl, sym, ap, ◌∙◌}
use mathlib.Core.Bool.{Bool, true, false}
use mathlib.Core.List.{List}
use Prim.Native.Nat.{ℕ, zero, suc, ◌+◌, ◌-◌, ◌*◌, ◌^◌, ◌≤◌, ◌<◌}
use native.Mathlib.Omega.{arith}
use native.Mathlib.Numerals.{add-one}
use native.Mathlib.Decide.{dec_le}
use native.Mathlib.Nat.{add-mul, mul-le-mul}
use lib.Dec.{T, ltb, eqb}
use lib.Arith.{le-zero}
use lib.ListN.{length, get_or, set}
use lib.Seq.{get_or-set_same, get_or-set_other}
use borrow.Author.Tests.{lt-ltb, le-ltb, le-leb, lt-leb, eq-eqb, ne_eqb, ltb-true, ltb-false}
use Rattle.howmany.specs.Choose.{pick, bit}
use Rattle.howmany.specs.Sum.{sum}
use Rattle.howmany.proofs.Sums.{sum-suc, sum_mono}
use Rattle.backward.specs.Grid.{Onward}
use Rattle.backward.proofs.Grids.{paths-start, paths-step, paths_outside}
use Rattle.std.specs.Prelude.{Option, Some, None}
use Rattle.tables.specs.Form.{wall, steps_in, spot, walks_to, via}
use Rattle.tables.specs.Cells.{cap_by, cap_of, cell_of, Put}
use Rattle.tables.proofs.Walls.{tested, wall-start}
use Rattle.tables.specs.declared.Wall.{Wall}

-- ---- sums

pub sum_more : (g : ℕ → ℕ) (i : ℕ) → sum g (i + 1) ≡ sum g i + g i
sum_more g i = rw add-one (sum-suc g i)

pub sum-le : (g : ℕ → ℕ) (b k : ℕ) → ((i : ℕ) → i < k → g i ≤ b) → sum g k ≤ k * b
unfolding sum
sum-le g b zero h = omega arith
sum-le g b (suc k) h = omega (arith, sum-le g b k (λ i l. h i (omega arith)), h k (omega arith), add-mul k 1 b)

pub sum-rest : (g : ℕ → ℕ) (n e : ℕ) → n ≤ e → ((i : ℕ) → n ≤ i → i < e → g i ≡ 0) → sum g e ≡ sum g n
unfolding sum
sum-rest g n zero l h = ap (sum g) (sym (le-zero l))
sum-rest g n (suc e) l h = elim (dec_le n e) [ yes p ↦ omega (arith, sum-rest g n e p (λ i q r. h i q (omega arith)), h e p (omega arith)) | no r ↦ ap (sum g) (is r) ]
  where
    is : (n ≤ e → ⊥) → suc e ≡ n
    is r = omega arith

pub mul_bound : (a b p q : ℕ) → a ≤ p → b ≤ q → a * b ≤ p * q
mul_bound a b p q h l = mul-le-mul h l

-- ---- the counts

pub onward : (k : ℕ) (f : Wall) (sa sc : List ℕ) → ((i : ℕ) → i < k → 1 ≤ get_or sa i 0) → Onward (steps_in k f sa sc)
onward k f sa sc pos = record { ahead = pos; begins = wall-start f }

module _ (k : ℕ) (f : Wall) (sa sc : List ℕ) where
  module _ (x y i : ℕ) where
    pub via-left : x < get_or sa i 0 → via k f sa sc x y i ≡ 0
    unfolding via
    via-left h = rw (lt-leb (get_or sa i 0) x h)

    pub via-under : get_or sa i 0 ≤ x → y < get_or sc i 0 → via k f sa sc x y i ≡ 0
    unfolding via
    via-under h l = rw (le-leb (get_or sa i 0) x h, lt-leb (get_or sc i 0) y l)

    pub via_in : get_or sa i 0 ≤ x → get_or sc i 0 ≤ y → via k f sa sc x y i ≡ walks_to k f sa sc (x - get_or sa i 0) (y - get_or sc i 0)
    unfolding via walks_to
    via_in h l = rw (le-leb (get_or sa i 0) x h, le-leb (get_or sc i 0) y l)

    -- a step that brings something comes from inside the table
    pub via-pos : (rest : ℕ) → rest < via k f sa sc x y i → (get_or sa i 0 ≤ x) × (get_or sc i 0 ≤ y) × (rest < walks_to k f sa sc (x - get_or sa i 0) (y - get_or sc i 0))
    via-pos rest h = elim (dec_le (get_or sa i 0) x) [
      | yes a ↦ elim (dec_le (get_or sc i 0) y) [ yes c ↦ (a, c, omega (arith, via_in a c)) | no r ↦ absurd (omega (arith, via-under a (omega arith))) ]
      | no r ↦ absurd (omega (arith, via-left (omega arith)))
    ]

  pub via_any : (P : ℕ → Type 0) (x y i : ℕ) → P 0 → (get_or sa i 0 ≤ x → get_or sc i 0 ≤ y → P (walks_to k f sa sc (x - get_or sa i 0) (y - get_or sc i 0))) → P (via k f sa sc x y i)
  via_any P x y i z h =
      elim (dec_le (get_or sa i 0) x) [
        | yes p ↦ elim (dec_le (get_or sc i 0) y) [ yes q ↦ rw (via_in x y i p q) (h p q) | no q ↦ rw (via-under x y i p (omega arith)) z ]
        | no p ↦ rw (via-left x y i (omega arith)) z
      ]

  module _ (pos : (i : ℕ) → i < k → 1 ≤ get_or sa i 0) where
    pub walks-start : (y : ℕ) → walks_to k f sa sc 0 y ≡ bit (eqb y 0)
    unfolding walks_to
    walks-start y = paths-start (steps_in k f sa sc) (onward k f sa sc pos) y

    pub walks-out : (x y : ℕ) → (T (wall f x y) → ⊥) → walks_to k f sa sc x y ≡ 0
    unfolding walks_to
    walks-out x y h = paths_outside (steps_in k f sa sc) (onward k f sa sc pos) (spot x y) h

    pub walks-step : (x y : ℕ) → 0 < x → T (wall f x y) → walks_to k f sa sc x y ≡ sum (via k f sa sc x y) k
    unfolding walks_to via
    walks-step x y p h = paths-step (steps_in k f sa sc) (onward k f sa sc pos) (spot x y) p h

    pub walks_in : (x y r : ℕ) → r < walks_to k f sa sc x y → T (wall f x y)
    walks_in x y r h = elim (tested (wall f x y)) [ yes p ↦ p | no q ↦ absurd (omega (arith, walks-out x y q)) ]

-- ---- answers

pub cap_lt : (w : ℕ) → w < 2 ^ 64 → cap_of w ≡ Some w
unfolding cap_of
cap_lt w h = rw (lt-ltb w (2 ^ 64) h)

pub cap_ge : (w : ℕ) → 2 ^ 64 ≤ w → cap_of w ≡ None
unfolding cap_of
cap_ge w h = rw (le-ltb w (2 ^ 64) h)

cap_by-count : (b : Bool) (w v : ℕ) → cap_by b w ≡ Some v → (b ≡ true) × (w ≡ v)
cap_by-count true w v e = (refl, cc)
cap_by-count false w v e = (cc, cc)

cap_by-over : (b : Bool) (w : ℕ) → cap_by b w ≡ None → b ≡ false
cap_by-over true w e = cc
cap_by-over false w e = refl

pub cap_count : (w v : ℕ) → cap_of w ≡ Some v → (w ≡ v) × (w < 2 ^ 64)
unfolding cap_of
cap_count w v e = let p = cap_by-count (ltb w (2 ^ 64)) w v e in (p.1, ltb-true w (2 ^ 64) p.0)

pub cap_over : (w : ℕ) → cap_of w ≡ None → 2 ^ 64 ≤ w
unfolding cap_of
cap_over w e = ltb-false w (2 ^ 64) (cap_by-over (ltb w (2 ^ 64)) w e)

pub count-over : {r : Option ℕ} {c : ℕ} → r ≡ Some c → r ≡ None → ⊥
count-over e o = let z : ◌≡◌ {A = ℕ} 0 1 = cc in omega arith

pub cell-zero : (v o : ℕ) → o ≡ 0 → cell_of v o ≡ Some v
unfolding cell_of
cell-zero v o e = rw (eq-eqb o 0 e)

pub cell-over : (v o : ℕ) → (o ≡ 0 → ⊥) → cell_of v o ≡ None
unfolding cell_of
cell-over v o e = rw (ne_eqb o 0 e)

-- a cell of a number that fits has it
cell_by : (b : Bool) (v w : ℕ) → pick b (Some v) None ≡ Some w → v ≡ w
cell_by true v w e = cc
cell_by false v w e = cc

pub cell-value : (v o w : ℕ) → cell_of v o ≡ cap_of w → w < 2 ^ 64 → v ≡ w
unfolding cell_of
cell-value v o w e h = cell_by (eqb o 0) v w (e ∙ cap_lt w h)

-- the loop over the steps: g i is what step i brings, n how many steps there are, r the answer for step i
module _ (g : ℕ → ℕ) (i n acc : ℕ) (at : acc ≡ sum g i) where
  pub total-done : i ≤ n → n ≤ i → acc < 2 ^ 64 → Some acc ≡ cap_of (sum g n)
  total-done p q h = let e : i ≡ n = omega arith in let s : acc ≡ sum g n = at ∙ ap (sum g) e in rw (← s) (sym (cap_lt acc h))

  module _ (l : i < n) (r : Option ℕ) (is : r ≡ cap_of (g i)) where
    above : sum g i + g i ≤ sum g n
    above = omega (arith, sum_mono g (i + 1) n (omega arith), sum_more g i)

    pub total-over : r ≡ None → None ≡ cap_of (sum g n)
    total-over o = sym (cap_ge _ (omega (arith, above, cap_over (g i) (sym is ∙ o))))

    module _ (v : ℕ) (o : r ≡ Some v) where
      pub total-more : acc + v ≡ sum g (i + 1)
      total-more = omega (arith, sum_more g i, cap_count (g i) v (sym is ∙ o))

      pub total_wraps : 18446744073709551615 - acc < v → None ≡ cap_of (sum g n)
      total_wraps h = sym (cap_ge _ (omega (arith, above, cap_count (g i) v (sym is ∙ o))))

pub put_is : (v o : List ℕ) (i a b : ℕ) (r : Option ℕ) → i < length v → i < length o → cell_of a b ≡ r → Put v o (set v i a) (set o i b) i r
put_is v o i a b r h l e = record {
  here = rw (get_or-set_same v i a 0 h, get_or-set_same o i b 0 l) e;
  elsewhere = λ j m. rw (get_or-set_other v i j a 0 m, get_or-set_other o i j b 0 m);
}
