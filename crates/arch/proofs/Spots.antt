-- Where a number falls among the products, looked for from both sides at once: l from the left and h from the right have the same
-- product, and meet only where the number lies. Assumes nothing.
--
--   Between             r lies from l up to and with h: a of it is left at l, and b stand above it at h
--   between_start       so it is at the start
--   falls-right         r falls at h
--   closer              r falls at neither: both sides move
--   pair_is, pair_fits  the product of both, from a lent table
--   above               what stands above r, of those that end in an arch
use mathlib.Core.Path.{◌≡◌, sym, ap, ap₂, ◌∙◌}
use mathlib.Core.Bool.{Bool}
use mathlib.Core.List.{List}
use Prim.Native.Nat.{ℕ, ◌+◌, ◌-◌, ◌*◌, ◌^◌, ◌≤◌, ◌<◌}
use native.Mathlib.Nat.{mul_comm}
use native.Mathlib.Decide.{dec_le}
use native.Mathlib.Omega.{arith}
use lib.ListN.{get_or}
use Rattle.arches.specs.Counts.{if_d, count, before}
use Rattle.arches.proofs.Counting.{before_mono}
use Rattle.arch.specs.Table.{Table}
use Rattle.arch.specs.Sums.{Falls}
use Rattle.arch.proofs.Tables.{before-none, before-next, terms_fit}
use Rattle.arch.proofs.Sides.{whole_is}

pub record Between (d : Bool) (v m r l h a b : ℕ) : Type 0 where
  pub apart : l + h ≡ m
  pub order : l ≤ h
  pub left : before d v m l + a ≡ r
  pub right : r + b + 1 ≡ before d v m (h + 1)

pub between_start : (d : Bool) (v m r b : ℕ) → r + b + 1 ≡ before d v m (m + 1) → Between d v m r 0 m r b
between_start d v m r b e = record { apart = omega arith; order = omega arith; left = omega (arith, before-none d v m); right = e }

module _ {d : Bool} {v m r l h a b p : ℕ} (w : Between d v m r l h a b) (ep : p ≡ count d v l * count d v h) where
  other-l : m - l ≡ h
  other-l = omega (arith, w.apart)

  other_h : m - h ≡ l
  other_h = omega (arith, w.apart)

  term-l : p ≡ count d v l * count d v (m - l)
  term-l = ep ∙ ap (λ (z : ℕ). count d v l * count d v z) (sym other-l)

  term_h : p ≡ count d v h * count d v (m - h)
  term_h = ep ∙ mul_comm (count d v l) (count d v h) ∙ ap (λ (z : ℕ). count d v h * count d v z) (sym other_h)

  pub falls-right : b < p → Falls d v m r h (p - 1 - b)
  falls-right k = record {
    below = omega (arith, w.apart);
    adds = omega (arith, w.right, before-next d v m h, term_h);
    fits = omega (arith, term_h);
  }

  crossed : p ≤ a → p ≤ b → (h ≤ l + 1 → ⊥)
  crossed ka kb k =
      omega (arith, w.left, w.right, before-next d v m l, before-next d v m h, term-l, term_h, before_mono d v m h (l + 1) k)

  pub closer : p ≤ a → p ≤ b → (0 < h) × (l + 1 < h) × Between d v m r (l + 1) (h - 1) (a - p) (b - p)
  closer ka kb = go (dec_le h (l + 1))
    where
      go : Dec (h ≤ l + 1) → (0 < h) × (l + 1 < h) × Between d v m r (l + 1) (h - 1) (a - p) (b - p)
      go (yes k) = absurd (crossed ka kb k)
      go (no k) =
          let e : h - 1 + 1 ≡ h = omega arith in (
            omega arith,
            omega arith,
            record {
              apart = omega (arith, w.apart);
              order = omega arith;
              left = omega (arith, w.left, before-next d v m l, term-l);
              right = omega (arith, w.right, before-next d v m h, term_h, ap (before d v m) e);
            },
          )

module _ {d : Bool} {v n : ℕ} {t : List ℕ} (m l h : ℕ) (w : Table d v n t) (k : m + v < n) (e : l + h ≡ m) where
  pub pair_is : get_or t l 0 * get_or t h 0 ≡ count d v l * count d v h
  pair_is = ap₂ (λ (a b : ℕ). a * b) (w.full l (omega arith)) (w.full h (omega arith))

  pub pair_fits : get_or t l 0 * get_or t h 0 < 2 ^ 64
  pair_fits =
      let g : m - l ≡ h = omega arith in
      omega (arith, pair_is, rw g at (terms_fit d v n t w m l k (omega arith)))

pub above : (d : Bool) (v n r hd c : ℕ) → 0 < n → v ≤ n - 1 → hd ≡ if_d d (count d v (n - 1)) → c ≡ count d v n → r < count d v n → hd ≤ r
    → r - hd + (c - 1 - r) + 1 ≡ before d v (n - 1 - v) (n - 1 - v + 1)
above d v n r hd c pos w eh ec lt le =
    let e : n - 1 - v + v + 1 ≡ n = omega arith in
    let g : n - 1 - v + v ≡ n - 1 = omega arith in
    omega (arith, rw (e, g) at (whole_is d v (n - 1 - v)))
