-- Laws of the counts walks_to where a plan is made. Assumes nothing.
--
--   pos_of          every step that is there goes on
--   walks-all           the count adds up over all eight steps, since one that isn't there brings 0
--   walks-high          nothing gets higher than the steepest step
--   walks-first         it adds up over the first n, where only those are there
--   walks-pow           then there are no more than n ^ x walks
use mathlib.Core.Path.{◌≡◌, refl, sym, ◌∙◌}
use mathlib.Core.Bool.{Bool, true, false}
use mathlib.Core.List.{List}
use Prim.Native.Nat.{ℕ, zero, suc, ◌-◌, ◌*◌, ◌^◌, ◌≤◌, ◌<◌}
use native.Mathlib.Omega.{arith}
use native.Mathlib.Decide.{dec_le}
use native.Mathlib.Nat.{pow-zero, pow-succ', pow-le-pow_right, le_trans}
use lib.Dec.{T, eqb}
use lib.ListN.{get_or}
use borrow.Author.Tests.{ne_eqb}
use Rattle.howmany.specs.Choose.{bit}
use Rattle.howmany.specs.Sum.{sum}
use Rattle.howmany.proofs.Sums.{sum-none}
use Rattle.backward.proofs.Shears.{mul-back}
use Rattle.tables.specs.Form.{wall, walks_to, via}
use Rattle.tables.specs.Table.{Slopes}
use Rattle.tables.proofs.Walls.{tested}
use Rattle.tables.proofs.Laws.{sum-le, sum-rest, via_any, via-left, walks-step, walks-out, walks-start}
use Rattle.tables.specs.declared.Wall.{Wall}

start_le : (b : Bool) → bit b ≤ 1
start_le true = omega arith
start_le false = omega arith

pub pos_of : {k : ℕ} {sa sc : List ℕ} {hi m ex : ℕ} → Slopes k sa sc hi m ex → (i : ℕ) → i < k → 1 ≤ get_or sa i 0
pos_of pl i l = pl.pos i (omega (arith, pl.most))

module _ (k : ℕ) (f : Wall) (sa sc : List ℕ) {hi m ex : ℕ} (pl : Slopes k sa sc hi m ex) where
  pub walks-all : (x y : ℕ) → x ≤ ex → 0 < x → T (wall f x y) → walks_to k f sa sc x y ≡ sum (via k f sa sc x y) 8
  walks-all x y e p h = walks-step k f sa sc (pos_of pl) x y p h ∙ sym (sum-rest (via k f sa sc x y) k 8 pl.most (λ i a b. via-left k f sa sc x y i (omega (arith, pl.away i a b))))

  walks-high-step : (d x y : ℕ) → ((u v : ℕ) → u ≤ d → u ≤ ex → hi * u < 6 * v → walks_to k f sa sc u v ≡ 0) → 0 < x → x ≤ suc d → x ≤ ex → hi * x < 6 * y → walks_to k f sa sc x y ≡ 0
  walks-high-step d x y ih q p e h =
      elim (tested (wall f x y)) [
        | no l ↦ walks-out k f sa sc (pos_of pl) x y l
        | yes l ↦ walks-all x y e q l
            ∙ sum-none (via k f sa sc x y) 8 (λ i t. via_any k f sa sc (λ v. v ≡ 0) x y i refl
            (λ ha hc. ih (x - get_or sa i 0) (y - get_or sc i 0) (omega (arith, pl.pos i t)) (omega arith)
            (omega (arith, pl.steep i t (omega arith), mul-back hi x (get_or sa i 0) ha))))
      ]

  walks-high-start : (x y : ℕ) → x ≤ 0 → hi * x < 6 * y → walks_to k f sa sc x y ≡ 0
  walks-high-start x y p h = let z : x ≡ 0 = omega arith in rw z (walks-start k f sa sc (pos_of pl) y ∙ rw (ne_eqb y 0 (λ q. omega arith)))

  pub walks-high : (d x y : ℕ) → x ≤ d → x ≤ ex → hi * x < 6 * y → walks_to k f sa sc x y ≡ 0
  walks-high zero x y p e h = walks-high-start x y p h
  walks-high (suc d) x y p e h = elim (dec_le x 0) [ yes q ↦ walks-high-start x y q h | no q ↦ walks-high-step d x y (λ u v l r t. walks-high d u v l r t) (omega arith) p e h ]

  module _ (n : ℕ) (n_pos : 1 ≤ n) (n-le : n ≤ 8) (gone : (i : ℕ) → n ≤ i → i < 8 → ex < get_or sa i 0) where
    pub walks-first : (x y : ℕ) → 0 < x → x ≤ ex → T (wall f x y) → walks_to k f sa sc x y ≡ sum (via k f sa sc x y) n
    walks-first x y p e h = walks-all x y e p h ∙ sum-rest (via k f sa sc x y) n 8 n-le (λ i l r. via-left k f sa sc x y i (omega (arith, gone i l r)))

    pow-pos-of : (d : ℕ) → 1 ≤ n ^ d
    pow-pos-of d = rw pow-zero at (pow-le-pow_right n_pos {i = 0} {j = d} (omega arith))

    walks-least : (d x y : ℕ) → x ≤ 0 → walks_to k f sa sc x y ≤ n ^ d
    walks-least d x y q = let z : x ≡ 0 = omega arith in rw (z, walks-start k f sa sc (pos_of pl) y) (le_trans (start_le (eqb y 0)) (pow-pos-of d))

    pub walks-pow : (d x y : ℕ) → x ≤ d → x ≤ ex → walks_to k f sa sc x y ≤ n ^ d
    walks-pow zero x y p e = walks-least zero x y p
    walks-pow (suc d) x y p e =
        elim (tested (wall f x y)) [
          | no l ↦ rw (walks-out k f sa sc (pos_of pl) x y l) (omega arith)
          | yes l ↦ elim (dec_le x 0) [
            | yes q ↦ walks-least (suc d) x y q
            | no q ↦ rw (walks-first x y (omega arith) e l, pow-succ' n d)
                (sum-le (via k f sa sc x y) (n ^ d) n
                (λ i t. via_any k f sa sc (λ v. v ≤ n ^ d) x y i (omega arith)
                (λ ha hc. walks-pow d (x - get_or sa i 0) (y - get_or sc i 0) (omega (arith, pl.pos i (omega arith))) (omega arith))))
          ]
        ]
