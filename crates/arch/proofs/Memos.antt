-- The Dyck counts by half of their products, and the memo that keeps them. Assumes nothing.
--
--   C n                      the count for n
--   part n i                 the products for the sizes below i
--   fits, zero_is            the count fits, and for 0 it is 1
--   part-next, part-fits     of the products from i up to half, one more, and that it fits
--   all_in                   the products up to half, once i is 0
--   twice_fits, even_is, odd_is    the count is twice the first half of the products, and for an odd n the middle one
--   filled_none, filled_kept, filled_set, filled_next, filled_odd, filled_table    entries are the counts: none, if nothing is lost, with another entry, with the next, and all of a table
--   good_at                  what is worked out is the count
--   good_none, good_set      an empty memo is good, and so is one with the next entry
--   kept_same, kept_on, kept_set    nothing is lost by nothing, by two changes that lose nothing, and by an entry more
use mathlib.Core.Path.{◌≡◌, refl, sym, ap, ◌∙◌}
use mathlib.Core.Bool.{false}
use mathlib.Core.Logic.{◌≢◌}
use mathlib.Core.List.{List}
use Prim.Native.Nat.{ℕ, ◌+◌, ◌-◌, ◌*◌, ◌/◌, ◌%◌, ◌^◌, ◌≤◌, ◌<◌, zero-le}
use native.Mathlib.Nat.{not-suc-le-zero}
use native.Mathlib.Decide.{ℕ_discrete, dec_le}
use native.Mathlib.Omega.{arith}
use lib.ListN.{get_or, length, set, length-set, get_or-eq_default, replicate}
use lib.Seq.{get_or-set_same, get_or-set_other}
use Rattle.job.proofs.Puts.{zeros-at}
use Rattle.arches.specs.Counts.{count, before}
use Rattle.arches.proofs.Counting.{count-zero, before_mono}
use Rattle.arches.proofs.Limits.{dyck_limit, count_mono}
use Rattle.arch.specs.Table.{Table}
use Rattle.arch.specs.Memo.{Filled, Good, Kept}
use Rattle.arch.proofs.Tables.{before-none, before-next}
use Rattle.arch.proofs.Sides.{sides, whole_is}

abbrev pub C : ℕ → ℕ
C n = count false 0 n

abbrev pub part : ℕ → ℕ → ℕ
part n i = before false 0 (n - 1) i

pub fits : (n : ℕ) → n ≤ 36 → C n < 2 ^ 64
fits n h = (dyck_limit n).0 h

pub zero_is : (n : ℕ) → n ≡ 0 → 1 ≡ C n
zero_is n e = rw e (sym (count-zero false 0))

-- both halves are all of them
halves : (n i : ℕ) → 0 < n → i ≤ n → part n i + part n (n - i) ≡ C n
halves n i pos h =
    let e : n - 1 + 1 ≡ n = omega arith in
    let g : n - 1 + 0 + 1 ≡ n = omega arith in
    omega (arith, rw e at (sides false 0 (n - 1) i (omega arith)), rw (g, e) at (whole_is false 0 (n - 1)))

module _ (n i half a b s : ℕ) (pos : 0 < n) (ea : a ≡ C i) (eb : b ≡ C (n - 1 - i)) (es : s + part n (i + 1) ≡ part n half) where
  pub part-next : s + a * b + part n i ≡ part n half
  part-next = rw (ea, eb) (omega (arith, es, before-next false 0 (n - 1) i))

  pub part-fits : n ≤ 36 → half ≤ n → s + a * b < 2 ^ 64
  part-fits h l =
      let z : n - n ≡ 0 = omega arith in
      omega (arith, part-next, fits n h, halves n n pos (omega arith), before_mono false 0 (n - 1) half n l)

-- none are left below 0
pub all_in : (n i half s : ℕ) → i ≡ 0 → s + part n i ≡ part n half → s ≡ part n half
all_in n i half s e h = omega (arith, before-none false 0 (n - 1), rw e at h)

module _ (n half s : ℕ) (pos : 0 < n) (eh : half ≡ n / 2) (es : s ≡ part n half) where
  pub twice_fits : n ≤ 36 → s + s < 2 ^ 64
  twice_fits h = omega (arith, fits n h, halves n half pos (omega arith), before_mono false 0 (n - 1) half (n - half) (omega arith))

  pub even_is : n % 2 ≡ 0 → s + s ≡ C n
  even_is e = let g : n - half ≡ half = omega arith in omega (arith, rw g at (halves n half pos (omega arith)))

  pub odd_is : (a : ℕ) → n % 2 ≢ 0 → a ≡ C half → s + s + a * a ≡ C n
  odd_is a ne ea =
      let g : n - half ≡ half + 1 = omega arith in
      let k : n - 1 - half ≡ half = omega arith in
      rw ea (omega (arith, rw g at (halves n half pos (omega arith)), rw k at (before-next false 0 (n - 1) half)))

-- ---- the entries below k are the counts
pub filled_none : (l : List ℕ) → Filled 0 l
unfolding Filled
filled_none l j h = absurd (not-suc-le-zero h)

C-some : (j : ℕ) → C j ≡ 0 → ⊥
C-some j z = omega (arith, z, count-zero false 0, count_mono false 0 refl 0 j (omega arith))

pub filled_kept : (k : ℕ) (l m : List ℕ) → Filled k l → Kept l m → Filled k m
unfolding Filled
filled_kept k l m f g j h = g.same j (λ z. C-some j (sym (f j h) ∙ z)) ∙ f j h

pub filled_set : (k n w : ℕ) (l : List ℕ) → Filled k l → w ≡ C n → Filled k (set l n w)
unfolding Filled
filled_set k n w l f e j h = go (ℕ_discrete j n) (dec_le (length l) j)
  where
    go : Dec (j ≡ n) → Dec (length l ≤ j) → get_or (set l n w) j 0 ≡ C j
    go (yes q) (yes p) = absurd (C-some j (sym (f j h) ∙ get_or-eq_default l 0 p))
    go (yes q) (no p) = rw q (get_or-set_same l n w 0 (omega arith) ∙ e)
    go (no q) p = get_or-set_other l n j w 0 q ∙ f j h

pub filled_next : (k w : ℕ) (l : List ℕ) → Filled k l → k < length l → w ≡ C k → Filled (k + 1) (set l k w)
unfolding Filled
filled_next k w l f h e j g = go (ℕ_discrete j k)
  where
    go : Dec (j ≡ k) → get_or (set l k w) j 0 ≡ C j
    go (yes q) = rw q (get_or-set_same l k w 0 h ∙ e)
    go (no q) = get_or-set_other l k j w 0 q ∙ f j (omega arith)

pub filled_table : (n : ℕ) (l : List ℕ) → n ≤ 36 → n < length l → Filled (n + 1) l → Table false 0 n l
unfolding Filled
filled_table n l h s f = record {
  dyck = λ _. refl;
  narrow = zero-le;
  long = s;
  full = λ j i. f j (omega arith);
  fits = fits n h;
  small = omega arith;
}

-- what the loop leaves where n is odd: the two outermost parts, or for 1 the middle one
pub filled_odd : (n half : ℕ) (l m : List ℕ) → half ≡ n / 2 → n % 2 ≢ 0 → (0 < half → Filled n l) → Kept l m → Filled (half + 1) m → Filled n m
filled_odd n half l m e ne f g h = go (dec_le half 0)
  where
    go : Dec (half ≤ 0) → Filled n m
    go (yes p) = let q : half + 1 ≡ n = omega arith in rw q at h
    go (no p) = filled_kept n l m (f (omega arith)) g

-- ---- the memo
pub good_at : (l : List ℕ) (k : ℕ) → Good l → get_or l k 0 ≢ 0 → get_or l k 0 ≡ C k
unfolding Good Filled
good_at l k g ne = g k ne k (omega arith)

pub good_none : (n : ℕ) → Good (replicate n 0)
unfolding Good
good_none n k ne = absurd (ne (zeros-at n k))

pub good_set : (l : List ℕ) (n w : ℕ) → Good l → Filled n l → n < length l → w ≡ C n → Good (set l n w)
unfolding Good
good_set l n w g f h e k ne = go (ℕ_discrete k n)
  where
    go : Dec (k ≡ n) → Filled (k + 1) (set l n w)
    go (yes q) = rw q (filled_next n w l f h e)
    go (no q) = filled_set (k + 1) n w l (g k (λ z. ne (get_or-set_other l n k w 0 q ∙ z))) e

pub kept_same : (l : List ℕ) → Kept l l
kept_same l = record { long = refl; same = λ k ne. refl }

pub kept_on : {l m o : List ℕ} → Kept l m → Kept m o → Kept l o
kept_on f g = record {
  long = g.long ∙ f.long;
  same = λ k ne. g.same k (λ z. ne (sym (f.same k ne) ∙ z)) ∙ f.same k ne;
}

pub kept_set : (l : List ℕ) (n w : ℕ) → Good l → w ≡ C n → Kept l (set l n w)
kept_set l n w g e = record { long = length-set l n w; same = λ k ne. go k ne (ℕ_discrete k n) (dec_le (length l) k) }
  where
    go : (k : ℕ) → get_or l k 0 ≢ 0 → Dec (k ≡ n) → Dec (length l ≤ k) → get_or (set l n w) k 0 ≡ get_or l k 0
    go k ne (yes q) (yes h) = absurd (ne (get_or-eq_default l 0 h))
    go k ne (yes q) (no h) = rw q (get_or-set_same l n w 0 (omega arith)) ∙ e ∙ ap C (sym q) ∙ sym (good_at l k g ne)
    go k ne (no q) h = get_or-set_other l n k w 0 q
