-- `count_memo` and `part_count` meet their contracts: the loop holds the products from i up to the middle; what the memo has is right before
-- and after each call, and stays. The n of each part is smaller, and a part that is not known is worked out at its own n. Assumes nothing.
use Rattle.std.proofs.Common.{◌≡◌, ◌≢◌, ℕ, ◌+◌, ◌-◌, ◌*◌, ◌/◌, ◌%◌, ◌^◌, ◌<◌, ◌≤◌, List, length, refl, arith}
use native.Mathlib.Nat.{le_trans, pos_of_ne-zero, sub-le, div-le_self}
use Rattle.arch.specs.Memo.{Filled, Good}
use Rattle.arch.proofs.Sizes.{none_left, sum-parts, half_back, back_on}
use Rattle.arch.proofs.Memos.{C, part, fits, zero_is, part-next, part-fits, all_in, twice_fits, even_is, odd_is}
use Rattle.arch.proofs.Memos.{filled_none, filled_next, filled_odd, good_at, good_set, kept_same, kept_on, kept_set}
use Rattle.arch.proofs.dyck.+count_memo_part_count.Goals as goal

-- in the loop, once both parts are counted
module _ (n i a b s : ℕ) (some : n ≢ 0) (here : 0 < i) (ea : a ≡ C (i - 1)) (eb : b ≡ C (n - 1 - (i - 1))) (es : s + part n i ≡ part n (n / 2)) where
  from : s + part n (i - 1 + 1) ≡ part n (n / 2)
  from = rw (back_on i here) es

  next : s + a * b + part n (i - 1) ≡ part n (n / 2)
  next = part-next n (i - 1) (n / 2) a b s (pos_of_ne-zero some) ea eb from

  next_fits : n ≤ 36 → (a * b < 2 ^ 64) × (s + a * b < 2 ^ 64)
  next_fits h = sum-parts s (a * b) _ refl (part-fits n (i - 1) (n / 2) a b s (pos_of_ne-zero some) ea eb from h (div-le_self n 2))

back-filled : (n i : ℕ) (m : List ℕ) → n ≢ 0 → i ≤ n / 2 → Filled (n - 1 - (i - 1) + 1) m → Filled (n - (i - 1)) m
back-filled n i m some h f =
    let l = half_back i n (pos_of_ne-zero some) h in
    let e : n - 1 - (i - 1) + 1 ≡ n - (i - 1) = omega arith in
    rw e at f

-- after the loop
outer : (n i : ℕ) (m : List ℕ) → i ≤ 0 → (i < n / 2 → Filled (n - i) m) → 0 < n / 2 → Filled n m
outer n i m z f l = let e : n - i ≡ n = omega arith in rw e at (f (omega arith))

whole : (n i s : ℕ) → i ≤ 0 → s + part n i ≡ part n (n / 2) → s ≡ part n (n / 2)
whole n i s z e = all_in n i (n / 2) s (none_left i z) e

pub count_memo-returns-then-n-eq0 : goal.count_memo-returns-then-n-eq0
count_memo-returns-then-n-eq0 t c =
    let l = c.args.memo.now in
    let good : Good l = c.requires.1 in
    let some : 0 < length l = omega (arith, c.requires.2) in
    let one = filled_next 0 1 l (filled_none l) some (zero_is 0 refl) in
    (zero_is c.args.n c.if-n-eq0.true, good_set l 0 1 good (filled_none l) some (zero_is 0 refl), kept_set l 0 1 good (zero_is 0 refl), rw c.if-n-eq0.true one)

pub count_memo-overflow_mul-sum : goal.count_memo-overflow_mul-sum
count_memo-overflow_mul-sum t c =
    record { fits = (next_fits c.args.n c.loop-i.i c.part_count-a.result c.part_count-b.result c.loop-i.sum c.if-n-eq0.false c.loop-i-test.true c.part_count-a.ensures.0 c.part_count-b.ensures.0 c.loop-i.invariant.3 c.requires.0).0 }

pub count_memo-overflow_add-sum : goal.count_memo-overflow_add-sum
count_memo-overflow_add-sum t c =
    record { fits = (next_fits c.args.n c.loop-i.i c.part_count-a.result c.part_count-b.result c.loop-i.sum c.if-n-eq0.false c.loop-i-test.true c.part_count-a.ensures.0 c.part_count-b.ensures.0 c.loop-i.invariant.3 c.requires.0).1 }

pub count_memo-loop-i-preserved : goal.count_memo-loop-i-preserved
count_memo-loop-i-preserved t c =
    let inv = c.loop-i.invariant in (
      le_trans (sub-le _ 1) inv.0,
      c.part_count-b.ensures.1,
      kept_on (kept_on inv.2 c.part_count-a.ensures.2) c.part_count-b.ensures.2,
      next c.args.n c.loop-i.i c.part_count-a.result c.part_count-b.result c.loop-i.sum c.if-n-eq0.false c.loop-i-test.true c.part_count-a.ensures.0 c.part_count-b.ensures.0 inv.3,
      λ l. back-filled c.args.n c.loop-i.i c.part_count-b.new.memo c.if-n-eq0.false inv.0 c.part_count-b.ensures.3,
    )

pub count_memo-overflow_add-twice : goal.count_memo-overflow_add-twice
count_memo-overflow_add-twice t c =
    let n = c.args.n in
    record { fits = twice_fits n (n / 2) c.loop-i.sum (pos_of_ne-zero c.if-n-eq0.false) refl (whole n c.loop-i.i c.loop-i.sum c.loop-i-test.false c.loop-i.invariant.3) c.requires.0 }

-- an even n
pub count_memo-returns-then-n-eq0-2 : goal.count_memo-returns-then-n-eq0-2
count_memo-returns-then-n-eq0-2 t c =
    let n = c.args.n in
    let m = c.loop-i.memo in
    let inv = c.loop-i.invariant in
    let pos : 0 < n = pos_of_ne-zero c.if-n-eq0.false in
    let even : n % 2 ≡ 0 = c.if-n-eq0-2.true in
    let e = even_is n (n / 2) c.loop-i.sum pos refl (whole n c.loop-i.i c.loop-i.sum c.loop-i-test.false inv.3) even in
    let f = outer n c.loop-i.i m c.loop-i-test.false inv.4 (omega arith) in
    let l : n < length m = omega (arith, inv.2.long, c.requires.2, c.requires.0) in
    (e, good_set m n _ inv.1 f l e, kept_on inv.2 (kept_set m n _ inv.1 e), filled_next n _ m f l e)

-- an odd n, once the middle is counted
odd : (n i s a : ℕ) → n ≢ 0 → i ≤ 0 → s + part n i ≡ part n (n / 2) → n % 2 ≢ 0 → a ≡ C (n / 2) → s + s + a * a ≡ C n
odd n i s a some z e ne ea = odd_is n (n / 2) s (pos_of_ne-zero some) refl (whole n i s z e) a ne ea

pub count_memo-overflow_mul-c : goal.count_memo-overflow_mul-c
count_memo-overflow_mul-c t c =
    let e = odd c.args.n c.loop-i.i c.loop-i.sum c.part_count-a-2.result c.if-n-eq0.false c.loop-i-test.false c.loop-i.invariant.3 c.if-n-eq0-2.false c.part_count-a-2.ensures.0 in
    record { fits = (sum-parts _ _ _ e (fits _ c.requires.0)).0 }

pub count_memo-overflow_add-c : goal.count_memo-overflow_add-c
count_memo-overflow_add-c t c =
    let e = odd c.args.n c.loop-i.i c.loop-i.sum c.part_count-a-2.result c.if-n-eq0.false c.loop-i-test.false c.loop-i.invariant.3 c.if-n-eq0-2.false c.part_count-a-2.ensures.0 in
    record { fits = (sum-parts _ _ _ e (fits _ c.requires.0)).1 }

pub count_memo-returns : goal.count_memo-returns
count_memo-returns t c =
    let n = c.args.n in
    let inv = c.loop-i.invariant in
    let middle = c.part_count-a-2.ensures in
    let m = c.part_count-a-2.new.memo in
    let e = odd n c.loop-i.i c.loop-i.sum c.part_count-a-2.result c.if-n-eq0.false c.loop-i-test.false inv.3 c.if-n-eq0-2.false middle.0 in
    let f = filled_odd n (n / 2) c.loop-i.memo m refl c.if-n-eq0-2.false (outer n c.loop-i.i c.loop-i.memo c.loop-i-test.false inv.4) middle.2 middle.3 in
    let l : n < length m = omega (arith, middle.2.long, inv.2.long, c.requires.2, c.requires.0) in
    (e, good_set m n _ middle.1 f l e, kept_on (kept_on inv.2 middle.2) (kept_set m n _ middle.1 e), filled_next n _ m f l e)

pub part_count-returns-then-known-ne0 : goal.part_count-returns-then-known-ne0
unfolding Good
part_count-returns-then-known-ne0 t c =
    let l = c.args.memo.now in
    (good_at l _ c.requires.1 c.if-known-ne0.true, c.requires.1, kept_same l, c.requires.1 _ c.if-known-ne0.true)
