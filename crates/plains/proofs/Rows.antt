-- A row of counts, made from the one before it in place. Assumes nothing.
--
--   picked-yes, picked_no            what the third step brings, by the test
--   Between            of the row of j the counts before i are those of the row of j + 1 by now; sum and before are the last ones
--   between_start, between_next, between-over    at the start, one count more, and where one doesn't fit
--   row-all, row-over  what is left after the last, or where one doesn't fit
--   first-row, first_fits, row_last    the row of 0, and a row's last count
--   over-says, count-says, over-later, turned-says    the answer
use Rattle.std.proofs.Common.{◌≡◌, ℕ, ◌+◌, ◌-◌, ◌^◌, ◌<◌, ◌≤◌, Bool, true, false, T, List, length, get_or, set, replicate, sym, refl, ap, ◌∙◌, subst, le_trans, le_refl, arith, get_or-set_other, get_or-set_same, le-leb}
use native.Mathlib.Decide.{ℕ_discrete}
use lib.ListN.{get_or-replicate}
use Rattle.howmany.specs.Choose.{pick}
use borrow.Author.Tests.{lt-leb}
use Rattle.rules.specs.Answers.{most}
use Rattle.job.specs.Replies.{reply}
use Rattle.std.specs.Prelude.{Ok, Err}
use Rattle.job.specs.declared.Refusal.TheVariants.{Over}
use Rattle.plains.specs.Plains.{ends, plain_answer, Row, NextRow}
use Rattle.plains.proofs.Ends.{ends-none, ends-rim, ends_next, ends-most, ends_turned}

pub picked-yes : (d : Bool) (x b : ℕ) → d ≡ true → b ≡ x → b ≡ pick d x 0
picked-yes d x b e g = rw e g

pub picked_no : (d : Bool) (x b : ℕ) → d ≡ false → b ≡ 0 → b ≡ pick d x 0
picked_no d x b e g = rw e g

-- ---- along a row
pub record Between (d : Bool) (n j i : ℕ) (l : List ℕ) (sum before : ℕ) : Type 0 where
  pub done : (k : ℕ) → k < i → get_or l k 0 ≡ ends d k (j + 1)
  pub still : (k : ℕ) → i ≤ k → k ≤ n → get_or l k 0 ≡ ends d k j
  pub last : sum ≡ ends d (i - 1) (j + 1)
  pub older : before ≡ ends d (i - 1) j

pub between_start : (d : Bool) (n j : ℕ) (l : List ℕ) → Row d n j l → Between d n j 1 l 1 1
unfolding Row
between_start d n j l r = record {
  done = λ k h. first k (omega arith);
  still = λ k h g. r k g;
  last = sym (ends-none d (j + 1));
  older = sym (ends-none d j);
}
  where
    first : (k : ℕ) → k ≡ 0 → get_or l k 0 ≡ ends d k (j + 1)
    first k e = rw e (r 0 (omega arith) ∙ ends-none d j ∙ sym (ends-none d (j + 1)))

module _ {d : Bool} {n j i : ℕ} {l : List ℕ} {sum before : ℕ} (w : Between d n j i l sum before) (some : 1 ≤ i) (in_row : i ≤ n) (a b : ℕ) (ea : a ≡ get_or l i 0) (eb : b ≡ pick d before 0) where
  next-is : sum + a + b ≡ ends d i (j + 1)
  next-is = omega (arith, ends_next d i j some, w.last, ea ∙ w.still i (le_refl i) in_row, eb ∙ ap (λ (z : ℕ). pick d z 0) w.older)

  pub between-over : 2 ^ 64 ≤ sum + a + b → 2 ^ 64 ≤ ends d n (j + 1)
  between-over h = le_trans h (omega (arith, next-is, ends-most d i (j + 1) n (j + 1) in_row (le_refl (j + 1))))

  pub between_next : i < length l → (s : ℕ) → s ≡ sum + a + b → Between d n j (i + 1) (set l i s) s a
  between_next here s es = record {
    done = λ k h. at_done k h (ℕ_discrete k i);
    still = λ k h g. get_or-set_other l i k s 0 (λ e. omega arith) ∙ w.still k (omega arith) g;
    last = let e : i + 1 - 1 ≡ i = omega arith in rw e (es ∙ next-is);
    older = let e : i + 1 - 1 ≡ i = omega arith in rw e (ea ∙ w.still i (le_refl i) in_row);
  }
    where
      at_done : (k : ℕ) → k < i + 1 → Dec (k ≡ i) → get_or (set l i s) k 0 ≡ ends d k (j + 1)
      at_done k h (yes e) = rw e (get_or-set_same l i s 0 here ∙ es ∙ next-is)
      at_done k h (no e) = get_or-set_other l i k s 0 e ∙ w.done k (omega arith)

-- ---- a row
pub row-all : (d : Bool) (n i : ℕ) (l k : List ℕ) (sum before : ℕ) → length k ≡ length l → n < i → i ≤ n + 1 → sum < 2 ^ 64 → ((j : ℕ) → Row d n j l → Between d n j i k sum before) → NextRow d n l k true
unfolding Row
row-all d n i l k sum before e h g f w = record {
  long = e;
  row = λ j r t p q. (w j r).done p (omega arith);
  fits = λ j r t. let z : i - 1 ≡ n = omega arith in omega (arith, (w j r).last, ap (λ (p : ℕ). ends d p (j + 1)) z);
  over = λ j r t. absurd (subst T t tt);
}

pub row-over : (d : Bool) (n : ℕ) (l k : List ℕ) → length k ≡ length l → ((j : ℕ) → Row d n j l → 2 ^ 64 ≤ ends d n (j + 1)) → NextRow d n l k false
row-over d n l k e h = record {
  long = e;
  row = λ j r t. absurd (subst T (sym t) tt);
  fits = λ j r t. absurd (subst T (sym t) tt);
  over = λ j r t. h j r;
}

pub first-row : (d : Bool) (n : ℕ) → n ≤ 33 → Row d n 0 (replicate 34 1)
unfolding Row
first-row d n h i l = get_or-replicate 34 i 1 0 (omega arith) ∙ sym (ends-rim d i)

pub row_last : (d : Bool) (n j : ℕ) (l : List ℕ) → Row d n j l → get_or l n 0 ≡ ends d n j
unfolding Row
row_last d n j l r = r n (le_refl n)

-- ---- all rows
pub over-says : (d : Bool) (n m : ℕ) → 2 ^ 64 ≤ ends d n m → Err Over ≡ reply (plain_answer d n m)
over-says d n m h = rw (lt-leb (ends d n m) most (omega arith)) refl

pub count-says : (d : Bool) (n m j c : ℕ) → j ≡ m → c ≡ ends d n j → ends d n j < 2 ^ 64 → Ok c ≡ reply (plain_answer d n m)
count-says d n m j c e g l =
    let q : ends d n j ≡ ends d n m = ap (ends d n) e in
    rw (le-leb (ends d n m) most (omega arith)) (ap Ok (g ∙ q))

pub over-later : (d : Bool) (n m j : ℕ) → j < m → 2 ^ 64 ≤ ends d n (j + 1) → 2 ^ 64 ≤ ends d n m
over-later d n m j l h = le_trans h (ends-most d n (j + 1) n m (le_refl n) (omega arith))

pub first_fits : (d : Bool) (n : ℕ) → ends d n 0 < 2 ^ 64
first_fits d n = omega (arith, ends-rim d n)

pub turned-says : (d : Bool) (n m : ℕ) → reply (plain_answer d n m) ≡ reply (plain_answer d m n)
turned-says d n m = rw (ends_turned d n m) refl
