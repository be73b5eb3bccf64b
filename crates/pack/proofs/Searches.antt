-- Laws of the first repeat, as a search over pairs meets them: the later edge upwards, and for each the earlier ones upwards. Assumes
-- nothing.
--
--   least_more       none below j passes, and j doesn't
--   repeats es k     edge k equals an earlier one
--   alone            edge k equals none of the earlier ones
--   twice_at         the first repeat; twice_none: there is none
use mathlib.Core.Path.{◌≡◌, ap, sym, ◌∙◌}
use mathlib.Core.Bool.{Bool, true, false}
use mathlib.Core.List.{List}
use mathlib.Core.Option.{Option, none, some}
use Prim.Native.Nat.{ℕ, ◌+◌, ◌<◌}
use native.Mathlib.Numerals.{add-one}
use native.Mathlib.Omega.{arith}
use lib.Dec.{ltb}
use lib.ListN.{length}
use borrow.Author.Tests.{lt-ltb, le-ltb}
use Rattle.howmany.specs.Choose.{only_if}
use Rattle.howmany.specs.Least.{least}
use Rattle.howmany.proofs.Leasts.{least_at, least_on}
use Rattle.rules.specs.Questions.{equals, partner, Twice, twice_in}

pub least_more : (f : ℕ → Bool) (j : ℕ) → least f j ≡ j → f j ≡ false → least f (j + 1) ≡ j + 1
least_more f j e g = rw add-one (least_on f j e g)

module _ (es : List (List ℕ)) where
  abbrev pub repeats : ℕ → Bool
  repeats k = ltb (partner es k) k

  pub alone : (k j : ℕ) → j ≡ k → least (equals es k) j ≡ j → repeats k ≡ false
  unfolding partner
  alone k j q e = le-ltb (partner es k) k (omega (arith, ap (least (equals es k)) q))

  partner-at : (k j : ℕ) → least (equals es k) j ≡ j → equals es k j ≡ true → j < k → partner es k ≡ j
  unfolding partner
  partner-at k j e g l = least_at (equals es k) j k e g l

  -- the answer, once the least repeat is known
  abbrev answer : ℕ → Option Twice
  answer i = only_if (ltb i (length es)) (record { later = i; earlier = partner es i })

  twice_is : (i : ℕ) → least repeats (length es) ≡ i → twice_in es ≡ answer i
  unfolding twice_in
  twice_is i e = ap answer e

  pub twice_at : (k j : ℕ) → least repeats k ≡ k → least (equals es k) j ≡ j → equals es k j ≡ true → j < k → k < length es
      → twice_in es ≡ some (record { later = k; earlier = j })
  twice_at k j e f g l h =
      let q : partner es k ≡ j = partner-at k j f g l in
      let r : least repeats (length es) ≡ k = least_at repeats k (length es) e (lt-ltb (partner es k) k (omega arith)) h in
      twice_is k r ∙ simp (lt-ltb k (length es) h, q)

  pub twice_none : (k : ℕ) → k ≡ length es → least repeats k ≡ k → twice_in es ≡ none
  twice_none k q e = twice_is k (ap (least repeats) (sym q) ∙ e) ∙ simp (le-ltb k (length es) (omega arith))
