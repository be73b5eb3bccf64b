-- Laws of the layout, test by test, for the code that makes them. Assumes nothing.
--
--   same-is                     a test that tells equal lists is `same_bytes`
--   marked-is                   that the mark stands in front
--   offset-is                   an offset, as the two bytes that are read
--   rising-is                   that no offset is above the next
--   laid-at                     the layout's tests, over a count in hand
--   layout_of                   what a kept layout says
--   EdgeAt p i                  edge i stands in p, where its two offsets say; edge_stands: each of a kept layout does
use mathlib.Core.Path.{◌≡◌, refl, ap, sym, ◌∙◌}
use mathlib.Core.Bool.{Bool, true, false, ◌&&◌}
use mathlib.Core.List.{List, ◌++◌}
use Prim.Native.Nat.{ℕ, zero, suc, ◌+◌, ◌*◌, ◌≤◌, ◌<◌}
use native.Mathlib.Nat.{zero-add}
use native.Mathlib.Omega.{arith}
use lib.Dec.{leb, eqb}
use lib.ListN.{length, get_or, take, drop, take-append-drop}
use borrow.Author.Tests.{le-leb}
use Rattle.std.specs.Bool.{MatchBool}
use Rattle.std.specs.List.{AllWithin, HoldsAt, range_with_len}
use Rattle.std.proofs.lemmas.List.FromFn.{length-range_with_len, get_or-range_with_len}
use Rattle.howmany.proofs.Choices.{is_true, is_false, holds}
use Rattle.rules.specs.Packs.{longest, offsets_at, shortest, mark, word, same_bytes, count_in, offset, rises, laid}
use Rattle.rules.proofs.PackLaws.{same_refl, same_eq, rises-at, LaidOut, laid_of}

pub record EdgeAt (p : List ℕ) (i : ℕ) : Type 0 where
  pub rise : offset p i ≤ offset p (i + 1)
  pub within : offset p (i + 1) ≤ length p

-- ---- the same bytes

pub same-is : (x y : List ℕ) (r : Bool) → (r ≡ true → x ≡ y) → (x ≡ y → r ≡ true) → r ≡ same_bytes x y
same-is x y true f g = sym (ap (same_bytes x) (sym (f refl)) ∙ is_true (same_bytes x x) (same_refl x))
same-is x y false f g = sym (is_false (same_bytes x y) (λ t. holds (g (same_eq x y t))))

pub marked-is : (s : List ℕ) (r : Bool) → (r ≡ true → s ≡ mark ++ drop 4 s) → ((rest : List ℕ) → s ≡ mark ++ rest → r ≡ true) → r ≡ same_bytes (take 4 s) mark
marked-is s r f g = same-is (take 4 s) mark r (λ t. ap (take 4) (f t)) (λ e. g (drop 4 s) (sym (take-append-drop 4 s) ∙ ap (λ (z : List ℕ). z ++ drop 4 s) e))

-- ---- the offsets

module _ (p : List ℕ) where
  pub offset-is : (i : ℕ) → word p (offsets_at + 2 * i) ≡ offset p i
  unfolding offset
  offset-is i = refl

  rising : (c : ℕ) → ((i : ℕ) → i < c → offset p i ≤ offset p (i + 1)) → rises p c ≡ true
  unfolding rises
  rising zero h = refl
  rising (suc n) h = simp (rising n (λ i l. h i (omega arith)), le-leb (offset p n) (offset p (n + 1)) (h n (omega arith))) refl

  falls : (c i : ℕ) → i < c → offset p (i + 1) < offset p i → rises p c ≡ false
  falls c i l h = is_false (rises p c) (λ t. omega (arith, rises-at p c t i (i + 1) (omega arith) (omega arith)))

  pub rising-is : (c : ℕ) (r : Bool)
      → MatchBool r
      (AllWithin (λ i. offset p i ≤ offset p (i + 1)) (range_with_len 0 c) 0 (length (range_with_len 0 c)))
      ((k : ℕ) × (k < length (range_with_len 0 c)) × HoldsAt (λ i. offset p (i + 1) < offset p i) (range_with_len 0 c) k)
      → r ≡ rises p c
  rising-is c true h = sym (rising c (λ i l. let g : offset p (get_or (range_with_len 0 c) i 0) ≤ offset p (get_or (range_with_len 0 c) i 0 + 1) = h i 0 (omega arith) (rw (length-range_with_len 0 c) l) in rw (get_or-range_with_len 0 c i 0 l, zero-add) at g))
  rising-is c false h = let l : h.0 < c = rw (length-range_with_len 0 c) at h.1 in sym (falls c h.0 l (let g : offset p (get_or (range_with_len 0 c) h.0 0 + 1) < offset p (get_or (range_with_len 0 c) h.0 0) = h.2 0 in rw (get_or-range_with_len 0 c h.0 0 l, zero-add) at g))

  -- ---- the layout

  -- the tests of `laid`, the count c in hand
  abbrev pub tests : ℕ → Bool
  tests c =
      leb shortest (length p) && (leb (length p) longest && (same_bytes (take 4 p) mark && (leb c 200
      && (leb (shortest + 2 * c) (length p) && (eqb (offset p 0) (shortest + 2 * c) && (rises p c && eqb (offset p c) (length p)))))))

  pub laid-at : (c : ℕ) → c ≡ count_in p → laid p ≡ tests c
  unfolding laid
  laid-at c e = ap tests (sym e)

  pub layout_of : laid p ≡ true → LaidOut p
  layout_of e = laid_of p (holds e)

  pub edge_stands : laid p ≡ true → (i : ℕ) → i < count_in p → EdgeAt p i
  edge_stands e i l =
      let so : LaidOut p = layout_of e in
      record {
        rise = so.rise i (i + 1) (omega arith) (omega arith);
        within = omega (arith, so.rise (i + 1) (count_in p) (omega arith) (omega arith), so.last);
      }
