-- Laws of the letters. Assumes nothing.
--
--   place_n, place-e, place-d, place_no         the branches of `ordinal_of` at N E D
--   glyph_n, glyph-e, glyph-d, glyph-digit      the branches of `glyph_of`
--   place-lettered, place-glyph                 the byte of a step stands for that step
use mathlib.Core.Path.{◌≡◌, refl}
use mathlib.Core.Bool.{Bool, true, false}
use Prim.Native.Nat.{ℕ, zero, suc, ◌+◌, ◌<◌}
use native.Mathlib.Omega.{arith}
use native.Mathlib.Nat.{add-sub_cancel}
use borrow.Author.Tests.{le-ltb, eq-eqb, ne_eqb}
use Rattle.letters.specs.Letters.{ordinal_of, glyph_of}

module _ (lettered : Bool) (b : ℕ) where
  module _ (e : lettered ≡ true) where
    pub place_n : b ≡ 78 → 0 ≡ ordinal_of lettered b
    unfolding ordinal_of
    place_n h = rw (e, eq-eqb b 78 h)

    pub place-e : (b ≡ 78 → ⊥) → b ≡ 69 → 1 ≡ ordinal_of lettered b
    unfolding ordinal_of
    place-e n h = rw (e, ne_eqb b 78 n, eq-eqb b 69 h)

    pub place-d : (b ≡ 78 → ⊥) → (b ≡ 69 → ⊥) → b ≡ 68 → 2 ≡ ordinal_of lettered b
    unfolding ordinal_of
    place-d n m h = rw (e, ne_eqb b 78 n, ne_eqb b 69 m, eq-eqb b 68 h)

    pub place_no : (b ≡ 78 → ⊥) → (b ≡ 69 → ⊥) → (b ≡ 68 → ⊥) → 8 ≡ ordinal_of lettered b
    unfolding ordinal_of
    place_no n m h = rw (e, ne_eqb b 78 n, ne_eqb b 69 m, ne_eqb b 68 h)

module _ (lettered : Bool) (i : ℕ) where
  module _ (e : lettered ≡ true) where
    pub glyph_n : i ≡ 0 → 78 ≡ glyph_of lettered i
    unfolding glyph_of
    glyph_n h = rw (e, eq-eqb i 0 h)

    pub glyph-e : (i ≡ 0 → ⊥) → i ≡ 1 → 69 ≡ glyph_of lettered i
    unfolding glyph_of
    glyph-e n h = rw (e, ne_eqb i 0 n, eq-eqb i 1 h)

    pub glyph-d : (i ≡ 0 → ⊥) → (i ≡ 1 → ⊥) → 68 ≡ glyph_of lettered i
    unfolding glyph_of
    glyph-d n m = rw (e, ne_eqb i 0 n, ne_eqb i 1 m)

  pub glyph-digit : lettered ≡ false → i + 49 ≡ glyph_of lettered i
  unfolding glyph_of
  glyph-digit e = rw e

-- for the three letters, and for the eight digits
pub place-lettered : (i : ℕ) → i < 3 → ordinal_of true (glyph_of true i) ≡ i
unfolding ordinal_of glyph_of
place-lettered zero l = refl
place-lettered (suc zero) l = refl
place-lettered (suc (suc zero)) l = refl
place-lettered (suc (suc (suc i))) l = absurd (omega arith)

pub place-glyph : (i : ℕ) → i < 8 → ordinal_of false (glyph_of false i) ≡ i
unfolding ordinal_of glyph_of
place-glyph i l = rw (le-ltb (i + 49) 49 (omega arith), le-ltb 56 (i + 49) (omega arith)) (add-sub_cancel i 49)
