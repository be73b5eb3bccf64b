-- Edges read from their end over the grid of a form. Assumes nothing.
--
--   word_to p e i                the first i letters of e as steps, the last one first
--   word-all, word_cons, word_none    all of e, one letter, no letters
--   back_is, back-left, back-under    what a step leads back to
--   end_in                      the end behind the wall
--   ok, ok-all                  whether the first i letters lead to (x, y); all of them
--   ok_no_letter, ok-left, ok-under, ok_step    one letter read
--   ok_end                      no letters left
use mathlib.Core.Path.{◌≡◌, refl, sym, ap, ap₂, ◌∙◌}
use mathlib.Core.Bool.{Bool, true, false, ◌&&◌, and-false}
use mathlib.Core.Option.{none, some}
use mathlib.Core.List.{List, [], ◌∷◌, ◌++◌, map, reverse, reverse-cons}
use Prim.Native.Nat.{ℕ, zero, suc, ◌+◌, ◌-◌, ◌≤◌, ◌<◌}
use native.Mathlib.Omega.{arith}
use native.Mathlib.Decide.{dec_le}
use native.Mathlib.Nat.{not-suc-le-zero}
use lib.Dec.{T, ltb, eqb, lt→ltb}
use lib.ListN.{length, get_or}
use borrow.Author.Tests.{le-leb, lt-leb, ne_eqb, eq-eqb}
use Rattle.howmany.specs.Choose.{only_if}
use Rattle.howmany.proofs.Choices.{is_true, only_true}
use Rattle.backward.specs.Reader.{valid}
use Rattle.backward.specs.Grid.{grid}
use Rattle.backward.proofs.Backward.{valid-stop, valid_no_letter}
use Rattle.tables.specs.Form.{wall, steps_in, spot}
use Rattle.letters.specs.Letters.{ordinal_of}
use Rattle.tables.specs.Edges.{walk_end, is_walk}
use Rattle.tables.proofs.Walls.{wall-start}
use Rattle.tables.specs.declared.Wall.{Wall}

-- ---- words

unfoldable pub word_to : (ℕ → ℕ) → List ℕ → ℕ → List ℕ
word_to p e zero = []
word_to p e (suc i) = p (get_or e i 0) ∷ word_to p e i

word_first : (p : ℕ → ℕ) (a : ℕ) (e : List ℕ) (i : ℕ) → word_to p (a ∷ e) (suc i) ≡ word_to p e i ++ (p a ∷ [])
unfolding word_to
word_first p a e zero = refl
word_first p a e (suc i) = ap (λ (w : List ℕ). p (get_or e i 0) ∷ w) (word_first p a e i)

pub word-all : (p : ℕ → ℕ) (e : List ℕ) → word_to p e (length e) ≡ reverse (map p e)
unfolding word_to
word-all p [] = refl
word-all p (a ∷ e) = word_first p a e (length e) ∙ ap (λ (w : List ℕ). w ++ (p a ∷ [])) (word-all p e) ∙ sym (reverse-cons (p a) (map p e))

pub word_cons : (p : ℕ → ℕ) (e : List ℕ) (i l : ℕ) → 0 < i → l ≡ p (get_or e (i - 1) 0) → word_to p e i ≡ l ∷ word_to p e (i - 1)
unfolding word_to
word_cons p e zero l h q = absurd (not-suc-le-zero h)
word_cons p e (suc i) l h q = let s : suc i - 1 ≡ i = omega arith in let g : l ≡ p (get_or e i 0) = rw s at q in rw (s, g)

pub word_none : (p : ℕ → ℕ) (e : List ℕ) (i : ℕ) → i ≤ 0 → word_to p e i ≡ []
unfolding word_to
word_none p e zero h = refl
word_none p e (suc i) h = absurd (not-suc-le-zero h)

-- ---- one step back

module _ (k : ℕ) (f : Wall) (sa sc : List ℕ) (x y l : ℕ) where
  pub back_is : get_or sa l 0 ≤ x → get_or sc l 0 ≤ y → (grid (steps_in k f sa sc)).back (spot x y) l ≡ walk_end k f sa sc (x - get_or sa l 0) (y - get_or sc l 0)
  back_is ha hc = rw (le-leb (get_or sa l 0) x ha, le-leb (get_or sc l 0) y hc)

  pub back-left : x < get_or sa l 0 → (grid (steps_in k f sa sc)).back (spot x y) l ≡ none
  back-left h = rw (lt-leb (get_or sa l 0) x h)

  pub back-under : get_or sa l 0 ≤ x → y < get_or sc l 0 → (grid (steps_in k f sa sc)).back (spot x y) l ≡ none
  back-under ha h = rw (le-leb (get_or sa l 0) x ha, lt-leb (get_or sc l 0) y h)

pub end_in : (k : ℕ) (f : Wall) (sa sc : List ℕ) (x y : ℕ) → T (wall f x y) → walk_end k f sa sc x y ≡ some (spot x y)
end_in k f sa sc x y h = only_true (wall f x y) (spot x y) h

-- ---- validity

unfoldable pub ok : Bool → ℕ → Wall → List ℕ → List ℕ → List ℕ → ℕ → ℕ → ℕ → Bool
ok lettered k f sa sc e i x y = valid (grid (steps_in k f sa sc)) (word_to (ordinal_of lettered) e i) (walk_end k f sa sc x y)

-- a start that is allowed is the only word of no letters
none_left : (k : ℕ) (f : Wall) (sa sc : List ℕ) (b : Bool) (x y : ℕ) → valid (grid (steps_in k f sa sc)) [] (only_if b (spot x y)) ≡ b && (eqb x 0 && eqb y 0)
unfolding valid
none_left k f sa sc true x y = refl
none_left k f sa sc false x y = refl

module _ (lettered : Bool) (k : ℕ) (f : Wall) (sa sc e : List ℕ) where
  pub ok-all : (x y : ℕ) → ok lettered k f sa sc e (length e) x y ≡ is_walk lettered k f sa sc x y e
  unfolding ok is_walk
  ok-all x y = ap (λ (w : List ℕ). valid (grid (steps_in k f sa sc)) w (walk_end k f sa sc x y)) (word-all (ordinal_of lettered) e)

  module _ (i x y : ℕ) (h : i ≤ 0) where
    ok-none : ok lettered k f sa sc e i x y ≡ wall f x y && (eqb x 0 && eqb y 0)
    unfolding ok
    ok-none = ap (λ (w : List ℕ). valid (grid (steps_in k f sa sc)) w (walk_end k f sa sc x y)) (word_none (ordinal_of lettered) e i h) ∙ none_left k f sa sc (wall f x y) x y

    ok-far : (x ≤ 0 → ⊥) → ok lettered k f sa sc e i x y ≡ false
    ok-far n = ok-none ∙ rw (ne_eqb x 0 (λ q. n (omega arith))) (and-false (wall f x y))

    ok-high : x ≤ 0 → (y ≤ 0 → ⊥) → ok lettered k f sa sc e i x y ≡ false
    ok-high z n = ok-none ∙ rw (ne_eqb y 0 (λ q. n (omega arith)), eq-eqb x 0 (omega arith)) (and-false (wall f x y))

    ok-start : x ≡ 0 → y ≡ 0 → ok lettered k f sa sc e i x y ≡ true
    ok-start z n = ok-none ∙ rw (z, n, is_true (wall f 0 0) (wall-start f)) refl

    pub ok_end : eqb (x + y) 0 ≡ ok lettered k f sa sc e i x y
    ok_end =
        elim (dec_le x 0) [
          | yes z ↦ elim (dec_le y 0) [ yes n ↦ eq-eqb (x + y) 0 (omega arith) ∙ sym (ok-start (omega arith) (omega arith)) | no n ↦ ne_eqb (x + y) 0 (λ q. omega arith) ∙ sym (ok-high z n) ]
          | no z ↦ ne_eqb (x + y) 0 (λ q. omega arith) ∙ sym (ok-far z)
        ]

  module _ (pos : (i : ℕ) → i < k → 1 ≤ get_or sa i 0) (i x y l : ℕ) (h : 0 < i) (q : l ≡ ordinal_of lettered (get_or e (i - 1) 0)) where
    ok_cons : ok lettered k f sa sc e i x y ≡ valid (grid (steps_in k f sa sc)) (l ∷ word_to (ordinal_of lettered) e (i - 1)) (walk_end k f sa sc x y)
    unfolding ok
    ok_cons = ap (λ (w : List ℕ). valid (grid (steps_in k f sa sc)) w (walk_end k f sa sc x y)) (word_cons (ordinal_of lettered) e i l h q)

    module _ (n : T (wall f x y)) where
      ok-some : ok lettered k f sa sc e i x y ≡ valid (grid (steps_in k f sa sc)) (l ∷ word_to (ordinal_of lettered) e (i - 1)) (some (spot x y))
      ok-some = ok_cons ∙ ap (valid (grid (steps_in k f sa sc)) (l ∷ word_to (ordinal_of lettered) e (i - 1))) (end_in k f sa sc x y n)

      pub ok_no_letter : k ≤ l → ok lettered k f sa sc e i x y ≡ false
      ok_no_letter o = ok-some ∙ valid_no_letter (grid (steps_in k f sa sc)) l (word_to (ordinal_of lettered) e (i - 1)) (spot x y) o

      pub ok-left : x < get_or sa l 0 → ok lettered k f sa sc e i x y ≡ false
      ok-left o = ok-some ∙ valid-stop (grid (steps_in k f sa sc)) l (word_to (ordinal_of lettered) e (i - 1)) (spot x y) (back-left k f sa sc x y l o)

      pub ok-under : get_or sa l 0 ≤ x → y < get_or sc l 0 → ok lettered k f sa sc e i x y ≡ false
      ok-under a o = ok-some ∙ valid-stop (grid (steps_in k f sa sc)) l (word_to (ordinal_of lettered) e (i - 1)) (spot x y) (back-under k f sa sc x y l a o)

      pub ok_step : l < k → get_or sa l 0 ≤ x → get_or sc l 0 ≤ y → ok lettered k f sa sc e i x y ≡ ok lettered k f sa sc e (i - 1) (x - get_or sa l 0) (y - get_or sc l 0)
      unfolding ok valid
      ok_step b a c =
          ok-some ∙ ap₂ ◌&&◌ (is_true (ltb l k) (lt→ltb l k b)) (ap (valid (grid (steps_in k f sa sc)) (word_to (ordinal_of lettered) e (i - 1))) (back_is k f sa sc x y l a c))
