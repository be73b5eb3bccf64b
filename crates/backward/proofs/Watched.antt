-- A watched reader is lawful, and its words are those of the reader that the watch lets pass; `owing` lets those pass whose neighbours
-- are as many as owed. By induction on the words. Assumes nothing.
--
--   watched_lawful    what the backward-order theorem asks
--   watched-valid     the words are the reader's and the watch's
--   owing-neighbours  a word is let pass exactly if, turned round, the test is true of as many neighbours as are owed
use mathlib.Core.Path.{◌≡◌, refl, sym, ap, ◌∙◌}
use mathlib.Core.Bool.{Bool, true, false, ◌&&◌, and-false, and_assoc}
use mathlib.Core.Option.{Option, none, some, none-ne-some, some-injective}
use mathlib.Core.List.{List, [], ◌∷◌, reverse, reverse_aux}
use Prim.Native.Nat.{ℕ, ◌+◌, ◌-◌, ◌≤◌}
use native.Mathlib.Decide.{ℕ_discrete}
use native.Mathlib.Omega.{arith}
use lib.Dec.{T, ltb, leb, eqb, leb→le, le→leb}
use borrow.Author.Tests.{eq-eqb, ne_eqb}
use Rattle.howmany.specs.Choose.{only_if}
use Rattle.howmany.proofs.Choices.{and_left}
use Rattle.backward.specs.Reader.{Reader, Lawful, valid}
use Rattle.backward.specs.Watch.{Watch, both, watched, accepts, neighbours, Owing, weight, owing, owed}

both_left : {A B : Type 0} (m : Option A) (n : Option B) (c : A × B) → both m n ≡ some c → m ≡ some c.0
both_left none n c e = absurd (none-ne-some c e)
both_left (some a) none c e = absurd (none-ne-some c e)
both_left {A} {B} (some a) (some b) c e = ap {B = Option A} (λ x. some x.0) (some-injective (a, b) c e)

module _ (R : Reader) (A : Watch) where
  pub watched_lawful : Lawful R → Lawful (watched R A)
  watched_lawful L = record {
    falls = λ s i t l e. L.falls s.0 i t.0 l (both_left (R.back s.0 i) (A.hears s.1 i) t e);
    level = λ s t b c. L.level s.0 t.0 (and_left (R.start s.0) (A.content s.1) b) (and_left (R.start t.0) (A.content t.1) c);
  }

  pub watched-valid : (w : List ℕ) (m : Option R.State) (q : Option A.Mind) → valid (watched R A) w (both m q) ≡ (valid R w m && accepts A w q)
  unfolding valid accepts
  watched-valid [] none q = refl
  watched-valid [] (some s) none = sym (and-false (R.start s))
  watched-valid [] (some s) (some q) = refl
  watched-valid (i ∷ w) none q = refl
  watched-valid (i ∷ w) (some s) none = sym (and-false (valid R (i ∷ w) (some s)))
  watched-valid (i ∷ w) (some s) (some q) =
      ap (λ (b : Bool). ltb i R.letters && b) (watched-valid w (R.back s i) (A.hears q i))
      ∙ sym (and_assoc (ltb i R.letters) (valid R w (R.back s i)) (accepts A w (A.hears q i)))

-- two tests of equal numbers that say the same
pub eqb_same : (a b c d : ℕ) → (a ≡ b → c ≡ d) → (c ≡ d → a ≡ b) → eqb a b ≡ eqb c d
eqb_same a b c d to from = go (ℕ_discrete a b)
  where
    go : Dec (a ≡ b) → eqb a b ≡ eqb c d
    go (yes e) = eq-eqb a b e ∙ sym (eq-eqb c d (to e))
    go (no n) = ne_eqb a b n ∙ sym (ne_eqb c d (λ e. n (from e)))

none-accepts : (A : Watch) (w : List ℕ) → accepts A w none ≡ false
unfolding accepts
none-accepts A [] = refl
none-accepts A (i ∷ w) = refl

module _ (f : ℕ → ℕ → Bool) where
  -- how many neighbours of a word, its last letter first, with the letter behind it
  total : Option ℕ → List ℕ → ℕ
  total o [] = 0
  total o (i ∷ w) = weight f i o + total (some i) w

  accepts-total : (w : List ℕ) (q : Owing) → accepts (owing f) w (some q) ≡ eqb (total q.behind w) q.many
  unfolding accepts total
  accepts-total [] q = eqb_same q.many 0 0 q.many sym sym
  accepts-total (i ∷ w) q = go (leb x q.many) (leb→le x q.many) (le→leb x q.many) (accepts-total w (record { behind = some i; many = q.many - x }))
    where
      x : ℕ
      x = weight f i q.behind

      go : (b : Bool) → (T b → x ≤ q.many) → (x ≤ q.many → T b)
          → accepts (owing f) w (some (record { behind = some i; many = q.many - x })) ≡ eqb (total (some i) w) (q.many - x)
          → accepts (owing f) w (only_if b (record { behind = some i; many = q.many - x })) ≡ eqb (x + total (some i) w) q.many
      go true l h ih = let k : x ≤ q.many = l tt in ih ∙ eqb_same (total (some i) w) (q.many - x) (x + total (some i) w) q.many (λ e. omega arith) (λ e. omega arith)
      go false l h ih = none-accepts (owing f) w ∙ sym (ne_eqb (x + total (some i) w) q.many (λ e. h (omega arith)))

  -- the letter first in a word, if there is one
  first : List ℕ → Option ℕ
  first [] = none
  first (j ∷ v) = some j

  lead : (i : ℕ) (w : List ℕ) → neighbours f (i ∷ w) ≡ weight f i (first w) + neighbours f w
  unfolding neighbours first
  lead i [] = refl
  lead i (j ∷ w) = refl

  -- what stands behind v, its last letter first, is w
  turned : (v w : List ℕ) → neighbours f (reverse_aux v w) ≡ total (first w) v + neighbours f w
  unfolding total first
  turned [] w = omega arith
  turned (i ∷ v) w = omega (arith, turned v (i ∷ w), lead i w)

  pub owing-neighbours : (w : List ℕ) (c : ℕ) → accepts (owing f) w (some (owed c)) ≡ eqb (neighbours f (reverse w)) c
  unfolding neighbours first
  owing-neighbours w c = let e : neighbours f (reverse w) ≡ total none w = omega (arith, turned w []) in accepts-total w (owed c) ∙ ap (λ (n : ℕ). eqb n c) (sym e)
