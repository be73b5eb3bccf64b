-- Edges read backwards: where a job's valid edges are the words of a reader, they are numbered as document 01 says. One argument for
-- families 1, 3, 6 and 7, over any reader. Assumes nothing.
--
--   Named              the letters of the steps: each has its own place, and they stand in the order of their places
--   LettersIn k w          each letter of the word w is below k
--   word-known         a reader's words are such
--   word-neighbours    a rule on neighbouring bytes as one on neighbouring letters
--   reading            the theorem
use mathlib.Core.Path.{◌≡◌, refl, sym, ap, ap₂, ◌∙◌, subst}
use mathlib.Core.Logic.{◌⊎◌, inl, inr}
use mathlib.Core.Bool.{Bool}
use mathlib.Core.Option.{Option, none, some}
use mathlib.Core.List.{List, [], ◌∷◌, map, reverse, reverse_aux, reverse-reverse}
use Prim.Native.Nat.{ℕ, ◌+◌, ◌<◌}
use native.Mathlib.Omega.{arith}
use lib.Dec.{T}
use lib.ListN.{length}
use Rattle.howmany.specs.Choose.{bit}
use Rattle.howmany.specs.Numbering.{Numbering}
use Rattle.howmany.proofs.Choices.{tri}
use Rattle.howmany.proofs.Numberings.{carried}
use Rattle.backward.specs.Reader.{Reader, Lawful, Precedes, valid, count, rank, unrank}
use Rattle.backward.specs.Watch.{neighbours}
use Rattle.backward.proofs.Backward.{backward, letter, rest, none-valid}
use Rattle.rules.specs.Points.{Step}
use Rattle.rules.specs.Jobs.{Job, steps_of}
use Rattle.rules.specs.Valid.{place, at, is_edge, Valid}
use Rattle.rules.specs.Order.{standing, Decides}
use Rattle.rules.specs.Words.{word_of, spelt}
use Rattle.rules.proofs.Letters.{place-letter, map-reverse}

pub record Named (ss : List Step) (k : ℕ) : Type 0 where
  pub many : length ss ≡ k
  pub own : (i : ℕ) → i < k → place (at ss i).letter ss ≡ i
  pub rising : (i j : ℕ) → i < j → j < k → standing (at ss i).letter < standing (at ss j).letter

abbrev pub LettersIn : ℕ → List ℕ → Type 0
LettersIn k [] = Unit {0}
LettersIn k (i ∷ w) = (i < k) × LettersIn k w

known_aux : (k : ℕ) (u v : List ℕ) → LettersIn k u → LettersIn k v → LettersIn k (reverse_aux u v)
known_aux k [] v g h = h
known_aux k (i ∷ u) v g h = known_aux k u (i ∷ v) g.1 (g.0, h)

pub known-turned : (k : ℕ) (u : List ℕ) → LettersIn k u → LettersIn k (reverse u)
known-turned k u g = known_aux k u [] g tt

pub word-known : (R : Reader) → Lawful R → (w : List ℕ) (m : Option R.State) → T (valid R w m) → LettersIn R.letters w
word-known R L [] m t = tt
word-known R L (i ∷ w) none t = absurd (none-valid R L (i ∷ w) t)
word-known R L (i ∷ w) (some s) t = (letter R L s i w t, word-known R L w (R.back s i) (rest R L s i w t))

module _ (ss : List Step) (k : ℕ) (N : Named ss k) where
  -- a byte's place among the letters, and the letter at a place
  abbrev pl : ℕ → ℕ
  pl b = place b ss

  abbrev glyph : ℕ → ℕ
  glyph i = (at ss i).letter

  byte : (b : ℕ) → pl b < k → glyph (pl b) ≡ b
  byte b l = place-letter b ss (rw N.many l)

  standing-up : (b c : ℕ) → pl b < k → pl c < k → pl b < pl c → standing b < standing c
  standing-up b c l h g = rw (byte b l, byte c h) at (N.rising (pl b) (pl c) g h)

  place_up : (b c : ℕ) → pl b < k → pl c < k → standing b < standing c → pl b < pl c
  place_up b c l h g = go (tri (pl b) (pl c))
    where
      go : (pl b < pl c) ⊎ ((pl c < pl b) ⊎ (pl b ≡ pl c)) → pl b < pl c
      go (inl w) = w
      go (inr (inl w)) = absurd (omega (arith, standing-up c b h l w))
      go (inr (inr e)) = absurd (omega (arith, ap standing (sym (byte b l) ∙ ap glyph e ∙ byte c h)))

  pub order-on : (u v : List ℕ) → LettersIn k (map pl u) → LettersIn k (map pl v) → Decides u v → Precedes (map pl u) (map pl v)
  unfolding Decides
  order-on [] v g h d = absurd d
  order-on (b ∷ u) [] g h d = absurd d
  order-on (b ∷ u) (c ∷ v) g h (inl l) = inl (place_up b c g.0 h.0 l)
  order-on (b ∷ u) (c ∷ v) g h (inr d) = inr (ap pl d.0, order-on u v g.1 h.1 d.1)

  pub order-off : (u v : List ℕ) → LettersIn k (map pl u) → LettersIn k (map pl v) → Precedes (map pl u) (map pl v) → Decides u v
  unfolding Decides
  order-off [] v g h d = absurd d
  order-off (b ∷ u) [] g h d = absurd d
  order-off (b ∷ u) (c ∷ v) g h (inl l) = inl (standing-up b c g.0 h.0 l)
  order-off (b ∷ u) (c ∷ v) g h (inr d) = inr (sym (byte b g.0) ∙ ap glyph d.0 ∙ byte c h.0, order-off u v g.1 h.1 d.1)

  pub letters-back : (w : List ℕ) → LettersIn k w → map pl (map glyph w) ≡ w
  letters-back [] g = refl
  letters-back (i ∷ w) g = ap₂ {C = List ℕ} (λ x y. x ∷ y) (N.own i g.0) (letters-back w g.1)

  pub bytes_back : (e : List ℕ) → LettersIn k (map pl e) → map glyph (map pl e) ≡ e
  bytes_back [] g = refl
  bytes_back (b ∷ e) g = ap₂ {C = List ℕ} (λ x y. x ∷ y) (byte b g.0) (bytes_back e g.1)

  pub word-neighbours : (g f : ℕ → ℕ → Bool) → ((b c : ℕ) → pl b < k → pl c < k → g b c ≡ f (pl b) (pl c))
      → (e : List ℕ) → LettersIn k (map pl e) → neighbours g e ≡ neighbours f (map pl e)
  unfolding neighbours
  word-neighbours g f same [] h = refl
  word-neighbours g f same (b ∷ []) h = refl
  word-neighbours g f same (b ∷ c ∷ e) h = ap₂ ◌+◌ (ap bit (same b c h.0 h.1.0)) (word-neighbours g f same (c ∷ e) h.1)

module _ (J : Job) (R : Reader) (L : Lawful R) (N : Named (steps_of J) R.letters) (m : Option R.State)
    (reads : (e : List ℕ) → is_edge J e ≡ valid R (word_of J e) m) where
  known : (e : List ℕ) → Valid J e → LettersIn R.letters (word_of J e)
  unfolding Valid
  known e t = word-known R L (word_of J e) m (subst T (reads e) t)

  -- the letters of an edge, and of it turned round
  ahead : (e : List ℕ) → Valid J e → LettersIn R.letters (map (λ b. place b (steps_of J)) e)
  ahead e t = rw reverse-reverse at (known-turned R.letters (word_of J e) (known e t))

  turned : (e : List ℕ) → Valid J e → LettersIn R.letters (map (λ b. place b (steps_of J)) (reverse e))
  turned e t = rw map-reverse at (known e t)

  word_back : (u : List ℕ) → T (valid R u m) → word_of J (spelt J u) ≡ u
  word_back u t = ap reverse (letters-back (steps_of J) R.letters N (reverse u) (known-turned R.letters u (word-known R L u m t))) ∙ reverse-reverse u

  pub reading : (number : List ℕ → ℕ) (edge : ℕ → List ℕ)
      → ((e : List ℕ) → T (is_edge J e) → number e ≡ rank R (word_of J e) m)
      → ((r : ℕ) → r < count R m → edge r ≡ spelt J (unrank R m r))
      → Numbering (Valid J) (λ e g. Decides (reverse e) (reverse g)) (count R m) number edge
  unfolding Valid
  reading number edge is_number is_edge_lem =
      carried {old = word_of J} {new = spelt J} (record {
        forth = λ u t. rw (reads (spelt J u), word_back u t) t;
        back = λ e t. subst T (reads e) t;
        old_new = word_back;
        new_old = λ e t. ap (map (λ i. (at (steps_of J) i).letter)) (reverse-reverse (map (λ b. place b (steps_of J)) e)) ∙ bytes_back (steps_of J) R.letters N e (ahead e t);
        up = λ b c s t d.
            rw (map-reverse (λ x. place x (steps_of J)) b, map-reverse (λ x. place x (steps_of J)) c)
            (order-on (steps_of J) R.letters N (reverse b) (reverse c) (turned b s) (turned c t) d);
        down = λ b c s t d.
            order-off (steps_of J) R.letters N (reverse b) (reverse c) (turned b s) (turned c t)
            (rw (map-reverse (λ x. place x (steps_of J)) b, map-reverse (λ x. place x (steps_of J)) c) at d);
        places = is_number;
        makes = is_edge_lem;
      })
      (backward R L m)
