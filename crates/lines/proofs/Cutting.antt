-- Laws of parts of a lent slice, cut by where they end. Assumes nothing.
--
--   lesser-left, lesser-right    whichever is less
--   lesser-first, lesser-second  it is no more than either
--   part_none, part-some         the bytes of a part, by how it is lent
--   part_cut                     a part that begins behind the end is empty, wherever it begins
use mathlib.Core.Path.{◌≡◌, refl, sym, ap, ◌∙◌}
use mathlib.Core.List.{List, []}
use Prim.Native.Nat.{ℕ, ◌-◌, ◌≤◌, ◌<◌}
use native.Mathlib.Decide.{dec_lt}
use native.Mathlib.Omega.{arith}
use lib.ListN.{length, take, drop, drop_of_length-le, length-drop}
use lib.Seq.{take_all}
use borrow.Author.Tests.{lt-ltb, le-ltb}
use Rattle.rules.specs.Packs.{part_of}
use Rattle.lines.specs.Lines.{lesser}

pub lesser-left : (a b : ℕ) → a < b → a ≡ lesser a b
lesser-left a b l = rw (lt-ltb a b l) refl

pub lesser-right : (a b : ℕ) → b ≤ a → b ≡ lesser a b
lesser-right a b l = rw (le-ltb a b l) refl

module _ (a b : ℕ) where
  pub lesser-first : lesser a b ≤ a
  lesser-first = go (dec_lt a b)
    where
      go : Dec (a < b) → lesser a b ≤ a
      go (yes l) = omega (arith, lesser-left a b l)
      go (no l) = omega (arith, lesser-right a b (omega arith))

  pub lesser-second : lesser a b ≤ b
  lesser-second = go (dec_lt a b)
    where
      go : Dec (a < b) → lesser a b ≤ b
      go (yes l) = omega (arith, lesser-left a b l)
      go (no l) = omega (arith, lesser-right a b (omega arith))

module _ (s : List ℕ) (from to a e : ℕ) (u : a ≡ lesser from (length s)) (v : e ≡ lesser to (length s)) where
  pub part_none : e < a → part_of s a a ≡ part_of s (lesser from (length s)) to
  part_none l = rw (sym u) (go (dec_lt to (length s)))
    where
      go : Dec (to < length s) → take (a - a) (drop a s) ≡ take (to - a) (drop a s)
      go (yes h) = let w : a - a ≡ to - a = omega (arith, v, lesser-left to (length s) h) in ap (λ (n : ℕ). take n (drop a s)) w
      go (no h) = absurd (omega (arith, u, v, lesser-right to (length s) (omega arith), lesser-second from (length s)))

  pub part-some : a ≤ e → part_of s a e ≡ part_of s (lesser from (length s)) to
  part-some l = rw (sym u) (go (dec_lt to (length s)))
    where
      go : Dec (to < length s) → take (e - a) (drop a s) ≡ take (to - a) (drop a s)
      go (yes h) = let w : e - a ≡ to - a = omega (arith, v, lesser-left to (length s) h) in ap (λ (n : ℕ). take n (drop a s)) w
      go (no h) =
          let w : e ≡ length s = v ∙ sym (lesser-right to (length s) (omega arith)) in
          take_all (e - a) (drop a s) (omega (arith, length-drop a s)) ∙ sym (take_all (to - a) (drop a s) (omega (arith, length-drop a s)))

nothing : (m n : ℕ) → ◌≡◌ {A = List ℕ} (take m []) (take n [])
nothing m n = take_all m [] (omega arith) ∙ sym (take_all n [] (omega arith))

pub part_cut : (s : List ℕ) (from to : ℕ) → part_of s (lesser from (length s)) to ≡ part_of s from to
part_cut s from to = go (dec_lt from (length s))
  where
    go : Dec (from < length s) → part_of s (lesser from (length s)) to ≡ part_of s from to
    go (yes l) = rw (sym (lesser-left from (length s) l)) refl
    go (no l) =
        let q : lesser from (length s) ≡ length s = sym (lesser-right from (length s) (omega arith)) in
        ap (λ (n : ℕ). part_of s n to) q
        ∙ ap (λ (z : List ℕ). take (to - length s) z) (drop_of_length-le s {i = length s} (omega arith))
        ∙ nothing (to - length s) (to - from)
        ∙ ap (λ (z : List ℕ). take (to - from) z) (sym (drop_of_length-le s {i = from} (omega arith)))
