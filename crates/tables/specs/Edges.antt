-- Edges over the grid, from their end backwards: whether one is valid, its number, and the edge of a number. Cited from the
-- backward-order theorem, whose reader is `grid` and whose words are `letters_back`.
--
--   walk_end        the end (x, y), if the wall allows it
--   is_walk       whether the bytes e are an edge to (x, y)
--   walk_number     its number (001, algorithm 7)
--   walk_at       the edge of the number r, as bytes (001, algorithm 8)
--   brought_at    what step i brings to cell p: what stands as far back as off says, and the first zero where that is before the table
--   Summed       what the first n steps bring to it can be read, and all of it fits
--   Reads        the same of all steps, where p is the cell of (x, y)
--   Sought       step l is the last one of the number r, and rest the number of what stands before it
use Rattle.std.specs.Prelude.{◌≡◌, Bool, List, map, reverse, ℕ, ◌+◌, ◌-◌, ◌^◌, ◌≤◌, ◌<◌, length, get_or}
use Rattle.std.proofs.Math.Option.{Option}
use Rattle.howmany.specs.Sum.{sum, Falls}
use Rattle.backward.specs.Reader.{valid, rank, unrank}
use Rattle.backward.specs.Walk.{enter}
use Rattle.backward.specs.Grid.{Spot, grid, way}
use Rattle.tables.specs.Form.{steps_in, spot, via}
use Rattle.letters.specs.Letters.{glyph_of, letters_back}
use Rattle.tables.specs.declared.Wall.{Wall}

abbrev pub walk_end : ℕ → Wall → List ℕ → List ℕ → ℕ → ℕ → Option Spot
walk_end k f sa sc x y = enter (grid (steps_in k f sa sc)) (way (steps_in k f sa sc)) (spot x y)

unfoldable pub is_walk : Bool → ℕ → Wall → List ℕ → List ℕ → ℕ → ℕ → List ℕ → Bool
is_walk lettered k f sa sc x y e = valid (grid (steps_in k f sa sc)) (letters_back lettered e) (walk_end k f sa sc x y)

unfoldable pub walk_number : Bool → ℕ → Wall → List ℕ → List ℕ → ℕ → ℕ → List ℕ → ℕ
walk_number lettered k f sa sc x y e = rank (grid (steps_in k f sa sc)) (letters_back lettered e) (walk_end k f sa sc x y)

unfoldable pub walk_at : Bool → ℕ → Wall → List ℕ → List ℕ → ℕ → ℕ → ℕ → List ℕ
walk_at lettered k f sa sc x y r = map (glyph_of lettered) (reverse (unrank (grid (steps_in k f sa sc)) (walk_end k f sa sc x y) r))

abbrev pub brought_at : List ℕ → List ℕ → ℕ → ℕ → ℕ
brought_at off val p i = get_or val (p - get_or off i 0) 0

pub record Summed (n : ℕ) (off val : List ℕ) (p : ℕ) : Type 0 where
  pub most : n ≤ 8
  pub inside : p < length val
  pub fits : sum (brought_at off val p) n < 2 ^ 64

pub record Reads (k : ℕ) (f : Wall) (sa sc off val : List ℕ) (x y p : ℕ) : Type 0 where
  pub most : k ≤ 8
  pub inside : p < length val
  pub says : (i : ℕ) → i < k → brought_at off val p i ≡ via k f sa sc x y i
  pub fits : sum (via k f sa sc x y) k < 2 ^ 64

pub record Sought (g : ℕ → ℕ) (k r l rest : ℕ) : Type 0 where
  pub falls : Falls g k r l
  pub left : sum g l + rest ≡ r
