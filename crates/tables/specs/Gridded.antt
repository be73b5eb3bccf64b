-- What the table's laws need of a job: its edges are the walks of a grid. A family of the grid is one value of `Gridded`.
--
--   Agree k x y               two places are one, or neither is a step's
--   entered G q               the spot q, if the grid G lets a walk be there
--   Gridded J lettered G q    the edges of the job J, written N E D where lettered is true and else in digits, are the walks of the grid G to the spot q
use Rattle.std.specs.Prelude.{◌≡◌, Bool, List, ℕ, ◌≤◌, ◌<◌, T}
use Rattle.std.proofs.Math.Option.{Option}
use Rattle.backward.specs.Reader.{valid, rank, unrank}
use Rattle.backward.specs.Walk.{enter}
use Rattle.backward.specs.Grid.{Spot, Steps, grid, way, Onward, paths}
use Rattle.rules.specs.Jobs.{Job, steps_of}
use Rattle.rules.specs.Valid.{place, at, is_edge}
use Rattle.rules.specs.Words.{word_of, spelt}
use Rattle.rules.specs.Counts.{count_of}
use Rattle.rules.specs.Numbers.{number_of, edge_of}
use Rattle.letters.specs.Letters.{ordinal_of, glyph_of}

pub data Agree (k x y : ℕ) : Type 0 where
  same : x ≡ y → Agree k x y
  both : k ≤ x → k ≤ y → Agree k x y

abbrev pub entered : Steps → Spot → Option Spot
entered G q = enter (grid G) (way G) q

pub record Gridded (J : Job) (lettered : Bool) (G : Steps) (q : Spot) : Type 0 where
  pub places : (b : ℕ) → Agree G.k (ordinal_of lettered b) (place b (steps_of J))
  pub glyphs : (i : ℕ) → i < G.k → glyph_of lettered i ≡ (at (steps_of J) i).letter
  pub onward : Onward G
  pub walks : (e : List ℕ) → is_edge J e ≡ valid (grid G) (word_of J e) (entered G q)
  pub numbers : (e : List ℕ) → T (is_edge J e) → number_of J e ≡ rank (grid G) (word_of J e) (entered G q)
  pub spells : (r : ℕ) → r < paths G q → edge_of J r ≡ spelt J (unrank (grid G) (entered G q) r)
  pub counts : count_of J ≡ paths G q
