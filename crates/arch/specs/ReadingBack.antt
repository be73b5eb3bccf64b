-- What the reader from the last step says of the bytes s that it is handed: the front of a Dyck path.
--
--   Go x y s X Y          from (x, y) the bytes s go by steps to (X, Y), y ≤ x after each
--   NoNorth s at          the front of s before `at` is empty, or does not end with `N`
--   NoFront room s        no walk from the start goes by s to a point with y up to room
--   Ok room s at size r   from `at` on s is a path with this size and number, the longest one, and no larger than room
--   Got                   that, or that no walk goes by s
use Rattle.std.specs.Prelude.{◌≡◌, false, ◌≢◌, List, [], ◌∷◌, ◌++◌, ℕ, ◌-◌, ◌≤◌, ◌<◌, get_or, length, take, Option, Some, None}
use Rattle.arches.specs.Trees.{Tree, letter_of, size, number, print}
use Rattle.arches.proofs.Paths.{Next}
use Rattle.arch.specs.declared.reverse.Part.{Part}

unfoldable pub Go : ℕ → ℕ → List ℕ → ℕ → ℕ → Type 0
Go x y [] X Y = (x ≡ X) × (y ≡ Y)
Go x y (b ∷ s) X Y = Next false 0 (λ x' y'. Go x' y' s X Y) (letter_of b) x y

unfoldable pub NoNorth : List ℕ → ℕ → Type 0
NoNorth s at = 0 < at → get_or s (at - 1) 0 ≢ 78

unfoldable pub NoFront : ℕ → List ℕ → Type 0
NoFront room s = (X Y : ℕ) → Y ≤ room → Go 0 0 s X Y → ⊥

pub record Ok (room : ℕ) (s : List ℕ) (at sz r : ℕ) : Type 0 where
  pub tree : Tree false
  pub shown : s ≡ take at s ++ print false 0 tree
  pub sized : size false 0 tree ≡ sz
  pub numbered : number false 0 tree ≡ r
  pub within : at ≤ length s
  pub small : sz ≤ room
  pub stops : NoNorth s at

abbrev pub Got : ℕ → List ℕ → Option Part → Type 0
Got room s (Some p) = Ok room s p.at p.size p.number
Got room s None = NoFront room s
