-- What the readers from the first step say of the bytes of s from the place `from` on. The family has `D`, and an arch spans v + 1.
-- "Where it doesn't end in `D`, a path ends in an arch, and an arch holds a path. The first part and the inside are themselves paths of the
-- same family."
--
--   Ends, Stops            s is over, or goes on with `N` or with no step
--   Begun v room s from next size r    the bytes from `from` up to next are a path with this number and this size, at most room
--   PathRead               that, and the path ends there
--   ArchRead v room s from next size r    the bytes from `from` up to next are a path with this number and this size, and `N`: an arch
--                          without its `E`, which spans at most room
--   NoWay v room s         from no point (x, y) with y ≤ x does a walk go by s to (x + room, x + room)
--   PathGot                a path is read, or no walk goes by the bytes from `from` on
--   ArchGot                an arch is read, or no walk goes by `E` and the bytes from `from` on
use Rattle.std.specs.Prelude.{◌≡◌, true, List, [], ◌∷◌, ◌++◌, ℕ, ◌+◌, ◌≤◌, length, drop, Option, Some, None}
use Rattle.arches.specs.Trees.{Tree, Letter, letter_of, size, number, print}
use Rattle.arches.specs.Trees.Letter.{north, east, diag, other}
use Rattle.arches.proofs.Paths.{Walk}
use Rattle.arch.specs.declared.forward.Part.{Part}

abbrev pub Ends : Letter → Type 0
Ends north = Unit {0}
Ends east = ⊥
Ends diag = ⊥
Ends other = Unit {0}

abbrev pub Stops : List ℕ → Type 0
Stops [] = Unit {0}
Stops (b ∷ s) = Ends (letter_of b)

pub record Begun (v room : ℕ) (s : List ℕ) (from next sz r : ℕ) : Type 0 where
  pub tree : Tree true
  pub shown : drop from s ≡ print true v tree ++ drop next s
  pub within : next ≤ length s
  pub sized : size true v tree ≡ sz
  pub numbered : number true v tree ≡ r
  pub fits : sz ≤ room

pub record PathRead (v room : ℕ) (s : List ℕ) (from next sz r : ℕ) : Type 0 where
  pub begun : Begun v room s from next sz r
  pub stops : Stops (drop next s)

pub record ArchRead (v room : ℕ) (s : List ℕ) (from next sz r : ℕ) : Type 0 where
  pub tree : Tree true
  pub shown : drop from s ≡ print true v tree ++ (78 ∷ drop next s)
  pub within : next ≤ length s
  pub sized : size true v tree ≡ sz
  pub numbered : number true v tree ≡ r
  pub fits : sz + v + 1 ≤ room

unfoldable pub NoWay : ℕ → ℕ → List ℕ → Type 0
NoWay v room s = (x y : ℕ) → y ≤ x → Walk true v x y s (x + room) → ⊥

abbrev pub PathGot : ℕ → ℕ → List ℕ → ℕ → Option Part → Type 0
PathGot v room s from (Some p) = PathRead v room s from p.next p.size p.number
PathGot v room s from None = NoWay v room (drop from s)

abbrev pub ArchGot : ℕ → ℕ → List ℕ → ℕ → Option Part → Type 0
ArchGot v room s from (Some p) = ArchRead v room s from p.next p.size p.number
ArchGot v room s from None = NoWay v room (69 ∷ drop from s)
