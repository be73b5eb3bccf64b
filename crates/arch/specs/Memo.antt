-- The memo of the Dyck counts, lent along by a count that calls itself on both smaller parts: "C(0) = 1; C(n) = sum over i from 0 to n-1
-- of C(i)·C(n-1-i)."
--
--   Filled k l  the entries of l below k are the counts
--   Good l      each entry is 0, which says that it is not worked out yet, or it and all before it are the counts for their places
--   Kept l m    m is as long as l, and what is worked out in l is the same in m
use Rattle.std.specs.Prelude.{◌≡◌, false, ◌≢◌, List, ℕ, ◌+◌, ◌<◌, get_or, length}
use Rattle.arches.specs.Counts.{count}

unfoldable pub Filled : ℕ → List ℕ → Type 0
Filled k l = (j : ℕ) → j < k → get_or l j 0 ≡ count false 0 j

unfoldable pub Good : List ℕ → Type 0
unfolding Filled
Good l = (k : ℕ) → get_or l k 0 ≢ 0 → Filled (k + 1) l

pub record Kept (l m : List ℕ) : Type 0 where
  pub long : length m ≡ length l
  pub same : (k : ℕ) → get_or l k 0 ≢ 0 → get_or m k 0 ≡ get_or l k 0
