-- The counts that every function of the crate is lent.
--
--   Table d v n l    l begins with the counts for 0, 1, .., n of Dyck, Schroder or Motzkin, and the last fits 64 bits
use Rattle.std.specs.Prelude.{◌≡◌, Bool, false, List, ℕ, ◌^◌, ◌≤◌, ◌<◌, get_or, length}
use Rattle.arches.specs.Counts.{count}

pub record Table (d : Bool) (v n : ℕ) (l : List ℕ) : Type 0 where
  -- a family with no `D` is Dyck, whose arches span 1; Schroder's and Motzkin's span 1 or 2
  pub dyck : d ≡ false → v ≡ 0
  pub narrow : v ≤ 1
  pub long : n < length l
  pub full : (k : ℕ) → k ≤ n → get_or l k 0 ≡ count d v k
  pub fits : count d v n < 2 ^ 64
  -- the limits are 36, 28 and 45: a table of 46 is long enough, and sums of a few sizes fit
  pub small : n ≤ 45
