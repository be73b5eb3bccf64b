-- The part of an arch's number that its two parts' numbers don't give, where the two parts come to m.
--
--   offset d v m i            how many paths stand before the arches whose first part has the size i
--   Falls d v m r at rest     of the arches alone, number r has a first part of size `at`, and rest is left for the parts' numbers
use Rattle.std.specs.Prelude.{◌≡◌, Bool, ℕ, ◌+◌, ◌-◌, ◌*◌, ◌≤◌, ◌<◌}
use Rattle.arches.specs.Counts.{if_d, count, before}

unfoldable pub offset : Bool → ℕ → ℕ → ℕ → ℕ
offset d v m i = if_d d (count d v (m + v)) + before d v m i

pub record Falls (d : Bool) (v m r at rest : ℕ) : Type 0 where
  pub below : at ≤ m
  pub adds : before d v m at + rest ≡ r
  pub fits : rest < count d v at * count d v (m - at)
