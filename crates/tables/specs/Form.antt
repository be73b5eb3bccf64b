-- The grid of families 1, 3, 6 and 7 in the form that the code takes: eight steps in two lists, of which the first k are there.
--
--   unwalled                   no wall
--   fence g s              the fence g · x ≤ y + s
--   wall f x y             whether the wall f lets a walk be at (x, y): on a fence or above it, on a roof or below it
--   steps_in k f sa sc      the steps (sa i, sc i) for i below k, behind the wall f
--   spot x y               the point (x, y)
--   walks_to k f sa sc x y        how many walks lead to (x, y)
--   via k f sa sc x y i    how many of them have step i as their last one
--   Slight f               the wall f has a slope of 6 at most, and starts at 32 at most
--   Form                   what the code asks of its steps and of the end (ex, ey); a step that isn't there has a = 100 and c = 0
use Rattle.std.specs.Prelude.{◌≡◌, Bool, false, List, ℕ, ◌+◌, ◌*◌, ◌≤◌, ◌<◌, leb, length, get_or}
use Rattle.howmany.specs.Choose.{pick}
use Rattle.backward.specs.Grid.{Spot, Steps, off, reach, paths}
use Rattle.tables.specs.declared.Wall.{Wall}

-- "Stays: y ≥ 0" of family 7 is the fence of slope 3 under the shear (x, y + 3x); slid down by d it is that of slope 3 - d, mirrored at d
-- the roof of slope d - 3
unfoldable pub wall : Wall → ℕ → ℕ → Bool
wall f x y = pick f.roof (leb y (f.slope * x + f.start)) (leb (f.slope * x) (y + f.start))

abbrev pub fence_of : ℕ → ℕ → Wall
fence_of g s = record { roof = false; slope = g; start = s }

abbrev pub unwalled : Wall
unwalled = fence_of 0 0

abbrev pub steps_in : ℕ → Wall → List ℕ → List ℕ → Steps
steps_in k f sa sc = record { k = k; a = λ i. get_or sa i 0; c = λ i. get_or sc i 0; stays = wall f }

abbrev pub spot : ℕ → ℕ → Spot
spot x y = record { x = x; y = y }

unfoldable pub walks_to : ℕ → Wall → List ℕ → List ℕ → ℕ → ℕ → ℕ
walks_to k f sa sc x y = paths (steps_in k f sa sc) (spot x y)

unfoldable pub via : ℕ → Wall → List ℕ → List ℕ → ℕ → ℕ → ℕ → ℕ
via k f sa sc x y i = pick (reach (steps_in k f sa sc) (spot x y) i) (paths (steps_in k f sa sc) (off (steps_in k f sa sc) (spot x y) i)) 0

pub record Slight (f : Wall) : Type 0 where
  pub slope_le : f.slope ≤ 6
  pub start_le : f.start ≤ 32

-- families 6 and 7 have top 12, ex to 32 and ey to 96; families 1 and 3 have top 1, ex to 97 and ey to 33
pub record Form (k : ℕ) (f : Wall) (sa sc : List ℕ) (top ex ey : ℕ) : Type 0 where
  pub eight : length sa ≡ 8
  pub eight_too : length sc ≡ 8
  pub some : 1 ≤ k
  pub most : k ≤ 8
  pub ahead : (i : ℕ) → i < k → 1 ≤ get_or sa i 0
  pub near : (i : ℕ) → i < k → get_or sa i 0 ≤ 3
  pub away : (i : ℕ) → k ≤ i → i < 8 → get_or sa i 0 ≡ 100
  pub flat : (i : ℕ) → k ≤ i → i < 8 → get_or sc i 0 ≡ 0
  pub low : (i : ℕ) → i < 8 → get_or sc i 0 ≤ top
  pub top_le : top ≤ 12
  pub slight : Slight f
  pub ex_le : ex ≤ 97
  pub ey_le : ey ≤ 96
  pub cells : (ex + 2) * (top + ey + 1) ≤ 3712
