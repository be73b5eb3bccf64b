-- Steps in lower heights: how far each lies above a slope, or below it in a mirrored shape. Below, t says whether it is mirrored.
--
--   Lifted k sa sc            each of the first k steps goes up by 3 a column, give or take 3
--   Beside t y l              the height y is not below the level l; where t, it is not above
--   Height t y l r            r is how far y is from l
--   Bounds t d k sa sc        the slope d is no steeper than any of the first k steps; where t, none is steeper than d
--   Heights t d sa sc up i    the first i steps' heights from the slope d are laid in up, and the others are 0
--   Turned t f d r            the wall r is the wall f in the heights from the slope d
use Rattle.std.specs.Prelude.{◌≡◌, Bool, true, false, List, ℕ, ◌+◌, ◌*◌, ◌-◌, ◌≤◌, ◌<◌, length, get_or}
use Rattle.tables.specs.Form.{wall}
use Rattle.tables.specs.declared.Wall.{Wall}

pub record Lifted (k : ℕ) (sa sc : List ℕ) : Type 0 where
  pub few : k ≤ 8
  pub ahead : (i : ℕ) → i < k → 1 ≤ get_or sa i 0
  pub near : (i : ℕ) → i < k → get_or sa i 0 ≤ 3
  pub least : (i : ℕ) → i < k → 3 * get_or sa i 0 ≤ get_or sc i 0 + 3
  pub most : (i : ℕ) → i < k → get_or sc i 0 ≤ 3 * get_or sa i 0 + 3

abbrev pub Beside : Bool → ℕ → ℕ → Type 0
Beside true y l = y ≤ l
Beside false y l = l ≤ y

abbrev pub Height : Bool → ℕ → ℕ → ℕ → Type 0
Height true y l r = r + y ≡ l
Height false y l r = r + l ≡ y

pub record Bounds (t : Bool) (d k : ℕ) (sa sc : List ℕ) : Type 0 where
  pub small : d ≤ 6
  pub each : (i : ℕ) → i < k → Beside t (get_or sc i 0) (d * get_or sa i 0)

pub record Heights (t : Bool) (d : ℕ) (sa sc up : List ℕ) (i : ℕ) : Type 0 where
  pub eight : length up ≡ 8
  pub each : (j : ℕ) → j < i → Height t (get_or sc j 0) (d * get_or sa j 0) (get_or up j 0)
  pub flat : (j : ℕ) → i ≤ j → j < 8 → get_or up j 0 ≡ 0

abbrev pub Turned : Bool → Wall → ℕ → Wall → Type 0
Turned true f d r = (x y : ℕ) → y ≤ d * x → wall r x y ≡ wall f x (d * x - y)
Turned false f d r = (x y : ℕ) → wall r x y ≡ wall f x (y + d * x)
