-- A job in the grid's form.
--
--   steps_at s, end_at s  the steps and the end of the shape s
--   FormOf s            the shape s is one that the table can be filled for, with no more than the 32 columns of families 6 and 7
--   Shows G q s         the shape s shows the grid G with the end q: slid down, or mirrored
--   Fits J lettered s   the shape s shows a grid of the job and its end
--   Working J s         s says all of the job, whose edges are written in digits: its steps and end
--   Nothing J           nothing leads to the job's end
--   Shaped J s          the one of a shape, the other of none
--   ShapedFor j s       the same, of the job that j stands for
--   Ranged j            the ranges of families 6 and 7
--   Fenced f            the wall f is a fence of slope 3 at most, which starts at 32 at most
--   Laying, Laid j f s  their own steps so far; their own shape, with each height as in the job's own grid, where the end isn't below 0
--   Owned j f s         that shape, or none where the end is below 0
--   Gentle s            the shape s has steps as those families have, and can be lowered
--   Beyond G q          the end q lies below the least steep step of G, or above the steepest
--   Lowered s r         the shape r shows what s shows, or there is none, since nothing leads to its end
--   View t d s          what s must be to be slid down by d, or mirrored at d where t
--   Chosen j f r        the shape r of families 6 and 7, or none
use Rattle.std.specs.Prelude.{◌≡◌, Bool, false, List, ℕ, ◌+◌, ◌*◌, ◌-◌, ◌≤◌, ◌<◌, T, length, get_or, Option, Some, None}
use Rattle.backward.specs.Grid.{Spot, Steps}
use Rattle.backward.specs.Shears.{Slid, Lower, Mirrored, Across}
use Rattle.rules.specs.Jobs as rules
use Rattle.rules.specs.Valid.{Valid}
use Rattle.rules.specs.Counts.{count_of}
use Rattle.job.specs.declared.Job.{Job}
use Rattle.job.specs.Stands.{Stands}
use Rattle.tables.specs.Form.{Form, steps_in, spot}
use Rattle.tables.specs.Gridded.{Gridded}
use Rattle.tables.specs.Heights.{Lifted, Beside, Height, Bounds}
use Rattle.tables.specs.declared.Shape.{Shape}
use Rattle.tables.specs.declared.Wall.{Wall}

abbrev pub steps_at : Shape → Steps
steps_at s = steps_in s.k s.wall s.sa s.sc

abbrev pub end_at : Shape → Spot
end_at s = spot s.ex s.ey

pub data Shows (G : Steps) (q : Spot) (s : Shape) : Type 0 where
  slid : (d : ℕ) → Slid d G (steps_at s) → Lower d (end_at s) q → Shows G q s
  mirrored : (d : ℕ) → Mirrored d G (steps_at s) → Across d (end_at s) q → Shows G q s

abbrev pub FormOf : Shape → Type 0
FormOf s = Form s.k s.wall s.sa s.sc s.top s.ex s.ey × (s.ex ≤ 32)

pub record Fits (J : rules.Job) (lettered : Bool) (s : Shape) : Type 0 where
  pub steps : Steps
  pub end : Spot
  pub gridded : Gridded J lettered steps end
  pub shows : Shows steps end s

pub record Working (J : rules.Job) (s : Shape) : Type 0 where
  pub form : FormOf s
  pub fits : Fits J false s

pub record Nothing (J : rules.Job) : Type 0 where
  pub none : count_of J ≡ 0
  pub empty : (e : List ℕ) → Valid J e → ⊥

abbrev pub Shaped : rules.Job → Option Shape → Type 0
Shaped J (Some s) = Working J s
Shaped J None = Nothing J

-- whatever job the held job j stands for
abbrev pub ShapedFor : Job → Option Shape → Type 0
ShapedFor j s = (J : rules.Job) → Stands j J → Shaped J s

pub record Ranged (j : Job) : Type 0 where
  pub n_most : j.n ≤ 32
  pub m_most : j.m ≤ 224
  pub some : 1 ≤ j.k
  pub few : j.k ≤ 8
  pub a_least : (i : ℕ) → i < j.k → 1 ≤ get_or j.a i 0
  pub a_most : (i : ℕ) → i < j.k → get_or j.a i 0 ≤ 3
  pub b_least : (i : ℕ) → i < j.k → 125 ≤ get_or j.b i 0
  pub b_most : (i : ℕ) → i < j.k → get_or j.b i 0 ≤ 131

pub record Fenced (f : Wall) : Type 0 where
  pub no_roof : f.roof ≡ false
  pub slope_le : f.slope ≤ 3
  pub start_le : f.start ≤ 32

-- the first i steps are laid, and the others aren't there
pub record Laying (a b sa sc : List ℕ) (i : ℕ) : Type 0 where
  pub eight : length sa ≡ 8
  pub eight_too : length sc ≡ 8
  pub right : (j : ℕ) → j < i → get_or sa j 0 ≡ get_or a j 0
  pub up : (j : ℕ) → j < i → get_or sc j 0 ≡ get_or b j 0 + 3 * get_or a j 0 - 128
  pub away : (j : ℕ) → i ≤ j → j < 8 → get_or sa j 0 ≡ 100
  pub flat : (j : ℕ) → i ≤ j → j < 8 → get_or sc j 0 ≡ 0

pub record Laid (j : Job) (f : Wall) (s : Shape) : Type 0 where
  pub above : 128 ≤ j.m + 3 * j.n
  pub k_is : s.k ≡ j.k
  pub wall_is : s.wall ≡ f
  pub top_is : s.top ≡ 12
  pub ex_is : s.ex ≡ j.n
  pub ey_is : s.ey ≡ j.m + 3 * j.n - 128
  pub steps : Laying j.a j.b s.sa s.sc j.k

-- no height of the job's own grid is below 0, so nothing leads to an end that is
abbrev pub Owned : Job → Wall → Option Shape → Type 0
Owned j f (Some s) = Laid j f s
Owned j f None = j.m + 3 * j.n < 128

pub record Gentle (s : Shape) : Type 0 where
  pub top_is : s.top ≡ 12
  pub fenced : Fenced s.wall
  pub wide : s.ex ≤ 32
  pub some : 1 ≤ s.k
  pub eight : length s.sa ≡ 8
  pub away : (i : ℕ) → s.k ≤ i → i < 8 → get_or s.sa i 0 ≡ 100
  pub lifted : Lifted s.k s.sa s.sc

pub data Beyond (G : Steps) (q : Spot) : Type 0 where
  below : (d : ℕ) → ((i : ℕ) → i < G.k → d * G.a i ≤ G.c i) → q.y < d * q.x → Beyond G q
  above : (d : ℕ) → ((i : ℕ) → i < G.k → G.c i ≤ d * G.a i) → d * q.x < q.y → Beyond G q

abbrev pub Lowered : Shape → Option Shape → Type 0
Lowered s (Some r) = FormOf r × Shows (steps_at s) (end_at s) r
Lowered s None = Beyond (steps_at s) (end_at s)

-- a mirror's slope is no less than the fence's; the end comes to lie no higher than 3 · 32
pub record View (t : Bool) (d : ℕ) (s : Shape) : Type 0 where
  pub gentle : Gentle s
  pub bounds : Bounds t d s.k s.sa s.sc
  pub end : Beside t s.ey (d * s.ex)
  pub slope : T t → s.wall.slope ≤ d
  pub near : (r : ℕ) → Height t s.ey (d * s.ex) r → r ≤ 96

pub data Chosen (j : Job) (f : Wall) : Option Shape → Type 0 where
  sunk : j.m + 3 * j.n < 128 → Chosen j f None
  lowered : {r : Option Shape} (s : Shape) → Laid j f s → Lowered s r → Chosen j f r
