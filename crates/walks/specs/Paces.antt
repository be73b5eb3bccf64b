-- A walk on unsigned numbers: x, and the height h = y + 3x + 128, which no step lowers.
--
--   lettered_paces, paired_paces, paces_in f j, paces_of j    the steps of a held job as pairs: of families 1 to 5, 6 and 7, f, and of any
--   letter_of lettered k b       which of the k steps the byte b is; k if none
--   LetterOf p b r              r is that step, if any
--   kept_by square fenced p      the "stays" rule at a point
--   within p x h                the same at x and h, and that y isn't beyond m, where the letters are N E D
--   Strides .. ss               the first k of a and b, each b raised by 128, are the steps ss
--   PacesOf p J                 p has the steps, the rules and the end of the job J; Paced p: of some job
--   StopsAs p e r               r says where e goes wrong, for every job whose paces p has
--   ChecksAs p es r             r says which of es goes wrong first, and where
use Rattle.std.specs.Prelude.{◌≡◌, Bool, true, false, not, ◌&&◌, List, [], ◌∷◌, ℕ, ◌+◌, ◌*◌, ◌≤◌, ◌<◌, leb, ltb, pos, length, get_or, Option, MatchOption}
use Rattle.howmany.specs.Choose.{pick}
use Rattle.rules.specs.Points.{Is, Point, Step, origin, leℤ}
use Rattle.rules.specs.Jobs as rules
use Rattle.rules.specs.Jobs.{steps_of, start_of, end_of, stays, is_directed}
use Rattle.rules.specs.Valid.{place, at}
use Rattle.rules.specs.Places.{place_of}
use Rattle.letters.specs.Letters as letters
use Rattle.job.specs.declared.Family.{Family}
use Rattle.job.specs.declared.Family.TheVariants.{NorthEast, Dyck, Delannoy, Schroder, Motzkin, Open, Fenced}
use Rattle.job.specs.declared.Job.{Job}
use Rattle.walks.specs.declared.paces.Paces.{Paces}
use Rattle.walks.specs.Walks.{found, first_wrong}

-- "`N` (0,1), `E` (1,0)", "`D` (1,1)", and Motzkin's "`N` (0,2), `E` (2,0)"
unfoldable pub lettered_paces : Bool → ℕ → ℕ → ℕ → ℕ → Paces
lettered_paces square n m k u = record {
  lettered = true;
  square = square;
  fenced = false;
  n = n;
  m = m;
  k = k;
  a = 0 ∷ u ∷ 1 ∷ 0 ∷ 0 ∷ 0 ∷ 0 ∷ 0 ∷ [];
  b = (128 + u) ∷ 128 ∷ 129 ∷ 0 ∷ 0 ∷ 0 ∷ 0 ∷ 0 ∷ [];
}

-- "the first k pairs"
abbrev pub paired_paces : Bool → Job → Paces
paired_paces fenced j = record { lettered = false; square = false; fenced = fenced; n = j.n; m = j.m; k = j.k; a = j.a; b = j.b }

abbrev pub paces_in : Family → Job → Paces
paces_in NorthEast j = lettered_paces false j.n j.m 2 1
paces_in Dyck j = lettered_paces true j.n (j.n + 128) 2 1
paces_in Delannoy j = lettered_paces false j.n j.m 3 1
paces_in Schroder j = lettered_paces true j.n (j.n + 128) 3 1
paces_in Motzkin j = lettered_paces true j.n (j.n + 128) 3 2
paces_in Open j = paired_paces false j
paces_in Fenced j = paired_paces true j

unfoldable pub paces_of : Job → Paces
paces_of j = paces_in j.family j

-- "`1` to k, the first k pairs" in families 6 and 7
unfoldable pub letter_of : Bool → ℕ → ℕ → ℕ
letter_of lettered k b =
    let place = letters.ordinal_of lettered b in
    pick (ltb place k) place k

abbrev pub LetterOf : Paces → ℕ → Option ℕ → Type 0
LetterOf p b r =
    let l = letter_of p.lettered p.k b in
    MatchOption r (p.k ≤ l) (λ i. (i < p.k) × (i ≡ l))

-- the column "Stays": y ≤ x in families 2, 4 and 5, y ≥ 0 in family 7
abbrev pub kept_by : Bool → Bool → Point → Bool
kept_by square fenced p = pick square (leℤ p.y (pos p.x)) (pick fenced (leℤ (pos 0) p.y) true)

abbrev pub within_by : Bool → Bool → Bool → ℕ → ℕ → ℕ → Bool
within_by true square fenced m x h = pick square (leb h (4 * x + 128)) true && leb h (3 * x + m)
within_by false square fenced m x h = pick fenced (leb (3 * x + 128) h) true

abbrev pub within : Paces → ℕ → ℕ → Bool
within p x h = within_by p.lettered p.square p.fenced p.m x h

pub record Strides (lettered : Bool) (k : ℕ) (a b : List ℕ) (ss : List Step) : Type 0 where
  pub many : length ss ≡ k
  pub letters : (c : ℕ) → place c ss ≡ letter_of lettered k c
  pub a_is : (i : ℕ) → i < k → (at ss i).a ≡ get_or a i 0
  pub b_is : (i : ℕ) → i < k → Is (at ss i).b (get_or b i 0) 128
  pub a_most : (i : ℕ) → i < k → get_or a i 0 ≤ 3
  pub b_most : (i : ℕ) → i < k → get_or b i 0 ≤ 131
  pub a_least : lettered ≡ false → (i : ℕ) → i < k → 1 ≤ get_or a i 0
  pub upward : (i : ℕ) → i < k → 128 ≤ get_or b i 0 + 3 * get_or a i 0

pub record PacesOf (p : Paces) (J : rules.Job) : Type 0 where
  pub n_is : (end_of J).x ≡ p.n
  pub n_most : p.n ≤ 64
  pub m_is : Is (end_of J).y p.m 128
  pub m_most : p.m ≤ 224
  pub m_least : p.lettered ≡ true → 128 ≤ p.m
  pub few : p.k ≤ 8
  pub starts : start_of J ≡ origin
  pub strides : Strides p.lettered p.k p.a p.b (steps_of J)
  pub directs : is_directed J ≡ not p.lettered
  pub apart : (p.lettered ≡ true → p.fenced ≡ false) × (p.lettered ≡ false → p.square ≡ false)
  pub keeps : (q : Point) → stays J q ≡ kept_by p.square p.fenced q

pub record Paced (p : Paces) : Type 0 where
  pub job : rules.Job
  pub paces : PacesOf p job

abbrev pub StopsAs : Paces → List ℕ → Option ℕ → Type 0
StopsAs p e r = (J : rules.Job) → PacesOf p J → r ≡ found (place_of J e)

abbrev pub ChecksAs : Paces → List (List ℕ) → Option (ℕ × ℕ) → Type 0
ChecksAs p es r = (J : rules.Job) → PacesOf p J → r ≡ found (first_wrong J es)
