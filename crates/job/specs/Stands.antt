-- Which job of document 01 a held job stands for.
--
--   Level j m          the end of families 1 and 3: n and m are 0 to 64
--   Directed j m ps    the end and the pairs of families 6 and 7, in their ranges
--   start_held j        the height at which the walks of the held job start
--   family_number f    the number of a family
--   Stands j J         the held job j stands for the job J
use Rattle.std.specs.Prelude.{◌≡◌, ℕ, ◌+◌, ◌<◌, ◌≤◌, true, false, List, length, ℤ, slice_index}
use Rattle.rules.specs.Jobs as rules
use Rattle.rules.specs.Jobs.{Pair, pair_at}
use Rattle.rules.specs.Jobs.Job.{north_east, dyck, delannoy, schroder, motzkin, directed}
use Rattle.job.specs.declared.Family.{Family}
use Rattle.job.specs.declared.Family.TheVariants.{NorthEast, Dyck, Delannoy, Schroder, Motzkin, Open, Fenced}
use Rattle.job.specs.declared.Job.{Job}
use Rattle.rules.specs.Points.{Is}

pub record Level (j : Job) (m : ℕ) : Type 0 where
  pub n_most : j.n ≤ 64
  pub m_most : m ≤ 64
  pub m_is : j.m ≡ 128 + m

pub record Directed (j : Job) (m : ℤ) (pairs : List Pair) : Type 0 where
  pub n_most : j.n ≤ 32
  pub m_is : Is m j.m 128
  pub m_least : 32 ≤ j.m
  pub m_most : j.m ≤ 224
  pub some : 1 ≤ j.k
  pub few : j.k ≤ 8
  pub many : length pairs ≡ j.k
  pub a_is : (i : ℕ) → i < j.k → slice_index j.a i ≡ (pair_at pairs i).a
  pub a_least : (i : ℕ) → i < j.k → 1 ≤ slice_index j.a i
  pub a_most : (i : ℕ) → i < j.k → slice_index j.a i ≤ 3
  pub b_is : (i : ℕ) → i < j.k → Is (pair_at pairs i).b (slice_index j.b i) 128
  pub b_least : (i : ℕ) → i < j.k → 125 ≤ slice_index j.b i
  pub b_most : (i : ℕ) → i < j.k → slice_index j.b i ≤ 131

-- walks start at the height 0
abbrev pub start_held : Job → ℕ
start_held j = 0

abbrev pub family_number : Family → ℕ
family_number NorthEast = 1
family_number Dyck = 2
family_number Delannoy = 3
family_number Schroder = 4
family_number Motzkin = 5
family_number Open = 6
family_number Fenced = 7

pub data Stands (j : Job) : rules.Job → Type 0 where
  as_north_east : {m : ℕ} → j.family ≡ NorthEast → Level j m → Stands j (north_east j.n m)
  as_dyck : j.family ≡ Dyck → j.n ≤ 64 → Stands j (dyck j.n)
  as_delannoy : {m : ℕ} → j.family ≡ Delannoy → Level j m → Stands j (delannoy j.n m)
  as_schroder : j.family ≡ Schroder → j.n ≤ 64 → Stands j (schroder j.n)
  as_motzkin : j.family ≡ Motzkin → j.n ≤ 64 → Stands j (motzkin j.n)
  as_open : {m : ℤ} {pairs : List Pair} → j.family ≡ Open → Directed j m pairs → Stands j (directed false j.n m (start_held j) pairs)
  as_fenced : {m : ℤ} {pairs : List Pair} → j.family ≡ Fenced → Directed j m pairs → Stands j (directed true j.n m (start_held j) pairs)
