-- The steps of an edge of families 6 and 7, as a held job has them.
--
--   Slopes b e J    each byte of e is one of eight digits, and what its step adds to the height is b's entry for it, raised by 128
--   Digits j e      the same of a held job's entries and some job
--   RisesAs j e r   r says where e dips
use Rattle.std.specs.Prelude.{◌≡◌, List, ℕ, ◌-◌, ◌≤◌, ◌<◌, length, get_or, Option}
use Rattle.rules.specs.Jobs as rules
use Rattle.rules.specs.Jobs.{one}
use Rattle.rules.specs.Questions.{slope, dip_of}
use Rattle.job.specs.declared.Job.{Job}
use Rattle.walks.specs.Walks.{found}
use Rattle.rules.specs.Points.{Is}

pub record Slopes (b e : List ℕ) (J : rules.Job) : Type 0 where
  pub least : (i : ℕ) → i < length e → one ≤ get_or e i 0
  pub most : (i : ℕ) → i < length e → get_or e i 0 - one < 8
  pub adds : (i : ℕ) → i < length e → Is (slope J e i) (get_or b (get_or e i 0 - one) 0) 128

pub record Digits (j : Job) (e : List ℕ) : Type 0 where
  pub job : rules.Job
  pub slopes : Slopes j.b e job

-- "yes exactly if a step with b below 0 has a later step with b above 0; with the place of the first such later step, counted from 0"
abbrev pub RisesAs : Job → List ℕ → Option ℕ → Type 0
RisesAs j e r = (J : rules.Job) → Slopes j.b e J → r ≡ found (dip_of J e)
