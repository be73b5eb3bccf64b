-- Where a string that is no valid edge goes wrong. The sentences are document 02's, L3; no refusal carries the place.
--
--   step_of J b       the step whose letter is the byte b, if there is one; is_step J b: whether there is
--   low J p          whether y isn't beyond the end, in families 1 to 5; in 6 and 7 it may be
--   inside J p       whether p isn't beyond the end
--   keeps J p b      whether the byte b at p is a step of the job and breaks nothing
--   reached J p e    the point after the bytes e from p
--   stop_from J p e   how many steps of e keep the rules, from p on, before the first that doesn't; all, if all do
--   stop_of J e       the same of a whole string
--   place_of J e      the place where e goes wrong; none for a valid edge
--   Fine J e i       the step at i is one of the job's and breaks nothing
--   Stops J e p      every step before p is fine, and that at p isn't, or p is the length
--   Wrong J e p      and e isn't valid
use Rattle.std.specs.Prelude.{Bool, not, ◌&&◌, ◌||◌, List, [], ◌∷◌, ℕ, suc, ◌≤◌, ◌<◌, T, leb, ltb, length, get_or, take}
use Rattle.std.proofs.Math.Option.{Option}
use Rattle.howmany.specs.Choose.{pick, only_if}
use Rattle.rules.specs.Points.{Point, Step, leℤ, moved}
use Rattle.rules.specs.Jobs.{Job, steps_of, start_of, end_of, stays, is_directed}
use Rattle.rules.specs.Valid.{place, at, walks, is_edge, Valid}

abbrev pub step_of : Job → ℕ → Step
step_of J b = at (steps_of J) (place b (steps_of J))

-- "the first step whose byte is no step of the job"
abbrev pub is_step : Job → ℕ → Bool
is_step J b = ltb (place b (steps_of J)) (length (steps_of J))

-- "or x is beyond the end (y too in families 1 to 5)"
abbrev pub low : Job → Point → Bool
low J p = is_directed J || leℤ p.y (end_of J).y

abbrev pub inside : Job → Point → Bool
inside J p = leb p.x (end_of J).x && low J p

-- "a step of the job", "after which the "stays" rule" holds and the point isn't beyond the end
abbrev pub keeps : Job → Point → ℕ → Bool
keeps J p b = let q = moved p (step_of J b) in is_step J b && (stays J q && inside J q)

unfoldable pub reached : Job → Point → List ℕ → Point
unfolding place
reached J p [] = p
reached J p (b ∷ e) = reached J (moved p (step_of J b)) e

unfoldable pub stop_from : Job → Point → List ℕ → ℕ
unfolding place
stop_from J p [] = 0
stop_from J p (b ∷ e) = pick (keeps J p b) (suc (stop_from J (moved p (step_of J b)) e)) 0

abbrev pub stop_of : Job → List ℕ → ℕ
stop_of J e = stop_from J (start_of J) e

-- "if there is none, the length of the string"
unfoldable pub place_of : Job → List ℕ → Option ℕ
unfolding walks stop_from
place_of J e = only_if (not (is_edge J e)) (stop_of J e)

-- ---- the same by points and bytes at their index, with no walk that stops

abbrev pub Fine : Job → List ℕ → ℕ → Type 0
Fine J e i = T (keeps J (reached J (start_of J) (take i e)) (get_or e i 0))

pub record Stops (J : Job) (e : List ℕ) (p : ℕ) : Type 0 where
  pub within : p ≤ length e
  pub fine : (i : ℕ) → i < p → Fine J e i
  pub broken : p < length e → ¬ Fine J e p

pub record Wrong (J : Job) (e : List ℕ) (p : ℕ) : Type 0 where
  pub stops : Stops J e p
  pub invalid : ¬ Valid J e
