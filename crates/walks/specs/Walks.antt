-- What the walker answers of a block and of strings.
--
--   found o            what is looked for, as the code has it; finding a: the same of an answer on it
--   walk_of a e        where e goes wrong as an edge of the job of a, if it does
--   first_of p w       the place p of a first string, or what is wrong behind it
--   first_wrong J es   the first of the strings es that is no valid edge of the job J, and its place
--   check_of a es      the same of the job of a
use Rattle.std.specs.Prelude as code
use Rattle.std.specs.Prelude.{List, [], ◌∷◌, ℕ, suc, Some, None, Result, Ok, Err}
use Rattle.std.proofs.Math.Option.{Option, none, some}
use Rattle.rules.specs.Jobs.{Job}
use Rattle.rules.specs.Places.{place_of}
use Rattle.rules.specs.Refusals.{Answer, and_then}
use Rattle.rules.specs.Refusals.Answer.{accepted, refused}
use Rattle.job.specs.declared.Refusal.{Refusal}
use Rattle.job.specs.Replies.{named}

abbrev pub found : {A : Type 0} → Option A → code.Option A
found none = None
found (some x) = Some x

abbrev pub finding : {A : Type 0} → Answer (Option A) → Result (code.Option A) Refusal
finding (accepted o) = Ok (found o)
finding (refused r) = Err (named r)

abbrev pub walk_of : Answer Job → List ℕ → Answer (Option ℕ)
walk_of a e = and_then a (λ J. accepted (place_of J e))

-- the place of a first string, or what is wrong behind it
abbrev pub first_of : Option ℕ → Option (ℕ × ℕ) → Option (ℕ × ℕ)
first_of (some p) o = some (0, p)
first_of none none = none
first_of none (some w) = some (suc w.0, w.1)

unfoldable pub first_wrong : Job → List (List ℕ) → Option (ℕ × ℕ)
unfolding place_of
first_wrong J [] = none
first_wrong J (e ∷ es) = first_of (place_of J e) (first_wrong J es)

abbrev pub check_of : Answer Job → List (List ℕ) → Answer (Option (ℕ × ℕ))
check_of a es = and_then a (λ J. accepted (first_wrong J es))
