-- What a caller of `calls` knows of a block first, and what demand 3 says of building.
--
--   Accepted b c            `calls::count` answers c on the block b, so refusals 1 to 4 pass over it
--   Spelt e output x after  the edge e is written to the output's front, or refused with 7 exactly if it is longer
use Rattle.std.specs.Prelude.{◌≡◌, List, ◌++◌, ℕ, ◌≤◌, ◌<◌, length, drop}
use Rattle.std.specs.Prelude.{Result, Ok, Err}
use Rattle.job.specs.declared.Refusal.{Refusal}
use Rattle.job.specs.declared.Refusal.TheVariants.{Room}
use Rattle.calls.specs.Meets.{CountMeets}

abbrev pub Accepted : List ℕ → ℕ → Type 0
Accepted b c = CountMeets b (Ok c)

-- "An accepted write fills the front of the output, reports its length and touches nothing behind it."; "7 Room: the output is shorter
-- than this answer"; "A refusal returns its number alone and writes nothing"
pub record Spelt (e output : List ℕ) (x : Result ℕ Refusal) (after : List ℕ) : Type 0 where
  pub fits : length e ≤ length output → (x ≡ Ok (length e)) × (after ≡ e ++ drop (length e) output)
  pub short : length output < length e → (x ≡ Err Room) × (after ≡ output)
