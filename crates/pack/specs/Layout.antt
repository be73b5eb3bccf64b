-- What is read of a pack.
--
--   edges_in p      the edges of p; pack_in p: its block and its edges
--   Offset p i      offset i stands in p
--   EndsOf p ends   where each edge of p ends stands in ends
--   EdgesAs b es r    r refuses one of es that is no valid edge of the block's job
use Rattle.std.specs.Prelude.{◌≡◌, true, false, List, ℕ, ◌+◌, ◌*◌, ◌≤◌, ◌<◌, length, get_or, Result, MatchResult}
use Rattle.job.specs.declared.Refusal.{Refusal}
use Rattle.job.specs.declared.Refusal.TheVariants.{NotEdge}
use Rattle.rules.specs.Jobs.{Job}
use Rattle.rules.specs.Blocks.{job_answer}
use Rattle.rules.specs.Refusals.Answer.{accepted}
use Rattle.rules.specs.Packs.{shortest, block_in, count_in, edges_from, offset, Pack}
use Rattle.rules.specs.Questions.{all_valid}

abbrev pub edges_in : List ℕ → List (List ℕ)
edges_in p = edges_from p 0 (count_in p)

abbrev pub pack_in : List ℕ → Pack
pack_in p = record { block = block_in p; edges = edges_in p }

-- "c+1 offsets of two bytes at 26"
abbrev pub Offset : List ℕ → ℕ → Type 0
Offset p i = shortest + 2 * i ≤ length p

pub record EndsOf (p ends : List ℕ) : Type 0 where
  pub long : length ends ≡ 200
  pub is : (i : ℕ) → i < count_in p → get_or ends i 0 ≡ offset p (i + 1)

-- "5 Not an edge"
abbrev pub EdgesAs : List ℕ → List (List ℕ) → Result Unit Refusal → Type 0
EdgesAs b es r = (J : Job) → job_answer b ≡ accepted J → MatchResult r (λ u. all_valid J es ≡ true) (λ x. (x ≡ NotEdge) × (all_valid J es ≡ false))
