-- What the functions inside the crate ask and answer: a text that grows.
--
--   Room text n                    there is room for n bytes behind the text
--   start ends i                   where edge i begins, if each begins where the one before it ends
--   edge_at steps ends i            the bytes of edge i
--   Cut steps ends                 the edges lie in steps
--   Roomy steps ends text          and there is room for a line for each
--   Headed, Bodied                 what is asked for a header, and for a block that has a count
--   LinesOf block old new          the lines of the block's job are appended
use Rattle.std.specs.Prelude.{◌≡◌, List, ◌∷◌, ◌++◌, ℕ, ◌+◌, ◌*◌, ◌-◌, ◌≤◌, ◌<◌, min, length, get_or, take, drop}
use Rattle.rules.specs.Refusals.Answer.{accepted}
use Rattle.rules.specs.Answers.{known_job, count_answer}
use Rattle.rules.specs.Jobs.{Job}
use Rattle.rules.specs.Counts.{count_of}
use Rattle.rules.specs.Numbers.{edge_of}
use Rattle.listing.specs.Listing.{lines_text}

abbrev pub Room : List ℕ → ℕ → Type 0
Room text n = length text + n ≤ 152000

abbrev pub start : List ℕ → ℕ → ℕ
start ends i = get_or (0 ∷ ends) i 0

unfoldable pub edge_at : List ℕ → List ℕ → ℕ → List ℕ
edge_at steps ends i = take (get_or ends i 0 - start ends i) (drop (start ends i) steps)

pub record Cut (steps ends : List ℕ) : Type 0 where
  pub rise : (i : ℕ) → i < length ends → start ends i ≤ get_or ends i 0
  pub within : (i : ℕ) → i < length ends → get_or ends i 0 ≤ length steps

-- each line has 23 bytes beside its steps at most
pub record Roomy (steps ends text : List ℕ) : Type 0 where
  pub cut : Cut steps ends
  pub room : Room text (23 * length ends + length steps)

pub record Headed (block text : List ℕ) : Type 0 where
  pub three : 3 ≤ length block
  pub room : Room text 200

pub record Bodied (block : List ℕ) (count : ℕ) (text : List ℕ) (n : ℕ) : Type 0 where
  pub counted : count_answer block ≡ accepted count
  pub room : Room text n

pub record LinesOf (block old new : List ℕ) : Type 0 where
  pub lines : (J : Job) → known_job block ≡ accepted J → new ≡ old ++ lines_text (edge_of J) (min (count_of J) 1000)
