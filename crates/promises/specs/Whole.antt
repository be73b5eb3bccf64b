-- What is said of a pack numbered whole, by the contracts of other calls, and in C.
--
--   Alone p i x                  `calls::number` answers x for the block of the pack p and its edge i
--   InC x r before after         what the answer x of `pack::number_all` is in C: the result word r, and the count behind its pointer, before and after
use Rattle.std.specs.Prelude.{◌≡◌, List, ℕ}
use Rattle.rules.specs.Packs.{block_in, edge_in}
use Rattle.std.specs.Prelude.{Result, Ok, Err}
use Rattle.job.specs.declared.Refusal.{Refusal}
use Rattle.calls.specs.Meets.{NumberMeets}
use Rattle.pack.specs.declared.Fault.{Fault}
use Rattle.pack.specs.declared.Fault.TheVariants.{NotEdge, Refused}
use Rattle.job.specs.Replies.{number_of}
use Rattle.edges.specs.ResultWords.{refusal_bits, place_bits, index_bits, rest_bits}

-- "what edge i gives when asked alone"
abbrev pub Alone : List ℕ → ℕ → Result ℕ Refusal → Type 0
Alone p i x = NumberMeets (block_in p) (edge_in p i) x

-- all 32 bits of the word: the refusal number, a place, which is 0, the index, and 0 above
abbrev pub InC : Result ℕ Fault → ℕ → ℕ → ℕ → Type 0
InC (Ok c) r before after = (r ≡ 0) × (after ≡ c)
InC (Err (NotEdge i)) r before after = (refusal_bits r ≡ 5) × (place_bits r ≡ 0) × (index_bits r ≡ i) × (rest_bits r ≡ 0) × (after ≡ before)
InC (Err (Refused k)) r before after = (r ≡ number_of k) × (after ≡ before)
