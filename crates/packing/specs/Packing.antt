-- A pack from its parts, and what is put to a lent output.
--
--   pasted out at s        the bytes s in out, from place `at` on
--   front_of block c        the mark, the block, c and the first offset
--   first_of ends           where the first edge begins
--   offsets_of first ends   the other offsets, where the first edge begins at `first`
--   pack_from block ends steps    the pack of the edges whose steps these are, and which end there
--   TooMany b r            the answer to more numbers than a pack holds
use Rattle.std.specs.Prelude.{◌≡◌, List, [], ◌∷◌, ◌++◌, ℕ, ◌+◌, ◌*◌, length, take, drop, Result}
use Rattle.rules.specs.Refusals.{Answer, and_then}
use Rattle.rules.specs.Refusals.Refusal.{many}
use Rattle.rules.specs.Refusals.Answer.{refused}
use Rattle.rules.specs.Answers.{known_job}
use Rattle.rules.specs.Packs.{shortest, mark, two}
use Rattle.job.specs.declared.Refusal.{Refusal}
use Rattle.job.specs.Replies.{reply}

abbrev pub pasted : List ℕ → ℕ → List ℕ → List ℕ
pasted out at s = take at out ++ (s ++ drop (at + length s) out)

-- "The first four bytes are `EDG1`; then the job block at 4; the edge count c at 24"; "The first offset is 28+2c"
abbrev pub front_of : List ℕ → ℕ → List ℕ
front_of block c = mark ++ (block ++ (two c ++ two (shortest + 2 * c)))

abbrev pub first_of : List ℕ → ℕ
first_of ends = shortest + 2 * length ends

-- "c+1 offsets of two bytes at 26, measured from the pack's start"
unfoldable pub offsets_of : ℕ → List ℕ → List ℕ
offsets_of first [] = []
offsets_of first (e ∷ ends) = two (first + e) ++ offsets_of first ends

-- "then the step bytes"
unfoldable pub pack_from : List ℕ → List ℕ → List ℕ → List ℕ
unfolding offsets_of
pack_from block ends steps = front_of block (length ends) ++ (offsets_of (first_of ends) ends ++ steps)

-- "10 Many: more than 200 numbers to pack"; "then 1, 2, 3, 4; then 10, 11"
abbrev pub too_many : List ℕ → Answer ℕ
too_many b = and_then (known_job b) (λ J. refused many)

abbrev pub TooMany : List ℕ → Result ℕ Refusal → Type 0
TooMany b r = r ≡ reply (too_many b)
