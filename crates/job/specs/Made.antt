-- What the job maker answers.
--
--   raised x       a byte raised by 128: the signed number that it stands for, and 128
--   pair_by a b     the pair of two bytes; pair_of b i: pair i of a block
--   inRange a b    refusal 2's test of a pair, with b raised
--   Whole b       b has the length of a block; Pairs b k: and k used pairs
--   family_at n    the family of a number; kind_of J: that of a job of document 01
--   held_by f b    the job that is held of a block of the family f: its bytes, m and each b raised
--   makes          the answer, from that of document 01
--   made_of b       the answer: the job, or the refusal
use Rattle.std.specs.Prelude.{◌≡◌, ℕ, ◌+◌, ◌*◌, ◌%◌, ◌≤◌, Bool, true, false, ◌&&◌, List, [], ◌∷◌, length, eqb, nat_le, slice_index, slice_index_or, Result, Ok, Err}
use Rattle.howmany.specs.Choose.{pick}
use Rattle.rules.specs.Jobs as rules
use Rattle.rules.specs.Jobs.{Pair}
use Rattle.rules.specs.Jobs.Job.{north_east, dyck, delannoy, schroder, motzkin, directed}
use Rattle.rules.specs.Refusals.{Answer}
use Rattle.rules.specs.Refusals.Answer.{accepted, refused}
use Rattle.rules.specs.Blocks.{block_length, signed, job_answer}
use Rattle.job.specs.declared.Job.{Job}
use Rattle.job.specs.declared.Family.{Family}
use Rattle.job.specs.declared.Family.TheVariants.{NorthEast, Dyck, Delannoy, Schroder, Motzkin, Open, Fenced}
use Rattle.job.specs.declared.Refusal.{Refusal}
use Rattle.job.specs.declared.Refusal.TheVariants.{Form}
use Rattle.job.specs.Replies.{named}

abbrev pub raised : ℕ → ℕ
raised x = (x + 128) % 256

abbrev pub pair_by : ℕ → ℕ → Pair
pair_by a b = record { a = a; b = signed b }

abbrev pub pair_of : List ℕ → ℕ → Pair
pair_of b i = record { a = slice_index b (4 + 2 * i); b = signed (slice_index b (5 + 2 * i)) }

abbrev pub Whole : List ℕ → Type 0
Whole b = length b ≡ block_length

-- b has the length of a block, and k of its pairs are used
pub record Pairs (b : List ℕ) (k : ℕ) : Type 0 where
  pub whole : length b ≡ block_length
  pub many : slice_index_or b 3 0 ≡ k
  pub few : k ≤ 8

-- a is 1 to 3, and b, raised, is -3 to 3
abbrev pub in_range : ℕ → ℕ → Bool
in_range a b = nat_le 1 a && (nat_le a 3 && (nat_le 125 b && nat_le b 131))

-- the family of a number; "1 Form: .. family not 1 to 7"
abbrev pub family_at : ℕ → Result Family Refusal
family_at n =
    pick (eqb n 1) (Ok NorthEast) (pick (eqb n 2) (Ok Dyck) (pick (eqb n 3) (Ok Delannoy) (pick (eqb n 4) (Ok Schroder)
    (pick (eqb n 5) (Ok Motzkin) (pick (eqb n 6) (Ok Open) (pick (eqb n 7) (Ok Fenced) (Err Form)))))))

abbrev pub kind_of : rules.Job → Family
kind_of (north_east n m) = NorthEast
kind_of (dyck n) = Dyck
kind_of (delannoy n m) = Delannoy
kind_of (schroder n) = Schroder
kind_of (motzkin n) = Motzkin
kind_of (directed false n m start pairs) = Open
kind_of (directed true n m start pairs) = Fenced

unfoldable pub held_by : Family → List ℕ → Job
held_by f b = record {
  family = f;
  n = slice_index b 1;
  m = raised (slice_index b 2);
  k = slice_index b 3;
  a = slice_index b 4 ∷ slice_index b 6 ∷ slice_index b 8 ∷ slice_index b 10 ∷ slice_index b 12 ∷ slice_index b 14 ∷ slice_index b 16 ∷ slice_index b 18 ∷ [];
  b = raised (slice_index b 5) ∷ raised (slice_index b 7) ∷ raised (slice_index b 9) ∷ raised (slice_index b 11) ∷ raised (slice_index b 13) ∷ raised (slice_index b 15) ∷ raised (slice_index b 17) ∷ raised (slice_index b 19) ∷ [];
}

abbrev pub makes : Answer rules.Job → List ℕ → Result Job Refusal
makes (accepted J) b = Ok (held_by (kind_of J) b)
makes (refused r) b = Err (named r)

unfoldable pub made_of : List ℕ → Result Job Refusal
unfolding job_answer held_by
made_of b = makes (job_answer b) b
