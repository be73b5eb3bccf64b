-- What each public function of `job` answers, and every lent byte after it, by what was lent: its contract is this relation, applied to
-- its parameters, and `promises` speaks of it.
--
--   PutMeets         an edge written to the front of the output, or refused with 7
--   WideMeets        a byte as a size
--   FamilyOfMeets    the family that a block says it is of
--   IsPlainMeets     whether a family is 1 or 3
--   IsSquareMeets    2, 4 or 5
--   IsFencedMeets    7
--   IsPairedMeets    6 or 7
--   JobOfMeets       the job of a block, or refusal 1, 2 or 3
--   FamilyTryFromU8Meets    the family of a number, or refusal 1
--   U8FromFamilyMeets       the number of a family
--   U8FromRefusalMeets      the number of a refusal
use Rattle.std.specs.Prelude.{◌≡◌, ℕ, Bool, List, Result}
use Rattle.rules.specs.Blocks.{family_of, plain, square, paired, fenced}
use Rattle.rules.specs.Answers.{written}
use Rattle.rules.specs.Refusals.Answer.{accepted}
use Rattle.job.specs.Replies.{BuiltAs, number_of}
use Rattle.job.specs.Made.{made_of, family_at}
use Rattle.job.specs.declared.Family.{Family}
use Rattle.job.specs.Stands.{family_number}
use Rattle.job.specs.declared.Job.{Job}
use Rattle.job.specs.declared.Refusal.{Refusal}

-- "7 Room: the output is shorter than this answer"
abbrev pub PutMeets : List ℕ → List ℕ → Result ℕ Refusal → List ℕ → Type 0
PutMeets edge out r out-after = BuiltAs (written (accepted edge) out) r out-after

abbrev pub WideMeets : ℕ → ℕ → Type 0
WideMeets x r = r ≡ x

abbrev pub FamilyOfMeets : List ℕ → ℕ → Type 0
FamilyOfMeets block r = r ≡ family_of block

abbrev pub IsPlainMeets : ℕ → Bool → Type 0
IsPlainMeets family r = r ≡ plain family

abbrev pub IsSquareMeets : ℕ → Bool → Type 0
IsSquareMeets family r = r ≡ square family

abbrev pub IsFencedMeets : ℕ → Bool → Type 0
IsFencedMeets family r = r ≡ fenced family

abbrev pub IsPairedMeets : ℕ → Bool → Type 0
IsPairedMeets family r = r ≡ paired family

-- "Every job is made from its block of 20 bytes"
abbrev pub JobOfMeets : List ℕ → Result Job Refusal → Type 0
JobOfMeets block r = r ≡ made_of block

-- "family not 1 to 7"
abbrev pub FamilyTryFromU8Meets : ℕ → Result Family Refusal → Type 0
FamilyTryFromU8Meets number r = r ≡ family_at number

abbrev pub U8FromFamilyMeets : Family → ℕ → Type 0
U8FromFamilyMeets family r = r ≡ family_number family

-- "Refusal numbers"
abbrev pub U8FromRefusalMeets : Refusal → ℕ → Type 0
U8FromRefusalMeets refusal r = r ≡ number_of refusal
