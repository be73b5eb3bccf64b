-- What each public function of `letters` answers, and every lent byte after it, by what was lent: its contract is this relation, applied to
-- its parameters, and `promises` speaks of it.
--
--   OrdinalOfMeets    which step a byte stands for, 8 if none
use Rattle.std.specs.Prelude.{Bool, ◌≡◌, ℕ}
use Rattle.letters.specs.Letters.{ordinal_of}

-- "`N` before `E` before `D`; digits by value"
abbrev pub OrdinalOfMeets : Bool → ℕ → ℕ → Type 0
OrdinalOfMeets lettered b r = r ≡ ordinal_of lettered b
