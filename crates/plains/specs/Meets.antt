-- What each public function of `plains` answers, and every lent byte after it, by what was lent: its contract is this relation, applied to
-- its parameters, and `promises` speaks of it.
--
--   CountMeets    L(n,m), or D(n,m), or refusal 4
use Rattle.std.specs.Prelude.{◌≡◌, ℕ, Bool}
use Rattle.job.specs.Replies.{reply}
use Rattle.plains.specs.Plains.{plain_answer}
use Rattle.std.specs.Prelude.{Result}
use Rattle.job.specs.declared.Refusal.{Refusal}

-- "L(n,m) = L(n,m-1) + L(n-1,m)"; "D(n,m) = D(n,m-1) + D(n-1,m) + D(n-1,m-1)"; "4 Over"
abbrev pub CountMeets : ℕ → ℕ → Bool → Result ℕ Refusal → Type 0
CountMeets n m diagonal r = r ≡ reply (plain_answer diagonal n m)
