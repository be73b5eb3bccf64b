-- What number and build answer, in the terms of the theory of arches and in document 01's.
--
--   arch_job d v n             the job of n: Dyck, Schroder or Motzkin
--   IsEdge d v n r s          s is an edge of n, with the number r
--   Numbered d v n s r        r says that, or that s is no edge of n
--   RankOf J s r              r says the number of s as an edge of the job J, or that s is none
--   EdgeInFront d v n r old new k   the first k of the bytes old are now the edge of number r, and the others are as they were
--   Spelt d v n r old new end k   the bytes old from k up to end are now the edge of number r, and the others are as they were
use Rattle.std.specs.Prelude.{◌≡◌, Bool, true, false, List, ◌++◌, ℕ, zero, suc, ◌+◌, ◌≤◌, length, take, drop, Option, Some, None}
use Rattle.arches.specs.Trees.{number, build, print, tree_of}
use Rattle.arches.proofs.Paths.{Walk}
use Rattle.rules.specs.Jobs.{Job}
use Rattle.rules.specs.Jobs.Job.{dyck, schroder, motzkin}
use Rattle.rules.specs.Valid.{is_edge}
use Rattle.rules.specs.Numbers.{number_of}
use Rattle.lines.specs.Ranks.{RankIs}

abbrev pub arch_job : Bool → ℕ → ℕ → Job
arch_job false v = dyck
arch_job true zero = schroder
arch_job true (suc v) = motzkin

-- "The number is: the D-count (if the family has `D`), plus the products for i below I, plus the first part's number, plus the count for I
-- times the inside's number" (`number` of `arches/specs/Trees`)
pub record IsEdge (d : Bool) (v n r : ℕ) (s : List ℕ) : Type 0 where
  pub walk : Walk d v 0 0 s n
  pub numbered : r ≡ number d v (tree_of d v s)

-- "5 Not an edge: the bytes aren't a valid edge of the job"
abbrev pub Numbered : Bool → ℕ → ℕ → List ℕ → Option ℕ → Type 0
Numbered d v n s (Some r) = IsEdge d v n r s
Numbered d v n s None = Walk d v 0 0 s n → ⊥

abbrev pub RankOf : Job → List ℕ → Option ℕ → Type 0
RankOf J s r = RankIs (is_edge J s) (number_of J s) r

-- "An accepted write fills the front of the output, reports its length and touches nothing behind it."
pub record EdgeInFront (d : Bool) (v n r : ℕ) (old new : List ℕ) (k : ℕ) : Type 0 where
  pub shown : new ≡ print d v (build d v n n r) ++ drop k old
  pub long : length (print d v (build d v n n r)) ≡ k
  pub short : k ≤ n + n

pub record Spelt (d : Bool) (v n r : ℕ) (old new : List ℕ) (end k : ℕ) : Type 0 where
  pub kept : take k new ≡ take k old
  pub shown : drop k new ≡ print d v (build d v n n r) ++ drop end old
  pub long : k + length (print d v (build d v n n r)) ≡ end
