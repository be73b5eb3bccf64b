-- Packs numbered whole, computed over the answer. Assumes nothing.
--
--   whole-samples    the pack of `DDD` and `DEN`, to lists of three, one and two entries, damaged, and without edges
use mathlib.Core.Path.{◌≡◌, refl}
use mathlib.Core.List.{List, [], ◌∷◌}
use Prim.Native.Nat.{ℕ}
use lib.ListN.{set}
use Rattle.howmany.specs.Sum.{sum, find}
use Rattle.howmany.specs.Least.{least}
use Rattle.arches.specs.Counts.{count, counts, before}
use Rattle.arches.specs.Trees.{size, number, build, print}
use Rattle.rules.specs.Jobs.{E, numbered}
use Rattle.rules.specs.Packs.{pack_bytes}
use Rattle.rules.specs.Whole.{numbers_answer}
use Rattle.rules.specs.Whole.Indexed.{value, refusal, bad_edge}
use Rattle.rules.proofs.Examples.{motzkin_3}
use Rattle.rules.proofs.PackExamples.{DEN, pack}

pub record WholeSamples : Type 0 where
  pub all_of_it : numbers_answer pack (7 ∷ 8 ∷ 9 ∷ []) ≡ record { answer = value 2; list = 0 ∷ 3 ∷ 9 ∷ [] }
  pub repeated : numbers_answer (pack_bytes motzkin_3 (DEN ∷ DEN ∷ [])) (7 ∷ 8 ∷ []) ≡ record { answer = value 2; list = 3 ∷ 3 ∷ [] }
  pub short : numbers_answer pack (7 ∷ []) ≡ record { answer = refusal 7; list = 7 ∷ [] }
  -- the second edge is `DEE`: 5 goes before 7
  pub second_bad : numbers_answer (set pack 37 E) (7 ∷ []) ≡ record { answer = bad_edge 1; list = 7 ∷ [] }
  pub both_bad : numbers_answer (set (set pack 37 E) 34 E) (7 ∷ 8 ∷ []) ≡ record { answer = bad_edge 0; list = 7 ∷ 8 ∷ [] }
  pub mark_off : numbers_answer (set pack 3 50) (7 ∷ 8 ∷ []) ≡ record { answer = refusal 8; list = 7 ∷ 8 ∷ [] }
  pub no_edges : numbers_answer (pack_bytes motzkin_3 []) (7 ∷ []) ≡ record { answer = value 0; list = 7 ∷ [] }
  -- Motzkin 46, without edges
  pub over : numbers_answer (pack_bytes (set (set motzkin_3 1 46) 2 46) []) [] ≡ record { answer = refusal 4; list = [] }

pub whole-samples : WholeSamples
unfolding numbers_answer pack_bytes numbered sum find count counts before size number build print least
whole-samples = record { all_of_it = refl; repeated = refl; short = refl; second_bad = refl; both_bad = refl; mark_off = refl; no_edges = refl; over = refl }
