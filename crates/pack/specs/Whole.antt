-- What is told of a pack that is numbered whole, and the list after it.
--
--   ListedAs w r list         r and the list are those of w
--   told_of n c room           what is told where the first n of c edges have numbers and the list has so much room
--   KeptAs n kept list r after    what is told where the first n of the numbers `kept` are those of edges
--   NumberedAs p list r after     what is told of the pack p, whose layout is kept
use Rattle.std.specs.Prelude.{◌≡◌, List, map, ℕ, leb, ltb, length, Result}
use Rattle.howmany.specs.Choose.{pick}
use Rattle.rules.specs.Refusals.{and_then}
use Rattle.rules.specs.Refusals.Answer.{accepted}
use Rattle.rules.specs.Answers.{known_job, number_answer}
use Rattle.rules.specs.Packs.{block_in}
use Rattle.rules.specs.Whole.{gathered, Indexed, Listed, listed}
use Rattle.rules.specs.Whole.Indexed.{value, refusal, bad_edge}
use Rattle.rules.specs.Whole.Gathered.{all, fault}
use Rattle.pack.specs.Layout.{edges_in}
use Rattle.pack.specs.Replies.{numbers_says}
use Rattle.pack.specs.declared.Fault.{Fault}

pub record ListedAs (w : Listed) (r : Result ℕ Fault) (after : List ℕ) : Type 0 where
  pub says : numbers_says r ≡ w.answer
  pub list_is : after ≡ w.list

abbrev pub told_of : ℕ → ℕ → ℕ → Indexed ℕ
told_of n c room = pick (ltb n c) (bad_edge n) (pick (leb c room) (value c) (refusal 7))

abbrev pub KeptAs : ℕ → List ℕ → List ℕ → Result ℕ Fault → List ℕ → Type 0
KeptAs n kept list r after = ListedAs (listed (accepted (pick (ltb n (length kept)) (fault n) (all kept))) list) r after

abbrev pub NumberedAs : List ℕ → List ℕ → Result ℕ Fault → List ℕ → Type 0
NumberedAs p list r after =
    ListedAs (listed (and_then (known_job (block_in p)) (λ J. accepted (gathered (map (number_answer (block_in p)) (edges_in p))))) list) r after
