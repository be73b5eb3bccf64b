-- Edges as words of places: what a reader of the crate `backward` reads.
--
--   word_of J e    the places of the bytes of e among the job's steps, that of the last byte first
--   spelt J w     the bytes of such a word, in the edge's order
use Rattle.std.specs.Prelude.{List, map, reverse, ℕ}
use Rattle.rules.specs.Jobs.{Job, steps_of}
use Rattle.rules.specs.Valid.{place, at}

abbrev pub word_of : Job → List ℕ → List ℕ
word_of J e = reverse (map (λ b. place b (steps_of J)) e)

abbrev pub spelt : Job → List ℕ → List ℕ
spelt J w = map (λ i. (at (steps_of J) i).letter) (reverse w)
