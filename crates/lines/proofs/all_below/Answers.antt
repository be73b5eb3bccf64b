-- `lines::all_below` meets its contract: a test of each number. Assumes nothing.
use Rattle.std.proofs.Common.{◌≡◌, ℕ, ◌&&◌, ltb, List, [], ◌∷◌, refl, ap, ◌∙◌}
use Rattle.std.specs.List.{list_all}
use Rattle.rules.specs.Questions.{all_below}
use Rattle.lines.proofs.all_below.Goals as goal

each_below : (c : ℕ) (ns : List ℕ) → list_all (λ n. ltb n c) ns ≡ all_below c ns
unfolding all_below
each_below c [] = refl
each_below c (n ∷ ns) = ap (λ t. ltb n c && t) (each_below c ns)

pub returns : goal.returns
returns c = c.are_below.ensures ∙ each_below _ _
