-- `twice::first_repeat` meets its contract: no edge passed equals an earlier one, nor the later edge any earlier one passed. Assumes nothing.
use mathlib.Core.Path.{◌≡◌, refl, sym, ap, ◌∙◌}
use native.Mathlib.Omega.{arith}
use borrow.Author.Rules.{rules}
use lib.ListN.{length}
use Rattle.howmany.specs.Least.{least}
use Rattle.rules.proofs.PackLaws.{edges-length}
use Rattle.rules.specs.Questions.{equals}
use Rattle.pack.specs.Layout.{edges_in}
use Rattle.pack.specs.Replies.{paired}
use Rattle.pack.proofs.Listed.{equals-is}
use Rattle.pack.proofs.Searches.{least_more, alone, twice_at, twice_none}
use Rattle.pack.proofs.twice.first_repeat.Goals as goal
use Rattle.pack.proofs.twice.first_repeat.Goals.{After-are_equal, After-edge_count-later-end}

-- as many edges as are searched
many : (c : After-edge_count-later-end) → length (edges_in c.args.pack.now.bytes.now) ≡ c.edge_count-later-end.result
many c = edges-length _ 0 _ ∙ sym c.edge_count-later-end.ensures.0

-- what is told of two edges
equal : (c : After-are_equal) → equals (edges_in c.args.pack.now.bytes.now) c.search.later c.loop-earlier.earlier ≡ c.are_equal.result
equal c = equals-is _ _ _ _ (search rules) (omega (arith, c.edge_count-later-end.ensures.0)) ∙ sym c.are_equal.ensures

pub search-init : goal.search-init
unfolding least
search-init c = (refl, refl)

pub loop-earlier-init : goal.loop-earlier-init
unfolding least
loop-earlier-init c = (c.search.invariant.0, refl)

pub loop-earlier-preserved : goal.loop-earlier-preserved
loop-earlier-preserved c = (c.loop-earlier.invariant.0, least_more _ _ c.loop-earlier.invariant.1 (equal (goal.at.loop-earlier-preserved c).After-are_equal ∙ c.if-are_equal.false))

pub search-preserved : goal.search-preserved
search-preserved c = (c.loop-earlier.invariant.0, least_more _ _ c.search.invariant.1 (alone _ _ _ (omega arith) c.loop-earlier.invariant.1))

pub returns-after-search : goal.returns-after-search
returns-after-search c =
    c.search.invariant.0 ∙ sym (ap paired (twice_none _ _ (omega (arith, many (goal.at.returns-after-search c).After-edge_count-later-end, c.search-test.false)) c.search.invariant.1))

pub returns-then-are_equal : goal.returns-then-are_equal
returns-then-are_equal c =
    sym (ap paired (twice_at _ _ _ c.search.invariant.1 c.loop-earlier.invariant.1 (equal (goal.at.returns-then-are_equal c).After-are_equal ∙ c.if-are_equal.true) c.loop-earlier-test.true
    (omega (arith, many (goal.at.returns-then-are_equal c).After-edge_count-later-end, c.search-test.true))))
