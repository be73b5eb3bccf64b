-- `arch::output::write_edges` meets its contract: each edge is built where the one before it ends. Assumes nothing.
use mathlib.Core.Path.{◌≡◌, sym, ◌∙◌}
use Prim.Native.Nat.{◌+◌, ◌≤◌}
use lib.ListN.{length}
use Rattle.howmany.proofs.Choices.{holds}
use Rattle.arches.specs.Counts.{count}
use Rattle.rules.specs.Questions.{all_below}
use Rattle.rules.proofs.Belows.{below_at}
use Rattle.lines.proofs.Lining.{lining_none, lining_room, lining_part}
use Rattle.arch.proofs.Sizes.{twice_most, twice_le}
use Rattle.arch.proofs.Lined.{none-lined, next-lined, all-lined}
use Rattle.arch.proofs.output.write_edges.Goals as goal
use Rattle.arch.proofs.output.write_edges.Goals.{After-all_below, In-loop-i}

-- the code's test of the numbers is one against the count
told : (c : After-all_below) →
    let args = c.args in
    c.all_below.result ≡ all_below (count args.parts.now.d args.parts.now.v args.parts.now.n) args.numbers.now
told c = rw c.last.ensures at c.all_below.ensures

-- there is room for the edge of this turn
room : (c : In-loop-i) → c.loop-i.at + 128 ≤ length c.loop-i.steps
room c = lining_room _ _ _ _ _ _ _ _ c.loop-i.invariant.1 c.loop-i-test.true

pub returns-then-not-all_below : goal.returns-then-not-all_below
returns-then-not-all_below c = none-lined c.args.parts.now.full _ _ _ (sym (told (goal.at.returns-then-not-all_below c).After-all_below) ∙ c.if-not-all_below.true)

pub loop-i-init : goal.loop-i-init
loop-i-init c = (sym (told (goal.at.loop-i-init c).After-all_below) ∙ c.if-not-all_below.false, lining_none _ _ _ _ c.requires)

pub build-k-requires : goal.build-k-requires
build-k-requires c =
    let taken = c.loop-i-test.true in
    (below_at _ _ (holds c.loop-i.invariant.0) _ taken, twice_le _ _ c.args.parts.now.full.small (lining_part _ _ _ _ _ _ _ _ c.loop-i.invariant.1 taken))

pub loop-i-preserved : goal.loop-i-preserved
loop-i-preserved c =
    (c.loop-i.invariant.0, next-lined c.args.parts.now.full c.args.numbers.now _ _ _ _ _ _ c.loop-i.invariant.1 _ _ c.loop-i-test.true (twice_most _ c.args.parts.now.full.small) c.build-k.ensures)

pub returns : goal.returns
returns c = all-lined c.args.parts.now.full _ _ _ _ _ _ _ c.loop-i.invariant.1 c.loop-i.invariant.0 c.loop-i-test.false
