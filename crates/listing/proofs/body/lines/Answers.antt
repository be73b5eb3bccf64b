-- `body::lines` meets its contract: the edges of the numbers from 0 up, and a line for each. Assumes nothing.
use mathlib.Core.Path.{◌≡◌, sym}
use Prim.Native.Nat.{ℕ, ◌<◌}
use native.Mathlib.Nat.{min-le_right}
use native.Mathlib.Omega.{arith}
use lib.ListN.{get_or, replicate, length-replicate}
use lib.Seq.{length-take-le}
use borrow.Author.Rules.{rules}
use Rattle.listing.proofs.Telling.{Listed, listed}
use Rattle.listing.proofs.body.lines.Goals as goal
use Rattle.listing.proofs.body.lines.Goals.{After-build_all}

pub slice_bounds-build_all-end : goal.slice_bounds-build_all-end
slice_bounds-build_all-end c =
    sym (length-take-le _ _ (omega (arith, c.shown_of-many.ensures, min-le_right c.args.count 1000)))

-- number i is i
counting : (c : After-build_all) → (i : ℕ) → i < 1000 → get_or c.from_fn-numbers.result i 0 ≡ i
counting c i l = let h = c.from_fn-numbers.ensures.items.at i 0 l in search rules

-- the edges of the numbers from 0 up are lined up
here : (c : After-build_all) →
    let last = c.build_all.new in
    Listed c.args.block.now c.shown_of-many.result c.build_all.result last.steps last.ends
here c =
    listed _ _ c.requires.counted _ (counting c) c.from_fn-numbers.ensures.items.long _ c.shown_of-many.ensures
    (replicate 128000 0) (replicate 1000 0) (length-replicate {A = ℕ} 128000 0) (length-replicate {A = ℕ} 1000 0) _ _ _ c.build_all.ensures

pub lines_of-requires : goal.lines_of-requires
lines_of-requires c = (here (goal.at.lines_of-requires c).After-build_all).ready _ (omega arith) c.requires.room

pub returns : goal.returns
returns c = (here (goal.at.returns c).After-build_all).told _ _ c.lines_of.ensures

pub unreachable-requires : goal.unreachable-requires
unreachable-requires c = (here (goal.at.unreachable-requires c).After-build_all).never _ c.in-Err.is
