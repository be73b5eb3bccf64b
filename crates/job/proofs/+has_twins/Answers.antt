-- `job::has_twins` meets its contract: the first pair is among those behind it, or two of these are equal. Assumes nothing.
use Rattle.std.proofs.Common.{◌≡◌, ℕ, ◌||◌, sym, ap, ◌∙◌, length, take, drop, ◌-◌}
use Rattle.rules.specs.Blocks.{pairs_in, twins}
use Rattle.job.proofs.Blocks.{pairs_split, pairs_none, twins_more, twins_none}
use Rattle.job.proofs.+has_twins.Goals as goal
use Rattle.job.proofs.+has_twins.Goals.{After-is_in}

-- the first pair
next : (m : ℕ) (c : After-is_in m) →
    let pairs = c.args.pairs.now in
    twins (pairs_in pairs) ≡ (c.is_in.result || twins (pairs_in (take (length pairs - 2) (drop 2 pairs))))
next m c =
    let pairs = c.args.pairs.now in
    ap twins (pairs_split pairs c.in-len2-up.len_at_least)
    ∙ twins_more _ (pairs_in (take (length pairs - 2) (drop 2 pairs)))
    ∙ ap (λ t. t || twins (pairs_in (take (length pairs - 2) (drop 2 pairs)))) (sym c.is_in.ensures)

pub returns-then-is_in : goal.returns-then-is_in
returns-then-is_in m c = c.if-is_in.true ∙ sym (next m (goal.at.returns-then-is_in m c).After-is_in ∙ simp c.if-is_in.true)

pub returns-else-is_in : goal.returns-else-is_in
returns-else-is_in m c = c.has_twins.ensures ∙ sym (next m (goal.at.returns-else-is_in m c).After-is_in ∙ simp c.if-is_in.false)

pub returns-in_default : goal.returns-in_default
returns-in_default m c = sym (ap twins (pairs_none _ c.in_default.len_below) ∙ twins_none)
