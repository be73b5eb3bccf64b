-- `job::is_small` meets its contract: the first pair, and those behind it. Assumes nothing.
use Rattle.std.proofs.Common.{◌≡◌, ℕ, ◌&&◌, sym, ap, ◌∙◌, arith, get_or, length, take, drop, ◌-◌}
use Rattle.rules.specs.Blocks.{small, pairs_in}
use Rattle.job.specs.Made.{in_range}
use Rattle.job.proofs.Blocks.{pairs_split, pairs_none, small_more, small_none}
use Rattle.job.proofs.+is_small.Goals as goal
use Rattle.job.proofs.+is_small.Goals.{After-in_range}

-- the first pair
next : (m : ℕ) (c : After-in_range m) →
    let pairs = c.args.pairs.now in
    small (pairs_in pairs) ≡ (c.in_range.result && small (pairs_in (take (length pairs - 2) (drop 2 pairs))))
next m c =
    let pairs = c.args.pairs.now in
    ap small (pairs_split pairs c.in-len2-up.len_at_least)
    ∙ small_more (get_or pairs 0 0) (get_or pairs 1 0) (pairs_in (take (length pairs - 2) (drop 2 pairs))) (omega (arith, c.type_inv.pairs 1))
    ∙ ap (λ t. t && small (pairs_in (take (length pairs - 2) (drop 2 pairs)))) (ap (in_range (get_or pairs 0 0)) (sym c.raise.ensures) ∙ sym c.in_range.ensures)

pub returns-then-in_range : goal.returns-then-in_range
returns-then-in_range m c = c.is_small.ensures ∙ sym (next m (goal.at.returns-then-in_range m c).After-in_range ∙ simp c.if-in_range.true)

pub returns-else-in_range : goal.returns-else-in_range
returns-else-in_range m c = c.if-in_range.false ∙ sym (next m (goal.at.returns-else-in_range m c).After-in_range ∙ simp c.if-in_range.false)

pub returns-in_default : goal.returns-in_default
returns-in_default m c = sym (ap small (pairs_none _ c.in_default.len_below) ∙ small_none)
