-- `job::is_in` meets its contract: the first pair is it, or it is among those behind. Assumes nothing.
use Rattle.std.proofs.Common.{◌≡◌, ℕ, ◌&&◌, ◌||◌, eqb, sym, ap, ◌∙◌, arith, get_or, length, take, drop, ◌-◌, eq-eqb, ne_eqb, eqb→eq, T, subst}
use Rattle.rules.specs.Blocks.{pairs_in, is_in}
use Rattle.job.specs.Made.{pair_by}
use Rattle.job.proofs.Blocks.{pairs_split, pairs_none, in_more, in_none}
use Rattle.job.proofs.+is_in.Goals as goal
use Rattle.job.proofs.+is_in.Goals.{In-len2-up, then-a-c, else-a-c}

-- the first pair
next : (m : ℕ) (c : In-len2-up m) →
    let pairs = c.args.pairs.now in
    is_in (pair_by c.args.a c.args.b) (pairs_in pairs)
    ≡ ((eqb c.args.a (get_or pairs 0 0) && eqb c.args.b (get_or pairs 1 0)) || is_in (pair_by c.args.a c.args.b) (pairs_in (take (length pairs - 2) (drop 2 pairs))))
next m c =
    let pairs = c.args.pairs.now in
    ap (is_in (pair_by c.args.a c.args.b)) (pairs_split pairs c.in-len2-up.len_at_least)
    ∙ in_more c.args.a c.args.b (get_or pairs 0 0) (get_or pairs 1 0) (pairs_in (take (length pairs - 2) (drop 2 pairs))) (omega (arith, c.ranges.b.fits)) (omega (arith, c.type_inv.pairs 1))

pub returns-then-b-d : goal.returns-then-b-d
returns-then-b-d m c =
    elim c.if-a-c.branch [
      | then-a-c w ↦ c.if-b-d.true ∙ sym (next m (goal.at.returns-then-b-d m c).In-len2-up ∙ simp (eq-eqb _ _ w.if-a-c.true, sym w.value-is ∙ c.if-b-d.true))
      | else-a-c w ↦ absurd (w.if-a-c.false (eqb→eq _ _ (subst T (sym (sym w.value-is ∙ c.if-b-d.true)) tt)))
    ]

pub returns-else-b-d : goal.returns-else-b-d
returns-else-b-d m c =
    elim c.if-a-c.branch [
      | then-a-c w ↦ c.is_in.ensures ∙ sym (next m (goal.at.returns-else-b-d m c).In-len2-up ∙ simp (eq-eqb _ _ w.if-a-c.true, sym w.value-is ∙ c.if-b-d.false))
      | else-a-c w ↦ c.is_in.ensures ∙ sym (next m (goal.at.returns-else-b-d m c).In-len2-up ∙ simp (ne_eqb _ _ w.if-a-c.false))
    ]

pub returns-in_default : goal.returns-in_default
returns-in_default m c = sym (ap (is_in (pair_by c.args.a c.args.b)) (pairs_none _ c.in_default.len_below) ∙ in_none _)
