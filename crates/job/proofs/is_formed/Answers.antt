-- `job::is_formed` meets its contract: each return by the tests that led there. Assumes nothing.
use Rattle.std.proofs.Common.{◌≡◌, ◌+◌, ◌*◌, drop, sym, ap, ◌∙◌, arith, eq-eqb, ne_eqb, le-leb}
use borrow.Author.Tests.{lt-leb}
use Rattle.howmany.specs.Choose.{pick}
use Rattle.rules.specs.Blocks.{k_of, zeros, formed}
use Rattle.job.proofs.Blocks.{each_zero, formed-is, rest, zeros-past}
use Rattle.job.proofs.is_formed.Goals as goal
use Rattle.job.proofs.is_formed.Goals.{After-is_paired}

pub returns-then-block-ne-BLOCK : goal.returns-then-block-ne-BLOCK
returns-then-block-ne-BLOCK c =
    sym (formed-is _ ∙ simp (ne_eqb _ _ c.if-block-ne-BLOCK.true))

pub returns-then-family-lt1 : goal.returns-then-family-lt1
returns-then-family-lt1 c =
    sym (formed-is _ ∙ simp (eq-eqb _ _ c.if-block-ne-BLOCK.false, lt-leb _ _ c.if-family-lt1.true))

pub returns-then-family-gt-FAMILIES : goal.returns-then-family-gt-FAMILIES
returns-then-family-gt-FAMILIES c =
    sym (formed-is _ ∙ simp (eq-eqb _ _ c.if-block-ne-BLOCK.false, le-leb _ _ c.if-family-lt1.false, lt-leb _ _ c.if-family-gt-FAMILIES.true))

-- family and length are right, so what is left is about the bytes that are not used
unused-zero : (c : After-is_paired) →
    let block = c.args.block.now in
    formed block ≡ zeros (pick c.is_paired.result (drop (4 + 2 * k_of block) block) (drop 3 block))
unused-zero c =
    formed-is _ ∙ simp (eq-eqb _ _ c.if-block-ne-BLOCK.false, le-leb _ _ c.if-family-lt1.false, le-leb _ _ c.if-family-gt-FAMILIES.false, sym c.is_paired.ensures)

pub returns-then-not-is_paired : goal.returns-then-not-is_paired
returns-then-not-is_paired c =
    c.all_zero.ensures ∙ each_zero _ ∙ ap zeros (rest c.args.block.now 3 (omega arith)) ∙ sym (unused-zero (goal.at.returns-then-not-is_paired c).After-is_paired ∙ simp c.if-not-is_paired.true)

pub returns-then-k-ge-STEPS : goal.returns-then-k-ge-STEPS
returns-then-k-ge-STEPS c =
    let block = c.args.block.now in
    sym (unused-zero (goal.at.returns-then-k-ge-STEPS c).After-is_paired ∙ simp c.if-not-is_paired.false (zeros-past block (4 + 2 * k_of block) (omega (arith, c.wide-k.ensures))))

pub returns : goal.returns
returns c =
    let block = c.args.block.now in
    let wide = c.wide-k in
    c.all_zero-2.ensures
    ∙ each_zero _
    ∙ ap zeros (rest block (4 + 2 * wide.result) (omega arith))
    ∙ ap (λ n. zeros (drop (4 + 2 * n) block)) wide.ensures
    ∙ sym (unused-zero (goal.at.returns c).After-is_paired ∙ simp c.if-not-is_paired.false)
