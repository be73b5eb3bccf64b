-- `job::is_sized_directed` meets its contract: each return by the tests that led there. Assumes nothing.
use Rattle.std.proofs.Common.{◌≡◌, ◌&&◌, leb, sym, refl, ap, ◌∙◌, arith, le-leb}
use borrow.Author.Tests.{lt-leb}
use Rattle.rules.specs.Blocks.{n_of, k_of, used, small, sized_directed}
use Rattle.job.proofs.Blocks.{directed-is, used_in}
use Rattle.job.proofs.is_sized_directed.Goals as goal
use Rattle.job.proofs.is_sized_directed.Goals.{After-raise-m, After-wide-k}

pub returns-then-block-gt-COLUMNS : goal.returns-then-block-gt-COLUMNS
returns-then-block-gt-COLUMNS c = sym (directed-is c.args.block.now _ refl (omega (arith, c.type_inv.block 2)) ∙ simp (lt-leb _ _ c.if-block-gt-COLUMNS.true))

-- the test, once m is raised
test : (c : After-raise-m) →
    let block = c.args.block.now in
    let m = c.raise-m.result in
    sized_directed block ≡ (leb (n_of block) 32 && ((leb 32 m && leb m 224) && (leb 1 (k_of block) && (leb (k_of block) 8 && small (used block)))))
test c = directed-is _ c.raise-m.result c.raise-m.ensures (omega (arith, c.type_inv.block 2))

-- n and m are in range, so what is left is about the pairs
pairs : (c : After-wide-k) →
    let block = c.args.block.now in
    let k = c.wide-k.result in
    sized_directed block ≡ (leb 1 k && (leb k 8 && small (used block)))
pairs c =
    rw c.wide-k.ensures
    (test (goal.at.After-wide-k c).After-raise-m ∙ simp (le-leb _ _ c.if-block-gt-COLUMNS.false, le-leb _ _ c.if-m-lt-LOWEST.false, le-leb _ _ c.if-m-gt-HIGHEST.false))

pub returns-then-m-lt-LOWEST : goal.returns-then-m-lt-LOWEST
returns-then-m-lt-LOWEST c = sym (test (goal.at.returns-then-m-lt-LOWEST c).After-raise-m ∙ simp (le-leb _ _ c.if-block-gt-COLUMNS.false, lt-leb _ _ c.if-m-lt-LOWEST.true))

pub returns-then-m-gt-HIGHEST : goal.returns-then-m-gt-HIGHEST
returns-then-m-gt-HIGHEST c = sym (test (goal.at.returns-then-m-gt-HIGHEST c).After-raise-m ∙ simp (le-leb _ _ c.if-block-gt-COLUMNS.false, le-leb _ _ c.if-m-lt-LOWEST.false, lt-leb _ _ c.if-m-gt-HIGHEST.true))

pub returns-then-k-lt1 : goal.returns-then-k-lt1
returns-then-k-lt1 c = sym (pairs (goal.at.returns-then-k-lt1 c).After-wide-k ∙ simp (lt-leb _ _ c.if-k-lt1.true))

pub returns-then-k-gt-STEPS : goal.returns-then-k-gt-STEPS
returns-then-k-gt-STEPS c = sym (pairs (goal.at.returns-then-k-gt-STEPS c).After-wide-k ∙ simp (le-leb _ _ c.if-k-lt1.false, lt-leb _ _ c.if-k-gt-STEPS.true))

pub returns : goal.returns
returns c = c.is_small.ensures ∙ ap small (used_in c.args.block.now _ _ c.wide-k.ensures (omega arith)) ∙ sym (pairs (goal.at.returns c).After-wide-k ∙ simp (le-leb _ _ c.if-k-lt1.false, le-leb _ _ c.if-k-gt-STEPS.false))
