-- `job::is_sized_lettered` meets its contract: each return by the tests that led there. Assumes nothing.
use Rattle.std.proofs.Common.{◌≡◌, ◌+◌, not, ◌&&◌, ◌||◌, eqb, leb, sym, ◌∙◌, arith, le-leb}
use borrow.Author.Tests.{lt-leb}
use Rattle.rules.specs.Blocks.{family_of, n_of, square, sized_lettered}
use Rattle.job.proofs.Blocks.{lettered-is}
use Rattle.job.proofs.is_sized_lettered.Goals as goal
use Rattle.job.proofs.is_sized_lettered.Goals.{After-raise-m}

-- the test, once m is raised
test : (c : After-raise-m) →
    let block = c.args.block.now in
    let m = c.raise-m.result in
    sized_lettered block ≡ (leb (n_of block) 64 && ((leb 128 m && leb m 192) && (not (square (family_of block)) || eqb m (128 + n_of block))))
test c = lettered-is _ c.raise-m.result c.raise-m.ensures (omega (arith, c.type_inv.block 2))

pub returns-then-n-gt-FARTHEST : goal.returns-then-n-gt-FARTHEST
returns-then-n-gt-FARTHEST c = sym (test (goal.at.returns-then-n-gt-FARTHEST c).After-raise-m ∙ simp (lt-leb _ _ c.if-n-gt-FARTHEST.true))

pub returns-then-m-lt-LEVEL : goal.returns-then-m-lt-LEVEL
returns-then-m-lt-LEVEL c = sym (test (goal.at.returns-then-m-lt-LEVEL c).After-raise-m ∙ simp (le-leb _ _ c.if-n-gt-FARTHEST.false, lt-leb _ _ c.if-m-lt-LEVEL.true))

pub returns-then-m : goal.returns-then-m
returns-then-m c = sym (test (goal.at.returns-then-m c).After-raise-m ∙ simp (le-leb _ _ c.if-n-gt-FARTHEST.false, le-leb _ _ c.if-m-lt-LEVEL.false, lt-leb _ _ c.if-m.true))

pub returns-then-is_square : goal.returns-then-is_square
returns-then-is_square c =
    sym (test (goal.at.returns-then-is_square c).After-raise-m ∙ simp (
      le-leb _ _ c.if-n-gt-FARTHEST.false,
      le-leb _ _ c.if-m-lt-LEVEL.false,
      le-leb _ _ c.if-m.false,
      sym c.is_square.ensures ∙ c.if-is_square.true,
    ))

pub returns : goal.returns
returns c =
    sym (test (goal.at.returns c).After-raise-m ∙ simp (
      le-leb _ _ c.if-n-gt-FARTHEST.false,
      le-leb _ _ c.if-m-lt-LEVEL.false,
      le-leb _ _ c.if-m.false,
      sym c.is_square.ensures ∙ c.if-is_square.false,
    ))
