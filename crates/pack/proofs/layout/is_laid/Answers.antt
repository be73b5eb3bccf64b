-- `layout::is_laid` meets its contract: each return by the tests that led there. Assumes nothing.
use mathlib.Core.Path.{◌≡◌, refl, sym, ◌∙◌}
use mathlib.Core.Bool.{◌&&◌}
use Prim.Native.Nat.{◌+◌, ◌*◌}
use lib.Dec.{leb, eqb}
use lib.ListN.{length}
use native.Mathlib.Omega.{arith}
use borrow.Author.Tests.{le-leb, lt-leb, eq-eqb, ne_eqb}
use Rattle.rules.specs.Packs.{shortest, offset, rises, laid}
use Rattle.pack.proofs.Layouts.{laid-at}
use Rattle.pack.proofs.layout.is_laid.Goals as goal
use Rattle.pack.proofs.layout.is_laid.Goals.{After-word_at-c, Else-pack-first}

pub returns-then-pack-lt-SHORTEST : goal.returns-then-pack-lt-SHORTEST
returns-then-pack-lt-SHORTEST c = sym (laid-at _ _ refl ∙ simp (lt-leb _ _ c.if-pack-lt-SHORTEST.true))

pub returns-then-pack-gt-LONGEST : goal.returns-then-pack-gt-LONGEST
returns-then-pack-gt-LONGEST c = sym (laid-at _ _ refl ∙ simp (le-leb _ _ c.if-pack-lt-SHORTEST.false, lt-leb _ _ c.if-pack-gt-LONGEST.true))

pub returns-then-not-is_marked : goal.returns-then-not-is_marked
returns-then-not-is_marked c = sym (laid-at _ _ refl ∙ simp (le-leb _ _ c.if-pack-lt-SHORTEST.false, le-leb _ _ c.if-pack-gt-LONGEST.false, sym c.is_marked.ensures ∙ c.if-not-is_marked.true))

-- length and mark are right, so what is left is about the table of c offsets
table : (c : After-word_at-c) →
    let pack = c.args.pack.now in
    let n = c.word_at-c.result in
    laid pack
    ≡ (leb n 200 && (leb (shortest + 2 * n) (length pack) && (eqb (offset pack 0) (shortest + 2 * n) && (rises pack n && eqb (offset pack n) (length pack)))))
table c =
    laid-at _ _ c.word_at-c.ensures.0 ∙ simp (
      le-leb _ _ c.if-pack-lt-SHORTEST.false,
      le-leb _ _ c.if-pack-gt-LONGEST.false,
      sym c.is_marked.ensures ∙ c.if-not-is_marked.false,
    )

pub returns-then-c-gt-MOST : goal.returns-then-c-gt-MOST
returns-then-c-gt-MOST c = sym (table (goal.at.returns-then-c-gt-MOST c).After-word_at-c ∙ simp (lt-leb _ _ c.if-c-gt-MOST.true))

pub returns-then-pack-first : goal.returns-then-pack-first
returns-then-pack-first c = sym (table (goal.at.returns-then-pack-first c).After-word_at-c ∙ simp (le-leb _ _ c.if-c-gt-MOST.false, lt-leb _ _ c.if-pack-first.true))

-- there is room for the table, so what is left is about the offsets
offsets : (c : Else-pack-first) →
    let pack = c.args.pack.now in
    let n = c.word_at-c.result in
    laid pack ≡ (eqb (offset pack 0) (shortest + 2 * n) && (rises pack n && eqb (offset pack n) (length pack)))
offsets c = table (goal.at.Else-pack-first c).After-word_at-c ∙ simp (le-leb _ _ c.if-c-gt-MOST.false, le-leb _ _ c.if-pack-first.false)

-- stated here, for the wrong program that reads offsets before it is known that they fit
pub is_rising-requires : goal.is_rising-requires
is_rising-requires c = omega (arith, c.if-pack-first.false)

pub returns-then-offset_at-first : goal.returns-then-offset_at-first
returns-then-offset_at-first c = sym (offsets (goal.at.returns-then-offset_at-first c).Else-pack-first ∙ simp (ne_eqb _ _ (λ e. c.if-offset_at-first.true (c.offset_at.ensures ∙ e))))

pub returns-then-not-is_rising : goal.returns-then-not-is_rising
returns-then-not-is_rising c =
    sym (offsets (goal.at.returns-then-not-is_rising c).Else-pack-first ∙ simp (
      eq-eqb _ _ (sym c.offset_at.ensures ∙ c.if-offset_at-first.false),
      sym c.is_rising.ensures ∙ c.if-not-is_rising.true,
    ))

pub returns : goal.returns
returns c =
    sym (offsets (goal.at.returns c).Else-pack-first ∙ simp (
      eq-eqb _ _ (sym c.offset_at.ensures ∙ c.if-offset_at-first.false),
      sym c.is_rising.ensures ∙ c.if-not-is_rising.false,
      sym c.offset_at-2.ensures,
    ))
