-- `spell`, `ending` and `inside` meet their contracts. What is written between the calls is kept, since each call leaves what is before and behind
-- its path. The size falls at each part. Assumes nothing.
use Rattle.std.proofs.Common.{◌∙◌, length-set}
use native.Mathlib.Nat.{le_refl, le_of_lt}
use Rattle.arch.proofs.Sizes.{falls-first, in_as_many, span_less, first-le, first-less}
use Rattle.arch.proofs.Tables.{table-less}
use Rattle.arch.proofs.Spots.{above}
use Rattle.arch.proofs.Writing.{wide, with_d_lem, spot_rem, spot_quot, spelt-none, spelt-dee, spelt-arch, spelt-before, insides}
use Rattle.arch.proofs.builder.+ending_inside_spell.Goals as goal

pub ending-returns-then-r-head : goal.ending-returns-then-r-head
ending-returns-then-r-head t c =
    let a = c.args in
    let p = with_d_lem a.d a.v a.n a.r c.d_count-head.result c.requires.5 c.d_count-head.ensures c.requires.1 c.if-r-head.true in
    spelt-dee a.d a.v a.n a.r a.buf.now a.last c.requires.5 c.requires.1 (in_as_many _ _ _ _ c.requires.3 (le_refl 128) c.requires.4) c.spell.new.buf c.spell.result p.0 p.1 c.spell.ensures

pub ending-overflow_sub-m-2 : goal.ending-overflow_sub-m-2
ending-overflow_sub-m-2 t c =
    let a = c.args in
    wide a.d a.v a.n a.r c.d_count-head.result c.requires.5 c.d_count-head.ensures c.requires.1 c.if-r-head.false

pub ending-locate-p-requires : goal.ending-locate-p-requires
ending-locate-p-requires t c =
    let a = c.args in
    let head = c.d_count-head in
    let broad = wide a.d a.v a.n a.r head.result c.requires.5 head.ensures c.requires.1 c.if-r-head.false in
    (c.requires.0, span_less _ _ c.requires.5 broad, above a.d a.v a.n a.r head.result _ c.requires.5 broad head.ensures (c.requires.0.full a.n (le_refl a.n)) c.requires.1 c.if-r-head.false)

pub ending-overflow_sub-east : goal.ending-overflow_sub-east
ending-overflow_sub-east t c =
    let a = c.args in
    let head = c.d_count-head in
    let broad = wide a.d a.v a.n a.r head.result c.requires.5 head.ensures c.requires.1 c.if-r-head.false in
    let spot = c.locate-p.ensures in
    let i = c.locate-p.result.at in
    let counted = c.requires.0.full i (first-le i a.v a.n spot.below) in
    let around = insides a.n i c.requires.5 broad spot.below c.requires.2 c.requires.3 (spot_quot spot counted c.times-y.result c.times-y.ensures) c.inside-east.ensures in
    around.some

pub ending-spell-requires-2 : goal.ending-spell-requires-2
ending-spell-requires-2 t c =
    let a = c.args in
    let head = c.d_count-head in
    let broad = wide a.d a.v a.n a.r head.result c.requires.5 head.ensures c.requires.1 c.if-r-head.false in
    let spot = c.locate-p.ensures in
    let i = c.locate-p.result.at in
    let counted = c.requires.0.full i (first-le i a.v a.n spot.below) in
    let around = insides a.n i c.requires.5 broad spot.below c.requires.2 c.requires.3 (spot_quot spot counted c.times-y.result c.times-y.ensures) c.inside-east.ensures in (
      falls-first _ _ _ c.decreases (first-less i a.v a.n c.requires.5 spot.below),
      (
        table-less a.d a.v a.n i a.table.now (first-le i a.v a.n spot.below) c.requires.0,
        spot_rem spot counted c.left_over-x.result c.left_over-x.ensures,
        around.room,
        le_of_lt around.under,
        length-set c.inside-east.new.buf _ _ ∙ spelt-before a.buf.now a.last _ c.requires.4 c.requires.3 c.inside-east.ensures,
      ),
    )

pub ending-returns : goal.ending-returns
ending-returns t c =
    let a = c.args in
    let head = c.d_count-head in
    let broad = wide a.d a.v a.n a.r head.result c.requires.5 head.ensures c.requires.1 c.if-r-head.false in
    let spot = c.locate-p.ensures in
    let i = c.locate-p.result.at in
    let counted = c.requires.0.full i (first-le i a.v a.n spot.below) in
    let around = insides a.n i c.requires.5 broad spot.below c.requires.2 c.requires.3 (spot_quot spot counted c.times-y.result c.times-y.ensures) c.inside-east.ensures in
    spelt-arch a.d a.v a.n a.r a.buf.now a.last c.requires.5 c.requires.1 (in_as_many _ _ _ _ c.requires.3 (le_refl 128) c.requires.4) head.result i c.locate-p.result.rest _ c.left_over-x.result c.times-y.result c.left_over-x.ensures c.times-y.ensures head.ensures c.if-r-head.false broad spot counted c.inside-east.new.buf c.spell-2.new.buf c.inside-east.result c.spell-2.result around.some c.inside-east.ensures c.spell-2.ensures

pub inside-returns-then-n-eq0 : goal.inside-returns-then-n-eq0
inside-returns-then-n-eq0 t c = spelt-none c.args.d c.args.v c.args.n c.args.r c.args.buf.now c.args.end c.if-n-eq0.true

pub spell-returns-then-n-eq0 : goal.spell-returns-then-n-eq0
spell-returns-then-n-eq0 t c = spelt-none c.args.d c.args.v c.args.n c.args.r c.args.buf.now c.args.end c.if-n-eq0.true
