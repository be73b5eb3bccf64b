-- `Text::header` meets its contract: its pieces one after the other, each with room behind those before it. Assumes nothing.
use mathlib.Core.Path.{◌≡◌}
use mathlib.Core.List.{List, ◌++◌, append_assoc}
use Prim.Native.Nat.{ℕ}
use native.Mathlib.Omega.{arith}
use lib.ListN.{length-append}
use Rattle.rules.specs.Blocks.{family_of, n_of, m_of}
use Rattle.listing.specs.Listing.{signed_text, family_word, end_word, count_word, space, feed, field, header_text}
use Rattle.listing.proofs.Decimals.{decimal-long}
use Rattle.listing.proofs.Lengths.{signed-long}
use Rattle.listing.proofs.text.Text.header.Goals as goal

pub field-requires-2 : goal.field-requires-2
field-requires-2 c = simp (c.field.ensures, c.from.ensures, length-append) (omega (arith, c.requires.room, decimal-long (family_of c.args.block.now)))

pub append-requires : goal.append-requires
append-requires c =
    simp (c.field-2.ensures, c.from-2.ensures, c.field.ensures, c.from.ensures, length-append)
    (omega (arith, c.requires.room, decimal-long (family_of c.args.block.now), decimal-long (n_of c.args.block.now)))

pub signed_byte-requires : goal.signed_byte-requires
signed_byte-requires c =
    simp (c.append.ensures, c.field-2.ensures, c.from-2.ensures, c.field.ensures, c.from.ensures, length-append)
    (omega (arith, c.requires.room, decimal-long (family_of c.args.block.now), decimal-long (n_of c.args.block.now)))

pub field-requires-3 : goal.field-requires-3
field-requires-3 c =
    simp (c.signed_byte.ensures, c.append.ensures, c.field-2.ensures, c.from-2.ensures, c.field.ensures, c.from.ensures, length-append)
    (omega (arith, c.requires.room, decimal-long (family_of c.args.block.now), decimal-long (n_of c.args.block.now), signed-long (m_of c.args.block.now)))

pub append-requires-2 : goal.append-requires-2
append-requires-2 c =
    simp (c.field-3.ensures, c.signed_byte.ensures, c.append.ensures, c.field-2.ensures, c.from-2.ensures, c.field.ensures, c.from.ensures, length-append)
    (omega (arith, c.requires.room, decimal-long (family_of c.args.block.now), decimal-long (n_of c.args.block.now), signed-long (m_of c.args.block.now), decimal-long c.args.count))

regroup : (t a b c d e f : List ℕ) → t ++ a ++ b ++ c ++ d ++ e ++ f ≡ t ++ (a ++ (b ++ (c ++ (d ++ (e ++ f)))))
regroup t a b c d e f = simp append_assoc

pub returns : goal.returns
unfolding header_text
returns c =
    let block = c.args.block.now in
    simp (c.append-2.ensures, c.field-3.ensures, c.signed_byte.ensures, c.append.ensures, c.field-2.ensures, c.from-2.ensures, c.field.ensures, c.from.ensures)
    (regroup c.args.self.now (field family_word (family_of block)) (field end_word (n_of block)) space (signed_text (m_of block)) (field count_word c.args.count) feed)
