-- `listing::listing` meets its contract: the header, and the lines behind it. Assumes nothing.
use native.Mathlib.Omega.{arith}
use lib.ListN.{length-append}
use Rattle.listing.proofs.Lengths.{header_long}
use Rattle.listing.proofs.Telling.{block-long, listing_is}
use Rattle.listing.proofs.listing.Goals as goal

pub header-requires : goal.header-requires
header-requires c = record { three = omega (arith, block-long _ _ c.requires.counted); room = omega (arith, c.requires.room) }

pub lines-requires : goal.lines-requires
lines-requires c = record {
  counted = c.requires.counted;
  room = simp (c.header.ensures, length-append) (omega (arith, c.requires.room, header_long c.args.block.now c.args.count));
}

pub returns : goal.returns
returns c = listing_is _ _ _ _ _ c.requires.counted c.header.ensures c.lines.ensures
