-- `Text::refused` meets its contract: the word with its number, and the line feed. Assumes nothing.
use mathlib.Core.List.{append_assoc}
use native.Mathlib.Omega.{arith}
use lib.ListN.{length-append}
use Rattle.job.specs.Replies.{number_of}
use Rattle.listing.specs.Listing.{refused_text}
use Rattle.listing.proofs.Decimals.{decimal-long}
use Rattle.listing.proofs.text.Text.refused.Goals as goal

pub append-requires : goal.append-requires
append-requires c = simp (c.field.ensures, c.from-2.ensures, c.from.ensures, length-append) (omega (arith, c.requires, decimal-long (number_of c.args.refusal)))

pub returns : goal.returns
unfolding refused_text
returns c = simp (c.append.ensures, c.field.ensures, c.from-2.ensures, c.from.ensures, append_assoc)
