-- `Text::line` meets its contract: its pieces one after the other, each with room behind those before it. Assumes nothing.
use mathlib.Core.List.{append_assoc}
use native.Mathlib.Omega.{arith}
use lib.ListN.{length-append}
use Rattle.listing.specs.Listing.{line_text}
use Rattle.listing.proofs.Decimals.{decimal-long}
use Rattle.listing.proofs.Lengths.{shown-long}
use Rattle.listing.proofs.text.Text.line.Goals as goal

pub append-requires : goal.append-requires
append-requires c = simp (c.decimal.ensures, length-append) (omega (arith, c.requires, decimal-long c.args.number))

pub edge_or_dash-requires : goal.edge_or_dash-requires
edge_or_dash-requires c = simp (c.append.ensures, c.decimal.ensures, length-append) (omega (arith, c.requires, decimal-long c.args.number))

pub append-requires-2 : goal.append-requires-2
append-requires-2 c =
    simp (c.edge_or_dash.ensures, c.append.ensures, c.decimal.ensures, length-append)
    (omega (arith, c.requires, decimal-long c.args.number, shown-long c.args.edge.now))

pub returns : goal.returns
unfolding line_text
returns c = simp (c.append-2.ensures, c.edge_or_dash.ensures, c.append.ensures, c.decimal.ensures, append_assoc)
