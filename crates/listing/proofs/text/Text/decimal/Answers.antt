-- `Text::decimal` meets its contract: the digits that `io::decimal` makes, appended. Assumes nothing.
use native.Mathlib.Omega.{arith}
use Rattle.listing.proofs.Decimals.{decimal-is}
use Rattle.listing.proofs.text.Text.decimal.Goals as goal

-- the 20 bytes that are lent for the digits hold them all
pub returns : goal.returns
returns c =
    let k = c.decimal-k in
    simp (c.append.ensures, k.ensures.digits, decimal-is c.args.n k.result k.ensures.len (omega (arith, k.ensures.in_bounds, k.array_long)))
