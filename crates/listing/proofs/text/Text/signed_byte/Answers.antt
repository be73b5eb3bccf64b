-- `Text::signed_byte` meets its contract, below 128 and from 128 on. Assumes nothing.
use mathlib.Core.Path.{sym}
use native.Mathlib.Omega.{arith}
use Rattle.listing.proofs.Decimals.{signed_low, signed_high}
use Rattle.listing.proofs.text.Text.signed_byte.Goals as goal

pub returns-then-x-lt-LEVEL : goal.returns-then-x-lt-LEVEL
returns-then-x-lt-LEVEL c = rw (sym (signed_low c.args.x c.if-x-lt-LEVEL.true)) (rw c.from.ensures at c.decimal.ensures)

pub returns-else-x-lt-LEVEL : goal.returns-else-x-lt-LEVEL
returns-else-x-lt-LEVEL c = rw (sym (signed_high c.args.x c.if-x-lt-LEVEL.false (omega (arith, c.ranges)))) (rw c.from-else-x-lt-LEVEL.ensures at c.field.ensures)
