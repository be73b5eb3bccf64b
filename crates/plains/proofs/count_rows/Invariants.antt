-- The loop over the rows: each is made from the one before it. Assumes nothing.
use Rattle.std.proofs.Common.{◌≡◌, ◌^◌, ◌<◌, length}
use Rattle.plains.specs.Plains.{ends, Row}
use Rattle.plains.proofs.count_rows.Given as goal

abbrev pub invariant-loop : goal.invariant-loop
invariant-loop l = (length l.row ≡ 34) × Row l.diagonal l.n l.counter l.row × (ends l.diagonal l.n l.counter < 2 ^ 64)
