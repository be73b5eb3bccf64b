-- By rows of the lesser of n and m; n and m may be turned. Assumes nothing.
use Rattle.std.proofs.Common.{◌∙◌}
use Rattle.plains.proofs.Ends.{ends-over}
use Rattle.plains.proofs.Rows.{over-says, turned-says}
use Rattle.plains.proofs.count.Goals as goal

pub returns-then-m-le33 : goal.returns-then-m-le33
returns-then-m-le33 c =
    c.count_rows-then-m-le33.ensures ∙ rw (c.from-then-m-le33.ensures, c.from-then-m-le33-2.ensures) (turned-says c.args.diagonal c.args.m c.args.n)

pub returns : goal.returns
returns c =
    over-says c.args.diagonal c.args.n c.args.m (ends-over c.args.diagonal c.args.n c.args.m c.if-n-rows.false c.if-m-le33.false)
