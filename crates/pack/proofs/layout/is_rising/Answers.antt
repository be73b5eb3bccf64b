-- `layout::is_rising` meets its contract: no offset is above the next. Assumes nothing.
use Rattle.std.proofs.Common.{◌+◌, ◌<◌, ◌≤◌, arith, refl, rules, tests}
use Rattle.std.proofs.lemmas.Iterator.{cases_from_all, YieldsList-from_range}
use Rattle.rules.specs.Packs.{offset}
use Rattle.pack.proofs.Layouts.{rising-is}
use Rattle.pack.proofs.layout.is_rising.Goals as goal

pub returns : goal.returns
returns c =
    let p = c.args.bytes.now in
    rising-is p c.args.c _
    (cases_from_all _ _ _ (λ i. offset p i ≤ offset p (i + 1)) (λ i. offset p (i + 1) < offset p i) c.all.ensures.ran (YieldsList-from_range 0 c.args.c c.args.c refl (omega arith))
    (λ x q k. search (rules, tests)) (λ x q k. search (rules, tests)))
