-- `twice::first_repeat` meets its contract: no edge passed equals an earlier one, nor the later edge any earlier one passed. Assumes nothing.
use Rattle.std.proofs.Common.{◌≡◌}
use Rattle.std.specs.Prelude.{None}
use Rattle.howmany.specs.Least.{least}
use Rattle.rules.specs.Questions.{equals}
use Rattle.pack.specs.Layout.{edges_in}
use Rattle.pack.proofs.Searches.{repeats}
use Rattle.pack.proofs.twice.first_repeat.Given as goal

abbrev pub invariant-loop-earlier : goal.invariant-loop-earlier
invariant-loop-earlier l = (l.found ≡ None) × (least (equals (edges_in l.pack.bytes.now) l.later) l.earlier ≡ l.earlier)

abbrev pub invariant-search : goal.invariant-search
invariant-search l = (l.found ≡ None) × (least (repeats (edges_in l.pack.bytes.now)) l.later ≡ l.later)
