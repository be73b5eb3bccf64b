-- `body::lines_of` meets its contract: after i turns i lines are printed. Assumes nothing.
use Rattle.listing.proofs.Printing.{Printed}
use Rattle.listing.proofs.body.lines_of.Given as goal

abbrev pub invariant-loop-i : goal.invariant-loop-i
invariant-loop-i l = Printed l.steps l.ends l.initial.text l.text l.start l.i
