-- `LaidPack::ends` meets its contract: an offset more at each turn. Assumes nothing.
use Rattle.pack.proofs.Listed.{Ending}
use Rattle.pack.proofs.layout.LaidPack.ends.Given as goal

abbrev pub invariant-loop-i : goal.invariant-loop-i
invariant-loop-i l = Ending l.self.bytes.now l.ends l.c l.i
