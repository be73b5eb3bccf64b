-- `arch::sums::locate` meets its contract: the loop keeps r between both sides, which move closer. Assumes nothing.
use Rattle.arch.proofs.Spots.{Between}
use Rattle.arch.proofs.sums.locate.Given as goal

abbrev pub invariant-loop-low : goal.invariant-loop-low
invariant-loop-low l = Between l.d l.v l.m l.r l.l l.h l.low l.high

abbrev pub decreases-loop-low : goal.decreases-loop-low
decreases-loop-low l = l.h
