-- `arch::parts::Parts::products` meets its contract: the loop holds the products below j; each sum is part of a count that fits. Assumes nothing.
use mathlib.Core.Path.{◌≡◌}
use Rattle.arches.specs.Counts.{before}
use Rattle.arch.proofs.parts.Parts.products.Given as goal

abbrev pub invariant-loop-j : goal.invariant-loop-j
invariant-loop-j l = l.sum ≡ before l.self.d l.self.v l.m l.j
