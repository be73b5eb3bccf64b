-- `arch::numbering::number_each` meets its contract: an edge more at each turn. Assumes nothing.
use Rattle.rules.specs.Valid.{is_edge}
use Rattle.rules.specs.Numbers.{number_of}
use Rattle.lines.proofs.Ranking.{Ranking}
use Rattle.arch.specs.Answers.{arch_job}
use Rattle.arch.proofs.numbering.number_each.Given as goal

abbrev pub invariant-loop-i : goal.invariant-loop-i
invariant-loop-i l =
    Ranking (is_edge (arch_job l.parts.d l.parts.v l.parts.n)) (number_of (arch_job l.parts.d l.parts.v l.parts.n)) l.from l.ends l.bytes l.initial.numbers l.i l.at l.numbers
