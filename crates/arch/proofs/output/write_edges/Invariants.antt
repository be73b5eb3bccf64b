-- `arch::output::write_edges` meets its contract: each edge is built where the one before it ends. Assumes nothing.
use mathlib.Core.Path.{◌≡◌}
use mathlib.Core.Bool.{true}
use Rattle.arches.specs.Counts.{count}
use Rattle.rules.specs.Questions.{all_below}
use Rattle.lines.proofs.Lining.{Lining}
use Rattle.arch.proofs.Calls.{edge_by}
use Rattle.arch.proofs.output.write_edges.Given as goal

abbrev pub invariant-loop-i : goal.invariant-loop-i
invariant-loop-i l = (all_below (count l.parts.d l.parts.v l.parts.n) l.numbers ≡ true) × Lining (edge_by l.parts.d l.parts.v l.parts.n) l.numbers l.initial.steps l.initial.ends l.i l.at l.steps l.ends
