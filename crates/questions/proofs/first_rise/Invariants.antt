-- `questions::first_rise` meets its contract. The loop's invariant: no step so far rises after a fall, and `fallen` says whether one of
-- them falls. Assumes nothing.
use Rattle.questions.proofs.Dipping.{Looking}
use Rattle.questions.proofs.first_rise.Given as goal

abbrev pub invariant-loop-i : goal.invariant-loop-i
invariant-loop-i l = Looking l.job.b l.edge l.fallen l.i
