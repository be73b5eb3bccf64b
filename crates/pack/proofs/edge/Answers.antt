-- `pack::edge` meets its contract, from that of `part`: a part that is answered lies in the pack. Assumes nothing.
use mathlib.Core.Path.{◌≡◌, refl}
use native.Mathlib.Omega.{arith}
use Rattle.rules.specs.Questions.{Part, part_answer}
use Rattle.rules.specs.Refusals.Answer.{accepted}
use Rattle.pack.proofs.Knowing.{found_part, no_part}
use Rattle.pack.proofs.Reading.{Inside, part-inside}
use Rattle.pack.proofs.edge.Goals as goal
use Rattle.pack.proofs.edge.Goals.{In-Ok}

-- the part that `part` answers
abbrev found : In-Ok → Part
found c = record { start = c.in-Ok.start; end = c.in-Ok.end }

answer : (c : In-Ok) → part_answer c.args.pack.now c.args.i ≡ accepted (found c)
answer c = found_part _ _ _ c.in-Ok.ensures

inside : (c : In-Ok) → Inside c.args.pack.now (found c)
inside c = part-inside c.args.pack.now c.args.i (found c) (answer c)

pub slice_bounds-result-count : goal.slice_bounds-result-count
slice_bounds-result-count c = omega (arith, (inside (goal.at.slice_bounds-result-count c).In-Ok).rise)

pub slice_bounds-result-start : goal.slice_bounds-result-start
slice_bounds-result-start c = omega (arith, (inside (goal.at.slice_bounds-result-start c).In-Ok).rise, (inside (goal.at.slice_bounds-result-start c).In-Ok).within)

pub slice_bounds-result-end : goal.slice_bounds-result-end
slice_bounds-result-end c = omega (arith, (inside (goal.at.slice_bounds-result-end c).In-Ok).within)

pub returns-in-Ok : goal.returns-in-Ok
returns-in-Ok c = rw (answer (goal.at.returns-in-Ok c).In-Ok) (record { block = refl; place = refl; bytes = refl })

pub returns-in-Err : goal.returns-in-Err
returns-in-Err c = rw (no_part (part_answer c.args.pack.now c.args.i) _ c.in-Err.ensures).answer (record { block = refl; place = refl; bytes = refl })
