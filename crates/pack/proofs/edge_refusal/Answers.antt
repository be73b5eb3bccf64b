-- `pack::edge_refusal` meets its contract, from that of `part`. Assumes nothing.
use mathlib.Core.Path.{sym, ap, ◌∙◌}
use Rattle.rules.specs.Questions.{part_answer}
use Rattle.job.specs.Parts.{refusal_in}
use Rattle.job.specs.Replies.{number_of}
use Rattle.job.proofs.Says.{named_number}
use Rattle.pack.proofs.Knowing.{found_part, no_part}
use Rattle.pack.proofs.edge_refusal.Goals as goal

pub returns-in-Ok : goal.returns-in-Ok
returns-in-Ok c = sym (ap refusal_in (found_part (part_answer c.args.pack.now c.args.i) _ _ c.in-Ok.ensures))

pub returns-in-Err : goal.returns-in-Err
returns-in-Err c =
    let w = no_part (part_answer c.args.pack.now c.args.i) _ c.in-Err.ensures in
    c.from.ensures ∙ ap number_of w.name ∙ named_number w.refusal ∙ sym (ap refusal_in w.answer)
