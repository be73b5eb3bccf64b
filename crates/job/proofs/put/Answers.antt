-- `job::put` meets its contract: room or not, and then the copy. Assumes nothing.
use Rattle.job.proofs.Puts.{put-short, put-room}
use Rattle.std.proofs.Common.{ap, List, ℕ, ◌++◌, drop, length}
use Rattle.job.proofs.put.Goals as goal

pub returns-then-out-room : goal.returns-then-out-room
returns-then-out-room c = put-short _ _ c.if-out-room.true

pub returns : goal.returns
returns c =
    put-room _ _ _ c.if-out-room.false
    (ap (λ (z : List ℕ). z ++ drop (length c.args.edge.now) c.args.out.now) c.copy_from_slice.ensures.after)
