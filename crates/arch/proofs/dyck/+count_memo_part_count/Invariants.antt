-- The loop holds the products from i up to the middle, and what the memo has is right and stays. A part that is not known is worked out at its
-- own n, so `part_count` is one above `count_memo`.
use Rattle.std.proofs.Common.{◌≡◌, ◌+◌, ◌≤◌, ◌-◌, ◌*◌, ◌<◌}
use Rattle.arch.specs.Memo.{Filled, Good, Kept}
use Rattle.arch.proofs.Memos.{part}
use Rattle.arch.proofs.dyck.+count_memo_part_count.Given as goal

abbrev pub decreases-count_memo : goal.decreases-count_memo
decreases-count_memo l = 2 * l.n

abbrev pub decreases-part_count : goal.decreases-part_count
decreases-part_count l = 2 * l.n + 1

abbrev pub invariant-count_memo-loop-i : goal.invariant-count_memo-loop-i
invariant-count_memo-loop-i l =
    (l.i ≤ l.half) × Good l.memo × Kept l.initial.memo l.memo × (l.sum + part l.n l.i ≡ part l.n l.half) × (l.i < l.half → Filled (l.n - l.i) l.memo)
