-- `arch::dyck::dyck_counts` meets its contract: an empty memo is good, and one count leaves every smaller one in it. Assumes nothing.
use mathlib.Core.Path.{refl}
use native.Mathlib.Omega.{arith}
use Rattle.arch.proofs.Memos.{good_none, filled_table}
use Rattle.arch.proofs.dyck.dyck_counts.Goals as goal

pub count_memo-requires : goal.count_memo-requires
count_memo-requires c = (c.requires, good_none 46, refl)

pub returns : goal.returns
returns c = filled_table _ _ c.requires (omega (arith, c.count_memo.ensures.2.long, c.requires)) c.count_memo.ensures.3
