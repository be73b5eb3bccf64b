-- What each answer on a pack is in the code.
--
--   reply_by f a     an answer of document 01, its value told by f
--   placed           where an edge begins and ends
--   paired           the later and the earlier edge, or none
--   numbers_says     what each case of an answer to a whole pack says: how many numbers, the index of an edge that isn't valid, or a refusal number
use Rattle.std.proofs.Math.Option.{Option, none, some}
use Rattle.std.specs.Prelude as code
use Rattle.std.specs.Prelude.{ℕ, Some, None, Result, Ok, Err}
use Rattle.rules.specs.Refusals.{Answer}
use Rattle.rules.specs.Refusals.Answer.{accepted, refused}
use Rattle.rules.specs.Questions.{Part, Twice}
use Rattle.rules.specs.Whole.{Indexed}
use Rattle.rules.specs.Whole.Indexed.{value as many, refusal as told, bad_edge}
use Rattle.job.specs.declared.Refusal.{Refusal}
use Rattle.job.specs.Replies.{named, number_of}
use Rattle.pack.specs.declared.Fault.{Fault}
use Rattle.pack.specs.declared.Fault.TheVariants.{NotEdge, Refused}

abbrev pub reply_by : {A B : Type 0} → (A → B) → Answer A → Result B Refusal
reply_by f (accepted a) = Ok (f a)
reply_by f (refused r) = Err (named r)

-- "Edge i of a pack: handed back as part of the pack."
abbrev pub placed : Part → ℕ × ℕ
placed q = (q.start, q.end)

-- "the first edge that equals an earlier one, with the earliest it equals, or none"
abbrev pub paired : Option Twice → code.Option (ℕ × ℕ)
paired none = None
paired (some t) = Some (t.later, t.earlier)

-- "If any edge is refused, the call gives the first such index"
abbrev pub numbers_says : Result ℕ Fault → Indexed ℕ
numbers_says (Ok c) = many c
numbers_says (Err (NotEdge i)) = bad_edge i
numbers_says (Err (Refused r)) = told (number_of r)
