-- The end of a block's job.
--
--   EndOf b r     r is the end of the job of the block b, whose family is 1 or 3, or the refusal 1, 2 or 3 of that block
use Rattle.std.specs.Prelude.{true, List, ℕ, Result, Ok, Err}
use Rattle.rules.specs.Blocks.{family_of, plain}
use Rattle.job.specs.declared.Refusal.{Refusal}
use Rattle.lines.specs.Known.{Refusing, Ending}
use Rattle.rows.specs.declared.plain.Plain.{Plain}
use Rattle.rows.specs.Plains.{plain_job, PlainRange}

abbrev pub EndOf : List ℕ → Result Plain Refusal → Type 0
EndOf b (Err r) = Refusing (plain (family_of b)) true b r
EndOf b (Ok c) = PlainRange c × Ending (plain (family_of b)) true b (plain_job c)
