-- `grid::flags::put` meets its contract: value and flag of the cell, for each answer; no other cell changes. Assumes nothing.
use mathlib.Core.Path.{◌∙◌, sym, refl}
use native.Mathlib.Omega.{arith}
use Rattle.tables.proofs.Laws.{cell-zero, cell-over, put_is}
use borrow.Author.Rules.{rules}
use Rattle.grid.proofs.flags.put.Goals as goal

pub returns-in-Some : goal.returns-in-Some
returns-in-Some c = put_is _ _ _ _ _ _ (search rules) (search rules) (cell-zero _ _ refl ∙ sym c.in-Some.is)

pub returns-in-None : goal.returns-in-None
returns-in-None c = put_is _ _ _ _ _ _ (search rules) (search rules) (cell-over _ _ (λ q. omega arith) ∙ sym c.in-None.is)
