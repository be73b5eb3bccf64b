-- `edges::edges_pack_numbers` meets its contract, from that of `pack::number_all`; an index is below 200, so that the result word has room for
-- it. Assumes nothing.
use mathlib.Core.Path.{◌≡◌, ap, ◌∙◌}
use Prim.Native.Nat.{ℕ, ◌<◌}
use native.Mathlib.Omega.{arith}
use Rattle.rules.specs.Whole.{numbers_answer}
use Rattle.rules.specs.Whole.Indexed.{value, refusal, bad_edge}
use Rattle.std.specs.Prelude.{Result, Err}
use Rattle.pack.specs.declared.Fault.{Fault}
use Rattle.pack.specs.Replies.{numbers_says}
use Rattle.edges.proofs.Words.{sees-numbers, index_small}
use Rattle.edges.proofs.edges_pack_numbers.Goals as goal
use Rattle.edges.proofs.edges_pack_numbers.Goals.{In-Err-NotEdge}

-- the error, by its case
err : (x : Fault) {y : Fault} {r : Result ℕ Fault} → r ≡ Err x → x ≡ y → r ≡ Err y
err x e q = e ∙ ap (λ (z : Fault). (let r : Result ℕ Fault = Err z in r)) q

small : (c : In-Err-NotEdge) → c.in-Err-NotEdge.i < 200
small c = index_small _ _ _ _ _ c.number_all.ensures (err _ c.in-Err-NotEdge.is c.in-Err-NotEdge.field-0-is)

pub overflow_cast-result : goal.overflow_cast-result
overflow_cast-result c = omega (arith, small (goal.at.overflow_cast-result c).In-Err-NotEdge)

pub overflow_mul-result : goal.overflow_mul-result
overflow_mul-result c = omega (arith, small (goal.at.overflow_mul-result c).In-Err-NotEdge)

pub overflow_add-result : goal.overflow_add-result
overflow_add-result c = omega (arith, small (goal.at.overflow_add-result c).In-Err-NotEdge)

pub returns-in-Ok : goal.returns-in-Ok
unfolding numbers_answer
returns-in-Ok c = sees-numbers (value _) _ _ _ _ (ap numbers_says c.in-Ok.is) c.number_all.ensures

pub returns-in-Err-NotEdge : goal.returns-in-Err-NotEdge
unfolding numbers_answer
returns-in-Err-NotEdge c = sees-numbers (bad_edge _) _ _ _ _ (ap numbers_says (err _ c.in-Err-NotEdge.is c.in-Err-NotEdge.field-0-is)) c.number_all.ensures

pub returns-in-Err-Refused : goal.returns-in-Err-Refused
unfolding numbers_answer
returns-in-Err-Refused c = rw (c.from-in-Err-Refused.ensures, c.from.ensures) (sees-numbers (refusal _) _ _ _ _ (ap numbers_says (err _ c.in-Err-Refused.is c.in-Err-Refused.field-0-is)) c.number_all.ensures)
