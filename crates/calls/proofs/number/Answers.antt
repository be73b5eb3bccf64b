-- `calls::number` meets its contract: the number of a list of one edge. Assumes nothing.
use Prim.Native.Nat.{ℕ, ◌≤◌}
use mathlib.Core.Path.{◌≡◌, ◌∙◌}
use native.Mathlib.Omega.{arith}
use lib.ListN.{length, replicate, length-replicate}
use Rattle.std.proofs.Common.{rules, Err, ne_eqb}
use Rattle.lines.specs.Lines.{refusal_for}
use Rattle.calls.proofs.Ones.{one_told, one-untold}
use Rattle.calls.proofs.number.Goals as goal

-- the array for the number
place : 1 ≤ length (replicate {A = ℕ} 1 0)
place = omega (arith, length-replicate {A = ℕ} 1 0)

pub returns-in_err-n : goal.returns-in_err-n
returns-in_err-n c =
    let args = c.args in
    let h : c.from_residual.result ≡ Err (refusal_for c.in_err-n.field-0.0) = search rules in
    h ∙ one-untold args.block.now args.edge.now (replicate 1 0) _ place c.number_all.ensures c.in_err-n.was

pub returns-then-n-one : goal.returns-then-n-one
returns-then-n-one c =
    let args = c.args in
    rw c.if-n-one.true at (one_told args.block.now args.edge.now (replicate 1 0) _ place c.number_all.ensures c.in_ok-n.was)

pub returns : goal.returns
returns c =
    let args = c.args in
    rw (ne_eqb c.in_ok-n.n 1 c.if-n-one.false) at (one_told args.block.now args.edge.now (replicate 1 0) _ place c.number_all.ensures c.in_ok-n.was)
