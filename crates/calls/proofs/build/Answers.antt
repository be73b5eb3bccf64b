-- `calls::build` meets its contract: the edge of a list of one, in the output itself or put to it. Assumes nothing.
use mathlib.Core.Path.{◌≡◌, sym, ap}
use Prim.Native.Nat.{ℕ, ◌≤◌}
use native.Mathlib.Omega.{arith}
use lib.ListN.{length, replicate, length-replicate}
use lib.Seq.{length-take-le}
use borrow.Author.Rules.{rules}
use Rattle.std.specs.Prelude.{Err}
use Rattle.lines.specs.Lines.{refusal_for, narrowed}
use Rattle.calls.proofs.Ones.{One, one-built, one-put, one-refused, one-whole}
use Rattle.calls.proofs.build.Goals as goal
use Rattle.calls.proofs.build.Goals.{In_ok-n}

-- the array for the edge, and the one for its end
steps-long : 128 ≤ length (replicate {A = ℕ} 128 0)
steps-long = omega (arith, length-replicate {A = ℕ} 128 0)

ends-long : 1 ≤ length (replicate {A = ℕ} 1 0)
ends-long = omega (arith, length-replicate {A = ℕ} 1 0)

-- the edge that was built
one : (c : In_ok-n) →
    let args = c.args in
    One args.block.now args.number c.in_ok-n.n c.build_all-2.new.steps
one c =
    let args = c.args in
    one-built args.block.now args.number (replicate 128 0) (replicate 1 0) steps-long ends-long _ _ _ _ c.in_ok-n.was c.build_all-2.ensures

pub returns-in_err-build_all : goal.returns-in_err-build_all
returns-in_err-build_all c =
    let args = c.args in
    let h : c.from_residual.result ≡ Err (refusal_for c.in_err-build_all.field-0.0) = search rules in
    rw h
    (one-whole args.block.now args.number args.out.now (replicate 1 0) c.if-any_fits.true ends-long _ _ _ _
    (sym (ap narrowed c.in_err-build_all.was)) (search rules) c.build_all.ensures)

pub returns-then-any_fits : goal.returns-then-any_fits
returns-then-any_fits c =
    let args = c.args in
    one-whole args.block.now args.number args.out.now (replicate 1 0) c.if-any_fits.true ends-long _ _ _ _
    (sym (ap narrowed c.in_ok-build_all.was)) (search rules) c.build_all.ensures

pub returns-in_err-n : goal.returns-in_err-n
returns-in_err-n c =
    let args = c.args in
    let h : c.from_residual-in_err-n.result ≡ Err (refusal_for c.in_err-n.field-0.0) = search rules in
    rw h
    (one-refused args.block.now args.number (replicate 128 0) (replicate 1 0) steps-long ends-long _ _ _ _ args.out.now c.in_err-n.was c.build_all-2.ensures)

pub slice_bounds-steps-end : goal.slice_bounds-steps-end
slice_bounds-steps-end c = (one (goal.at.slice_bounds-steps-end c).In_ok-n).fits

pub slice_bounds-put-end : goal.slice_bounds-put-end
slice_bounds-put-end c = sym (length-take-le _ _ (one (goal.at.slice_bounds-put-end c).In_ok-n).fits)

pub returns : goal.returns
returns c = one-put (one (goal.at.returns c).In_ok-n) _ _ _ c.put.ensures
