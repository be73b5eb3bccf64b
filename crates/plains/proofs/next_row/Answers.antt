-- The loop along the row: what was made so far, for whatever row it was given. Assumes nothing.
use Rattle.std.proofs.Common.{◌≡◌, ℕ, ◌+◌, ◌^◌, ◌≤◌, get_or, set, refl, ◌∙◌, lit<, arith, length-set}
use Rattle.howmany.specs.Choose.{pick}
use Rattle.plains.specs.Plains.{ends, Row}
use Rattle.plains.proofs.Rows.{Between, picked-yes, picked_no, between_start, between_next, between-over, row-all, row-over}
use Rattle.plains.proofs.next_row.Goals as goal
use Rattle.plains.proofs.next_row.Goals.{In_ok-sum, Joined-diagonal, then-diagonal, else-diagonal}

-- what the third step brings
brings : (c : Joined-diagonal) → c.if-diagonal.b ≡ pick c.args.diagonal c.loop-i.before 0
brings c =
    elim c.if-diagonal.branch [
      | then-diagonal w ↦ picked-yes _ _ _ w.if-diagonal.true w.b-is
      | else-diagonal w ↦ picked_no _ _ _ w.if-diagonal.false w.b-is
    ]

-- a sum of the two that needs more than 64 bits
over : (c : Joined-diagonal) →
    let args = c.args in
    let at = c.loop-i in
    2 ^ 64 ≤ at.sum + get_or at.row at.i 0 + c.if-diagonal.b → (j : ℕ) → Row args.diagonal args.n j args.row.now → 2 ^ 64 ≤ ends args.diagonal args.n (j + 1)
over c h j r = between-over (c.loop-i.invariant.3 j r) c.loop-i.auto.i c.loop-i-test.true _ _ refl (brings c) h

-- the turn, once both sums are made
next : (c : In_ok-sum) →
    let args = c.args in
    let at = c.loop-i in
    let sum = c.in_ok-sum.sum in
    (j : ℕ) → Row args.diagonal args.n j args.row.now → Between args.diagonal args.n j (at.i + 1) (set at.row at.i sum) sum (get_or at.row at.i 0)
next c j r =
    between_next (c.loop-i.invariant.3 j r) c.loop-i.auto.i c.loop-i-test.true _ _ refl (brings (goal.at.In_ok-sum c).Joined-diagonal)
    (omega (arith, c.loop-i.invariant.1)) _ (omega (arith, c.in_ok-two.ensures, c.in_ok-sum.ensures))

pub loop-i-init : goal.loop-i-init
loop-i-init c = (omega arith, refl, lit< tt, λ j r. between_start _ _ j _ r)

pub returns-in_err-two : goal.returns-in_err-two
returns-in_err-two c =
    rw c.from_residual.ensures
    (row-over _ _ _ _ c.loop-i.invariant.1 (over (goal.at.returns-in_err-two c).Joined-diagonal (omega (arith, c.in_err-two.ensures))))

pub returns-in_err-sum : goal.returns-in_err-sum
returns-in_err-sum c =
    rw c.from_residual-in_err-sum.ensures
    (row-over _ _ _ _ c.loop-i.invariant.1
    (over (goal.at.returns-in_err-sum c).Joined-diagonal (omega (arith, c.in_ok-two.ensures, c.in_err-sum.ensures))))

pub loop-i-preserved : goal.loop-i-preserved
loop-i-preserved c = (omega arith, length-set c.loop-i.row _ _ ∙ c.loop-i.invariant.1, omega (arith, c.in_ok-sum.ensures), next (goal.at.loop-i-preserved c).In_ok-sum)

pub returns : goal.returns
returns c =
    row-all _ _ _ _ _ _ _ c.loop-i.invariant.1 c.loop-i-test.false c.loop-i.invariant.0 c.loop-i.invariant.2 c.loop-i.invariant.3

pub returns-in_ok-sum : goal.returns-in_ok-sum
returns-in_ok-sum c =
    row-all _ _ _ _ _ _ _ (length-set c.loop-i.row _ _ ∙ c.loop-i.invariant.1) (omega arith) (omega arith) (omega (arith, c.in_ok-sum.ensures)) (next (goal.at.returns-in_ok-sum c).In_ok-sum)
