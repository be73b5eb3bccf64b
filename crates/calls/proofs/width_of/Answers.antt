-- `calls::width_of` meets its contract. Assumes nothing.
use mathlib.Core.Path.{refl}
use native.Mathlib.Omega.{arith}
use Prim.Native.Nat.{◌-◌}
use lib.Count.{leading_le}
use Rattle.calls.proofs.Bits.{width_small, width_zeros}
use Rattle.calls.proofs.width_of.Goals as goal

pub returns-then-count-single : goal.returns-then-count-single
returns-then-count-single c = width_small _ (omega arith)

pub overflow_sub-result-2 : goal.overflow_sub-result-2
overflow_sub-result-2 c = omega (arith, leading_le 64 (c.args.count - 1))

pub returns : goal.returns
returns c = width_zeros _ _ (omega arith) (omega arith) refl
