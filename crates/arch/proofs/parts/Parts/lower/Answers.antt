-- `arch::parts::Parts::lower` meets its contract: from the shorter side, and what stands before all of them is those that end in `D`. Assumes nothing.
use mathlib.Core.Path.{◌≡◌}
use Prim.Native.Nat.{◌+◌, ◌-◌, ◌≤◌}
use native.Mathlib.Omega.{arith}
use lib.ListN.{get_or}
use Rattle.arch.specs.Sums.{offset}
use Rattle.arch.proofs.Sides.{near, far, offset-fits}
use Rattle.arch.proofs.parts.Parts.lower.Goals as goal
use Rattle.arch.proofs.parts.Parts.lower.Goals.{After-d_count-h, After-products-s-else-i-j}

-- what stands before, from the near side and from the far one
from-near : (c : After-d_count-h) →
    let args = c.args in
    c.d_count-h.result + c.products-s.result ≡ offset args.self.now.d args.self.now.v args.m args.i
from-near c = near _ _ _ _ _ _ c.products-s.ensures c.d_count-h.ensures

from-far : (c : After-products-s-else-i-j) →
    let args = c.args in
    let all = get_or args.self.now.table (args.m + args.self.now.v + 1) 0 in
    (c.products-s-else-i-j.result ≤ all) × (all - c.products-s-else-i-j.result ≡ offset args.self.now.d args.self.now.v args.m args.i)
from-far c =
    let args = c.args in
    far c.args.self.now.d c.args.self.now.v c.args.m c.args.i _ _ c.requires.1 c.products-s-else-i-j.ensures (args.self.now.full.full (c.args.m + c.args.self.now.v + 1) (omega arith))

pub overflow_add-result : goal.overflow_add-result
overflow_add-result c =
    omega (arith, from-near (goal.at.overflow_add-result c).After-d_count-h, offset-fits c.args.self.now.d c.args.self.now.v c.args.m c.args.self.now.n c.args.i c.args.self.now.table c.args.self.now.full c.requires.0 (omega arith))

pub overflow_sub-result : goal.overflow_sub-result
overflow_sub-result c = (from-far (goal.at.overflow_sub-result c).After-products-s-else-i-j).0

pub returns-then-i-j : goal.returns-then-i-j
returns-then-i-j c = from-near (goal.at.returns-then-i-j c).After-d_count-h

pub returns-else-i-j : goal.returns-else-i-j
returns-else-i-j c = (from-far (goal.at.returns-else-i-j c).After-products-s-else-i-j).1
