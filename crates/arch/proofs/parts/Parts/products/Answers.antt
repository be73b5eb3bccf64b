-- `arch::parts::Parts::products` meets its contract: the loop holds the products below j; each sum is part of a count that fits. Assumes nothing.
use mathlib.Core.Path.{◌≡◌}
use Prim.Native.Nat.{◌+◌, ◌-◌, ◌*◌, ◌^◌, ◌<◌}
use native.Mathlib.Omega.{arith}
use lib.ListN.{get_or}
use Rattle.arches.specs.Counts.{count, before}
use Rattle.arch.proofs.Tables.{term_is, terms_fit, before-none, before-next}
use Rattle.arch.proofs.parts.Parts.products.Goals as goal
use Rattle.arch.proofs.parts.Parts.products.Goals.{In-loop-j}

-- the product of this turn, and that the sum with it fits
product : (c : In-loop-j) →
    let parts = c.args.self.now in
    let m = c.args.m in
    let j = c.loop-j.j in
    let term = count parts.d parts.v j * count parts.d parts.v (m - j) in
    (get_or parts.table j 0 * get_or parts.table (m - j) 0 ≡ term) × (before parts.d parts.v m j + term < 2 ^ 64)
product c =
    let parts = c.args.self.now in
    (term_is parts.d parts.v parts.n parts.table parts.full c.args.m _ (omega arith) (omega arith), terms_fit parts.d parts.v parts.n parts.table parts.full c.args.m _ (omega arith) (omega arith))

pub loop-j-init : goal.loop-j-init
loop-j-init c = omega (arith, before-none c.args.self.now.d c.args.self.now.v c.args.m)

pub overflow_mul-sum : goal.overflow_mul-sum
overflow_mul-sum c = omega (arith, product (goal.at.overflow_mul-sum c).In-loop-j)

pub overflow_add-sum : goal.overflow_add-sum
overflow_add-sum c = omega (arith, product (goal.at.overflow_add-sum c).In-loop-j)

pub loop-j-preserved : goal.loop-j-preserved
loop-j-preserved c =
    omega (arith, product (goal.at.loop-j-preserved c).In-loop-j, before-next c.args.self.now.d c.args.self.now.v c.args.m c.loop-j.j)
