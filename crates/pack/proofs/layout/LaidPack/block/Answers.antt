-- `LaidPack::block` meets its contract: the block stands in a pack whose layout is kept. Assumes nothing.
use native.Mathlib.Omega.{arith}
use Rattle.pack.proofs.Layouts.{layout_of}
use Rattle.pack.proofs.layout.LaidPack.block.Goals as goal

pub slice_bounds-result-end : goal.slice_bounds-result-end
slice_bounds-result-end c = omega (arith, (layout_of _ c.args.self.now.laid).table)
