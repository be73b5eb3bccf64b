-- `LaidPack::offset_at` meets its contract: a layout that is kept has an offset more than edges. Assumes nothing.
use native.Mathlib.Omega.{arith}
use Rattle.pack.proofs.Layouts.{layout_of}
use Rattle.pack.proofs.layout.LaidPack.offset_at.Goals as goal

pub offset_at-requires : goal.offset_at-requires
offset_at-requires c = omega (arith, c.requires, (layout_of _ c.args.self.now.laid).table)
