-- `LaidPack::edge_count` meets its contract: a layout that is kept has the edge count, which is at most 200. Assumes nothing.
use native.Mathlib.Omega.{arith}
use Rattle.pack.proofs.Layouts.{layout_of}
use Rattle.pack.proofs.layout.LaidPack.edge_count.Goals as goal

pub word_at-requires : goal.word_at-requires
word_at-requires c = omega (arith, (layout_of _ c.args.self.now.laid).table)

pub returns : goal.returns
returns c = (c.word_at.ensures.0, omega (arith, c.word_at.ensures.0, (layout_of _ c.args.self.now.laid).few))
