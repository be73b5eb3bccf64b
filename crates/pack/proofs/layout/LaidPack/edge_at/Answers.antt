-- `LaidPack::edge_at` meets its contract: the part between two offsets. Assumes nothing.
use mathlib.Core.Path.{ap₂, ◌∙◌}
use native.Mathlib.Omega.{arith}
use Rattle.rules.specs.Packs.{part_of}
use Rattle.pack.proofs.Layouts.{EdgeAt, layout_of, edge_stands}
use Rattle.pack.proofs.Listed.{edge-is}
use Rattle.pack.proofs.layout.LaidPack.edge_at.Goals as goal

pub overflow_add-i : goal.overflow_add-i
overflow_add-i c = omega (arith, (layout_of _ c.args.self.now.laid).few)

-- where the edge stands
edge : (c : goal.After-offset_at-2) → EdgeAt c.args.self.now.bytes.now c.args.i
edge c = edge_stands _ c.args.self.now.laid _ c.requires

pub slice_bounds-result-count : goal.slice_bounds-result-count
slice_bounds-result-count c = omega (arith, c.offset_at.ensures, c.offset_at-2.ensures, (edge c).rise)

pub slice_bounds-result-start : goal.slice_bounds-result-start
slice_bounds-result-start c = omega (arith, c.offset_at.ensures, c.offset_at-2.ensures, (edge c).rise, (edge c).within)

pub slice_bounds-result-end : goal.slice_bounds-result-end
slice_bounds-result-end c = omega (arith, c.offset_at-2.ensures, (edge c).within)

pub returns : goal.returns
returns c = ap₂ (part_of c.args.self.now.bytes.now) c.offset_at.ensures c.offset_at-2.ensures ∙ edge-is _ _
