-- `grid::heights::wall` meets its contract: no wall, a roof, or a fence that is lower. Assumes nothing.
use Rattle.howmany.proofs.Choices.{holds}
use Rattle.tables.proofs.Walls.{wall-free, wall-slid, wall-mirrored, fenced-slight, slid-slight, mirrored-slight}
use Rattle.grid.proofs.heights.wall.Goals as goal

pub returns-then-f-eq0 : goal.returns-then-f-eq0
returns-then-f-eq0 c = (fenced-slight c.requires.0, wall-free c.args.mirrored c.args.f c.args.d c.requires.0.no_roof c.if-f-eq0.true)

pub returns-then-mirrored : goal.returns-then-mirrored
returns-then-mirrored c = (mirrored-slight c.requires.0 _ c.requires.1, rw c.if-mirrored.true (wall-mirrored _ _ c.requires.0.no_roof (c.requires.2 (holds c.if-mirrored.true))))

pub returns : goal.returns
returns c = rw c.saturating_sub.ensures (slid-slight c.requires.0 _, rw c.if-mirrored.false (wall-slid _ _ c.requires.0.no_roof))
