-- `grid::edges::glyph_of` meets its contract: a digit. Assumes nothing.
use mathlib.Core.Path.{refl}
use mathlib.Core.Bool.{false}
use Rattle.letters.proofs.Glyphs.{glyph-digit}
use Rattle.grid.proofs.edges.glyph_of.Goals as goal

pub returns : goal.returns
returns c = glyph-digit false _ refl
