-- `grid::spelling::spell_front` meets its contract: the edge is spelt at the end of a buffer, and copied. Assumes nothing.
use mathlib.Core.Path.{refl}
use Rattle.tables.proofs.Builds.{front_copied}
use borrow.Author.Rules.{rules}
use Rattle.grid.proofs.spelling.spell_front.Goals as goal

pub returns : goal.returns
returns c = front_copied _ _ _ _ _ _ c.spell-at.ensures.1 c.spell-at.ensures.0 (search rules) refl c.copy_from_slice.ensures.after
