-- `layout::is_marked` meets its contract: `starts_with` tells equal bytes. Assumes nothing.
use Rattle.std.proofs.lemmas.Bool.Decides.{Decides-eqb}
use Rattle.std.proofs.lemmas.Slice.Eq.{starts_is}
use Rattle.rules.specs.Packs.{mark}
use Rattle.pack.proofs.Layouts.{marked-is}
use Rattle.pack.proofs.layout.is_marked.Goals as goal

pub returns : goal.returns
returns c = let h = starts_is Decides-eqb _ mark _ c.starts_with.ensures.value in marked-is c.args.bytes.now _ h.0 h.1
