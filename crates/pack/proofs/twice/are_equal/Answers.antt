-- `twice::are_equal` meets its contract: `==` tells equal bytes. Assumes nothing.
use mathlib.Core.Path.{ap₂, ◌∙◌}
use Rattle.std.proofs.lemmas.Bool.Decides.{Decides-eqb}
use Rattle.std.proofs.lemmas.Slice.Eq.{slice_eq-Decides}
use Rattle.rules.specs.Packs.{same_bytes}
use Rattle.pack.proofs.Layouts.{same-is}
use Rattle.pack.proofs.twice.are_equal.Goals as goal

pub returns : goal.returns
returns c =
    let h = slice_eq-Decides Decides-eqb _ _ _ c.eq.ensures in
    same-is _ _ _ h.0 h.1 ∙ ap₂ same_bytes c.edge_at.ensures c.edge_at-2.ensures
