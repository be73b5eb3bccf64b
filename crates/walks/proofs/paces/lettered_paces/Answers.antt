-- `walks::paces::lettered_paces` meets its contract by computing. Assumes nothing.
use mathlib.Core.Path.{refl}
use Rattle.walks.specs.Paces.{lettered_paces}
use Rattle.walks.proofs.paces.lettered_paces.Goals as goal

pub returns : goal.returns
unfolding lettered_paces
returns c =
    refl
