-- What is looked for, as the code has it and as the documents have it. Assumes nothing.
--
--   sought r          what an answer of the code says is found
--   sought_found      what is found is what was sought; found_is: the same of an answer in hand
use mathlib.Core.Option.{Option, none, some}
use Rattle.std.proofs.Common.{◌≡◌, refl, ap, ◌∙◌, Some, None}
use Rattle.std.specs.Prelude as code
use Rattle.walks.specs.Walks.{found}

abbrev pub sought : {A : Type 0} → code.Option A → Option A
sought None = none
sought (Some x) = some x

pub sought_found : {A : Type 0} (o : Option A) → sought (found o) ≡ o
sought_found none = refl
sought_found (some x) = refl

pub found_is : {A : Type 0} (r : code.Option A) (o : Option A) → r ≡ found o → sought r ≡ o
found_is r o e = ap sought e ∙ sought_found o
