-- A count that needs more than 64 bits is refused. Assumes nothing.
--
--   told-over     where that is the refusal, there is no count
--   told-count    what isn't refused is the count
use Rattle.std.proofs.Common.{◌≡◌, refl, Option, Some, None, Ok, Err}
use Rattle.std.specs.Option.{ok_or}
use Rattle.job.specs.declared.Refusal.{Refusal}
use Rattle.job.specs.declared.Refusal.TheVariants.{Over}

module _ {A : Type 0} (o : Option A) where
  pub told-over : {x : Refusal} → Err x ≡ ok_or o Over → (o ≡ None) × (x ≡ Over)
  told-over {x} e = go o e
    where
      go : (o : Option A) → Err x ≡ ok_or o Over → (o ≡ None) × (x ≡ Over)
      go None e = (refl, cc)
      go (Some w) e = (cc, cc)

  pub told-count : {w : A} → Ok w ≡ ok_or o Over → o ≡ Some w
  told-count {w} e = go o e
    where
      go : (o : Option A) → Ok w ≡ ok_or o Over → o ≡ Some w
      go None e = cc
      go (Some v) e = cc
