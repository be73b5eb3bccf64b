-- `listing::compose` meets its contract, for a count and for a refusal. Assumes nothing.
use mathlib.Core.Path.{sym, ◌∙◌}
use Rattle.job.proofs.Says.{answer-value}
use Rattle.listing.proofs.Telling.{listing_refused}
use Rattle.listing.proofs.compose.Goals as goal

pub listing-requires : goal.listing-requires
listing-requires c = record { counted = answer-value _ _ (sym c.in-Ok.is ∙ c.count.ensures); room = c.requires }

pub returns-in-Err : goal.returns-in-Err
returns-in-Err c = rw (listing_refused _ _ (sym c.in-Err.is ∙ c.count.ensures)) c.refused.ensures
