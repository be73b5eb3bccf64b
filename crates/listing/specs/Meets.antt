-- What each public function of `listing` answers, and every lent byte after it, by what was lent: its contract is this relation, applied to
-- its parameters, and `promises` speaks of it.
--
--   WriteMeets    the text of the listing program, at the front of the output
use Rattle.std.specs.Prelude.{List, ℕ, Result}
use Rattle.rules.specs.Refusals.Answer.{accepted}
use Rattle.rules.specs.Answers.{written}
use Rattle.job.specs.declared.Refusal.{Refusal}
use Rattle.job.specs.Replies.{BuiltAs}
use Rattle.listing.specs.Listing.{listing_text}

-- "prints a header (family, end point, count), then up to 1,000 lines of number and edge"
abbrev pub WriteMeets : List ℕ → List ℕ → Result ℕ Refusal → List ℕ → Type 0
WriteMeets block out r out-after = BuiltAs (written (accepted (listing_text block)) out) r out-after
