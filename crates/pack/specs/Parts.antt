-- What is handed back of a pack.
--
--   EdgeIs a pack r    r is what the answer a hands back of the pack
use Rattle.std.specs.Prelude.{List, ℕ}
use Rattle.std.specs.Borrow.{Bor}
use Rattle.rules.specs.Questions.{Part}
use Rattle.rules.specs.Refusals.{Answer}
use Rattle.rules.specs.Refusals.Answer.{accepted, refused}
use Rattle.job.specs.Parts.{PartOf}

-- "Edge i of a pack: handed back as part of the pack."; "a refusal hands back the empty part at the front of the pack"
abbrev pub EdgeIs : Answer Part → Bor (List ℕ) → Bor (List ℕ) → Type 0
EdgeIs (accepted q) pack r = PartOf pack q.start q.end r
EdgeIs (refused x) pack r = PartOf pack 0 0 r
