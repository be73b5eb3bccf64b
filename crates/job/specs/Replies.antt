-- What a call answers, as the code has it: the value, or the refusal of document 01 by its name.
--
--   named r        a refusal of document 01, in the code
--   meant r        the refusal that the code's stands for
--   number_of r    "Refusal numbers"
--   shown r        that number as a program prints it
--   reply a        an answer of document 01, in the code
--   BuiltAs w r after    a write's reply and the output's bytes after it
use Rattle.std.specs.Prelude.{◌≡◌, ℕ, List, Result, Ok, Err, decimal}
use Rattle.rules.specs.Refusals as rules
use Rattle.rules.specs.Refusals.{Answer}
use Rattle.rules.specs.Refusals.Refusal.{form, size, twin, over, not-an-edge, beyond, room, bad-pack, no-such-edge, many, kind}
use Rattle.rules.specs.Refusals.Answer.{accepted, refused}
use Rattle.rules.specs.Answers.{Written}
use Rattle.job.specs.declared.Refusal.{Refusal}
use Rattle.job.specs.declared.Refusal.TheVariants.{Form, Size, Twin, Over, NotEdge, Beyond, Room, BadPack, NoSuchEdge, Many, Kind}

abbrev pub named : rules.Refusal → Refusal
named form = Form
named size = Size
named twin = Twin
named over = Over
named not-an-edge = NotEdge
named beyond = Beyond
named room = Room
named bad-pack = BadPack
named no-such-edge = NoSuchEdge
named many = Many
named kind = Kind

abbrev pub meant : Refusal → rules.Refusal
meant Form = form
meant Size = size
meant Twin = twin
meant Over = over
meant NotEdge = not-an-edge
meant Beyond = beyond
meant Room = room
meant BadPack = bad-pack
meant NoSuchEdge = no-such-edge
meant Many = many
meant Kind = kind

abbrev pub number_of : Refusal → ℕ
number_of Form = 1
number_of Size = 2
number_of Twin = 3
number_of Over = 4
number_of NotEdge = 5
number_of Beyond = 6
number_of Room = 7
number_of BadPack = 8
number_of NoSuchEdge = 9
number_of Many = 10
number_of Kind = 11

-- "A refusal .. prints one line, as `refused 4`"
abbrev pub shown : Refusal → List ℕ
shown r = decimal (number_of r)

-- "The answer is a count or a refusal number, never both."
abbrev pub reply : {A : Type 0} → Answer A → Result A Refusal
reply (accepted a) = Ok a
reply (refused r) = Err (named r)

-- the answer r is that of the write w, and so is the output afterwards
pub record BuiltAs (w : Written) (r : Result ℕ Refusal) (after : List ℕ) : Type 0 where
  pub says : r ≡ reply w.answer
  pub output : after ≡ w.output
