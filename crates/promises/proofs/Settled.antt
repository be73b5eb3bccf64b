-- What each public function answers, and every lent byte after it, is settled by its contract: two results that meet the relation of the
-- function (`specs/Meets` of its crate, which its `ensures` is) are equal, and so are the bytes. One theorem for each function, by name.
-- Assumes nothing.
use mathlib.Core.Path.{◌≡◌, sym, ◌∙◌}
use mathlib.Core.Bool.{Bool}
use mathlib.Core.List.{List}
use Prim.Native.Nat.{ℕ}
use denote.Ref.{Bor}
use Rattle.rules.specs.Questions.{second_answer, part_answer}
use Rattle.job.specs.Meets as job
use Rattle.lines.specs.Meets as lines
use Rattle.letters.specs.Meets as letters
use Rattle.walks.specs.Meets as walks
use Rattle.plains.specs.Meets as plains
use Rattle.arch.specs.Meets as arch
use Rattle.rows.specs.Meets as rows
use Rattle.grid.specs.Meets as grid
use Rattle.calls.specs.Meets as calls
use Rattle.questions.specs.Meets as questions
use Rattle.pack.specs.Meets as pack
use Rattle.packing.specs.Meets as packing
use Rattle.listing.specs.Meets as listing
use Rattle.edges.specs.Meets as edges
use Rattle.std.specs.Prelude.{Option, Result}
use Rattle.job.specs.declared.Job.{Job}
use Rattle.job.specs.declared.Family.{Family}
use Rattle.job.specs.declared.Refusal.{Refusal}
use Rattle.lines.specs.declared.Unanswered.{Unanswered}
use Rattle.pack.specs.declared.Fault.{Fault}
use Rattle.questions.specs.declared.Which.{Which}
use Rattle.promises.proofs.One.{Alike, building_one, built-one, edge-one, equal_one, handed_one, listed-one, numbering-one, part-one, ranked-one, refusal_one, seen-dip-one, seen-numbers-one, seen_one, seen-part-one, seen-repeat-one, seen-second-one, seen_write_one, wrote_one}

pub job-put-one : (edge : List ℕ) (out : List ℕ) (r s : Result ℕ Refusal) (out-after out-next : List ℕ) → job.PutMeets edge out r out-after → job.PutMeets edge out s out-next
    → (r ≡ s) × (out-after ≡ out-next)
job-put-one edge out r s out-after out-next p q = built-one _ r s _ _ p q

pub job-wide-one : (x : ℕ) (r s : ℕ) → job.WideMeets x r → job.WideMeets x s
    → r ≡ s
job-wide-one x r s p q = equal_one _ r s p q

pub job-family-of-one : (block : List ℕ) (r s : ℕ) → job.FamilyOfMeets block r → job.FamilyOfMeets block s
    → r ≡ s
job-family-of-one block r s p q = equal_one _ r s p q

pub job-is-plain-one : (family : ℕ) (r s : Bool) → job.IsPlainMeets family r → job.IsPlainMeets family s
    → r ≡ s
job-is-plain-one family r s p q = equal_one _ r s p q

pub job-is-square-one : (family : ℕ) (r s : Bool) → job.IsSquareMeets family r → job.IsSquareMeets family s
    → r ≡ s
job-is-square-one family r s p q = equal_one _ r s p q

pub job-is-fenced-one : (family : ℕ) (r s : Bool) → job.IsFencedMeets family r → job.IsFencedMeets family s
    → r ≡ s
job-is-fenced-one family r s p q = equal_one _ r s p q

pub job-is-paired-one : (family : ℕ) (r s : Bool) → job.IsPairedMeets family r → job.IsPairedMeets family s
    → r ≡ s
job-is-paired-one family r s p q = equal_one _ r s p q

pub job-of-one : (block : List ℕ) (r s : Result Job Refusal) → job.JobOfMeets block r → job.JobOfMeets block s
    → r ≡ s
job-of-one block r s p q = equal_one _ r s p q

pub job-family-try-from-u8-one : (number : ℕ) (r s : Result Family Refusal) → job.FamilyTryFromU8Meets number r → job.FamilyTryFromU8Meets number s
    → r ≡ s
job-family-try-from-u8-one number r s p q = equal_one _ r s p q

pub job-u8-from-family-one : (family : Family) (r s : ℕ) → job.U8FromFamilyMeets family r → job.U8FromFamilyMeets family s
    → r ≡ s
job-u8-from-family-one family r s p q = equal_one _ r s p q

pub job-u8-from-refusal-one : (refusal : Refusal) (r s : ℕ) → job.U8FromRefusalMeets refusal r → job.U8FromRefusalMeets refusal s
    → r ≡ s
job-u8-from-refusal-one refusal r s p q = equal_one _ r s p q

-- and no two refusals have one number: whoever is told the number knows the refusal
pub job-u8-from-refusal-apart : (r s : Refusal) (number : ℕ) → job.U8FromRefusalMeets r number → job.U8FromRefusalMeets s number → r ≡ s
job-u8-from-refusal-apart r s number p q = refusal_one r s (sym p ∙ q)

pub lines-has-room-one : (many : ℕ) (steps : ℕ) (ends : ℕ) (r s : Bool) → lines.HasRoomMeets many steps ends r → lines.HasRoomMeets many steps ends s
    → r ≡ s
lines-has-room-one many steps ends r s p q = equal_one _ r s p q

pub lines-all-below-one : (numbers : List ℕ) (count : ℕ) (r s : Bool) → lines.AllBelowMeets numbers count r → lines.AllBelowMeets numbers count s
    → r ≡ s
lines-all-below-one numbers count r s p q = equal_one _ r s p q

pub lines-part-one : (bytes : Bor (List ℕ)) (from : ℕ) (to : ℕ) (r s : Bor (List ℕ)) → lines.PartMeets bytes from to r → lines.PartMeets bytes from to s
    → Alike r s
lines-part-one bytes from to r s p q = part-one _ _ _ r s p q

pub lines-unanswered-from-refusal-one : (refusal : Refusal) (r s : Unanswered) → lines.UnansweredFromRefusalMeets refusal r → lines.UnansweredFromRefusalMeets refusal s
    → r ≡ s
lines-unanswered-from-refusal-one refusal r s p q = equal_one _ r s p q

pub lines-refusal-from-unanswered-one : (why : Unanswered) (r s : Refusal) → lines.RefusalFromUnansweredMeets why r → lines.RefusalFromUnansweredMeets why s
    → r ≡ s
lines-refusal-from-unanswered-one why r s p q = equal_one _ r s p q

pub letters_ordinal_of-one : (lettered : Bool) (b : ℕ) (r s : ℕ) → letters.OrdinalOfMeets lettered b r → letters.OrdinalOfMeets lettered b s
    → r ≡ s
letters_ordinal_of-one lettered b r s p q = equal_one _ r s p q

pub walks-walk-one : (block : List ℕ) (edge : List ℕ) (r s : Result (Option ℕ) Refusal) → walks.WalkMeets block edge r → walks.WalkMeets block edge s
    → r ≡ s
walks-walk-one block edge r s p q = equal_one _ r s p q

pub walks-walk-all-one : (block : List ℕ) (bytes : List ℕ) (from : ℕ) (ends : List ℕ) (r s : Result (Option (ℕ × ℕ)) Refusal) → walks.WalkAllMeets block bytes from ends r → walks.WalkAllMeets block bytes from ends s
    → r ≡ s
walks-walk-all-one block bytes from ends r s p q = equal_one _ r s p q

pub plains_count-one : (n : ℕ) (m : ℕ) (diagonal : Bool) (r s : Result ℕ Refusal) → plains.CountMeets n m diagonal r → plains.CountMeets n m diagonal s
    → r ≡ s
plains_count-one n m diagonal r s p q = equal_one _ r s p q

pub arch-count-one : (block : List ℕ) (r s : Option (Result ℕ Refusal)) → arch.CountMeets block r → arch.CountMeets block s
    → r ≡ s
arch-count-one block r s p q = equal_one _ r s p q

pub arch-number-all-one : (block : List ℕ) (bytes : List ℕ) (from : ℕ) (ends : List ℕ) (numbers : List ℕ) (r s : Option (Result ℕ Unanswered)) (numbers_after numbers-next : List ℕ) → arch.NumberAllMeets block bytes from ends numbers r numbers_after → arch.NumberAllMeets block bytes from ends numbers s numbers-next
    → (r ≡ s) × (numbers_after ≡ numbers-next)
arch-number-all-one block bytes from ends numbers r s numbers_after numbers-next p q = numbering-one _ _ r s _ _ _ p q

pub arch-build-all-one : (block : List ℕ) (numbers : List ℕ) (steps : List ℕ) (ends : List ℕ) (r s : Option (Result ℕ Unanswered)) (steps-after steps_next : List ℕ) (ends-after Ends-next : List ℕ) → arch.BuildAllMeets block numbers steps ends r steps-after ends-after → arch.BuildAllMeets block numbers steps ends s steps_next Ends-next
    → (r ≡ s) × (steps-after ≡ steps_next) × (ends-after ≡ Ends-next)
arch-build-all-one block numbers steps ends r s steps-after steps_next ends-after Ends-next p q = building_one _ _ r s _ _ _ _ _ _ p q

pub rows-count-one : (block : List ℕ) (r s : Option (Result ℕ Refusal)) → rows.CountMeets block r → rows.CountMeets block s
    → r ≡ s
rows-count-one block r s p q = equal_one _ r s p q

pub rows-number-all-one : (block : List ℕ) (bytes : List ℕ) (from : ℕ) (ends : List ℕ) (numbers : List ℕ) (r s : Option (Result ℕ Unanswered)) (numbers_after numbers-next : List ℕ) → rows.NumberAllMeets block bytes from ends numbers r numbers_after → rows.NumberAllMeets block bytes from ends numbers s numbers-next
    → (r ≡ s) × (numbers_after ≡ numbers-next)
rows-number-all-one block bytes from ends numbers r s numbers_after numbers-next p q = numbering-one _ _ r s _ _ _ p q

pub rows-build-all-one : (block : List ℕ) (numbers : List ℕ) (steps : List ℕ) (ends : List ℕ) (r s : Option (Result ℕ Unanswered)) (steps-after steps_next : List ℕ) (ends-after Ends-next : List ℕ) → rows.BuildAllMeets block numbers steps ends r steps-after ends-after → rows.BuildAllMeets block numbers steps ends s steps_next Ends-next
    → (r ≡ s) × (steps-after ≡ steps_next) × (ends-after ≡ Ends-next)
rows-build-all-one block numbers steps ends r s steps-after steps_next ends-after Ends-next p q = building_one _ _ r s _ _ _ _ _ _ p q

pub grid-count-one : (block : List ℕ) (r s : Option (Result ℕ Refusal)) → grid.CountMeets block r → grid.CountMeets block s
    → r ≡ s
grid-count-one block r s p q = equal_one _ r s p q

pub grid-number-all-one : (block : List ℕ) (bytes : List ℕ) (from : ℕ) (ends : List ℕ) (numbers : List ℕ) (r s : Option (Result ℕ Unanswered)) (numbers_after numbers-next : List ℕ) → grid.NumberAllMeets block bytes from ends numbers r numbers_after → grid.NumberAllMeets block bytes from ends numbers s numbers-next
    → (r ≡ s) × (numbers_after ≡ numbers-next)
grid-number-all-one block bytes from ends numbers r s numbers_after numbers-next p q = numbering-one _ _ r s _ _ _ p q

pub grid-build-all-one : (block : List ℕ) (numbers : List ℕ) (steps : List ℕ) (ends : List ℕ) (r s : Option (Result ℕ Unanswered)) (steps-after steps_next : List ℕ) (ends-after Ends-next : List ℕ) → grid.BuildAllMeets block numbers steps ends r steps-after ends-after → grid.BuildAllMeets block numbers steps ends s steps_next Ends-next
    → (r ≡ s) × (steps-after ≡ steps_next) × (ends-after ≡ Ends-next)
grid-build-all-one block numbers steps ends r s steps-after steps_next ends-after Ends-next p q = building_one _ _ r s _ _ _ _ _ _ p q

pub calls_count-one : (block : List ℕ) (r s : Result ℕ Refusal) → calls.CountMeets block r → calls.CountMeets block s
    → r ≡ s
calls_count-one block r s p q = equal_one _ r s p q

pub calls_width_one : (block : List ℕ) (r s : Result ℕ Refusal) → calls.WidthMeets block r → calls.WidthMeets block s
    → r ≡ s
calls_width_one block r s p q = equal_one _ r s p q

pub calls_number-all-one : (block : List ℕ) (bytes : List ℕ) (from : ℕ) (ends : List ℕ) (numbers : List ℕ) (r s : Result ℕ Unanswered) (numbers_after numbers-next : List ℕ) → calls.NumberAllMeets block bytes from ends numbers r numbers_after → calls.NumberAllMeets block bytes from ends numbers s numbers-next
    → (r ≡ s) × (numbers_after ≡ numbers-next)
calls_number-all-one block bytes from ends numbers r s numbers_after numbers-next p q = ranked-one _ r s _ _ p q

pub calls_number-one : (block : List ℕ) (edge : List ℕ) (r s : Result ℕ Refusal) → calls.NumberMeets block edge r → calls.NumberMeets block edge s
    → r ≡ s
calls_number-one block edge r s p q = equal_one _ r s p q

pub calls_build-all-one : (block : List ℕ) (numbers : List ℕ) (steps : List ℕ) (ends : List ℕ) (r s : Result ℕ Unanswered) (steps-after steps_next : List ℕ) (ends-after Ends-next : List ℕ) → calls.BuildAllMeets block numbers steps ends r steps-after ends-after → calls.BuildAllMeets block numbers steps ends s steps_next Ends-next
    → (r ≡ s) × (steps-after ≡ steps_next) × (ends-after ≡ Ends-next)
calls_build-all-one block numbers steps ends r s steps-after steps_next ends-after Ends-next p q = wrote_one _ r s _ _ _ _ p q

pub calls_build-one : (block : List ℕ) (number : ℕ) (out : List ℕ) (r s : Result ℕ Refusal) (out-after out-next : List ℕ) → calls.BuildMeets block number out r out-after → calls.BuildMeets block number out s out-next
    → (r ≡ s) × (out-after ≡ out-next)
calls_build-one block number out r s out-after out-next p q = built-one _ r s _ _ p q

pub questions_compare_one : (block : List ℕ) (a : List ℕ) (b : List ℕ) (r s : Result Which Refusal) → questions.CompareMeets block a b r → questions.CompareMeets block a b s
    → r ≡ s
questions_compare_one block a b r s p q = equal_one _ r s p q

pub questions_earlier-one : (block : List ℕ) (a : Bor (List ℕ)) (b : Bor (List ℕ)) (r s : Bor (List ℕ)) → questions.EarlierMeets block a b r → questions.EarlierMeets block a b s
    → Alike r s
questions_earlier-one block a b r s p q = handed_one (second_answer block a.now b.now) a b r s p q

pub questions_earlier-refusal-one : (block : List ℕ) (a : List ℕ) (b : List ℕ) (r s : ℕ) → questions.EarlierRefusalMeets block a b r → questions.EarlierRefusalMeets block a b s
    → r ≡ s
questions_earlier-refusal-one block a b r s p q = equal_one _ r s p q

pub questions_dip-one : (block : List ℕ) (edge : List ℕ) (r s : Result (Option ℕ) Refusal) → questions.DipMeets block edge r → questions.DipMeets block edge s
    → r ≡ s
questions_dip-one block edge r s p q = equal_one _ r s p q

pub pack-part-one : (bytes : List ℕ) (i : ℕ) (r s : Result (ℕ × ℕ) Refusal) → pack.PartMeets bytes i r → pack.PartMeets bytes i s
    → r ≡ s
pack-part-one bytes i r s p q = equal_one _ r s p q

pub pack-edge-one : (bytes : Bor (List ℕ)) (i : ℕ) (r s : Bor (List ℕ)) → pack.EdgeMeets bytes i r → pack.EdgeMeets bytes i s
    → Alike r s
pack-edge-one bytes i r s p q = edge-one (part_answer bytes.now i) bytes r s p q

pub pack-edge-refusal-one : (bytes : List ℕ) (i : ℕ) (r s : ℕ) → pack.EdgeRefusalMeets bytes i r → pack.EdgeRefusalMeets bytes i s
    → r ≡ s
pack-edge-refusal-one bytes i r s p q = equal_one _ r s p q

pub pack-repeat-one : (bytes : List ℕ) (r s : Result (Option (ℕ × ℕ)) Refusal) → pack.RepeatMeets bytes r → pack.RepeatMeets bytes s
    → r ≡ s
pack-repeat-one bytes r s p q = equal_one _ r s p q

pub pack-number-all-one : (bytes : List ℕ) (list : List ℕ) (r s : Result ℕ Fault) (list-after list-next : List ℕ) → pack.NumberAllMeets bytes list r list-after → pack.NumberAllMeets bytes list s list-next
    → (r ≡ s) × (list-after ≡ list-next)
pack-number-all-one bytes list r s list-after list-next p q = listed-one _ r s _ _ p q

pub pack-fault-from-refusal-one : (why : Refusal) (r s : Fault) → pack.FaultFromRefusalMeets why r → pack.FaultFromRefusalMeets why s
    → r ≡ s
pack-fault-from-refusal-one why r s p q = equal_one _ r s p q

pub pack-fault-from-unanswered-one : (why : Unanswered) (r s : Fault) → pack.FaultFromUnansweredMeets why r → pack.FaultFromUnansweredMeets why s
    → r ≡ s
pack-fault-from-unanswered-one why r s p q = equal_one _ r s p q

pub packing_write_one : (block : List ℕ) (numbers : List ℕ) (out : List ℕ) (r s : Result ℕ Refusal) (out-after out-next : List ℕ) → packing.WriteMeets block numbers out r out-after → packing.WriteMeets block numbers out s out-next
    → (r ≡ s) × (out-after ≡ out-next)
packing_write_one block numbers out r s out-after out-next p q = built-one _ r s _ _ p q

pub listing_write_one : (block : List ℕ) (out : List ℕ) (r s : Result ℕ Refusal) (out-after out-next : List ℕ) → listing.WriteMeets block out r out-after → listing.WriteMeets block out s out-next
    → (r ≡ s) × (out-after ≡ out-next)
listing_write_one block out r s out-after out-next p q = built-one _ r s _ _ p q

pub edges-count-one : (block : List ℕ) (count : ℕ) (r s : ℕ) (count-after count_next : ℕ) → edges.EdgesCountMeets block count r count-after → edges.EdgesCountMeets block count s count_next
    → (r ≡ s) × (count-after ≡ count_next)
edges-count-one block count r s count-after count_next p q = seen_one _ _ r s _ _ p q

pub edges_width_one : (block : List ℕ) (width : ℕ) (r s : ℕ) (width-after width-next : ℕ) → edges.EdgesWidthMeets block width r width-after → edges.EdgesWidthMeets block width s width-next
    → (r ≡ s) × (width-after ≡ width-next)
edges_width_one block width r s width-after width-next p q = seen_one _ _ r s _ _ p q

pub edges-number-one : (block : List ℕ) (edge : List ℕ) (number : ℕ) (r s : ℕ) (number-after number-next : ℕ) → edges.EdgesNumberMeets block edge number r number-after → edges.EdgesNumberMeets block edge number s number-next
    → (r ≡ s) × (number-after ≡ number-next)
edges-number-one block edge number r s number-after number-next p q = seen_one _ _ r s _ _ p q

pub edges-build-one : (block : List ℕ) (number : ℕ) (out : List ℕ) (len : ℕ) (r s : ℕ) (out-after out-next : List ℕ) (len_after len-next : ℕ) → edges.EdgesBuildMeets block number out len r out-after len_after → edges.EdgesBuildMeets block number out len s out-next len-next
    → (r ≡ s) × (out-after ≡ out-next) × (len_after ≡ len-next)
edges-build-one block number out len r s out-after out-next len_after len-next p q = let t = seen_write_one _ _ r s _ _ _ _ p q in (t.0, t.2, t.1)

pub edges-dip-one : (block : List ℕ) (edge : List ℕ) (dips : ℕ) (place : ℕ) (r s : ℕ) (dips-after dips-next : ℕ) (place_after place-next : ℕ) → edges.EdgesDipMeets block edge dips place r dips-after place_after → edges.EdgesDipMeets block edge dips place s dips-next place-next
    → (r ≡ s) × (dips-after ≡ dips-next) × (place_after ≡ place-next)
edges-dip-one block edge dips place r s dips-after dips-next place_after place-next p q = seen-dip-one _ _ _ r s _ _ _ _ p q

pub edges-earlier-one : (block : List ℕ) (a : List ℕ) (b : List ℕ) (second : ℕ) (r s : ℕ) (second-after second-next : ℕ) → edges.EdgesEarlierMeets block a b second r second-after → edges.EdgesEarlierMeets block a b second s second-next
    → (r ≡ s) × (second-after ≡ second-next)
edges-earlier-one block a b second r s second-after second-next p q = seen-second-one _ _ r s _ _ p q

pub edges-pack_write_one : (block : List ℕ) (numbers : List ℕ) (out : List ℕ) (len : ℕ) (r s : ℕ) (out-after out-next : List ℕ) (len_after len-next : ℕ) → edges.EdgesPackWriteMeets block numbers out len r out-after len_after → edges.EdgesPackWriteMeets block numbers out len s out-next len-next
    → (r ≡ s) × (out-after ≡ out-next) × (len_after ≡ len-next)
edges-pack_write_one block numbers out len r s out-after out-next len_after len-next p q = let t = seen_write_one _ _ r s _ _ _ _ p q in (t.0, t.2, t.1)

pub edges-pack-edge-one : (bytes : List ℕ) (i : ℕ) (start : ℕ) (end : ℕ) (r s : ℕ) (start-after start-next : ℕ) (end_after end-next : ℕ) → edges.EdgesPackEdgeMeets bytes i start end r start-after end_after → edges.EdgesPackEdgeMeets bytes i start end s start-next end-next
    → (r ≡ s) × (start-after ≡ start-next) × (end_after ≡ end-next)
edges-pack-edge-one bytes i start end r s start-after start-next end_after end-next p q = seen-part-one _ _ _ r s _ _ _ _ p q

pub edges-pack-repeat-one : (bytes : List ℕ) (found : ℕ) (later : ℕ) (earlier : ℕ) (r s : ℕ) (found_after found-next : ℕ) (later-after later-next : ℕ) (earlier-after earlier-next : ℕ) → edges.EdgesPackRepeatMeets bytes found later earlier r found_after later-after earlier-after → edges.EdgesPackRepeatMeets bytes found later earlier s found-next later-next earlier-next
    → (r ≡ s) × (found_after ≡ found-next) × (later-after ≡ later-next) × (earlier-after ≡ earlier-next)
edges-pack-repeat-one bytes found later earlier r s found_after found-next later-after later-next earlier-after earlier-next p q = seen-repeat-one _ _ _ _ r s _ _ _ _ _ _ p q

pub edges-pack-numbers-one : (bytes : List ℕ) (numbers : List ℕ) (count : ℕ) (r s : ℕ) (numbers_after numbers-next : List ℕ) (count-after count_next : ℕ) → edges.EdgesPackNumbersMeets bytes numbers count r numbers_after count-after → edges.EdgesPackNumbersMeets bytes numbers count s numbers-next count_next
    → (r ≡ s) × (numbers_after ≡ numbers-next) × (count-after ≡ count_next)
edges-pack-numbers-one bytes numbers count r s numbers_after numbers-next count-after count_next p q = seen-numbers-one _ _ r s _ _ _ _ p q
