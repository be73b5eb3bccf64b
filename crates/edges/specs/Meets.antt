-- What each public function of `edges` answers, and every lent byte after it, by what was lent: its contract is this relation, applied to
-- its parameters, and `promises` speaks of it.
--
--   EdgesCountMeets         the count, behind the pointer
--   EdgesWidthMeets         the width
--   EdgesNumberMeets        the number of an edge
--   EdgesBuildMeets         the edge of a number, and its length
--   EdgesDipMeets           whether an edge dips, and where
--   EdgesEarlierMeets       whether the second of two edges is the earlier
--   EdgesPackWriteMeets     a pack, and its length
--   EdgesPackEdgeMeets      where edge i of a pack begins and ends
--   EdgesPackRepeatMeets    whether an edge of a pack equals an earlier one, and which
--   EdgesPackNumbersMeets   the numbers of all edges of a pack, and how many
use Rattle.std.specs.Prelude.{List, ℕ}
use Rattle.rules.specs.Answers.{count_answer, width_answer, number_answer, build_answer}
use Rattle.rules.specs.Questions.{dip_answer, second_answer, pack_answer, part_answer, repeat_answer}
use Rattle.rules.specs.Whole.{numbers_answer}
use Rattle.edges.specs.ResultWords.{SeenNumbers}
use Rattle.edges.specs.Seen.{Seen, SeenWrite, SeenDip, SeenSecond, SeenPart, SeenRepeat}

-- each: "A refusal returns its number alone and writes nothing", and what the call of the same name says; the last with an index beside the
-- number (document 02, L1)
abbrev pub EdgesCountMeets : List ℕ → ℕ → ℕ → ℕ → Type 0
EdgesCountMeets block count r count-after = Seen (count_answer block) r count count-after

abbrev pub EdgesWidthMeets : List ℕ → ℕ → ℕ → ℕ → Type 0
EdgesWidthMeets block width r width-after = Seen (width_answer block) r width width-after

abbrev pub EdgesNumberMeets : List ℕ → List ℕ → ℕ → ℕ → ℕ → Type 0
EdgesNumberMeets block edge number r number-after = Seen (number_answer block edge) r number number-after

abbrev pub EdgesBuildMeets : List ℕ → ℕ → List ℕ → ℕ → ℕ → List ℕ → ℕ → Type 0
EdgesBuildMeets block number out len r out-after len_after = SeenWrite (build_answer block number out) r len len_after out-after

abbrev pub EdgesDipMeets : List ℕ → List ℕ → ℕ → ℕ → ℕ → ℕ → ℕ → Type 0
EdgesDipMeets block edge dips place r dips-after place_after = SeenDip (dip_answer block edge) r dips place dips-after place_after

abbrev pub EdgesEarlierMeets : List ℕ → List ℕ → List ℕ → ℕ → ℕ → ℕ → Type 0
EdgesEarlierMeets block a b second r second-after = SeenSecond (second_answer block a b) r second second-after

abbrev pub EdgesPackWriteMeets : List ℕ → List ℕ → List ℕ → ℕ → ℕ → List ℕ → ℕ → Type 0
EdgesPackWriteMeets block numbers out len r out-after len_after = SeenWrite (pack_answer block numbers out) r len len_after out-after

abbrev pub EdgesPackEdgeMeets : List ℕ → ℕ → ℕ → ℕ → ℕ → ℕ → ℕ → Type 0
EdgesPackEdgeMeets pack i start end r start-after end_after = SeenPart (part_answer pack i) r start end start-after end_after

abbrev pub EdgesPackRepeatMeets : List ℕ → ℕ → ℕ → ℕ → ℕ → ℕ → ℕ → ℕ → Type 0
EdgesPackRepeatMeets pack found later earlier r found_after later-after earlier-after = SeenRepeat (repeat_answer pack) r found later earlier found_after later-after earlier-after

abbrev pub EdgesPackNumbersMeets : List ℕ → List ℕ → ℕ → ℕ → List ℕ → ℕ → Type 0
EdgesPackNumbersMeets pack numbers count r numbers_after count-after = SeenNumbers (numbers_answer pack numbers) r count count-after numbers_after
