-- What a caller in C sees of an answer whose refusal says more than its number: a result word.
--
--   result_word y           0, or the refusal number in bits 0 to 7 and the index of the edge from bit 16 on
--   shown_in y before       the value, or on a refusal what stood there before
--   SeenNumbers w r before after numbers    the result r, the count behind the pointer and the lent list afterwards
--   refusal_bits r, place_bits r, index_bits r    what `EDGES_REFUSAL`, `EDGES_PLACE` and `EDGES_INDEX` of `include/edges.h` take from a result word; rest_bits r: what is above
use Rattle.std.specs.Prelude.{◌≡◌, List, ℕ, ◌+◌, ◌*◌, ◌/◌, ◌%◌}
use Rattle.rules.specs.Refusals.{refusal_number}
use Rattle.rules.specs.Refusals.Refusal.{not-an-edge}
use Rattle.rules.specs.Whole.{Indexed, Listed}
use Rattle.rules.specs.Whole.Indexed.{value, refusal, bad_edge}

-- "If any edge is refused, the call gives the first such index"
abbrev pub result_word : Indexed ℕ → ℕ
unfolding refusal_number
result_word (value v) = 0
result_word (refusal r) = r
result_word (bad_edge i) = refusal_number not-an-edge + 65536 * i

abbrev pub shown_in : Indexed ℕ → ℕ → ℕ
shown_in (value v) before = v
shown_in (refusal r) before = before
shown_in (bad_edge i) before = before

pub record SeenNumbers (w : Listed) (r before after : ℕ) (numbers : List ℕ) : Type 0 where
  pub result : r ≡ result_word w.answer
  pub count : after ≡ shown_in w.answer before
  pub entries : numbers ≡ w.list

abbrev pub refusal_bits : ℕ → ℕ
refusal_bits r = r % 256

abbrev pub place_bits : ℕ → ℕ
place_bits r = (r / 256) % 256

abbrev pub index_bits : ℕ → ℕ
index_bits r = (r / 65536) % 256

abbrev pub rest_bits : ℕ → ℕ
rest_bits r = r / 16777216
