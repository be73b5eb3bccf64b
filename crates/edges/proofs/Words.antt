-- From what an indexed answer says to the result word that C sees. Assumes nothing.
--
--   sees-numbers    the numbers of a pack; index_small: an index that is told fits its bits
--   word-refusal, word-place, word_index, word-rest    what is read off the result word of an edge that isn't valid: 5, 0, its index, 0
--   word-value, word-told, word-edge    the result word of a value, of a refusal number, and of an edge that isn't valid
--   word_number     what is read off a refusal number
use mathlib.Core.Path.{◌≡◌, refl, sym, ap, ◌∙◌}
use mathlib.Core.List.{List}
use Prim.Native.Nat.{ℕ, ◌+◌, ◌*◌, ◌<◌}
use native.Mathlib.Omega.{arith}
use Rattle.rules.specs.Refusals.{refusal_number}
use Rattle.rules.specs.Whole.{Indexed, Listed, numbers_answer}
use Rattle.rules.specs.Whole.Indexed.{value, refusal, bad_edge}
use Rattle.rules.proofs.Wholes.{numbers_index}
use Rattle.std.specs.Prelude.{Result, Err}
use Rattle.pack.specs.declared.Fault.{Fault}
use Rattle.pack.specs.declared.Fault.TheVariants.{NotEdge}
use Rattle.pack.specs.Replies.{numbers_says}
use Rattle.pack.specs.Whole.{ListedAs}
use Rattle.edges.specs.ResultWords.{result_word, shown_in, SeenNumbers, refusal_bits, place_bits, index_bits, rest_bits}

pub sees-numbers : (y : Indexed ℕ) (w : Listed) (x : Result ℕ Fault) (before : ℕ) (after : List ℕ) → numbers_says x ≡ y → ListedAs w x after
    → SeenNumbers w (result_word y) before (shown_in y before) after
sees-numbers y w x before after e h = rw (sym e ∙ h.says) (record { result = refl; count = refl; entries = h.list_is })

pub index_small : (p list after : List ℕ) (x : Result ℕ Fault) (i : ℕ) → ListedAs (numbers_answer p list) x after → x ≡ Err (NotEdge i) → i < 200
index_small p list after x i h e = numbers_index p list i (sym h.says ∙ ap numbers_says e)

pub word-value : (v : ℕ) → result_word (value v) ≡ 0
unfolding refusal_number
word-value v = refl

pub word-told : (k : ℕ) → result_word (refusal k) ≡ k
unfolding refusal_number
word-told k = refl

pub word-edge : (i : ℕ) → result_word (bad_edge i) ≡ 5 + 65536 * i
unfolding refusal_number
word-edge i = refl

module _ (i : ℕ) (l : i < 200) where
  pub word-refusal : refusal_bits (result_word (bad_edge i)) ≡ 5
  unfolding refusal_number
  word-refusal = omega arith

  pub word-place : place_bits (result_word (bad_edge i)) ≡ 0
  unfolding refusal_number
  word-place = omega arith

  pub word_index : index_bits (result_word (bad_edge i)) ≡ i
  unfolding refusal_number
  word_index = omega arith

  pub word-rest : rest_bits (result_word (bad_edge i)) ≡ 0
  unfolding refusal_number
  word-rest = omega arith

-- a number below 256 is its own refusal bits
pub word_number : (r : ℕ) → r < 256 → refusal_bits r ≡ r
word_number r l = omega arith
