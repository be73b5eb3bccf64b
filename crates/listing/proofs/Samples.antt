-- Listings, computed over the definitions: document 01's own, and one of each kind beside it. Assumes nothing.
--
--   Samples    the first is document 01's: "For the bytes 5, 3, 3 and seventeen zeros the whole output is: .."
use mathlib.Core.Path.{◌≡◌, refl}
use mathlib.Core.List.{List, [], ◌∷◌, ◌++◌}
use Prim.Native.Nat.{ℕ}
use lib.ListN.{replicate}
use Rattle.howmany.specs.Sum.{sum, find}
use Rattle.howmany.specs.Least.{least}
use Rattle.arches.specs.Counts.{count, counts, before}
use Rattle.arches.specs.Trees.{size, number, build, print}
use Rattle.rules.specs.Jobs.{N, E, D, numbered}
use Rattle.rules.specs.Refusals.{refusal_number}
use Rattle.rules.specs.Blocks.{signed}
use Rattle.rules.specs.Counts.{count_of}
use Rattle.rules.specs.Numbers.{edge_of}
use Rattle.rules.specs.Answers.{known_job}
use Rattle.listing.specs.Listing.{places, decimal, signed_text, family_word, end_word, count_word, refused_word, header_text, line_text, lines_text, refused_text, answer_text, listing_text}

-- a block of the families 1 to 5
abbrev lettered : ℕ → ℕ → ℕ → List ℕ
lettered family n m = family ∷ n ∷ m ∷ replicate 17 0

-- the digits 0 to 9 are the bytes 48 to 57
pub record Samples : Type 0 where
  pub motzkin_3 :
      listing_text (lettered 5 3 3)
      ≡ family_word ++ (53 ∷ (end_word ++ (51 ∷ 32 ∷ 51 ∷ (count_word ++ (52 ∷ 10 ∷
      48 ∷ 32 ∷ D ∷ D ∷ D ∷ 10 ∷ 49 ∷ 32 ∷ E ∷ N ∷ D ∷ 10 ∷ 50 ∷ 32 ∷ E ∷ D ∷ N ∷ 10 ∷ 51 ∷ 32 ∷ D ∷ E ∷ N ∷ 10 ∷ [])))))
  -- an empty edge prints as `-`
  pub empty_edge : listing_text (lettered 1 0 0) ≡ family_word ++ (49 ∷ (end_word ++ (48 ∷ 32 ∷ 48 ∷ (count_word ++ (49 ∷ 10 ∷ 48 ∷ 32 ∷ 45 ∷ 10 ∷ [])))))
  -- with the step (1,-1), the end (1,-1): a negative m prints with a minus
  pub below : listing_text (6 ∷ 1 ∷ 255 ∷ 1 ∷ 1 ∷ 255 ∷ replicate 14 0) ≡ family_word ++ (54 ∷ (end_word ++ (49 ∷ 32 ∷ 45 ∷ 49 ∷ (count_word ++ (49 ∷ 10 ∷ 48 ∷ 32 ∷ 49 ∷ 10 ∷ [])))))
  -- no edge: the header alone
  pub no_edge : listing_text (7 ∷ 1 ∷ 255 ∷ 1 ∷ 1 ∷ 255 ∷ replicate 14 0) ≡ family_word ++ (55 ∷ (end_word ++ (49 ∷ 32 ∷ 45 ∷ 49 ∷ (count_word ++ (48 ∷ 10 ∷ [])))))
  pub short : listing_text [] ≡ refused_word ++ (49 ∷ 10 ∷ [])
  pub far : listing_text (lettered 1 65 0) ≡ refused_word ++ (50 ∷ 10 ∷ [])
  pub most : decimal 18446744073709551615 ≡ 49 ∷ 56 ∷ 52 ∷ 52 ∷ 54 ∷ 55 ∷ 52 ∷ 52 ∷ 48 ∷ 55 ∷ 51 ∷ 55 ∷ 48 ∷ 57 ∷ 53 ∷ 53 ∷ 49 ∷ 54 ∷ 49 ∷ 53 ∷ []
  pub ten : decimal 10 ≡ 49 ∷ 48 ∷ []

pub samples : Samples
unfolding listing_text answer_text header_text lines_text line_text refused_text signed_text decimal places known_job count_of edge_of refusal_number signed numbered sum find count counts before size number build print least
samples = record {
  motzkin_3 = refl;
  empty_edge = refl;
  below = refl;
  no_edge = refl;
  short = refl;
  far = refl;
  most = refl;
  ten = refl;
}
