-- How long the pieces of a listing are. Assumes nothing.
--
--   header_long, line_long    a header has 200 bytes at most, a line 23 beside its edge
--   signed-long, shown-long   a number with its sign, and an edge as it is shown
use mathlib.Core.List.{List, [], ◌∷◌, ◌++◌}
use Prim.Native.Nat.{ℕ, suc, ◌+◌, ◌≤◌}
use native.Mathlib.Omega.{arith}
use lib.IntN.{ℤ, pos, negsuc}
use lib.ListN.{length, length-append}
use Rattle.rules.specs.Blocks.{family_of, n_of, m_of}
use Rattle.listing.specs.Listing.{decimal, signed_text, family_word, end_word, count_word, space, feed, field, header_text, shown, line_text}
use Rattle.listing.proofs.Decimals.{decimal-long}

pub signed-long : (z : ℤ) → length (signed_text z) ≤ 21
unfolding signed_text
signed-long (pos n) = omega (arith, decimal-long n)
signed-long (negsuc n) = omega (arith, decimal-long (suc n))

pub header_long : (block : List ℕ) (count : ℕ) → length (header_text block count) ≤ 200
unfolding header_text
header_long block count =
    let rest-2 = field count_word count ++ feed in
    let rest-1 = signed_text (m_of block) ++ rest-2 in
    let rest = field end_word (n_of block) ++ (space ++ rest-1) in
    omega (
      arith,
      length-append (field family_word (family_of block)) rest,
      length-append family_word (decimal (family_of block)),
      length-append (field end_word (n_of block)) (space ++ rest-1),
      length-append end_word (decimal (n_of block)),
      length-append space rest-1,
      length-append (signed_text (m_of block)) rest-2,
      length-append (field count_word count) feed,
      length-append count_word (decimal count),
      decimal-long (family_of block),
      decimal-long (n_of block),
      signed-long (m_of block),
      decimal-long count,
    )

pub shown-long : (e : List ℕ) → length (shown e) ≤ 1 + length e
shown-long [] = omega arith
shown-long (s ∷ e) = omega arith

pub line_long : (i : ℕ) (e : List ℕ) → length (line_text i e) ≤ 23 + length e
unfolding line_text
line_long i e =
    omega (
      arith,
      length-append (decimal i) (space ++ (shown e ++ feed)),
      length-append space (shown e ++ feed),
      length-append (shown e) feed,
      decimal-long i,
      shown-long e,
    )
