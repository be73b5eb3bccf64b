-- The whole output of the listing program, as bytes (document 01, "The listing program").
--
--   places n            how many digits n has: the fewest that hold it, and at least one
--   decimal n           n in digits, with no zero in front; `0` for 0
--   signed_text z        the same with a minus in front of a number below 0
--   family_word, end_word, count_word, refused_word    the words, with the spaces around them
--   field word n        a word, and the number behind it
--   header_text b c      the first line, for the block b and its count c
--   shown e             an edge as it is printed
--   line_text i e        the line of number i and its edge e
--   lines_text g k       the lines from 0 up to, not including, k; g i is the edge of number i
--   refused_text r       the one line of a refusal
--   answer_text b a      the output for a block and its job, or its refusal
--   listing_text b       the whole output for the input b
use Rattle.std.specs.Prelude.{List, [], ◌∷◌, ◌++◌, ℕ, zero, suc, ◌^◌, min, ltb, ℤ, pos, negsuc}
use Rattle.io.specs.Digits.{last_digits}
use Rattle.howmany.specs.Least.{least}
use Rattle.rules.specs.Jobs.{Job}
use Rattle.rules.specs.Counts.{count_of}
use Rattle.rules.specs.Numbers.{edge_of}
use Rattle.rules.specs.Refusals.{Answer, refusal_number}
use Rattle.rules.specs.Refusals.Answer.{accepted, refused}
use Rattle.rules.specs.Blocks.{family_of, n_of, m_of}
use Rattle.rules.specs.Answers.{known_job}

-- no number of a listing has more than 20 digits
unfoldable pub places : ℕ → ℕ
places n = suc (least (λ k. ltb n (10 ^ suc k)) 19)

unfoldable pub decimal : ℕ → List ℕ
decimal n = last_digits 10 (places n) n

-- "A negative m prints with a minus"
unfoldable pub signed_text : ℤ → List ℕ
signed_text (pos n) = decimal n
signed_text (negsuc n) = 45 ∷ decimal (suc n)

-- `family `
abbrev pub family_word : List ℕ
family_word = 102 ∷ 97 ∷ 109 ∷ 105 ∷ 108 ∷ 121 ∷ 32 ∷ []

-- ` end `
abbrev pub end_word : List ℕ
end_word = 32 ∷ 101 ∷ 110 ∷ 100 ∷ 32 ∷ []

-- ` count `
abbrev pub count_word : List ℕ
count_word = 32 ∷ 99 ∷ 111 ∷ 117 ∷ 110 ∷ 116 ∷ 32 ∷ []

-- `refused `
abbrev pub refused_word : List ℕ
refused_word = 114 ∷ 101 ∷ 102 ∷ 117 ∷ 115 ∷ 101 ∷ 100 ∷ 32 ∷ []

abbrev pub space : List ℕ
space = 32 ∷ []

-- "every line ends in one line feed"
abbrev pub feed : List ℕ
feed = 10 ∷ []

abbrev pub field : List ℕ → ℕ → List ℕ
field word n = word ++ decimal n

-- "a header (family, end point, count)"; "In families 2, 4 and 5 the end is printed as n n.": there m is n, or the block is refused
unfoldable pub header_text : List ℕ → ℕ → List ℕ
header_text block count =
    field family_word (family_of block)
    ++ (field end_word (n_of block) ++ (space ++ (signed_text (m_of block) ++ (field count_word count ++ feed))))

-- "an empty edge prints as `-`"
abbrev pub shown : List ℕ → List ℕ
shown [] = 45 ∷ []
shown (s ∷ e) = s ∷ e

-- "lines of number and edge"
unfoldable pub line_text : ℕ → List ℕ → List ℕ
line_text i edge = decimal i ++ (space ++ (shown edge ++ feed))

-- "from 0 up"
unfoldable pub lines_text : (ℕ → List ℕ) → ℕ → List ℕ
lines_text g zero = []
lines_text g (suc k) = lines_text g k ++ line_text k (g k)

-- "A refusal, here and in every later program, prints one line, as `refused 4`, and nothing else."
unfoldable pub refused_text : ℕ → List ℕ
refused_text r = field refused_word r ++ feed

-- "prints a header (family, end point, count), then up to 1,000 lines of number and edge"
unfoldable pub answer_text : List ℕ → Answer Job → List ℕ
answer_text block (accepted J) = header_text block (count_of J) ++ lines_text (edge_of J) (min (count_of J) 1000)
answer_text block (refused r) = refused_text (refusal_number r)

-- "`edgelist` reads a job block from standard input"; "Input that isn't 20 bytes long is refused 1.", as every such block is
unfoldable pub listing_text : List ℕ → List ℕ
listing_text block = answer_text block (known_job block)
