-- The letters of an edge as bytes. Families 1 to 5 write N E D; families 6 and 7 write the digits 1 to 8.
--
--   ordinal_of lettered b    which step the byte b stands for; 8 where it is no letter
--   glyph_of lettered i    the byte of step i
--   letters_back lettered e     the edge e as steps, its last letter first
use Rattle.std.specs.Prelude.{Bool, true, false, List, map, reverse, ℕ, ◌+◌, ◌-◌, ltb, eqb}
use Rattle.howmany.specs.Choose.{pick}

-- "`N` before `E` before `D`; digits by value"
unfoldable pub ordinal_of : Bool → ℕ → ℕ
ordinal_of true b = pick (eqb b 78) 0 (pick (eqb b 69) 1 (pick (eqb b 68) 2 8))
ordinal_of false b = pick (ltb b 49) 8 (pick (ltb 56 b) 8 (b - 49))

unfoldable pub glyph_of : Bool → ℕ → ℕ
glyph_of true i = pick (eqb i 0) 78 (pick (eqb i 1) 69 68)
glyph_of false i = i + 49

-- "Compare two edges from their last steps backwards"
abbrev pub letters_back : Bool → List ℕ → List ℕ
letters_back lettered e = reverse (map (ordinal_of lettered) e)
