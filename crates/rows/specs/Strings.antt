-- Strings that stand one after the other.
--
--   strings s     the strings that s cuts out of its bytes
use Rattle.std.specs.Prelude.{List, ℕ}
use Rattle.lines.specs.Lines.{cut_from}
use Rattle.rows.specs.declared.numbering.Strings.{Strings}

abbrev pub strings : Strings → List (List ℕ)
strings s = cut_from s.from s.ends.now s.bytes.now
