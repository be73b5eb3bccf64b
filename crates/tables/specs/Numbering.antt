-- The numbers of a list of edges by the table: refusal 4, or the numbers up to the first string that is no edge.
--
--   table_ranks    the answer for the edges es to (ex, ey)
use Rattle.std.specs.Prelude.{Bool, List, ℕ, leb}
use Rattle.rules.specs.Refusals.{Answer, check}
use Rattle.rules.specs.Refusals.Refusal.{over}
use Rattle.rules.specs.Refusals.Answer.{accepted}
use Rattle.rules.specs.Answers.{most}
use Rattle.lines.specs.Ranks.{front_by}
use Rattle.tables.specs.Form.{walks_to}
use Rattle.tables.specs.Edges.{is_walk, walk_number}
use Rattle.tables.specs.declared.Wall.{Wall}

unfoldable pub table_ranks : Bool → ℕ → Wall → List ℕ → List ℕ → ℕ → ℕ → List (List ℕ) → Answer (List ℕ)
table_ranks lettered k f sa sc ex ey es =
    check (leb (walks_to k f sa sc ex ey) most) over (accepted (front_by (is_walk lettered k f sa sc ex ey) (walk_number lettered k f sa sc ex ey) es))
