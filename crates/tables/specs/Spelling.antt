-- The edges of a list of numbers by the table.
--
--   Front e old new n    the first n of the bytes old are now e, and the others are as they were
--   edges_by ..           the edges of the numbers ns
--   edges_for ..          that, or refusal 4 or 6
use Rattle.std.specs.Prelude.{◌≡◌, Bool, List, ◌++◌, map, ℕ, ◌≤◌, leb, length, drop}
use Rattle.rules.specs.Refusals.{Answer, check}
use Rattle.rules.specs.Refusals.Refusal.{over, beyond}
use Rattle.rules.specs.Refusals.Answer.{accepted}
use Rattle.rules.specs.Answers.{most}
use Rattle.rules.specs.Questions.{all_below}
use Rattle.tables.specs.Form.{walks_to}
use Rattle.tables.specs.Edges.{walk_at}
use Rattle.tables.specs.declared.Wall.{Wall}

pub record Front (e old new : List ℕ) (n : ℕ) : Type 0 where
  pub shown : new ≡ e ++ drop n old
  pub long : n ≡ length e
  pub short : n ≤ 128

abbrev pub edges_by : Bool → ℕ → Wall → List ℕ → List ℕ → ℕ → ℕ → List ℕ → List (List ℕ)
edges_by lettered k f sa sc ex ey ns = map (walk_at lettered k f sa sc ex ey) ns

abbrev pub edges_for : Bool → ℕ → Wall → List ℕ → List ℕ → ℕ → ℕ → List ℕ → Answer (List (List ℕ))
edges_for lettered k f sa sc ex ey ns =
    check (leb (walks_to k f sa sc ex ey) most) over (check (all_below (walks_to k f sa sc ex ey) ns) beyond (accepted (edges_by lettered k f sa sc ex ey ns)))
