-- Counts and numbers of a job, from its shape and its table. Assumes nothing.
--
--   Working J s                                the shape has steps and an end to be worked out
--   counts-over, counts-value, counts-told     the reply for each way to a count
--   shaped_in                                  the shape of the job that a held one stands for is that of its block
--   numbers-over, numbers-none                 what is answered to a list of edges without a table
--   ranks-over, ranks_fit                      and with one, where the count needs more than 64 bits and where it fits
--   plan_count, plan_numbers                   what the table of a shape's plan says is the job's
use mathlib.Core.Path.{◌≡◌, refl, sym, ap, ◌∙◌}
use mathlib.Core.Bool.{Bool}
use mathlib.Core.List.{List, [], ◌∷◌}
use Prim.Native.Nat.{ℕ, ◌^◌, ◌≤◌, ◌<◌}
use native.Mathlib.Omega.{arith}
use lib.Dec.{leb}
use borrow.Author.Tests.{le-leb, lt-leb}
use Rattle.howmany.proofs.Choices.{is_false, holds}
use Rattle.rules.specs.Jobs as rules
use Rattle.rules.specs.Counts.{count_of}
use Rattle.rules.specs.Valid.{is_edge, Valid}
use Rattle.rules.specs.Numbers.{number_of}
use Rattle.rules.specs.Refusals.{check}
use Rattle.rules.specs.Refusals.Refusal.{over}
use Rattle.rules.specs.Refusals.Answer.{accepted}
use Rattle.rules.specs.Answers.{most}
use Rattle.job.specs.declared.Job.{Job}
use Rattle.std.specs.Prelude.{Result, Ok, Err, Option, Some, None}
use Rattle.job.specs.declared.Refusal.{Refusal}
use Rattle.job.specs.declared.Refusal.TheVariants.{Over}
use Rattle.job.proofs.Standing.{Kept}
use Rattle.lines.specs.Ranks.{front_by, FrontIn, ranks_of, ranked, RankedAs}
use Rattle.lines.proofs.Ranking.{front_cong, ranked-of, ranked-refused}
use Rattle.tables.specs.Cells.{cap_of}
use Rattle.tables.specs.Shapes.{Fits, ShapedFor}
use Rattle.tables.specs.Edges as edges
use Rattle.tables.specs.Numbering.{table_ranks}
use Rattle.lines.specs.Known.{CountsOf, ranks_from, NumbersOf}
use Rattle.tables.specs.Calls.{ShapedIn, counted_of}
use Rattle.tables.specs.Plans.{PlanOf, walks_for, valid_for, rank_for, NumbersFor}
use Rattle.tables.specs.declared.Plan.{Plan}
use Rattle.tables.specs.declared.Shape.{Shape}
use Rattle.tables.proofs.Laws.{cap_count, cap_over}
use Rattle.tables.proofs.Worded.{shape-count, shape-edge, shape-number}

-- ---- the reply to a count

pub counts-over : (J : rules.Job) → 2 ^ 64 ≤ count_of J → CountsOf J (Err Over)
counts-over J l = rw (lt-leb (count_of J) most (omega arith)) refl

pub counts-value : (J : rules.Job) (c : ℕ) → count_of J ≡ c → c < 2 ^ 64 → CountsOf J (Ok c)
counts-value J c e l = rw (e, le-leb c most (omega arith)) refl

-- what is told of the table's answer is the job's count
pub counts-told : (J : rules.Job) {w : ℕ} {a : Option ℕ} {x : Result ℕ Refusal} → w ≡ count_of J → a ≡ cap_of w → x ≡ counted_of a → CountsOf J x
counts-told J {w} e q t = rw t (go _ q)
  where
    go : (a : Option ℕ) → a ≡ cap_of w → CountsOf J (counted_of a)
    go (Some c) q = let z = cap_count w c (sym q) in counts-value J c (sym e ∙ z.0) (omega (arith, z))
    go None q = counts-over J (omega (arith, cap_over w (sym q)))

-- ---- the ways through a block

pub shaped_in : (b : List ℕ) (j : Job) (k : Kept b j) {s : Option Shape} → ShapedFor j s → ShapedIn b s
shaped_in b j k w = record { shape = record { job = k.job; shaped = w k.job k.stands }; answer = k.answer }

-- ---- numbers

module _ (J : rules.Job) (es : List (List ℕ)) (before : List ℕ) where
  pub numbers-over : 2 ^ 64 ≤ count_of J → NumbersOf J es before before (Err Over)
  numbers-over l = ranked-refused (ranks_from J es) over Over before (rw (lt-leb (count_of J) most (omega arith)) refl) refl

  pub numbers-none : count_of J ≡ 0 → ((e : List ℕ) → Valid J e → ⊥) → NumbersOf J es before before (Ok 0)
  unfolding ranked Valid front_by
  numbers-none z n = rw (le-leb (count_of J) most (omega arith)) (go es)
    where
      go : (es : List (List ℕ)) → RankedAs (ranked (accepted (ranks_of J es)) before) (Ok 0) before
      go [] = record { says = refl; numbers_are = refl }
      go (e ∷ es) = rw (is_false (is_edge J e) (n e)) (record { says = refl; numbers_are = refl })

module _ (lettered : Bool) (p : Plan) (sa sc : List ℕ) (es : List (List ℕ)) (before : List ℕ) where
  pub ranks-over : 2 ^ 64 ≤ walks_for p sa sc → NumbersFor lettered p sa sc es before before (Err Over)
  unfolding table_ranks
  ranks-over l =
      ranked-refused (table_ranks lettered p.k p.wall sa sc p.ex p.ey es) over Over before (rw (lt-leb (walks_for p sa sc) most (omega arith)) refl) refl

  pub ranks_fit : (after : List ℕ) (n : ℕ) → walks_for p sa sc < 2 ^ 64 → FrontIn (valid_for lettered p sa sc) (rank_for lettered p sa sc) es before after n → NumbersFor lettered p sa sc es before after (Ok n)
  unfolding table_ranks
  ranks_fit after n l w =
      rw (le-leb (walks_for p sa sc) most (omega arith)) (ranked-of (valid_for lettered p sa sc) (rank_for lettered p sa sc) es before after n w)

module _ (J : rules.Job) (s : Shape) {lettered : Bool} (f : Fits J lettered s) {p : Plan} (po : PlanOf s p) where
  pub plan_count : walks_for p s.sa s.sc ≡ count_of J
  plan_count = rw (po.k_is, po.wall_is, po.ex_is, po.ey_is) (shape-count f.gridded s f.shows)

  -- the table's answer is the job's, in the job's letters
  pub plan_numbers : (es : List (List ℕ)) (before after : List ℕ) (x : Result ℕ Refusal)
      → NumbersFor lettered p s.sa s.sc es before after x → NumbersOf J es before after x
  unfolding table_ranks
  plan_numbers es before after x h = rw same at h
    where
      fronts : front_by (edges.is_walk lettered s.k s.wall s.sa s.sc s.ex s.ey) (edges.walk_number lettered s.k s.wall s.sa s.sc s.ex s.ey) es ≡ ranks_of J es
      fronts = front_cong _ (is_edge J) _ (number_of J) (shape-edge f.gridded s f.shows) (λ e t. shape-number f.gridded s f.shows e (holds t)) es

      same : table_ranks lettered p.k p.wall s.sa s.sc p.ex p.ey es ≡ ranks_from J es
      same = rw (plan_count, po.k_is, po.wall_is, po.ex_is, po.ey_is) (ap (λ (rs : List ℕ). check (leb (count_of J) most) over (accepted rs)) fronts)
