-- Families 1 and 3: their plan and their steps, and what is said of their table by these.
--
--   crosses f                the family f has a step D
--   plain_of j               the end of the held job j, and whether it has a step D
--   plain_job c              the job of document 01 with that end
--   plain_count c            its count, or refusal 4
--   plain_plan c             its plan: the end at the lesser of n and m, behind no wall
--   plain_right, plain_up c  its steps N, E and D: how far on, and how far up; N goes up, or E where n is below m
--   plain_back c             how far back each step's cells lie
--   rises c                  how far up N goes: 1, or 0 where n is below m
--   is_across c b             the byte b is a D, and D is a step of the job
--   plain_end c              where the end's count stands in the table
--   PlainRange c                 n and m are at most 64
--   PlainSizes, PlainReady, PlainBlank, PlainReadable    SizesFor, PreparedFor, Blank and Readable by that plan and these steps
--   plain_walks, plain_valid, plain_number, PlainRank, PlainRanks, PlainNumbers, plain_edge, PlainLists, PlainBuilds    walks_for, valid_for, rank_for, RankFor, FrontIn, NumbersFor, edge_for,
--                            ListsFor and BuildsFor by them
use Rattle.std.specs.Prelude.{ℕ, ◌+◌, ◌-◌, ◌*◌, ◌≤◌, Bool, true, false, not, ◌&&◌, List, [], ◌∷◌, map, ◌==◌, nat_lt, slice_index}
use Rattle.howmany.specs.Choose.{pick, bit}
use Rattle.rules.specs.Jobs as rules
use Rattle.rules.specs.Jobs.Job.{north_east, delannoy}
use Rattle.rules.specs.Refusals.{Answer}
use Rattle.plains.specs.Plains.{plain_answer}
use Rattle.job.specs.declared.Family.{Family}
use Rattle.job.specs.declared.Family.TheVariants.{Delannoy}
use Rattle.job.specs.declared.Job.{Job}
use Rattle.std.specs.Prelude.{Result, Option}
use Rattle.job.specs.declared.Refusal.{Refusal}
use Rattle.rows.specs.declared.plain.Plain.{Plain}
use Rattle.lines.specs.Ranks.{RankIs, FrontIn}
use Rattle.tables.specs.declared.Plan.{Plan}
use Rattle.tables.specs.Form.{unwalled}
use Rattle.tables.specs.Cells.{place}
use Rattle.tables.specs.Plans.{stride_for, SizesFor, PreparedFor, walks_for, valid_for, rank_for, NumbersFor, edge_for, ListsFor, BuildsFor}
use Rattle.tables.specs.Filling.{Blank, Readable}

-- "3 Delannoy"
abbrev pub crosses : Family → Bool
crosses Delannoy = true
crosses _ = false

abbrev pub plain_of : Job → Plain
plain_of j = record { n = j.n; m = j.m - 128; diagonal = crosses j.family }

-- "1 North-East", "3 Delannoy": "n, m 0 to 64", the end "(n,m)", "free"
abbrev pub plain_job : Plain → rules.Job
plain_job c = pick c.diagonal (delannoy c.n c.m) (north_east c.n c.m)

-- "The answer is a count or a refusal number, never both."
abbrev pub plain_count : Plain → Answer ℕ
plain_count c = plain_answer c.diagonal c.n c.m

-- no step is steeper than 1 (six times it is 6) or deeper than 1
abbrev pub plain_plan : Plain → Plan
plain_plan c = record {
  few = true;
  k = pick c.diagonal 3 2;
  wall = unwalled;
  top = 1;
  hi = 6;
  deep = 1;
  ex = c.n + c.m;
  ey = pick (nat_lt c.n c.m) c.n c.m;
}

-- "`N` (0,1), `E` (1,0)", "`D` (1,1)", each (a,b) sheared to (a + b, b), and mirrored to (a + b, a) where n is below m
abbrev pub plain_right : Plain → List ℕ
plain_right c = 1 ∷ 1 ∷ pick c.diagonal 2 100 ∷ 100 ∷ 100 ∷ 100 ∷ 100 ∷ 100 ∷ []

abbrev pub plain_up : Plain → List ℕ
plain_up c = bit (not (nat_lt c.n c.m)) ∷ bit (nat_lt c.n c.m) ∷ bit c.diagonal ∷ 0 ∷ 0 ∷ 0 ∷ 0 ∷ 0 ∷ []

-- a step (a,c) comes from a columns and c cells before
abbrev pub plain_back : Plain → List ℕ
plain_back c = map (λ i. slice_index (plain_right c) i * stride_for (plain_plan c) + slice_index (plain_up c) i) (0 ∷ 1 ∷ 2 ∷ 3 ∷ 4 ∷ 5 ∷ 6 ∷ 7 ∷ [])

-- the height of N, the first step
abbrev pub rises : Plain → ℕ
rises c = slice_index (plain_up c) 0

-- "`D` (1,1)" is a step of family 3 only
abbrev pub is_across : Plain → ℕ → Bool
is_across c b = b == 68 && c.diagonal

-- the last cell of the last column
abbrev pub plain_end : Plain → ℕ
plain_end c = place 1 (plain_plan c).ey (c.n + c.m) (plain_plan c).ey

-- "n, m 0 to 64"
pub record PlainRange (c : Plain) : Type 0 where
  pub n_most : c.n ≤ 64
  pub m_most : c.m ≤ 64

-- bounds of the plan's numbers
abbrev pub PlainSizes : Plain → Type 0
PlainSizes c = SizesFor (plain_plan c)

-- all that filling asks, for a table of that size
abbrev pub PlainReady : Plain → ℕ → Type 0
PlainReady c size = PreparedFor (plain_plan c) (plain_right c) (plain_up c) (plain_back c) size

-- a table of zeros, ready to be filled
abbrev pub PlainBlank : Plain → List ℕ → Type 0
PlainBlank c val = Blank (plain_plan c) (plain_right c) (plain_up c) (plain_back c) val

-- a filled table, and the end's count fits
abbrev pub PlainReadable : Plain → List ℕ → Type 0
PlainReadable c val = Readable (plain_plan c) (plain_right c) (plain_up c) (plain_back c) val

-- how many walks lead to the end
abbrev pub plain_walks : Plain → ℕ
plain_walks c = walks_for (plain_plan c) (plain_right c) (plain_up c)

-- whether e is an edge, and its number; the letters are N E D
abbrev pub plain_valid : Plain → List ℕ → Bool
plain_valid c e = valid_for true (plain_plan c) (plain_right c) (plain_up c) e

abbrev pub plain_number : Plain → List ℕ → ℕ
plain_number c e = rank_for true (plain_plan c) (plain_right c) (plain_up c) e

-- r says the number of the edge e, or that it is none
abbrev pub PlainRank : Plain → List ℕ → Option ℕ → Type 0
PlainRank c e r = RankIs (plain_valid c e) (plain_number c e) r

-- the numbers of n edges of es written, up to the first that is none
abbrev pub PlainRanks : Plain → List (List ℕ) → List ℕ → List ℕ → ℕ → Type 0
PlainRanks c es before after n = FrontIn (plain_valid c) (plain_number c) es before after n

-- those numbers, or refusal 4
abbrev pub PlainNumbers : Plain → List (List ℕ) → List ℕ → List ℕ → Result ℕ Refusal → Type 0
PlainNumbers c es before after r = NumbersFor true (plain_plan c) (plain_right c) (plain_up c) es before after r

-- the edge of the number r
abbrev pub plain_edge : Plain → ℕ → List ℕ
plain_edge c r = edge_for true (plain_plan c) (plain_right c) (plain_up c) r

-- the edges of the numbers ns written
abbrev pub PlainLists : Plain → List ℕ → List ℕ → List ℕ → List ℕ → List ℕ → ℕ → Type 0
PlainLists c ns steps ends after-steps after-ends at = ListsFor true (plain_plan c) (plain_right c) (plain_up c) ns steps ends after-steps after-ends at

-- those edges written, or refusal 4 or 6
abbrev pub PlainBuilds : Plain → List ℕ → List ℕ → List ℕ → List ℕ → List ℕ → Result ℕ Refusal → Type 0
PlainBuilds c ns steps ends after-steps after-ends r = BuildsFor true (plain_plan c) (plain_right c) (plain_up c) ns steps ends after-steps after-ends r
