-- What `step` has at each of its places. Assumes nothing.
--
--   step_fits               the column is one of 33, and the sums on the way to the place of its first cell that matters fit
--   First                   only the first n steps are there; first2, first4, first8: for which n
--   step-low, step-high     where the heights of the column that matter begin, and end
--   step-empty              a column with no height that matters
--   run                     a column's run can be summed over the first n steps; run_inside: it is part of a table of that length
--   early, early_2, early_4, early_8    after an early column
--   seen                    after a later one, whose cells are looked at
use mathlib.Core.Path.{◌≡◌}
use mathlib.Core.Bool.{Bool, true}
use mathlib.Core.List.{List}
use Prim.Native.Nat.{ℕ, ◌+◌, ◌-◌, ◌*◌, ◌^◌, ◌≤◌, ◌<◌}
use native.Mathlib.Omega.{arith}
use lib.ListN.{length, get_or}
use Rattle.tables.specs.declared.Plan.{Plan}
use Rattle.tables.specs.Cells.{place, Run, Column}
use Rattle.tables.specs.Table.{From, To}
use Rattle.tables.specs.Plans.{stride_for, TableFor, SpansFor}
use Rattle.tables.specs.Filling.{Unflagged, ColumnDone}
use Rattle.tables.proofs.Laws.{mul_bound}
use Rattle.tables.proofs.Walls.{span_low, span_high}
use Rattle.tables.proofs.Columns.{run_of, column-table, most-small, empty-table, empty-small, pow_small}

pub record First (p : Plan) (sa : List ℕ) (n : ℕ) : Type 0 where
  pub some : 1 ≤ n
  pub most : n ≤ 8
  pub gone : (i : ℕ) → n ≤ i → i < 8 → p.ex < get_or sa i 0

pub record StepFits (m ey x from to : ℕ) : Type 0 where
  pub column : x < 33
  pub byte : x * 8 < 2 ^ 64
  pub next : x + 1 < 2 ^ 64
  pub tall : m + ey < 2 ^ 64
  pub stride : m + ey + 1 < 2 ^ 64
  pub base : (x + 1) * (m + ey + 1) < 2 ^ 64
  pub height : from < to → m + from < 2 ^ 64
  pub cell : from < to → (x + 1) * (m + ey + 1) + (m + from) < 2 ^ 64

fits-from : (m ey x from to : ℕ) → m ≤ 1000 → ey ≤ 1000 → x ≤ 32 → to ≤ ey + 1 → (x + 1) * (m + ey + 1) ≤ 98 * 2001 → StepFits m ey x from to
fits-from m ey x from to lm le lx lt h = record { column = omega arith; byte = omega arith; next = omega arith; tall = omega arith; stride = omega arith; base = omega arith; height = λ l. omega arith; cell = λ l. omega arith }

-- how long n steps need no test
pub early_2 : 2 ^ 60 ≤ 2305843009213693951
early_2 = omega arith

pub early_4 : 4 ^ 30 ≤ 2305843009213693951
early_4 = omega arith

pub early_8 : 8 ^ 20 ≤ 2305843009213693951
early_8 = omega arith

module _ {p : Plan} {sa sc off : List ℕ} {val : List ℕ} {x : ℕ} (b : Unflagged p sa sc off val x) where
  wide_enough : (x + 1) * stride_for p ≤ 98 * 2001
  wide_enough = mul_bound (x + 1) (stride_for p) 98 2001 (omega (arith, b.end, b.ready.sizes.ex_le)) (omega (arith, b.ready.sizes.m_le, b.ready.sizes.ey_le))

  pub first2 : p.k ≤ 2 → First p sa 2
  first2 l = record { some = omega arith; most = omega arith; gone = λ i h q. b.ready.slopes.away i (omega arith) q }

  pub first4 : p.few ≡ true → First p sa 4
  first4 e = record { some = omega arith; most = omega arith; gone = b.ready.fewer.gone e }

  pub first8 : First p sa 8
  first8 = record { some = omega arith; most = omega arith; gone = λ i h q. absurd (omega arith) }

  module _ {starts stops : List ℕ} (sp : SpansFor p starts stops) where
    step-low : From p.wall p.hi p.ex p.ey x (get_or starts x 0)
    step-low = span_low sp b.start b.end

    step-high : To p.wall p.hi p.ey x (get_or stops x 0)
    step-high = span_high sp b.start b.end

    pub step_fits : StepFits p.deep p.ey x (get_or starts x 0) (get_or stops x 0)
    step_fits =
        fits-from p.deep p.ey x (get_or starts x 0) (get_or stops x 0) b.ready.sizes.m_le b.ready.sizes.ey_le (omega (arith, b.end, sp.narrow))
        step-high.under wide_enough

    pub step-empty : get_or stops x 0 ≤ get_or starts x 0 → ColumnDone p sa sc val x true
    step-empty l = record {
      table = empty-table b.ready.slopes b.ready.offs val b.table b.start b.end (get_or starts x 0) (get_or stops x 0) step-low step-high l;
      small = λ _. empty-small b.ready.slopes b.ready.offs val b.table b.start b.end (get_or starts x 0) (get_or stops x 0) step-low step-high l b.small;
    }

    module _ (lt : get_or starts x 0 < get_or stops x 0) {n : ℕ} (fi : First p sa n) where
      pub run : Run n val sa off x (place p.deep p.ey x (get_or starts x 0)) (get_or stops x 0 - get_or starts x 0)
      run = run_of b.ready.slopes b.ready.offs val b.table b.start b.end n fi.some fi.most fi.gone (get_or starts x 0) (get_or stops x 0) step-low step-high lt b.ready.room b.small

      pub run_inside : {l : ℕ} → l ≡ length val → place p.deep p.ey x (get_or starts x 0) + (get_or stops x 0 - get_or starts x 0) ≤ l
      run_inside e = omega (arith, run.inside)

      module _ {val' : List ℕ} (co : Column n val val' sa off x (place p.deep p.ey x (get_or starts x 0)) (get_or stops x 0 - get_or starts x 0)) where
        summed : TableFor p sa sc val' (x + 1)
        summed = column-table b.ready.slopes b.ready.offs val b.table b.start b.end (get_or starts x 0) (get_or stops x 0) step-low step-high n fi.some fi.most fi.gone lt val' co

        pub early : (top : ℕ) → n ^ top ≤ 2305843009213693951 → x ≤ top → ColumnDone p sa sc val' x true
        early top le l = record {
          table = summed;
          small = λ _. pow_small b.ready.slopes b.ready.offs val b.table b.start b.end n fi.some fi.most fi.gone top le l b.small;
        }

        pub seen : (r : Bool) → (r ≡ true → (i : ℕ) → i < get_or stops x 0 - get_or starts x 0 → get_or val' (place p.deep p.ey x (get_or starts x 0) + i) 0 ≤ 2305843009213693951) → ColumnDone p sa sc val' x r
        seen r all = record {
          table = summed;
          small = λ e. most-small b.ready.slopes b.ready.offs val b.table b.start b.end (get_or starts x 0) (get_or stops x 0) step-low step-high n fi.some fi.most fi.gone lt val' co 2305843009213693951 b.small (all e) (omega arith);
        }
