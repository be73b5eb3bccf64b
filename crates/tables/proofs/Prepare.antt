-- What is found out of a form. Assumes nothing.
--
--   steepest_more, steepest_at                  the steepest step, in the loop of `plan_of`
--   deepest_more, deepest_at                    the deepest step, in the same loop
--   offset-more                                 the loop of `grid_of`
--   ready-more                                  ready for a larger table
--   form-pos                                    all eight steps of a form, those that aren't there too
--   cells-le, prepared                          the table's size, and all that `fill` asks
use mathlib.Core.Path.{◌≡◌}
use mathlib.Core.Bool.{Bool}
use mathlib.Core.List.{List}
use Prim.Native.Nat.{ℕ, ◌+◌, ◌*◌, ◌≤◌, ◌<◌}
use native.Mathlib.Omega.{arith}
use native.Mathlib.Decide.{dec_lt}
use native.Mathlib.Nat.{mul-le-mul_right, mul-le-mul_left, le_trans}
use borrow.Author.Count.{below_more}
use lib.ListN.{length, get_or, set}
use Rattle.tables.specs.Form.{Form}
use Rattle.tables.specs.Cells.{stride_of}
use Rattle.tables.specs.Table.{Steepest, Deepest, Few, Offsets, Prepared}
use Rattle.tables.proofs.Walls.{set_more}
use Rattle.tables.specs.declared.Wall.{Wall}

pub steepest_more : {sa sc : List ℕ} {ex r i : ℕ} → Steepest sa sc ex r i → (q : ℕ) → r ≤ q → q ≤ 72 → (get_or sa i 0 ≤ ex → 6 * get_or sc i 0 ≤ q * get_or sa i 0) → Steepest sa sc ex q (i + 1)
steepest_more {sa} {sc} {ex} {r} {i} s q h l e = record {
  le = l;
  all = below_more (λ j. get_or sa j 0 ≤ ex → 6 * get_or sc j 0 ≤ q * get_or sa j 0) i (λ j m t. le_trans (s.all j m t) (mul-le-mul_right (get_or sa j 0) h)) e;
}

pub deepest_more : {sa sc : List ℕ} {top ex r i : ℕ} → Deepest sa sc top ex r i → (q : ℕ) → r ≤ q → q ≤ top → (get_or sa i 0 ≤ ex → get_or sc i 0 ≤ q) → Deepest sa sc top ex q (i + 1)
deepest_more {sa} {sc} {top} {ex} {r} {i} s q h l e = record {
  le = l;
  all = below_more (λ j. get_or sa j 0 ≤ ex → get_or sc j 0 ≤ q) i (λ j m t. le_trans (s.all j m t) h) e;
}

pub steepest_at : {sa sc : List ℕ} {ex r i : ℕ} → Steepest sa sc ex r i → i ≡ 8 → Steepest sa sc ex r 8
steepest_at s e = rw e at s

pub deepest_at : {sa sc : List ℕ} {top ex r i : ℕ} → Deepest sa sc top ex r i → i ≡ 8 → Deepest sa sc top ex r 8
deepest_at s e = rw e at s

pub offset-more : (sa sc off : List ℕ) (stride i v : ℕ) → ((j : ℕ) → j < i → get_or off j 0 ≡ get_or sa j 0 * stride + get_or sc j 0) → i < length off → v ≡ get_or sa i 0 * stride + get_or sc i 0
    → (j : ℕ) → j < i + 1 → get_or (set off i v) j 0 ≡ get_or sa j 0 * stride + get_or sc j 0
offset-more sa sc off stride i v all l e = set_more off i v (λ j o. o ≡ get_or sa j 0 * stride + get_or sc j 0) l all e

-- ready for a table is ready for a larger one
pub ready-more : {few : Bool} {k : ℕ} {f : Wall} {sa sc off : List ℕ} {hi m ex ey size : ℕ} → Prepared few k f sa sc off hi m ex ey size → (larger : ℕ) → size ≤ larger → Prepared few k f sa sc off hi m ex ey larger
ready-more r larger l = record { sizes = r.sizes; slopes = r.slopes; offs = r.offs; fewer = r.fewer; room = omega (arith, r.room) }

module _ {k : ℕ} {f : Wall} {sa sc : List ℕ} {top ex ey : ℕ} (fo : Form k f sa sc top ex ey) where
  pub form-pos : (i : ℕ) → i < 8 → 1 ≤ get_or sa i 0
  form-pos i l = elim (dec_lt i k) [ yes h ↦ fo.ahead i h | no h ↦ omega (arith, fo.away i (omega arith) l) ]

  module _ {hi m : ℕ} (st : Steepest sa sc ex hi 8) (de : Deepest sa sc top ex m 8) where
    pub cells-le : (ex + 2) * stride_of m ey ≤ 3712
    cells-le = le_trans (mul-le-mul_left (ex + 2) (omega (arith, de.le))) fo.cells

    pub prepared : {few : Bool} {off : List ℕ} → Few few sa ex → Offsets sa sc off (stride_of m ey) → (size : ℕ) → (ex + 2) * stride_of m ey ≤ size → Prepared few k f sa sc off hi m ex ey size
    prepared fe of size h = record {
      sizes = record {
        wall_le = record { slope_le = omega (arith, fo.slight.slope_le); start_le = omega (arith, fo.slight.start_le) };
        hi_le = omega (arith, st.le);
        m_le = omega (arith, de.le, fo.top_le);
        ex_le = fo.ex_le;
        ey_le = omega (arith, fo.ey_le);
        cells = cells-le;
      };
      slopes = record {
        most = fo.most;
        pos = form-pos;
        away = λ i a b. omega (arith, fo.away i a b, fo.ex_le);
        steep = st.all;
        deep = de.all;
      };
      offs = of;
      fewer = fe;
      room = h;
    }
