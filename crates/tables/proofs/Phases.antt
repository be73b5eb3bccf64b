-- What the functions that fill the table have at each of their places. Assumes nothing.
--
--   ready_len                              ready, for another table of that length
--   place-sum                              a cell's place, summed from the left
--   Placed, placed                         the sums on the way to a cell's place fit
--   first_in, begin_table, begin_small, begin_ready    `fast`, before its loop
--   slow_placed, none_yet, inside-at, put_in, parts-of, part-more, slow_done    `slow`
--   said                                   `total`, at a step
--   turn-none                              `turn`
--   resume                                 flags put beside a table
--   flagged_filled, filled_to-end             a table filled, with flags and without
--   filled_over, filled_count, filled_readable    what the answer says of the count and of the table
--   last_row, end-cells, end-room          the end's cell is there
use mathlib.Core.Path.{◌≡◌, refl, sym, ap, ◌∙◌}
use mathlib.Core.Bool.{Bool}
use mathlib.Core.List.{List}
use Prim.Native.Nat.{ℕ, zero, suc, ◌+◌, ◌*◌, ◌^◌, ◌≤◌, ◌<◌}
use native.Mathlib.Omega.{arith}
use native.Mathlib.Decide.{dec_le, dec_lt}
use native.Mathlib.Nat.{add-mul, add-zero}
use lib.ListN.{length, get_or, set, length-set, replicate}
use lib.Seq.{get_or-set_same, get_or-set_other}
use borrow.Author.Tests.{ne_eqb}
use Rattle.job.proofs.Puts.{zeros-at}
use Rattle.howmany.specs.Sum.{sum}
use Rattle.std.specs.Prelude.{Option, Some, None}
use Rattle.tables.specs.declared.Plan.{Plan}
use Rattle.tables.specs.Form.{walks_to, via}
use Rattle.tables.specs.Cells.{cap_of, cell_at, Put, stride_of, place, source_of}
use Rattle.tables.specs.Table.{Sizes, Prepared, From, To, Table, Flagged}
use Rattle.tables.specs.Plans.{start_for, end_for, stride_for, cells_for, PreparedFor, TableFor, FlaggedFor, SmallFor, walks_for}
use Rattle.tables.specs.Filling.{Blank, FilledTo, Flagging, FlaggingSpan, Part, Parts, Says, Totals, Filled, Readable}
use Rattle.tables.proofs.Walls.{wall_in}
use Rattle.tables.proofs.Laws.{walks-start, mul_bound, cap_lt, cap_count, cap_over, count-over, cell-zero}
use Rattle.tables.proofs.Counts.{pos_of, walks-all}
use Rattle.tables.proofs.Prepare.{ready-more}
use Rattle.tables.proofs.Columns.{source_left, source_in, rows, grow, one_more, brings, sheet_next, sheet_same}
use Rattle.tables.specs.declared.Wall.{Wall}

pub ready_len : {few : Bool} {k : ℕ} {f : Wall} {sa sc off : List ℕ} {hi m ex ey size size' : ℕ} → Prepared few k f sa sc off hi m ex ey size → size' ≡ size → Prepared few k f sa sc off hi m ex ey size'
ready_len r e = ready-more r _ (omega arith)

pub place-sum : (m ey x y : ℕ) → (x + 1) * (m + ey + 1) + m + y ≡ place m ey x y
place-sum m ey x y = omega arith

-- the sums on the way to the place of height y of column x
pub record Placed (m ey x y : ℕ) : Type 0 where
  pub next : x + 1 < 2 ^ 64
  pub above : y + 1 < 2 ^ 64
  pub tall : m + ey < 2 ^ 64
  pub stride : m + ey + 1 < 2 ^ 64
  pub column : (x + 1) * (m + ey + 1) < 2 ^ 64
  pub base : (x + 1) * (m + ey + 1) + m < 2 ^ 64
  pub cell : (x + 1) * (m + ey + 1) + m + y < 2 ^ 64

placed-from : (m ey x y : ℕ) → m ≤ 1000 → ey ≤ 1000 → x ≤ 97 → y ≤ 1000 → (x + 1) * (m + ey + 1) ≤ 98 * 2001 → Placed m ey x y
placed-from m ey x y lm le lx ly h = record { next = omega arith; above = omega arith; tall = omega arith; stride = omega arith; column = omega arith; base = omega arith; cell = omega arith }

placed : {f : Wall} {hi m ex ey : ℕ} → Sizes f hi m ex ey → (x y : ℕ) → x ≤ ex → y ≤ ey → Placed m ey x y
placed {f} {hi} {m} {ex} {ey} s x y lx ly =
    placed-from m ey x y s.m_le s.ey_le (omega (arith, s.ex_le)) (omega (arith, s.ey_le))
    (mul_bound (x + 1) (m + ey + 1) 98 2001 (omega (arith, s.ex_le)) (omega (arith, s.m_le, s.ey_le)))

-- fast

module _ {p : Plan} {sa sc off : List ℕ} {val : List ℕ} (b : Blank p sa sc off val) {start : ℕ} (es : start ≡ start_for p) where
  two-rows : cells_for p ≡ p.ex * stride_for p + 2 * stride_for p
  two-rows = add-mul p.ex 2 (stride_for p)

  pub first_in : start < length val
  first_in = omega (arith, b.ready.room, two-rows)

  begin_other : (j : ℕ) → (j ≡ start → ⊥) → get_or (set val start 1) j 0 ≡ 0
  begin_other j h = get_or-set_other val start j 1 0 h ∙ b.zero_at j

  start-off : (y : ℕ) → walks_to p.k p.wall sa sc 0 (suc y) ≡ 0
  start-off y = walks-start p.k p.wall sa sc (pos_of b.ready.slopes) (suc y) ∙ rw (ne_eqb (suc y) 0 (λ q. omega arith))

  begin_at : (y : ℕ) → get_or (set val start 1) (place p.deep p.ey 0 y) 0 ≡ walks_to p.k p.wall sa sc 0 y
  begin_at zero = rw (sym es, get_or-set_same val start 1 0 first_in, walks-start p.k p.wall sa sc (pos_of b.ready.slopes) 0)
  begin_at (suc y) = begin_other (place p.deep p.ey 0 (suc y)) (λ q. omega arith) ∙ sym (start-off y)

  pub begin_table : TableFor p sa sc (set val start 1) 1
  begin_table = record {
    cells = record {
      right = λ u y l en. at_zero u y (omega arith);
      margin = λ u t l. begin_other (u * stride_for p + t) (λ q. not_margin u t l q);
      front = λ t l. begin_other t (λ q. omega arith);
    };
    blank = λ j l. begin_other j (λ q. omega arith);
  }
    where
      at_zero : (u y : ℕ) → u ≡ 0 → get_or (set val start 1) (place p.deep p.ey u y) 0 ≡ walks_to p.k p.wall sa sc u y
      at_zero u y e = rw e (begin_at y)

      not_margin : (u t : ℕ) → t < p.deep → u * stride_for p + t ≡ start → ⊥
      not_margin u t l q = elim (dec_le u 1) [ yes h ↦ omega (arith, grow (stride_for p) u 1 h) | no h ↦ omega (arith, grow (stride_for p) 2 u (omega arith)) ]

  pub begin_small : SmallFor p sa sc 1
  begin_small = record { small = λ u y l en. at_zero u y (omega arith) }
    where
      start_le : (y : ℕ) → walks_to p.k p.wall sa sc 0 y ≤ 1
      start_le zero = omega (arith, walks-start p.k p.wall sa sc (pos_of b.ready.slopes) 0)
      start_le (suc y) = omega (arith, start-off y)

      at_zero : (u y : ℕ) → u ≡ 0 → walks_to p.k p.wall sa sc u y ≤ 2305843009213693951
      at_zero u y e = rw e (omega (arith, start_le y))

  pub begin_ready : PreparedFor p sa sc off (length (set val start 1))
  begin_ready = ready_len b.ready (length-set val start 1)

-- slow

module _ {p : Plan} {sa sc off : List ℕ} {val₀ ov₀ : List ℕ} {x from to : ℕ} (s : FlaggingSpan p sa sc off val₀ ov₀ x from to) where
  pub slow_placed : (y : ℕ) → y < to → Placed p.deep p.ey x y
  slow_placed y l = placed s.turn.ready.sizes x y s.turn.end (omega (arith, s.up.under))

  pub none_yet : Part p sa sc x from val₀ ov₀ val₀ ov₀ from
  none_yet = record { before = λ j l. refl; after = λ j l. refl; here = λ t h l. absurd (omega arith) }

  module _ {val ov : List ℕ} {y : ℕ} (pt : Part p sa sc x from val₀ ov₀ val ov y) (lf : from ≤ y) (lt : y < to) where
    inside-at : place p.deep p.ey x y < cells_for p
    inside-at = omega (arith, s.up.under, one_more (stride_for p) (x + 1), grow (stride_for p) (x + 1 + 1) (p.ex + 2) (omega (arith, s.turn.end)))

    pub put_in : length val ≡ length val₀ → length ov ≡ length ov₀ → ((x + 1) * (p.deep + p.ey + 1) + p.deep + y < length val) × ((x + 1) * (p.deep + p.ey + 1) + p.deep + y < length ov)
    put_in lv lo = (omega (arith, inside-at, s.turn.ready.room), omega (arith, inside-at, s.turn.room))

    source_lt : (i : ℕ) → i < 8 → source_of sa off x (place p.deep p.ey x y) i < place p.deep p.ey x from
    source_lt i l =
        elim (dec_le (get_or sa i 0) x) [
          | yes ha ↦ rw (source_in sa off x (place p.deep p.ey x y) i ha)
              (omega (arith, s.up.under, s.turn.ready.offs.is i l, s.turn.ready.slopes.pos i l, grow (stride_for p) 1 (get_or sa i 0) (s.turn.ready.slopes.pos i l), first-row))
          | no ha ↦ rw (source_left sa off x (place p.deep p.ey x y) i (omega arith)) (omega (arith, first-row))
        ]
      where
        first-row : stride_for p ≤ (x + 1) * stride_for p
        first-row = omega (arith, grow (stride_for p) 1 (x + 1) (omega arith))

    pub parts-of : (q : ℕ) → q ≡ place p.deep p.ey x y → length val ≡ length val₀ → length ov ≡ length ov₀ → Parts sa off val ov x q
    parts-of q e lv lo = rw e (record {
      back = λ i l ha. omega (arith, s.turn.ready.offs.is i l, s.turn.ready.slopes.deep i l (omega (arith, s.turn.end)), rows (stride_for p) x (get_or sa i 0) ha);
      in_val = λ i l. omega (arith, source_lt i l, inside-at, s.turn.ready.room);
      in_ov = λ i l. omega (arith, source_lt i l, inside-at, s.turn.room);
    })

    parts_say : Says sa off val ov x (place p.deep p.ey x y) (via p.k p.wall sa sc x y)
    parts_say i l =
        pt.before (source_of sa off x (place p.deep p.ey x y) i) (source_lt i l)
        ∙ rw (add-zero (source_of sa off x (place p.deep p.ey x y) i), add-zero y) at (brings s.turn.ready.slopes s.turn.ready.offs s.turn.table.cells s.turn.end y 0 i l
        (omega (arith, s.up.under)) (omega (arith, s.fr.ends)))

    pub part-more : (v' o' : List ℕ) (r : Option ℕ) (q : ℕ) → q ≡ place p.deep p.ey x y → Put val ov v' o' q r → Totals sa off val ov x q r → Part p sa sc x from val₀ ov₀ v' o' (y + 1)
    part-more v' o' r q e pu tot = record {
      before = λ j l. pu.elsewhere j (λ z. omega arith) ∙ pt.before j l;
      after = λ j l. pu.elsewhere j (λ z. omega arith) ∙ pt.after j (omega arith);
      here = λ t h l. elim (dec_lt t y) [
        | yes g ↦ pu.elsewhere (place p.deep p.ey x t) (λ z. omega arith) ∙ pt.here t h g
        | no g ↦ now_at t (omega arith)
      ];
    }
      where
        er : r ≡ cap_of (sum (via p.k p.wall sa sc x y) 8)
        er = tot (via p.k p.wall sa sc x y) (rw e parts_say)

        now_at : (t : ℕ) → t ≡ y → cell_at v' o' (place p.deep p.ey x t) ≡ cap_of (walks_to p.k p.wall sa sc x t)
        now_at t z = rw (z, ← e) (pu.here ∙ er ∙ ap cap_of (sym (walks-all p.k p.wall sa sc s.turn.ready.slopes x y s.turn.end s.turn.start (wall_in s.fr s.up y lf lt))))

  pub slow_done : {val ov : List ℕ} {y : ℕ} → Part p sa sc x from val₀ ov₀ val ov y → y ≡ to → FlaggedFor p sa sc val ov (x + 1)
  slow_done {val} {ov} {y} pt e =
      sheet_next s.turn.ready.slopes s.turn.ready.offs s.turn.table.cells s.turn.end from to s.fr s.up s.turn.table.blank (cell_at val ov)
      pt.before (λ j l. pt.after j (omega arith)) (λ t h l. pt.here t h (omega arith))

-- total

pub said : (sa off val ov : List ℕ) (x p : ℕ) (g : ℕ → ℕ) → Says sa off val ov x p g → (i : ℕ) → i < 8 → {s : ℕ} {r : Option ℕ} → s ≡ source_of sa off x p i → r ≡ cell_at val ov s
    → r ≡ cap_of (g i)
said sa off val ov x p g says i l es er = er ∙ ap (cell_at val ov) es ∙ says i l

-- turn and rest

module _ {p : Plan} {sa sc off : List ℕ} {val ov : List ℕ} {x : ℕ} (t : Flagging p sa sc off val ov x) {from to : ℕ} (fr : From p.wall p.hi p.ex p.ey x from) (up : To p.wall p.hi p.ey x to) where
  pub turn-none : to ≤ from → FlaggedFor p sa sc val ov (x + 1)
  turn-none l = sheet_same t.ready.slopes t.ready.offs t.table.cells t.end from to fr up t.table.blank l

module _ {k : ℕ} {f : Wall} {sa sc : List ℕ} {hi m ex ey : ℕ} (val : List ℕ) {x : ℕ} (r : Table k f sa sc hi m ex ey val x) (fits : (j : ℕ) → get_or val j 0 < 2 ^ 64) where
  unflagged : (j : ℕ) → cell_at val (replicate 3712 0) j ≡ cap_of (get_or val j 0)
  unflagged j = cell-zero (get_or val j 0) _ (zeros-at 3712 j) ∙ sym (cap_lt _ (fits j))

  pub resume : Flagged k f sa sc hi m ex ey val (replicate 3712 0) x
  resume = record {
    cells = record {
      right = λ u y l en. unflagged (place m ey u y) ∙ ap cap_of (r.cells.right u y l en);
      margin = λ u t l. unflagged (u * stride_of m ey + t) ∙ ap cap_of (r.cells.margin u t l);
      front = λ t l. unflagged t ∙ ap cap_of (r.cells.front t l);
    };
    blank = λ j l. unflagged j ∙ ap cap_of (r.blank j l);
  }

pub last_row : (ex s : ℕ) → (ex + 1) * s + s ≡ (ex + 2) * s
last_row ex s = let e : ex + 1 + 1 ≡ ex + 2 = omega arith in sym (one_more s (ex + 1)) ∙ ap (λ (z : ℕ). z * s) e

module _ {p : Plan} {sa sc : List ℕ} (val ov : List ℕ) {x : ℕ} (t : FlaggedFor p sa sc val ov x) (e : x ≡ p.ex + 1) where
  pub flagged_filled : {r : Option ℕ} {at : ℕ} → r ≡ cell_at val ov at → at ≡ end_for p → Filled p sa sc val r
  flagged_filled er ep = record {
    answer = er ∙ ap (cell_at val ov) ep ∙ t.cells.right p.ex p.ey (omega arith) (omega arith, omega arith);
    solid = λ n. record { ov = ov; flags = rw e at t.cells };
  }

module _ {p : Plan} {sa sc : List ℕ} {val : List ℕ} {x : ℕ} (g : FilledTo p sa sc val x) (e : x ≡ p.ex + 1) where
  pub filled_to-end : ((j : ℕ) → get_or val j 0 < 2 ^ 64) → {v at : ℕ} → v ≡ get_or val at 0 → at ≡ end_for p → Filled p sa sc val (Some v)
  filled_to-end fits {v} {at} ev ep = record {
    answer = sym (cap_lt v (omega (arith, fits at))) ∙ ap cap_of (ev ∙ ap (λ (j : ℕ). get_or val j 0) ep ∙ g.table.cells.right p.ex p.ey (omega arith) (omega arith, omega arith));
    solid = λ n. record { ov = replicate 3712 0; flags = rw e at (resume val g.table fits).cells };
  }

-- what the answer for the end says of the table
module _ {p : Plan} {sa sc val : List ℕ} {r : Option ℕ} (f : Filled p sa sc val r) where
  pub filled_over : r ≡ None → 2 ^ 64 ≤ walks_for p sa sc
  filled_over e = cap_over (walks_for p sa sc) (sym f.answer ∙ e)

  module _ {w : ℕ} (e : r ≡ Some w) where
    pub filled_count : (w ≡ walks_for p sa sc) × (walks_for p sa sc < 2 ^ 64)
    filled_count = let h = cap_count (walks_for p sa sc) w (sym f.answer ∙ e) in (sym h.0, h.1)

    pub filled_readable : {off val₀ : List ℕ} → Blank p sa sc off val₀ → length val ≡ length val₀ → Readable p sa sc off val
    filled_readable b l = record { ready = ready_len b.ready l; solid = f.solid (count-over e); fits = filled_count.1 }

module _ {few : Bool} {k : ℕ} {f : Wall} {sa sc off : List ℕ} {hi m ex ey size : ℕ} (r : Prepared few k f sa sc off hi m ex ey size) where
  pub end-cells : (ex + 1) * stride_of m ey + stride_of m ey ≤ 3712
  end-cells = rw (last_row ex (stride_of m ey)) r.sizes.cells

  pub end-room : (ex + 1) * stride_of m ey + stride_of m ey ≤ size
  end-room = rw (last_row ex (stride_of m ey)) r.room
