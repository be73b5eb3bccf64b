-- A column of the table from those before it. Assumes nothing.
--
--   source_left, source_in    where a step finds what it brings
--   rows, grow, one_more      rows of cells
--   ends-back                 from one step back the end can still be reached
--   brings, brings-back       what stands where a step comes from is what it brings, and so is what stands as far back as its offset says
--   none_below, none_above    a height that matters and isn't in the run has no walks
--   sheet_next, sheet_same    the sheet after a column, and where a column has no height that matters
--   run_of                    a column's run can be summed
--   column-table              the table after it
--   pow_small, most-small, empty-small    when the next column needs no test
--   empty-table               the table after a column with no height that matters
use mathlib.Core.Path.{◌≡◌, refl, sym, ap, ◌∙◌}
use mathlib.Core.List.{List}
use Prim.Native.Nat.{ℕ, ◌+◌, ◌-◌, ◌*◌, ◌^◌, ◌≤◌, ◌<◌}
use native.Mathlib.Omega.{arith}
use native.Mathlib.Decide.{dec_le, dec_lt}
use native.Mathlib.Nat.{add-zero, mul-add, add-mul, mul-le-mul_right, le_trans}
use lib.ListN.{length, get_or}
use borrow.Author.Count.{below_more}
use borrow.Author.Tests.{lt-ltb, le-ltb}
use Rattle.howmany.specs.Sum.{sum}
use Rattle.howmany.proofs.Sums.{sum_cong}
use Rattle.tables.specs.Form.{wall, walks_to, via}
use Rattle.tables.specs.Cells.{stride_of, place, source_of, col_of, Run, Column}
use Rattle.tables.specs.Table.{Offsets, Slopes, Ends, From, To, Cells, Sheet, Table, Small}
use Rattle.tables.proofs.Walls.{tested, wall_in}
use Rattle.tables.proofs.Laws.{sum-le, via_any, via-left, via-under, via_in, walks-out}
use Rattle.tables.proofs.Counts.{pos_of, walks-high, walks-first, walks-pow}
use Rattle.tables.specs.declared.Wall.{Wall}

module _ (sa off : List ℕ) (x p i : ℕ) where
  pub source_left : x < get_or sa i 0 → source_of sa off x p i ≡ 0
  unfolding source_of
  source_left h = rw (lt-ltb x (get_or sa i 0) h)

  pub source_in : get_or sa i 0 ≤ x → source_of sa off x p i ≡ p - get_or off i 0
  unfolding source_of
  source_in h = rw (le-ltb x (get_or sa i 0) h)

-- rows of s cells
module _ (s : ℕ) where
  pub rows : (x a : ℕ) → a ≤ x → (x - a + 1) * s + a * s ≡ (x + 1) * s
  rows x a l = let e : x - a + 1 + a ≡ x + 1 = omega arith in sym (add-mul (x - a + 1) a s) ∙ ap (λ (z : ℕ). z * s) e

  pub grow : (u v : ℕ) → u ≤ v → u * s ≤ v * s
  grow u v l = mul-le-mul_right s l

  pub one_more : (u : ℕ) → (u + 1) * s ≡ u * s + s
  one_more u = let e : 1 * s ≡ s = omega arith in add-mul u 1 s ∙ ap (λ (z : ℕ). u * s + z) e

pub ends-back : {k : ℕ} {sa sc : List ℕ} {hi m ex : ℕ} → Slopes k sa sc hi m ex → (ey x y i : ℕ) → x ≤ ex → Ends hi ex ey x y → i < 8 → get_or sa i 0 ≤ x → get_or sc i 0 ≤ y
    → Ends hi ex ey (x - get_or sa i 0) (y - get_or sc i 0)
ends-back {sa = sa} {hi = hi} {ex = ex} pl ey x y i lx en l ha hc =
    let e : ex - (x - get_or sa i 0) ≡ ex - x + get_or sa i 0 = omega arith in
    (omega (arith, en.0), omega (arith, en.1, pl.steep i l (omega arith), mul-add hi (ex - x) (get_or sa i 0), ap (λ (z : ℕ). hi * z) e))

module _ {k : ℕ} {f : Wall} {sa sc off : List ℕ} {hi m ex ey : ℕ} (pl : Slopes k sa sc hi m ex) (of : Offsets sa sc off (stride_of m ey)) {A : Type 0} {T : ℕ → A} {at : ℕ → A} {x : ℕ} (tb : Cells T at k f sa sc hi m ex ey x) (lx : x ≤ ex) where
  -- what stands where a step comes from
  module _ (from t i : ℕ) (li : i < 8) (le : from + t ≤ ey) (en : 6 * ey ≤ 6 * (from + t) + hi * (ex - x)) where
    a : ℕ
    a = get_or sa i 0

    c : ℕ
    c = get_or sc i 0

    spot : a ≤ x → c ≤ from + t → place m ey x from - get_or off i 0 + t ≡ place m ey (x - a) (from + t - c)
    unfolding a c
    spot ha hc = omega (arith, rows (stride_of m ey) x (get_or sa i 0) ha, of.is i li, pl.deep i li (omega arith))

    low-spot : a ≤ x → from + t < c → place m ey x from - get_or off i 0 + t ≡ (x - a + 1) * stride_of m ey + (m + (from + t) - c)
    unfolding a c
    low-spot ha hc = omega (arith, rows (stride_of m ey) x (get_or sa i 0) ha, of.is i li, pl.deep i li (omega arith))

    pub brings : at (source_of sa off x (place m ey x from) i + t) ≡ T (via k f sa sc x (from + t) i)
    unfolding a c
    brings =
        elim (dec_le (get_or sa i 0) x) [
          | yes ha ↦ rw (source_in sa off x (place m ey x from) i ha)
              (elim (dec_le (get_or sc i 0) (from + t)) [
                | yes hc ↦ rw (spot ha hc) (tb.right (x - get_or sa i 0) (from + t - get_or sc i 0) (omega (arith, pl.pos i li))
                    (ends-back pl ey x (from + t) i lx (le, en) li ha hc)
                    ∙ ap T (sym (via_in k f sa sc x (from + t) i ha hc)))
                | no hc ↦ rw (low-spot ha (omega arith)) (tb.margin (x - get_or sa i 0 + 1) (m + (from + t) - get_or sc i 0) (omega (arith, pl.deep i li (omega arith)))
                    ∙ ap T (sym (via-under k f sa sc x (from + t) i ha (omega arith))))
              ])
          | no ha ↦ rw (source_left sa off x (place m ey x from) i (omega arith)) (tb.front (0 + t) (omega arith) ∙ ap T (sym (via-left k f sa sc x (from + t) i (omega arith))))
        ]

  -- a step that leads left of the start ends in the zeros in front by its offset too
  pub brings-back : (y i : ℕ) → i < 8 → Ends hi ex ey x y → at (place m ey x y - get_or off i 0) ≡ T (via k f sa sc x y i)
  brings-back y i li en =
      elim (dec_le (get_or sa i 0) x) [
        | yes ha ↦ rw (add-zero (source_of sa off x (place m ey x y) i), add-zero y, source_in sa off x (place m ey x y) i ha) at (brings y 0 i li (omega (arith, en.0)) (omega (arith, en.1)))
        | no ha ↦ tb.front (place m ey x y - get_or off i 0) (omega (arith, en.0, of.is i li, grow (stride_of m ey) (x + 1) (get_or sa i 0) (omega arith)))
            ∙ ap T (sym (via-left k f sa sc x y i (omega arith)))
      ]

  -- a height that matters and isn't in the run has no walks
  module _ (from to : ℕ) (fr : From f hi ex ey x from) (up : To f hi ey x to) where
    pub none_below : (y : ℕ) → Ends hi ex ey x y → y < from → walks_to k f sa sc x y ≡ 0
    none_below y en l = walks-out k f sa sc (pos_of pl) x y (fr.least y l en.1)

    pub none_above : (y : ℕ) → Ends hi ex ey x y → to ≤ y → walks_to k f sa sc x y ≡ 0
    none_above y en l = elim (tested (wall f x y)) [
      | yes t ↦ walks-high k f sa sc pl x x y (omega arith) lx (up.beyond y l en.0 t)
      | no t ↦ walks-out k f sa sc (pos_of pl) x y t
    ]

    -- the table after a column
    module _ (blank : (j : ℕ) → (x + 1) * stride_of m ey ≤ j → at j ≡ T 0) (at' : ℕ → A) (before : (j : ℕ) → j < place m ey x from → at' j ≡ at j) (after : (j : ℕ) → place m ey x to ≤ j → at' j ≡ at j)
        (here : (y : ℕ) → from ≤ y → y < to → at' (place m ey x y) ≡ T (walks_to k f sa sc x y)) where
      at_x : (y : ℕ) → Ends hi ex ey x y → at' (place m ey x y) ≡ T (walks_to k f sa sc x y)
      at_x y en =
          elim (dec_lt y from) [
            | yes l ↦ before (place m ey x y) (omega arith) ∙ blank (place m ey x y) (omega arith) ∙ ap T (sym (none_below y en l))
            | no l ↦ elim (dec_le to y) [
              | yes r ↦ after (place m ey x y) (omega arith) ∙ blank (place m ey x y) (omega arith) ∙ ap T (sym (none_above y en r))
              | no r ↦ here y (omega arith) (omega arith)
            ]
          ]

      pub sheet_next : Sheet T at' k f sa sc hi m ex ey (x + 1)
      sheet_next = record {
        cells = record {
          right = λ u y l en. below_more (λ u. (y : ℕ) → Ends hi ex ey u y → at' (place m ey u y) ≡ T (walks_to k f sa sc u y)) x
              (λ u h y en. before (place m ey u y) (omega (arith, en.0, one_more (stride_of m ey) (u + 1), grow (stride_of m ey) (u + 1 + 1) (x + 1) (omega arith))) ∙ tb.right u y h en) at_x u l y en;
          margin = λ u t l. elim (dec_le u (x + 1)) [
            | yes h ↦ before (u * stride_of m ey + t) (omega (arith, grow (stride_of m ey) u (x + 1) h)) ∙ tb.margin u t l
            | no h ↦ after (u * stride_of m ey + t) (omega (arith, up.under, one_more (stride_of m ey) (x + 1), grow (stride_of m ey) (x + 1 + 1) u (omega arith))) ∙ tb.margin u t l
          ];
          front = λ t l. before t (omega (arith, grow (stride_of m ey) 1 (x + 1) (omega arith))) ∙ tb.front t l;
        };
        blank = λ j l. after j (omega (arith, up.under, one_more (stride_of m ey) (x + 1))) ∙ blank j (omega (arith, one_more (stride_of m ey) (x + 1)));
      }

    -- the table where the column has no height that matters
    pub sheet_same : ((j : ℕ) → (x + 1) * stride_of m ey ≤ j → at j ≡ T 0) → to ≤ from → Sheet T at k f sa sc hi m ex ey (x + 1)
    sheet_same blank le = sheet_next blank at (λ j l. refl) (λ j l. refl) (λ y p q. absurd (omega arith))

module _ {k : ℕ} {f : Wall} {sa sc off : List ℕ} {hi m ex ey : ℕ} (pl : Slopes k sa sc hi m ex) (of : Offsets sa sc off (stride_of m ey)) (val : List ℕ) {x : ℕ} (tb : Table k f sa sc hi m ex ey val x) (px : 1 ≤ x) (lx : x ≤ ex) where
  module _ (n : ℕ) (n_pos : 1 ≤ n) (n-le : n ≤ 8) (gone : (i : ℕ) → n ≤ i → i < 8 → ex < get_or sa i 0) (from to : ℕ) (fr : From f hi ex ey x from) (up : To f hi ey x to) where
    ends_at : (t : ℕ) → from + t < to → Ends hi ex ey x (from + t)
    ends_at t l = (omega (arith, up.under), omega (arith, fr.ends))

    sums : (t : ℕ) → from + t < to → col_of n val sa off x (place m ey x from) t ≡ sum (via k f sa sc x (from + t)) n
    sums t l = sum_cong _ _ n (λ i li. brings pl of tb.cells lx from t i (omega arith) (ends_at t l).0 (ends_at t l).1)

    sums_are : (t : ℕ) → from + t < to → col_of n val sa off x (place m ey x from) t ≡ walks_to k f sa sc x (from + t)
    sums_are t l = sums t l ∙ sym (walks-first k f sa sc pl n n_pos n-le gone x (from + t) px lx (wall_in fr up (from + t) (omega arith) l))

    pub run_of : from < to → (ex + 2) * stride_of m ey ≤ length val → Small k f sa sc hi ex ey x → Run n val sa off x (place m ey x from) (to - from)
    run_of lt room sm = record {
      inside = omega (arith, up.under, one_more (stride_of m ey) (x + 1), grow (stride_of m ey) (x + 1 + 1) (ex + 2) (omega arith));
      back = λ i li ha. omega (arith, rows (stride_of m ey) x (get_or sa i 0) ha, of.is i (omega arith), pl.deep i (omega arith) (omega arith));
      apart = λ i li. elim (dec_le (get_or sa i 0) x) [
        | yes ha ↦ rw (source_in sa off x (place m ey x from) i ha) (omega (arith, up.under, rows (stride_of m ey) x (get_or sa i 0) ha, of.is i (omega arith), pl.deep i (omega arith) (omega arith), pl.pos i (omega arith), grow (stride_of m ey) 1 (get_or sa i 0) (pl.pos i (omega arith))))
        | no ha ↦ rw (source_left sa off x (place m ey x from) i (omega arith)) (omega (arith, up.under, grow (stride_of m ey) 1 (x + 1) (omega arith)))
      ];
      fits = λ t lt'. rw (sums t (omega arith)) (omega (
        arith,
        sum-le (via k f sa sc x (from + t)) 2305843009213693951 n
            (λ i li. via_any k f sa sc (λ v. v ≤ 2305843009213693951) x (from + t) i (omega arith)
            (λ ha hc. sm.small (x - get_or sa i 0) (from + t - get_or sc i 0) (omega (arith, pl.pos i (omega arith))) (ends-back pl ey x (from + t) i lx (ends_at t (omega arith)) (omega arith) ha hc))),
      ));
    }

  small-next : Small k f sa sc hi ex ey x → ((y : ℕ) → Ends hi ex ey x y → walks_to k f sa sc x y ≤ 2305843009213693951) → Small k f sa sc hi ex ey (x + 1)
  small-next sm all = record {
    small = λ u y l en. below_more (λ u. (y : ℕ) → Ends hi ex ey u y → walks_to k f sa sc u y ≤ 2305843009213693951) x (λ u h y en. sm.small u y h en) all u l y en;
  }

  pub pow_small : (n : ℕ) → 1 ≤ n → n ≤ 8 → ((i : ℕ) → n ≤ i → i < 8 → ex < get_or sa i 0) → (top : ℕ) → n ^ top ≤ 2305843009213693951 → x ≤ top → Small k f sa sc hi ex ey x → Small k f sa sc hi ex ey (x + 1)
  pow_small n n_pos n-le gone top le l sm = small-next sm (λ y en. le_trans (walks-pow k f sa sc pl n n_pos n-le gone top x y l lx) le)

  module _ (from to : ℕ) (fr : From f hi ex ey x from) (up : To f hi ey x to) where
    -- no sum is large if none of the run is
    run_small : Small k f sa sc hi ex ey x → ((y : ℕ) → from ≤ y → y < to → walks_to k f sa sc x y ≤ 2305843009213693951) → Small k f sa sc hi ex ey (x + 1)
    run_small sm here = small-next sm (λ y en. elim (dec_lt y from) [
      | yes l ↦ omega (arith, none_below pl of tb.cells lx from to fr up y en l)
      | no l ↦ elim (dec_le to y) [ yes q ↦ omega (arith, none_above pl of tb.cells lx from to fr up y en q) | no q ↦ here y (omega arith) (omega arith) ]
    ])

    -- the table after a column
    module _ (n : ℕ) (n_pos : 1 ≤ n) (n-le : n ≤ 8) (gone : (i : ℕ) → n ≤ i → i < 8 → ex < get_or sa i 0) (lt : from < to) (val' : List ℕ) (co : Column n val val' sa off x (place m ey x from) (to - from)) where
      here-at : (y : ℕ) → from ≤ y → y < to → get_or val' (place m ey x y) 0 ≡ walks_to k f sa sc x y
      here-at y p q =
          let e : from + (y - from) ≡ y = omega arith in
          let g : place m ey x y ≡ place m ey x from + (y - from) = omega arith in
          rw g (co.here (y - from) (omega arith) ∙ sums_are n n_pos n-le gone from to fr up (y - from) (omega arith) ∙ ap (walks_to k f sa sc x) e)

      pub column-table : Table k f sa sc hi m ex ey val' (x + 1)
      column-table = sheet_next pl of tb.cells lx from to fr up tb.blank (λ j. get_or val' j 0) co.before after-at here-at
        where
          after-at : (j : ℕ) → place m ey x to ≤ j → get_or val' j 0 ≡ get_or val j 0
          after-at j l = co.after j (omega arith)

      pub most-small : (r : ℕ) → Small k f sa sc hi ex ey x → ((i : ℕ) → i < to - from → get_or val' (place m ey x from + i) 0 ≤ r) → r ≤ 2305843009213693951 → Small k f sa sc hi ex ey (x + 1)
      most-small r sm all le = run_small sm (λ y p q.
          let g : place m ey x y ≡ place m ey x from + (y - from) = omega arith in
          omega (arith, here-at y p q, all (y - from) (omega arith), ap (λ (j : ℕ). get_or val' j 0) g))

    pub empty-small : to ≤ from → Small k f sa sc hi ex ey x → Small k f sa sc hi ex ey (x + 1)
    empty-small le sm = run_small sm (λ y p q. absurd (omega arith))

    pub empty-table : to ≤ from → Table k f sa sc hi m ex ey val (x + 1)
    empty-table le = sheet_same pl of tb.cells lx from to fr up tb.blank le
