-- A table filled row by row. Assumes nothing.
--
--   low, across                what the row below brings to the next cell, by the step (1,1) and by (2,1)
--   plain-next, plain-first  a cell from the one before it; the first cell of a row
--   plain-under               there are no walks to a row beyond the column
--   plain-most                no count before the end is above the end's
--   same_rows                  as many rows are as many cells
--   rem_one, place-one         a place is one row's and one column's; place_in, place-far: it lies in the table, behind the column in front
--   rows_more, rows_next, rows_filled    the rows so far: one cell more, a row more, and all of them
--   below-is, across-is, first-is, first_one     what is read from the row below
--   Along, row-.., along-.., next-..             the loop along a row
--   risen_of, rows-over   the loop over the rows, and where a count doesn't fit
use Rattle.std.proofs.Common.{◌≡◌, ℕ, zero, suc, ◌+◌, ◌-◌, ◌*◌, ◌^◌, ◌<◌, ◌≤◌, Bool, true, false, T, eqb, List, length, get_or, set, sym, refl, ap, ◌∙◌, subst, ap₂, inl, inr, le_trans, arith, length-set, get_or-set_other, get_or-set_same, eq-eqb, ne_eqb}
use native.Mathlib.Decide.{dec_le, dec_lt, ℕ_discrete}
use Rattle.howmany.specs.Choose.{pick}
use Rattle.howmany.specs.Sum.{sum}
use Rattle.std.specs.Prelude.{None}
use Rattle.tables.specs.Form.{walks_to, via}
use Rattle.tables.specs.Cells.{stride_of, place}
use Rattle.tables.specs.declared.Plan as plans
use Rattle.tables.specs.Table.{Slopes, Ends, Table}
use Rattle.tables.specs.Plans.{stride_for, PreparedFor, walks_for}
use Rattle.tables.specs.Filling.{Filled}
use Rattle.rows.specs.Rows.{Rises, PlainMoves, PlainStepsFor, Done, Rows, RowsFor, Rowing, Risen}
use Rattle.tables.specs.declared.Wall.{Wall}
use Rattle.tables.proofs.Walls.{wall-none}
use Rattle.tables.proofs.Laws.{via-left, via-under, via_in, walks-start, walks-step, cap_ge}
use Rattle.tables.proofs.Counts.{pos_of, walks-high}
use Rattle.tables.proofs.Columns.{grow, one_more}
use Rattle.tables.proofs.Phases.{ready_len}

-- ---- the counts

module _ (k : ℕ) (f : Wall) (sa sc : List ℕ) where
  abbrev pub low : ℕ → ℕ → ℕ
  low u zero = 0
  low u (suc y) = walks_to k f sa sc u y

  abbrev pub across : Bool → ℕ → ℕ → ℕ
  across false u y = 0
  across true zero y = 0
  across true (suc u) y = low u y

  flat_step : (i u y : ℕ) → get_or sa i 0 ≡ 1 → get_or sc i 0 ≡ 0 → via k f sa sc (suc u) y i ≡ walks_to k f sa sc u y
  flat_step i u y a c =
      let e : suc u - get_or sa i 0 ≡ u = omega arith in
      let g : y - get_or sc i 0 ≡ y = omega arith in
      via_in k f sa sc (suc u) y i (omega arith) (omega arith) ∙ ap₂ (walks_to k f sa sc) e g

  rise-step : (i u y : ℕ) → get_or sa i 0 ≡ 1 → get_or sc i 0 ≡ 1 → via k f sa sc (suc u) y i ≡ low u y
  rise-step i u zero a c = via-under k f sa sc (suc u) zero i (omega arith) (omega arith)
  rise-step i u (suc y) a c =
      let e : suc u - get_or sa i 0 ≡ u = omega arith in
      let g : suc y - get_or sc i 0 ≡ y = omega arith in
      via_in k f sa sc (suc u) (suc y) i (omega arith) (omega arith) ∙ ap₂ (walks_to k f sa sc) e g

  across-step : (i u y : ℕ) → get_or sa i 0 ≡ 2 → get_or sc i 0 ≡ 1 → via k f sa sc (suc u) y i ≡ across true u y
  across-step i zero y a c = via-left k f sa sc 1 y i (omega arith)
  across-step i (suc u) zero a c = via-under k f sa sc (suc (suc u)) zero i (omega arith) (omega arith)
  across-step i (suc u) (suc y) a c =
      let e : suc (suc u) - get_or sa i 0 ≡ u = omega arith in
      let g : suc y - get_or sc i 0 ≡ y = omega arith in
      via_in k f sa sc (suc (suc u)) (suc y) i (omega arith) (omega arith) ∙ ap₂ (walks_to k f sa sc) e g

  module _ {hi m ex : ℕ} (pl : Slopes k sa sc hi m ex) (slope : hi ≡ 6) (three : Bool) (co : PlainMoves three k f sa sc) where
    two_steps : (u y : ℕ) → via k f sa sc (suc u) y 0 + via k f sa sc (suc u) y 1 ≡ walks_to k f sa sc u y + low u y
    two_steps u y = go co.rise
      where
        go : Rises (get_or sc 0 0) (get_or sc 1 0) → via k f sa sc (suc u) y 0 + via k f sa sc (suc u) y 1 ≡ walks_to k f sa sc u y + low u y
        go (inl h) = omega (arith, rise-step 0 u y co.one h.0, flat_step 1 u y co.two h.1)
        go (inr h) = omega (arith, flat_step 0 u y co.one h.0, rise-step 1 u y co.two h.1)

    pub plain-next : (u y : ℕ) → walks_to k f sa sc (suc u) y ≡ walks_to k f sa sc u y + low u y + across three u y
    unfolding sum
    plain-next u y =
        walks-step k f sa sc (pos_of pl) (suc u) y (omega arith) (wall-none f (suc u) y co.level)
        ∙ ap (sum (via k f sa sc (suc u) y)) co.many ∙ go three co.third
      where
        go : (b : Bool) → (b ≡ true → (get_or sa 2 0 ≡ 2) × (get_or sc 2 0 ≡ 1)) → sum (via k f sa sc (suc u) y) (pick b 3 2) ≡ walks_to k f sa sc u y + low u y + across b u y
        go true h = omega (arith, two_steps u y, across-step 2 u y (h refl).0 (h refl).1)
        go false h = omega (arith, two_steps u y)

    pub plain-under : (u y : ℕ) → u ≤ ex → u < y → walks_to k f sa sc u y ≡ 0
    plain-under u y l h = walks-high k f sa sc pl u u y (omega arith) l (omega (arith, ap (λ (z : ℕ). z * u) slope))

    across-first : (b : Bool) (y : ℕ) → y ≤ ex → across b y (suc y) ≡ 0
    across-first false y l = refl
    across-first true zero l = refl
    across-first true (suc y) l = plain-under y (suc y) (omega arith) (omega arith)

    pub plain-first : (y : ℕ) → suc y ≤ ex → walks_to k f sa sc (suc y) (suc y) ≡ walks_to k f sa sc y y
    plain-first y l = omega (arith, plain-next y (suc y), plain-under y (suc y) (omega arith) (omega arith), across-first three y (omega arith))

    up-most : (d u y : ℕ) → walks_to k f sa sc u y ≤ walks_to k f sa sc (u + d) (y + d)
    up-most zero u y = let e : u + 0 ≡ u = omega arith in let g : y + 0 ≡ y = omega arith in rw (e, g) (omega arith)
    up-most (suc d) u y =
        let e : u + suc d ≡ suc u + d = omega arith in
        let g : y + suc d ≡ suc y + d = omega arith in
        rw (e, g) (le_trans (omega (arith, plain-next u (suc y))) (up-most d (suc u) (suc y)))

    right-most : (r u y : ℕ) → walks_to k f sa sc u y ≤ walks_to k f sa sc (u + r) y
    right-most zero u y = let e : u + 0 ≡ u = omega arith in rw e (omega arith)
    right-most (suc r) u y =
        let e : u + suc r ≡ suc u + r = omega arith in
        rw e (le_trans (omega (arith, plain-next u y)) (right-most r (suc u) y))

    pub plain-most : (u y ey : ℕ) → y ≤ ey → ey ≤ ex → u ≤ y + (ex - ey) → walks_to k f sa sc u y ≤ walks_to k f sa sc ex ey
    plain-most u y ey l h w =
        let d : ℕ = ey - y in
        let r : ℕ = ex - (u + d) in
        let e : u + d + r ≡ ex = omega arith in
        let g : y + d ≡ ey = omega arith in
        le_trans (up-most d u y) (le_trans (right-most r (u + d) (y + d)) (rw (e, g) (omega arith)))

-- ---- places

same_rows : (s a b : ℕ) → a ≡ b → a * s ≡ b * s
same_rows s a b e = ap (λ (z : ℕ). z * s) e

pub rem_one : (s a b r t : ℕ) → r < s → t < s → a * s + r ≡ b * s + t → (a ≡ b) × (r ≡ t)
rem_one s a b r t l h e = go (dec_lt a b) (dec_lt b a)
  where
    go : Dec (a < b) → Dec (b < a) → (a ≡ b) × (r ≡ t)
    go (yes p) q = absurd (omega (arith, one_more s a, grow s (a + 1) b (omega arith)))
    go (no p) (yes q) = absurd (omega (arith, one_more s b, grow s (b + 1) a (omega arith)))
    go (no p) (no q) =
        let g : a ≡ b = omega arith in
        (g, omega (arith, same_rows s a b g))

pub place-one : (m ey u v x y : ℕ) → v ≤ ey → y ≤ ey → place m ey u v ≡ place m ey x y → (u ≡ x) × (v ≡ y)
place-one m ey u v x y l h e =
    let p = rem_one (stride_of m ey) (u + 1) (x + 1) (m + v) (m + y) (omega arith) (omega arith) e in
    (omega (arith, p.0), omega (arith, p.1))

not_margin : (m ey u t x y : ℕ) → t < m → y ≤ ey → u * stride_of m ey + t ≡ place m ey x y → ⊥
not_margin m ey u t x y l h e =
    let p = rem_one (stride_of m ey) u (x + 1) t (m + y) (omega arith) (omega arith) e in
    omega (arith, p.1)

-- ---- the rows so far

done_in : (y i u v ey : ℕ) → Done y i u v → y ≤ ey → v ≤ ey
done_in y i u v ey (inl l) h = omega arith
done_in y i u v ey (inr d) h = omega (arith, d.0)

module _ {k : ℕ} {f : Wall} {sa sc : List ℕ} {m ey n : ℕ} {val : List ℕ} where
  module _ {y i : ℕ} (rs : Rows k f sa sc m ey n val y i) (in_row : y ≤ ey) where
    pub rows_more : (p w : ℕ) → p ≡ place m ey (y + i) y → p < length val → i ≤ n → w ≡ walks_to k f sa sc (y + i) y → Rows k f sa sc m ey n (set val p w) y (i + 1)
    rows_more p w ep l le ew = record {
      right = λ u v d a b. at_right u v d a b (ℕ_discrete v y) (ℕ_discrete u (y + i));
      other = λ j h. get_or-set_other val p j w 0 (λ e. h (y + i) y (inr (refl, omega arith)) (omega arith) (omega arith) (e ∙ ep))
          ∙ rs.other j (λ u v d a b e. h u v (sooner u v d) a b e);
    }
      where
        sooner : (u v : ℕ) → Done y i u v → Done y (i + 1) u v
        sooner u v (inl q) = inl q
        sooner u v (inr q) = inr (q.0, omega (arith, q.1))

        older : (u v : ℕ) → Done y (i + 1) u v → (v ≡ y → u ≡ y + i → ⊥) → Done y i u v
        older u v (inl q) f = inl q
        older u v (inr q) f = inr (q.0, less (ℕ_discrete u (y + i)))
          where
            less : Dec (u ≡ y + i) → u < y + i
            less (yes e) = absurd (f q.0 e)
            less (no e) = omega (arith, q.1)

        same : (u v : ℕ) → v ≡ y → u ≡ y + i → get_or (set val p w) (place m ey u v) 0 ≡ walks_to k f sa sc u v
        same u v ev eu = rw (ev, eu, ← ep) (get_or-set_same val p w 0 l ∙ ew)

        apart : (u v : ℕ) → Done y (i + 1) u v → v ≤ u → u ≤ v + n → (v ≡ y → u ≡ y + i → ⊥) → get_or (set val p w) (place m ey u v) 0 ≡ walks_to k f sa sc u v
        apart u v d a b f =
            get_or-set_other val p (place m ey u v) w 0
            (λ e. let q = place-one m ey u v (y + i) y (done_in y (i + 1) u v ey d in_row) in_row (e ∙ ep) in f q.1 q.0)
            ∙ rs.right u v (older u v d f) a b

        at_right : (u v : ℕ) → Done y (i + 1) u v → v ≤ u → u ≤ v + n → Dec (v ≡ y) → Dec (u ≡ y + i) → get_or (set val p w) (place m ey u v) 0 ≡ walks_to k f sa sc u v
        at_right u v d a b (yes e) (yes g) = same u v e g
        at_right u v d a b (yes e) (no g) = apart u v d a b (λ q r. g r)
        at_right u v d a b (no e) g = apart u v d a b (λ q r. e q)

  pub rows_next : {y i : ℕ} → Rows k f sa sc m ey n val y i → i ≡ n + 1 → Rows k f sa sc m ey n val (y + 1) 0
  rows_next {y} {i} rs e = record {
    right = λ u v d a b. rs.right u v (back u v d a b) a b;
    other = λ j h. rs.other j (λ u v d a b q. h u v (on u v d) a b q);
  }
    where
      back : (u v : ℕ) → Done (y + 1) 0 u v → v ≤ u → u ≤ v + n → Done y i u v
      back u v (inl l) a b = elim (dec_lt v y) [ yes q ↦ inl q | no q ↦ inr (omega arith, omega arith) ]
      back u v (inr d) a b = absurd (omega (arith, d.0, d.1))

      on : (u v : ℕ) → Done y i u v → Done (y + 1) 0 u v
      on u v (inl l) = inl (omega arith)
      on u v (inr d) = inl (omega (arith, d.0))

-- all the rows: the whole table is right
module _ {k : ℕ} {f : Wall} {sa sc : List ℕ} {hi m ex ey : ℕ} {val : List ℕ} (pl : Slopes k sa sc hi m ex) (slope : hi ≡ 6) (three : Bool) (co : PlainMoves three k f sa sc) (wide : ey ≤ ex) (rs : Rows k f sa sc m ey (ex - ey) val (ey + 1) 0) where
  done-le : (u v : ℕ) → Done (ey + 1) 0 u v → v ≤ u → v ≤ ey
  done-le u v (inl l) a = omega arith
  done-le u v (inr d) a = absurd (omega (arith, d.0, d.1))

  done_end : (u v : ℕ) → Done (ey + 1) 0 u v → v ≤ u → u ≤ v + (ex - ey) → u ≤ ex
  done_end u v d a b = omega (arith, done-le u v d a)

  cell-right : (u y : ℕ) → u < ex + 1 → Ends hi ex ey u y → get_or val (place m ey u y) 0 ≡ walks_to k f sa sc u y
  cell-right u y l en = elim (dec_le y u) [
    | yes a ↦ rs.right u y (inl (omega (arith, en.0))) a (omega (arith, en.0, en.1, ap (λ (z : ℕ). z * (ex - u)) slope))
    | no a ↦ rs.other (place m ey u y)
        (λ x v d b c e. let q = place-one m ey u y x v en.0 (done-le x v d b) e in a (omega (arith, q.0, q.1)))
        ∙ sym (plain-under k f sa sc pl slope three co u y (omega arith) (omega arith))
  ]

  pub rows_filled : Table k f sa sc hi m ex ey val (ex + 1)
  rows_filled = record {
    cells = record {
      right = cell-right;
      margin = λ u t l. rs.other (u * stride_of m ey + t) (λ x v d a b e. not_margin m ey u t x v l (done-le x v d a) e);
      front = λ t l. rs.other t (λ x v d a b e. omega (arith, grow (stride_of m ey) 1 (x + 1) (omega arith)));
    };
    blank = λ j l. rs.other j (λ x v d a b e.
        omega (arith, done-le x v d a, one_more (stride_of m ey) (x + 1), grow (stride_of m ey) (x + 1 + 1) (ex + 1 + 1) (omega (arith, done_end x v d a b))));
  }

-- what is read from the row below
module _ {k : ℕ} {f : Wall} {sa sc : List ℕ} {m ey n : ℕ} {val : List ℕ} {y : ℕ} (i : ℕ) (rs : Rows k f sa sc m ey n val y (i + 1)) (in_row : y ≤ ey) (deep : m ≡ 1) where
  margin-is : (u t : ℕ) → t < m → get_or val (u * stride_of m ey + t) 0 ≡ 0
  margin-is u t l = rs.other (u * stride_of m ey + t) (λ x v d a b e. not_margin m ey u t x v l (done_in y (i + 1) x v ey d in_row) e)

  pub below-is : (p : ℕ) → p ≡ place m ey (y + i) y → i < n → get_or val (p - 1) 0 ≡ low k f sa sc (y + i) y
  below-is p ep l = go y refl
    where
      go : (z : ℕ) → z ≡ y → get_or val (p - 1) 0 ≡ low k f sa sc (y + i) z
      go zero e = let g : p - 1 ≡ (y + i + 1) * stride_of m ey + (m - 1) = omega arith in rw g (margin-is (y + i + 1) (m - 1) (omega arith))
      go (suc z) e = let g : p - 1 ≡ place m ey (y + i) z = omega arith in rw g (rs.right (y + i) z (inl (omega arith)) (omega arith) (omega arith))

  pub across-is : (p : ℕ) → p ≡ place m ey (y + i) y → i < n → get_or val (p - stride_of m ey - 1) 0 ≡ across k f sa sc true (y + i) y
  across-is p ep l = go (y + i) y refl refl
    where
      go : (x z : ℕ) → x ≡ y + i → z ≡ y → get_or val (p - stride_of m ey - 1) 0 ≡ across k f sa sc true x z
      go zero z ex ez = let g : p - stride_of m ey - 1 ≡ 0 * stride_of m ey + (m - 1) = omega (arith, one_more (stride_of m ey) (y + i), same_rows (stride_of m ey) (y + i) 0 (omega arith)) in rw g (margin-is 0 (m - 1) (omega arith))
      go (suc x) zero ex ez = let g : p - stride_of m ey - 1 ≡ (x + 1) * stride_of m ey + (m - 1) = omega (arith, one_more (stride_of m ey) (y + i), same_rows (stride_of m ey) (y + i) (x + 1) (omega arith)) in rw g (margin-is (x + 1) (m - 1) (omega arith))
      go (suc x) (suc z) ex ez = let g : p - stride_of m ey - 1 ≡ place m ey x z = omega (arith, one_more (stride_of m ey) (y + i), same_rows (stride_of m ey) (y + i) (x + 1) (omega arith)) in rw g (rs.right x z (inl (omega arith)) (omega arith) (omega arith))

-- the first cell of a row is the one before it on the diagonal
module _ {k : ℕ} {f : Wall} {sa sc : List ℕ} {hi m ex ey : ℕ} {val : List ℕ} (pl : Slopes k sa sc hi m ex) (slope : hi ≡ 6) (three : Bool) (co : PlainMoves three k f sa sc) {n y : ℕ} (rs : Rows k f sa sc m ey n val y 0) (in_row : y ≤ ey) (wide : ey ≤ ex) where
  pub first-is : (p : ℕ) → p ≡ place m ey y y → (y ≡ 0 → ⊥) → get_or val (p - stride_of m ey - 1) 0 ≡ walks_to k f sa sc (y + 0) y
  first-is p ep h = go y refl
    where
      go : (z : ℕ) → z ≡ y → get_or val (p - stride_of m ey - 1) 0 ≡ walks_to k f sa sc (y + 0) y
      go zero e = absurd (h (sym e))
      go (suc z) e =
          let g : p - stride_of m ey - 1 ≡ place m ey z z = omega (arith, one_more (stride_of m ey) y, same_rows (stride_of m ey) y (z + 1) (omega arith)) in
          let q : y + 0 ≡ suc z = omega arith in
          let r : y ≡ suc z = sym e in
          rw (g, q) (rs.right z z (inl (omega arith)) (omega arith) (omega arith) ∙ sym (plain-first k f sa sc pl slope three co z (omega arith)) ∙ ap (walks_to k f sa sc (suc z)) e)

  pub first_one : y ≡ 0 → 1 ≡ walks_to k f sa sc (y + 0) y
  first_one e = let q : y + 0 ≡ 0 = omega arith in rw (q, e) (sym (walks-start k f sa sc (pos_of pl) 0))

-- ---- the loop along row y: cell is where the one in column y + i stands, and sum its count
pub record Along (p : plans.Plan) (sa sc off : List ℕ) (y : ℕ) (val : List ℕ) (cell sum i : ℕ) : Type 0 where
  pub ready : PreparedFor p sa sc off (length val)
  pub steps : PlainStepsFor p sa sc
  pub inside : y ≤ p.ey
  pub rows : RowsFor p sa sc val y (i + 1)
  pub le : i ≤ p.ex - p.ey
  pub at : cell ≡ place p.deep p.ey (y + i) y
  pub is : sum ≡ walks_to p.k p.wall sa sc (y + i) y

pub place_in : (m ex ey u v : ℕ) → u ≤ ex → v ≤ ey → place m ey u v + 1 ≤ (ex + 2) * stride_of m ey
place_in m ex ey u v l h = omega (arith, one_more (stride_of m ey) (u + 1), grow (stride_of m ey) (u + 1 + 1) (ex + 2) (omega arith))

pub place-far : (m ey u v : ℕ) → stride_of m ey + m ≤ place m ey u v
place-far m ey u v = omega (arith, grow (stride_of m ey) 1 (u + 1) (omega arith))

module _ {p : plans.Plan} {sa sc off : List ℕ} {y : ℕ} {val : List ℕ} (w : Rowing p sa sc off val y) where
  pub row_at : place p.deep p.ey y y < length val
  row_at = omega (arith, place_in p.deep p.ex p.ey y y (omega (arith, w.inside, w.steps.wide)) w.inside, w.ready.room)

  pub row_small : place p.deep p.ey y y < 3712
  row_small = omega (arith, place_in p.deep p.ex p.ey y y (omega (arith, w.inside, w.steps.wide)) w.inside, w.ready.sizes.cells)

  pub row-far : stride_for p < place p.deep p.ey y y
  row-far = omega (arith, place-far p.deep p.ey y y, w.steps.deep)

  first-value : (cell sum : ℕ) → cell ≡ place p.deep p.ey y y → sum ≡ pick (eqb y 0) 1 (get_or val (cell - stride_for p - 1) 0) → sum ≡ walks_to p.k p.wall sa sc (y + 0) y
  first-value cell sum ep e = go (ℕ_discrete y 0)
    where
      go : Dec (y ≡ 0) → sum ≡ walks_to p.k p.wall sa sc (y + 0) y
      go (yes z) = e ∙ rw (eq-eqb y 0 z) (first_one w.ready.slopes w.steps.slope _ w.steps.plain w.rows w.inside w.steps.wide z)
      go (no z) = e ∙ rw (ne_eqb y 0 z) (first-is w.ready.slopes w.steps.slope _ w.steps.plain w.rows w.inside w.steps.wide cell ep z)

  pub along-start : (cell sum : ℕ) → cell ≡ place p.deep p.ey y y → sum ≡ pick (eqb y 0) 1 (get_or val (cell - stride_for p - 1) 0)
      → Along p sa sc off y (set val cell sum) cell sum 0
  along-start cell sum ep es =
      let q : cell ≡ place p.deep p.ey (y + 0) y = omega (arith, ep, same_rows (stride_for p) (y + 0 + 1) (y + 1) (omega arith)) in
      record {
        ready = ready_len w.ready (length-set val cell sum);
        steps = w.steps;
        inside = w.inside;
        rows = rows_more w.rows w.inside cell sum q (omega (arith, row_at)) (omega arith) (first-value cell sum ep es);
        le = omega arith;
        at = q;
        is = first-value cell sum ep es;
      }

module _ {p : plans.Plan} {sa sc off : List ℕ} {y : ℕ} {val : List ℕ} {cell sum i : ℕ} (a : Along p sa sc off y val cell sum i) where
  column_in : y + i ≤ p.ex
  column_in = omega (arith, a.le, a.inside, a.steps.wide)

  pub along_in : cell < length val
  along_in = omega (arith, a.at, place_in p.deep p.ex p.ey (y + i) y column_in a.inside, a.ready.room)

  pub along-far : stride_for p < cell
  along-far = omega (arith, a.at, place-far p.deep p.ey (y + i) y, a.steps.deep)

  pub along-done : i ≡ p.ex - p.ey → RowsFor p sa sc val (y + 1) 0
  along-done e = rows_next a.rows (omega arith)

  module _ (l : i < p.ex - p.ey) where
    next_place : cell + stride_for p ≡ place p.deep p.ey (y + (i + 1)) y
    next_place = omega (arith, a.at, one_more (stride_for p) (y + i + 1), same_rows (stride_for p) (y + i + 1 + 1) (y + (i + 1) + 1) (omega arith))

    pub next_in : cell + stride_for p < length val
    next_in = omega (arith, next_place, place_in p.deep p.ex p.ey (y + (i + 1)) y (omega (arith, a.inside, a.steps.wide)) a.inside, a.ready.room)

    pub next_small : cell + stride_for p < 3712
    next_small = omega (arith, next_place, place_in p.deep p.ex p.ey (y + (i + 1)) y (omega (arith, a.inside, a.steps.wide)) a.inside, a.ready.sizes.cells)

    module _ (b c : ℕ) (eb : b ≡ get_or val (cell - 1) 0) (ec : c ≡ pick (eqb p.k 3) (get_or val (cell - stride_for p - 1) 0) 0) where
      by-third : (t : Bool) → pick t (get_or val (cell - stride_for p - 1) 0) 0 ≡ across p.k p.wall sa sc t (y + i) y
      by-third true = across-is i a.rows a.inside a.steps.deep cell a.at l
      by-third false = refl

      next-is : sum + b + c ≡ walks_to p.k p.wall sa sc (y + (i + 1)) y
      next-is =
          let e : y + (i + 1) ≡ suc (y + i) = omega arith in
          rw e (omega (
            arith,
            a.is,
            eb ∙ below-is i a.rows a.inside a.steps.deep cell a.at l,
            ec ∙ by-third (eqb p.k 3),
            plain-next p.k p.wall sa sc a.ready.slopes a.steps.slope _ a.steps.plain (y + i) y,
          ))

      pub along-over : 2 ^ 64 ≤ sum + b + c → 2 ^ 64 ≤ walks_to p.k p.wall sa sc p.ex p.ey
      along-over h =
          omega (arith, next-is, plain-most p.k p.wall sa sc a.ready.slopes a.steps.slope _ a.steps.plain (y + (i + 1)) y p.ey a.inside a.steps.wide (omega arith))

      pub along-next : (q s : ℕ) → q ≡ cell + stride_for p → s ≡ sum + b + c → Along p sa sc off y (set val q s) q s (i + 1)
      along-next q s eq es =
          let z : q ≡ place p.deep p.ey (y + (i + 1)) y = eq ∙ next_place in
          let v : s ≡ walks_to p.k p.wall sa sc (y + (i + 1)) y = es ∙ next-is in
          record {
            ready = ready_len a.ready (length-set val q s);
            steps = a.steps;
            inside = a.inside;
            rows = rows_more a.rows a.inside q s z (omega (arith, next_in, eq)) (omega arith) v;
            le = omega arith;
            at = z;
            is = v;
          }

-- ---- the loop over the rows

module _ {p : plans.Plan} {sa sc : List ℕ} {val : List ℕ} where
  pub risen_of : {off : List ℕ} {y : ℕ} → PreparedFor p sa sc off (length val) → PlainStepsFor p sa sc → RowsFor p sa sc val y 0 → y ≡ p.ey + 1 → Risen p sa sc val true
  risen_of r c rs e = record {
    got = λ q. record { table = rows_filled r.slopes c.slope _ c.plain c.wide (rw e at rs); start = omega arith; end = omega arith };
    over = λ q. absurd (subst T q tt);
  }

  pub rows-over : 2 ^ 64 ≤ walks_for p sa sc → Filled p sa sc val None
  rows-over h = record { answer = sym (cap_ge (walks_for p sa sc) h); solid = λ n. absurd (n refl) }
