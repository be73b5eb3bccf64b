-- The number of an edge, read from its end over a filled table. Assumes nothing.
--
--   Every                        P holds of all steps whose readable table it is, and there are such; one: of these; onto: so does what follows from P
--   brought                      what a last step stands for, in the reader's words and in the table's
--   num, num-all, num-none, num-step    the number of the first i letters, to (x, y)
--   Stand                        (x, y) at a cell lies before the end, and its count fits; end-stand, end_is: the end, and what its cell holds
--   stand_in, stand-is           what such a cell holds; stand-start, stand-apart: whether it is the start's
--   all-le, reads_at, stand-back    what the steps bring to it can be read, and fits; one step back
--   read_is, read_more           the loop of `part_sum`
--   reads-sum, reads-summed, reads_sought    what the cells say is what the steps bring
--   barren                       no string leads to where no walk does
--   Walking, walking_start, walking-reads, walking-fits, stepped, walking-end    the loop of `read`
--   not_there, not_letter, not_back, not_start    where it finds that the bytes are no edge
use mathlib.Core.Path.{◌≡◌, refl, sym, ap, ◌∙◌}
use mathlib.Core.Bool.{Bool, false}
use mathlib.Core.List.{List, ◌∷◌}
use Prim.Native.Nat.{ℕ, ◌+◌, ◌-◌, ◌*◌, ◌^◌, ◌≤◌, ◌<◌}
use native.Mathlib.Omega.{arith}
use native.Mathlib.Decide.{dec_le, dec_lt}
use lib.Dec.{T}
use lib.ListN.{length, get_or}
use borrow.Author.Tests.{eq-eqb, ne_eqb}
use Rattle.howmany.specs.Sum.{sum}
use Rattle.howmany.proofs.Choices.{is_false}
use Rattle.howmany.proofs.Sums.{sum-none, sum_cong, sum_mono, sum_below}
use Rattle.std.specs.Prelude.{Some, None}
use Rattle.backward.specs.Reader.{rank, count}
use Rattle.backward.specs.Grid.{grid, paths}
use Rattle.backward.proofs.Backward.{rank_below}
use Rattle.backward.proofs.Grids.{back_count, grid_lawful}
use Rattle.tables.specs.Form.{wall, steps_in, spot, walks_to, via}
use Rattle.letters.specs.Letters.{ordinal_of}
use Rattle.tables.specs.Cells.{cap_of, cell_at, place}
use Rattle.tables.specs.declared.Plan as plans
use Rattle.tables.specs.Table.{Ends, Cells}
use Rattle.tables.specs.Plans.{stride_for, start_for, end_for, walks_for, valid_for, rank_for, RankFor}
use Rattle.tables.specs.Filling.{AllRight, Readable, Legible, BySteps}
use Rattle.tables.specs.Edges.{walk_end, walk_number, brought_at, Summed, Reads, Sought}
use Rattle.tables.proofs.Laws.{onward, sum_more, via-left, via_in, via-pos, walks_in, walks-step, cell-value}
use Rattle.tables.proofs.Counts.{pos_of}
use Rattle.tables.proofs.Columns.{rows, grow, ends-back, brings-back}
use Rattle.tables.proofs.Phases.{last_row}
use Rattle.tables.proofs.Reading.{word_to, word-all, word_cons, word_none, back_is, end_in, ok, ok-all, ok_end, ok_no_letter, ok-left, ok-under, ok_step}
use Rattle.tables.specs.declared.Wall.{Wall}

-- ---- where only the offsets of the steps are at hand

pub record Every (p : plans.Plan) (off val : List ℕ) (P : List ℕ → List ℕ → Type 0) : Type 0 where
  pub some : Legible p off val
  pub all : BySteps p off val P

module _ {p : plans.Plan} {off val : List ℕ} {P : List ℕ → List ℕ → Type 0} (w : Every p off val P) where
  pub one : P w.some.sa w.some.sc
  one = w.all w.some.sa w.some.sc w.some.readable

  pub onto : {Q : List ℕ → List ℕ → Type 0} → ((sa sc : List ℕ) → Readable p sa sc off val → P sa sc → Q sa sc) → Every p off val Q
  onto g = record { some = w.some; all = λ sa sc fu. g sa sc fu (w.all sa sc fu) }

-- ---- numbers of words

pub brought : (k : ℕ) (f : Wall) (sa sc : List ℕ) → ((i : ℕ) → i < k → 1 ≤ get_or sa i 0) → (x y j : ℕ) → count (grid (steps_in k f sa sc)) ((grid (steps_in k f sa sc)).back (spot x y) j) ≡ via k f sa sc x y j
unfolding via
brought k f sa sc pos x y j = back_count (steps_in k f sa sc) (onward k f sa sc pos) (spot x y) j

unfoldable pub num : Bool → ℕ → Wall → List ℕ → List ℕ → List ℕ → ℕ → ℕ → ℕ → ℕ
num lettered k f sa sc e i x y = rank (grid (steps_in k f sa sc)) (word_to (ordinal_of lettered) e i) (walk_end k f sa sc x y)

module _ (lettered : Bool) (k : ℕ) (f : Wall) (sa sc e : List ℕ) where
  pub num-all : (x y : ℕ) → num lettered k f sa sc e (length e) x y ≡ walk_number lettered k f sa sc x y e
  unfolding num walk_number
  num-all x y = ap (λ (w : List ℕ). rank (grid (steps_in k f sa sc)) w (walk_end k f sa sc x y)) (word-all (ordinal_of lettered) e)

  pub num-none : (i x y : ℕ) → i ≤ 0 → num lettered k f sa sc e i x y ≡ 0
  unfolding num rank
  num-none i x y h = ap (λ (w : List ℕ). rank (grid (steps_in k f sa sc)) w (walk_end k f sa sc x y)) (word_none (ordinal_of lettered) e i h)

  module _ (pos : (i : ℕ) → i < k → 1 ≤ get_or sa i 0) where
    pub num-step : (i x y l : ℕ) → 0 < i → l ≡ ordinal_of lettered (get_or e (i - 1) 0) → T (wall f x y) → get_or sa l 0 ≤ x → get_or sc l 0 ≤ y
        → num lettered k f sa sc e i x y ≡ sum (via k f sa sc x y) l + num lettered k f sa sc e (i - 1) (x - get_or sa l 0) (y - get_or sc l 0)
    unfolding num rank
    num-step i x y l h q n a c =
        ap (λ (w : List ℕ). rank (grid (steps_in k f sa sc)) w (walk_end k f sa sc x y)) (word_cons (ordinal_of lettered) e i l h q)
        ∙ ap (rank (grid (steps_in k f sa sc)) (l ∷ word_to (ordinal_of lettered) e (i - 1))) (end_in k f sa sc x y n)
        ∙ omega (
          arith,
          sum_cong (λ j. count (grid (steps_in k f sa sc)) ((grid (steps_in k f sa sc)).back (spot x y) j)) (via k f sa sc x y) l (λ j _. brought k f sa sc pos x y j),
          ap (rank (grid (steps_in k f sa sc)) (word_to (ordinal_of lettered) e (i - 1))) (back_is k f sa sc x y l a c),
        )

-- ---- a filled table

pub record Stand (p : plans.Plan) (sa sc : List ℕ) (x y cell : ℕ) : Type 0 where
  pub end : x ≤ p.ex
  pub ends : Ends p.hi p.ex p.ey x y
  pub at : cell ≡ place p.deep p.ey x y
  pub fits : walks_to p.k p.wall sa sc x y < 2 ^ 64

cells-less : {p : plans.Plan} {sa sc val : List ℕ} (s : AllRight p sa sc val) (x : ℕ) → x ≤ p.ex → Cells cap_of (cell_at val s.ov) p.k p.wall sa sc p.hi p.deep p.ex p.ey x
cells-less s x l = record { right = λ u y h en. s.flags.right u y (omega arith) en; margin = s.flags.margin; front = s.flags.front }

-- what a cell that stands before the end holds
module _ {p : plans.Plan} {sa sc off val : List ℕ} (fu : Readable p sa sc off val) {x y cell : ℕ} (sp : Stand p sa sc x y cell) where
  pub stand_in : cell < length val
  stand_in = omega (arith, sp.at, sp.ends.0, fu.ready.room, last_row x (stride_for p), grow (stride_for p) (x + 2) (p.ex + 2) (omega (arith, sp.end)))

  pub stand-is : get_or val cell 0 ≡ walks_to p.k p.wall sa sc x y
  stand-is = cell-value _ (get_or fu.solid.ov cell 0) _ (rw sp.at (fu.solid.flags.right x y (omega (arith, sp.end)) sp.ends)) sp.fits

  -- the start's cell is that of no other spot
  module _ {start : ℕ} (es : start ≡ start_for p) where
    pub stand-start : cell ≡ start → x + y ≤ 0
    stand-start e = elim (dec_lt 0 x) [
      | yes l ↦ absurd (omega (arith, sp.at, grow (stride_for p) 2 (x + 1) (omega arith)))
      | no l ↦ let z : x ≡ 0 = omega arith in omega (arith, sp.at, ap (λ (u : ℕ). (u + 1) * stride_for p) z)
    ]

    pub stand-apart : (cell ≡ start → ⊥) → 0 < x + y
    stand-apart n = elim (dec_lt 0 (x + y)) [
      | yes l ↦ l
      | no l ↦ let z : x ≡ 0 = omega arith in absurd (n (omega (arith, sp.at, ap (λ (u : ℕ). (u + 1) * stride_for p) z)))
    ]

module _ {p : plans.Plan} {sa sc off val : List ℕ} (fu : Readable p sa sc off val) {x y cell : ℕ} (sp : Stand p sa sc x y cell) (ins : T (wall p.wall x y)) where
  pub all-le : sum (via p.k p.wall sa sc x y) p.k ≤ walks_to p.k p.wall sa sc x y
  all-le = elim (dec_lt 0 x) [
    | yes px ↦ omega (arith, walks-step p.k p.wall sa sc (pos_of fu.ready.slopes) x y px ins)
    | no z ↦ omega (arith, sum-none (via p.k p.wall sa sc x y) p.k (λ i h. via-left p.k p.wall sa sc x y i (omega (arith, pos_of fu.ready.slopes i h))))
  ]

  -- the steps before i, and i itself, bring no more than all
  part-le : (i : ℕ) → i < p.k → sum (via p.k p.wall sa sc x y) i + via p.k p.wall sa sc x y i ≤ walks_to p.k p.wall sa sc x y
  part-le i l = omega (arith, all-le, sum_below (via p.k p.wall sa sc x y) i p.k l)

  eight : (i : ℕ) → i < p.k → i < 8
  eight i l = omega (arith, fu.ready.slopes.most)

  pub reads_at : Reads p.k p.wall sa sc off val x y cell
  reads_at = record {
    most = fu.ready.slopes.most;
    inside = stand_in fu sp;
    says = λ i l. cell-value _ (get_or fu.solid.ov (cell - get_or off i 0) 0) _
        (rw sp.at (brings-back fu.ready.slopes fu.ready.offs (cells-less fu.solid x sp.end) sp.end y i (eight i l) sp.ends))
        (omega (arith, part-le i l, sp.fits));
    fits = omega (arith, all-le, sp.fits);
  }

  pub stand-back : (l : ℕ) → l < p.k → {from : ℕ} → from ≡ cell - get_or off l 0 → get_or sa l 0 ≤ x → get_or sc l 0 ≤ y → Stand p sa sc (x - get_or sa l 0) (y - get_or sc l 0) from
  stand-back l h ef ha hc = record {
    end = omega (arith, sp.end);
    ends = ends-back fu.ready.slopes p.ey x y l sp.end sp.ends (eight l h) ha hc;
    at = omega (arith, ef, sp.at, fu.ready.offs.is l (eight l h), rows (stride_for p) x (get_or sa l 0) ha);
    fits = omega (arith, part-le l h, sp.fits, via_in p.k p.wall sa sc x y l ha hc);
  }

-- the loop of `part_sum`: s is where step i comes from
module _ {n : ℕ} {off val : List ℕ} {p : ℕ} (rd : Summed n off val p) (i : ℕ) {s : ℕ} (es : s ≡ p - get_or off i 0) where
  pub read_is : get_or val s 0 ≡ brought_at off val p i
  read_is = ap (λ (j : ℕ). get_or val j 0) es

  pub read_more : i < n → {acc : ℕ} → acc ≡ sum (brought_at off val p) i → (acc + get_or val s 0 ≡ sum (brought_at off val p) (i + 1)) × (acc + get_or val s 0 < 2 ^ 64)
  read_more h ea =
      let e = sum_more (brought_at off val p) i in let v = read_is in (omega arith, omega (arith, sum_mono (brought_at off val p) (i + 1) n (omega arith), rd.fits))

module _ {k : ℕ} {f : Wall} {sa sc off val : List ℕ} {x y p : ℕ} (rd : Reads k f sa sc off val x y p) where
  pub reads-sum : (l : ℕ) → l ≤ k → sum (brought_at off val p) l ≡ sum (via k f sa sc x y) l
  reads-sum l h = sum_cong (brought_at off val p) (via k f sa sc x y) l (λ i b. rd.says i (omega arith))

  pub reads-summed : (l : ℕ) → l ≤ k → Summed l off val p
  reads-summed l h = record { most = omega (arith, rd.most); inside = rd.inside; fits = omega (arith, reads-sum l h, sum_mono (via k f sa sc x y) l k h, rd.fits) }

  -- the last step of a number, by what the cells say
  pub reads_sought : {r l rest : ℕ} → Sought (brought_at off val p) k r l rest → Sought (via k f sa sc x y) k r l rest
  reads_sought {r} {l} {rest} so =
      let e = reads-sum l (omega (arith, so.falls.inside)) in
      record {
        falls = record { inside = so.falls.inside; low = omega (arith, e, so.falls.low); high = omega (arith, e, so.falls.high, rd.says l so.falls.inside) };
        left = omega (arith, e, so.left);
      }

-- no string leads to where no walk does
pub barren : (lettered : Bool) (k : ℕ) (f : Wall) (sa sc : List ℕ) → ((i : ℕ) → i < k → 1 ≤ get_or sa i 0) → (e : List ℕ) (i x y : ℕ) → walks_to k f sa sc x y ≡ 0
    → ok lettered k f sa sc e i x y ≡ false
unfolding ok walks_to paths
barren lettered k f sa sc pos e i x y z =
    let G = steps_in k f sa sc in
    is_false (ok lettered k f sa sc e i x y)
    (λ t. omega (arith, z, rank_below (grid G) (grid_lawful G (onward k f sa sc pos)) (word_to (ordinal_of lettered) e i) (walk_end k f sa sc x y) t))

-- ---- the loop of `read`: the letters from i on led back from the end to some (x, y), whose cell it is. What they stand for and all walks to
-- (x, y) are no more than the walks to the end, so that the sum fits, be the bytes an edge or not

pub record Walking (lettered : Bool) (p : plans.Plan) (sa sc off val e : List ℕ) (acc cell i : ℕ) : Type 0 where
  pub x : ℕ
  pub y : ℕ
  pub full : Readable p sa sc off val
  pub i_le : i ≤ length e
  pub inside : T (wall p.wall x y)
  pub stand : Stand p sa sc x y cell
  pub under : acc + walks_to p.k p.wall sa sc x y ≤ walks_for p sa sc
  pub same : ok lettered p.k p.wall sa sc e i x y ≡ valid_for lettered p sa sc e
  pub total : acc + num lettered p.k p.wall sa sc e i x y ≡ rank_for lettered p sa sc e

pub end-stand : {p : plans.Plan} {sa sc off val : List ℕ} → Readable p sa sc off val → {cell : ℕ} → cell ≡ end_for p → Stand p sa sc p.ex p.ey cell
end-stand fu ep = record { end = omega arith; ends = (omega arith, omega arith); at = ep; fits = fu.fits }

pub end_is : {p : plans.Plan} {sa sc off val : List ℕ} → Readable p sa sc off val → get_or val (end_for p) 0 ≡ walks_for p sa sc
end_is fu = stand-is fu (end-stand fu refl)

module _ (lettered : Bool) {p : plans.Plan} {sa sc off val : List ℕ} (e : List ℕ) (fu : Readable p sa sc off val) {cell : ℕ} (ep : cell ≡ end_for p) where
  -- the end's cell says whether a walk leads there at all
  pub not_there : get_or val cell 0 ≡ 0 → RankFor lettered p sa sc e None
  not_there z =
      sym (ok-all lettered p.k p.wall sa sc e p.ex p.ey)
      ∙ barren lettered p.k p.wall sa sc (pos_of fu.ready.slopes) e (length e) p.ex p.ey (sym (stand-is fu (end-stand fu ep)) ∙ z)

  pub walking_start : (get_or val cell 0 ≡ 0 → ⊥) → Walking lettered p sa sc off val e 0 cell (length e)
  walking_start n = record {
    x = p.ex;
    y = p.ey;
    full = fu;
    i_le = omega arith;
    inside = walks_in p.k p.wall sa sc (pos_of fu.ready.slopes) p.ex p.ey 0 (omega (arith, stand-is fu (end-stand fu ep)));
    stand = end-stand fu ep;
    under = omega arith;
    same = ok-all lettered p.k p.wall sa sc e p.ex p.ey;
    total = omega (arith, num-all lettered p.k p.wall sa sc e p.ex p.ey);
  }

module _ {lettered : Bool} {p : plans.Plan} {sa sc off val e : List ℕ} where
  module _ {acc cell i : ℕ} (w : Walking lettered p sa sc off val e acc cell i) where
    abbrev x : ℕ
    x = w.x

    abbrev y : ℕ
    y = w.y

    abbrev each : ℕ → ℕ
    each = via p.k p.wall sa sc x y

    pos : (j : ℕ) → j < p.k → 1 ≤ get_or sa j 0
    pos = pos_of w.full.ready.slopes

    pub walking-reads : Reads p.k p.wall sa sc off val x y cell
    walking-reads = reads_at w.full w.stand w.inside

    no_edge : ok lettered p.k p.wall sa sc e i x y ≡ false → RankFor lettered p sa sc e None
    no_edge o = sym w.same ∙ o

    -- what the steps before l bring fits beside what is summed
    pub walking-fits : (l : ℕ) → l ≤ p.k → {v : ℕ} → v ≡ sum (brought_at off val cell) l → acc + v < 2 ^ 64
    walking-fits l b ev = omega (arith, reads-sum walking-reads l b, sum_mono each l p.k b, all-le w.full w.stand w.inside, w.under, w.full.fits)

    module _ (h : 0 < i) {l : ℕ} (q : l ≡ ordinal_of lettered (get_or e (i - 1) 0)) where
      pub not_letter : p.k ≤ l → RankFor lettered p sa sc e None
      not_letter o = no_edge (ok_no_letter lettered p.k p.wall sa sc e pos i x y l h q w.inside o)

      module _ (b : l < p.k) {from : ℕ} (ef : from ≡ cell - get_or off l 0) where
        brought-is : get_or val from 0 ≡ each l
        brought-is = ap (λ (z : ℕ). get_or val z 0) ef ∙ walking-reads.says l b

        -- a step to a zero leads out of the grid, or to where no walk does
        pub not_back : get_or val from 0 ≡ 0 → RankFor lettered p sa sc e None
        not_back z = no_edge (elim (dec_le (get_or sa l 0) x) [
          | yes a ↦ elim (dec_le (get_or sc l 0) y) [
            | yes c ↦ ok_step lettered p.k p.wall sa sc e pos i x y l h q w.inside b a c
                ∙ barren lettered p.k p.wall sa sc pos e (i - 1) (x - get_or sa l 0) (y - get_or sc l 0) (sym (via_in p.k p.wall sa sc x y l a c) ∙ sym brought-is ∙ z)
            | no c ↦ ok-under lettered p.k p.wall sa sc e pos i x y l h q w.inside a (omega arith)
          ]
          | no a ↦ ok-left lettered p.k p.wall sa sc e pos i x y l h q w.inside (omega arith)
        ])

        pub stepped : (get_or val from 0 ≡ 0 → ⊥) → {v : ℕ} → v ≡ sum (brought_at off val cell) l → Walking lettered p sa sc off val e (acc + v) from (i - 1)
        stepped n ev =
            let vp = via-pos p.k p.wall sa sc x y l 0 (omega (arith, brought-is)) in
            let t = via_in p.k p.wall sa sc x y l vp.0 vp.1 in
            let s = reads-sum walking-reads l (omega arith) in
            record {
              x = x - get_or sa l 0;
              y = y - get_or sc l 0;
              full = w.full;
              i_le = omega (arith, w.i_le);
              inside = walks_in p.k p.wall sa sc pos (x - get_or sa l 0) (y - get_or sc l 0) 0 vp.2;
              stand = stand-back w.full w.stand w.inside l b ef vp.0 vp.1;
              under = omega (arith, t, part-le w.full w.stand w.inside l b, w.under);
              same = sym (ok_step lettered p.k p.wall sa sc e pos i x y l h q w.inside b vp.0 vp.1) ∙ w.same;
              total = omega (arith, w.total, num-step lettered p.k p.wall sa sc e pos i x y l h q w.inside vp.0 vp.1);
            }

    module _ (h : i ≤ 0) {start : ℕ} (es : start ≡ start_for p) where
      pub not_start : (cell ≡ start → ⊥) → RankFor lettered p sa sc e None
      not_start n = let o = stand-apart w.full w.stand es n in no_edge (sym (ok_end lettered p.k p.wall sa sc e i x y h) ∙ ne_eqb (x + y) 0 (λ q. omega arith))

      pub walking-end : cell ≡ start → RankFor lettered p sa sc e (Some acc)
      walking-end q = let o = stand-start w.full w.stand es q in (
        sym w.same ∙ sym (ok_end lettered p.k p.wall sa sc e i x y h) ∙ eq-eqb (x + y) 0 (omega arith),
        omega (arith, w.total, num-none lettered p.k p.wall sa sc e i x y h),
      )
