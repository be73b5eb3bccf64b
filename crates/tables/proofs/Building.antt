-- The edge of a number, written from its end over a filled table. Assumes nothing.
--
--   seek_here, seek_more, seek_end, seek_in, seek_start    the loop of `seek`
--   unr, unr-start, unr-step     the steps of the edge of a number, the last one first
--   write_turn, write_done       a byte written in front of the others, and all of them
--   Writing, SpeltSoFar, writing_start, writing-done, writing_more, left-of, seek_needs, picked, spell-room, step_from, step_in, step_back, next-letter, writing-end    the loop of `spell`
use mathlib.Core.Path.{◌≡◌, refl, sym, ap, ap₂, ◌∙◌}
use mathlib.Core.Bool.{Bool}
use mathlib.Core.Option.{Option, some}
use mathlib.Core.List.{List, [], ◌∷◌, ◌++◌, map, reverse, reverse-cons, reverse-reverse, append-nil}
use Prim.Native.Nat.{ℕ, zero, suc, ◌+◌, ◌-◌, ◌≤◌, ◌<◌}
use native.Mathlib.Omega.{arith}
use native.Mathlib.Decide.{dec_lt}
use native.Mathlib.Nat.{not-suc-le-zero}
use lib.Dec.{T}
use lib.ListN.{length, get_or, drop, set, length-set, drop_of_length-le}
use lib.Seq.{drop-cons, get_or-set_same, drop-set-lt, append_snoc, lt-length-set}
use borrow.Author.Tests.{ne_eqb}
use Rattle.rules.proofs.Letters.{map-reverse}
use Rattle.howmany.specs.Sum.{sum, Falls}
use Rattle.howmany.proofs.Sums.{sum_cong}
use Rattle.backward.specs.Reader.{count, unrank}
use Rattle.backward.specs.Grid.{Spot, grid, paths}
use Rattle.backward.proofs.Backward.{unrank-start, unrank-step}
use Rattle.backward.proofs.Grids.{grid_lawful}
use Rattle.tables.specs.Form.{wall, steps_in, spot, walks_to, via}
use Rattle.letters.specs.Letters.{glyph_of}
use Rattle.tables.specs.declared.Plan as plans
use Rattle.tables.specs.Edges.{walk_end, walk_at, brought_at, Summed, Reads, Sought}
use Rattle.tables.specs.Plans.{stride_for, start_for, end_for, walks_for, edge_for}
use Rattle.tables.specs.Filling.{Readable}
use Rattle.tables.proofs.Walls.{wall-start}
use Rattle.tables.proofs.Columns.{rows, grow}
use Rattle.tables.proofs.Laws.{onward, sum_more, via-pos, walks-start, walks_in, walks-step}
use Rattle.tables.proofs.Counts.{pos_of}
use Rattle.tables.proofs.Reading.{back_is, end_in}
use Rattle.tables.proofs.Numbers.{brought, Stand, end-stand, stand-start, stand-apart, reads_at, stand-back, reads-sum, reads-summed, reads_sought}
use Rattle.tables.specs.declared.Wall.{Wall}

-- ---- the loop of `seek`: i steps are passed, which stand for all of r but left

module _ (g : ℕ → ℕ) (i k left r : ℕ) (at : sum g i + left ≡ r) where
  module _ (l : i < k) (v : ℕ) (is : v ≡ g i) where
    pub seek_here : left < v → Sought g k r i left
    seek_here h = record { falls = record { inside = l; low = omega arith; high = omega arith }; left = at }

    pub seek_more : v ≤ left → sum g (i + 1) + (left - v) ≡ r
    seek_more h = omega (arith, sum_more g i)

  pub seek_end : i ≤ k → k ≤ i → r < sum g k → ⊥
  seek_end h m q = let e : i ≡ k = omega arith in omega (arith, ap (sum g) e)

  pub seek_in : i ≤ k → r < sum g k → i < k
  seek_in h q = elim (dec_lt i k) [ yes l ↦ l | no l ↦ absurd (seek_end h (omega arith) q) ]

pub seek_start : (g : ℕ → ℕ) (k r : ℕ) → r < sum g k → (0 < k) × (sum g 0 + r ≡ r)
unfolding sum
seek_start g k r q = let e : sum g 0 + r ≡ r = omega arith in (seek_in g 0 k r r e (omega arith) q, e)

-- ---- the steps of an edge

falls_cong : (g h : ℕ → ℕ) (k r l : ℕ) → ((j : ℕ) → g j ≡ h j) → Falls g k r l → Falls h k r l
falls_cong g h k r l e p =
    let s : sum g l ≡ sum h l = sum_cong g h l (λ j _. e j) in
    record { inside = p.inside; low = omega (arith, p.low); high = omega (arith, p.high, e l) }

unfoldable pub unr : ℕ → Wall → List ℕ → List ℕ → ℕ → ℕ → ℕ → List ℕ
unr k f sa sc x y r = unrank (grid (steps_in k f sa sc)) (walk_end k f sa sc x y) r

module _ (k : ℕ) (f : Wall) (sa sc : List ℕ) (pos : (i : ℕ) → i < k → 1 ≤ get_or sa i 0) where
  count_in_lem : (x y : ℕ) → T (wall f x y) → count (grid (steps_in k f sa sc)) (some (spot x y)) ≡ walks_to k f sa sc x y
  unfolding walks_to paths
  count_in_lem x y h = ap (count (grid (steps_in k f sa sc))) (sym (end_in k f sa sc x y h))

  at_zero : (y r : ℕ) → r < walks_to k f sa sc 0 y → y ≡ 0
  at_zero zero r h = refl
  at_zero (suc y) r h = let e : walks_to k f sa sc 0 (suc y) ≡ 0 = walks-start k f sa sc pos (suc y) ∙ rw (ne_eqb (suc y) 0 (λ q. omega arith)) in absurd (omega arith)

  start-at : (r : ℕ) → r < walks_to k f sa sc 0 0 → unr k f sa sc 0 0 r ≡ []
  unfolding unr
  start-at r h =
      ap (λ (m : Option Spot). unrank (grid (steps_in k f sa sc)) m r) (end_in k f sa sc 0 0 (wall-start f))
      ∙ unrank-start (grid (steps_in k f sa sc)) (grid_lawful (steps_in k f sa sc) (onward k f sa sc pos)) (spot 0 0) r tt (omega (arith, count_in_lem 0 0 (wall-start f)))

  pub unr-start : (x y r : ℕ) → x ≤ 0 → r < walks_to k f sa sc x y → unr k f sa sc x y r ≡ []
  unr-start x y r l h =
      let z : x ≡ 0 = omega arith in
      let h' : r < walks_to k f sa sc 0 y = rw z at h in
      let n : y ≡ 0 = at_zero y r h' in
      rw (z, n) (start-at r (rw n at h'))

  pub unr-step : (x y r l rest : ℕ) → T (wall f x y) → Sought (via k f sa sc x y) k r l rest → get_or sa l 0 ≤ x → get_or sc l 0 ≤ y
      → unr k f sa sc x y r ≡ l ∷ unr k f sa sc (x - get_or sa l 0) (y - get_or sc l 0) rest
  unfolding unr
  unr-step x y r l rest h so a c =
      let g : ℕ → ℕ = λ j. count (grid (steps_in k f sa sc)) ((grid (steps_in k f sa sc)).back (spot x y) j) in
      let q : r - sum g l ≡ rest = omega (arith, so.left, sum_cong g (via k f sa sc x y) l (λ j _. brought k f sa sc pos x y j)) in
      ap (λ (m : Option Spot). unrank (grid (steps_in k f sa sc)) m r) (end_in k f sa sc x y h)
      ∙ unrank-step (grid (steps_in k f sa sc)) (grid_lawful (steps_in k f sa sc) (onward k f sa sc pos)) (spot x y) r l (falls_cong (via k f sa sc x y) g k r l (λ j. sym (brought k f sa sc pos x y j)) so.falls)
      ∙ ap (λ (w : List ℕ). l ∷ w) (ap₂ (unrank (grid (steps_in k f sa sc))) (back_is k f sa sc x y l a c) q)

-- ---- bytes written at the end of a buffer

write_start : (l t : List ℕ) (n : ℕ) → length l ≡ n → reverse (drop n l) ++ t ≡ t
write_start l t n e = rw (drop_of_length-le l {i = n} (omega arith))

write_turn : (buf : List ℕ) (s v : ℕ) (t u : List ℕ) → 0 < s → s ≤ length buf → t ≡ v ∷ u → reverse (drop (s - 1) (set buf (s - 1) v)) ++ u ≡ reverse (drop s buf) ++ t
write_turn buf zero v t u p b q = absurd (not-suc-le-zero p)
write_turn buf (suc d) v t u p b q =
    let e : suc d - 1 ≡ d = omega arith in
    rw (e, drop-cons (set buf d v) d 0 (lt-length-set buf d v b), get_or-set_same buf d v 0 b, drop-set-lt (suc d) buf d v (omega arith), reverse-cons v (drop (suc d) buf), q)
    (append_snoc (reverse (drop (suc d) buf)) v u)

write_done : (buf t u : List ℕ) (s : ℕ) → t ≡ [] → reverse (drop s buf) ++ t ≡ u → drop s buf ≡ reverse u
write_done buf t u s n e = sym (reverse-reverse (drop s buf)) ∙ ap reverse (sym (append-nil (reverse (drop s buf))) ∙ ap (λ (z : List ℕ). reverse (drop s buf) ++ z) (sym n) ∙ e)

-- ---- the loop of `spell`

pub record Writing (lettered : Bool) (p : plans.Plan) (sa sc off val : List ℕ) (r : ℕ) (buf : List ℕ) (x cell left s : ℕ) : Type 0 where
  pub y : ℕ
  pub full : Readable p sa sc off val
  pub stand : Stand p sa sc x y cell
  pub less : left < walks_to p.k p.wall sa sc x y
  pub x_le : x ≤ s
  pub s_le : s ≤ 128
  pub room : length buf ≡ 128
  pub so_far : reverse (drop s buf) ++ map (glyph_of lettered) (unr p.k p.wall sa sc x y left) ≡ map (glyph_of lettered) (unr p.k p.wall sa sc p.ex p.ey r)

-- the same, where the column isn't at hand either
pub record SpeltSoFar (lettered : Bool) (p : plans.Plan) (sa sc off val : List ℕ) (r : ℕ) (buf : List ℕ) (cell left s : ℕ) : Type 0 where
  pub x : ℕ
  pub writing : Writing lettered p sa sc off val r buf x cell left s

pub writing_start : (lettered : Bool) {p : plans.Plan} {sa sc off val : List ℕ} → Readable p sa sc off val → {r : ℕ} → r < walks_for p sa sc → {buf : List ℕ} → length buf ≡ 128 → {cell : ℕ} → cell ≡ end_for p
    → Writing lettered p sa sc off val r buf p.ex cell r 128
writing_start lettered {p} fu {r} less {buf} long ep = record {
  y = p.ey;
  full = fu;
  stand = end-stand fu ep;
  less = less;
  x_le = omega (arith, fu.ready.sizes.ex_le);
  s_le = omega arith;
  room = long;
  so_far = write_start buf _ 128 long;
}

module _ {lettered : Bool} {p : plans.Plan} {sa sc off val : List ℕ} {r : ℕ} {buf : List ℕ} {x cell left s : ℕ} (w : Writing lettered p sa sc off val r buf x cell left s) where
  abbrev y : ℕ
  y = w.y

  pos : (j : ℕ) → j < p.k → 1 ≤ get_or sa j 0
  pos = pos_of w.full.ready.slopes

  pub writing-end : x ≤ 0 → (s ≤ 128) × (drop s buf ≡ edge_for lettered p sa sc r)
  unfolding walk_at unr
  writing-end h = (
    w.s_le,
    write_done buf _ (map (glyph_of lettered) (unr p.k p.wall sa sc p.ex p.ey r)) s (ap (map (glyph_of lettered)) (unr-start p.k p.wall sa sc pos x y left h w.less)) w.so_far
        ∙ map-reverse (glyph_of lettered) (unr p.k p.wall sa sc p.ex p.ey r),
  )

  -- only the start's cell has no column behind it
  module _ {start : ℕ} (es : start ≡ start_for p) where
    pub writing-done : cell ≡ start → x ≤ 0
    writing-done q = omega (arith, stand-start w.full w.stand es q)

    pub writing_more : (cell ≡ start → ⊥) → 0 < x
    writing_more n = elim (dec_lt 0 x) [
      | yes l ↦ l
      | no l ↦ let z : x ≡ 0 = omega arith in absurd (omega (arith, stand-apart w.full w.stand es n, at_zero p.k p.wall sa sc pos y left (rw z at w.less)))
    ]

  module _ (px : 0 < x) where
    inside_of : T (wall p.wall x y)
    inside_of = walks_in p.k p.wall sa sc pos x y left w.less

    reads_of : Reads p.k p.wall sa sc off val x y cell
    reads_of = reads_at w.full w.stand inside_of

    pub left-of : left < sum (via p.k p.wall sa sc x y) p.k
    left-of = omega (arith, w.less, walks-step p.k p.wall sa sc pos x y px inside_of)

    pub seek_needs : Summed p.k off val cell × (left < sum (brought_at off val cell) p.k)
    seek_needs = (reads-summed reads_of p.k (omega arith), omega (arith, left-of, reads-sum reads_of p.k (omega arith)))

    -- the step that `seek` finds
    pub picked : {l rest : ℕ} → Sought (brought_at off val cell) p.k left l rest → Sought (via p.k p.wall sa sc x y) p.k left l rest
    picked so = reads_sought reads_of so

    pub spell-room : (1 ≤ s) × (s - 1 < length buf)
    spell-room = (omega (arith, w.x_le), omega (arith, w.x_le, w.s_le, w.room))

    module _ {l rest : ℕ} (so : Sought (via p.k p.wall sa sc x y) p.k left l rest) where
      pub step_from : (get_or sa l 0 ≤ x) × (get_or sc l 0 ≤ y) × (rest < walks_to p.k p.wall sa sc (x - get_or sa l 0) (y - get_or sc l 0))
      step_from = via-pos p.k p.wall sa sc x y l rest (omega (arith, so.left, so.falls.high))

      pub step_in : l < 8
      step_in = omega (arith, w.full.ready.slopes.most, so.falls.inside)

      -- the step goes some columns, and so some cells
      pub step_back : (1 ≤ get_or sa l 0) × (1 ≤ get_or off l 0) × (get_or off l 0 ≤ cell)
      step_back =
          let a = pos l so.falls.inside in
          let o = w.full.ready.offs.is l step_in in (
            a,
            omega (arith, grow (stride_for p) 1 (get_or sa l 0) a),
            omega (
              arith,
              w.stand.at,
              w.full.ready.slopes.deep l step_in (omega (arith, step_from.0, w.stand.end)),
              rows (stride_for p) x (get_or sa l 0) step_from.0,
            ),
          )

      module _ {from v : ℕ} (ef : from ≡ cell - get_or off l 0) (ev : v ≡ glyph_of lettered l) where
        letters : map (glyph_of lettered) (unr p.k p.wall sa sc x y left) ≡ v ∷ map (glyph_of lettered) (unr p.k p.wall sa sc (x - get_or sa l 0) (y - get_or sc l 0) rest)
        letters = ap (map (glyph_of lettered)) (unr-step p.k p.wall sa sc pos x y left l rest inside_of so step_from.0 step_from.1) ∙ ap (λ (z : ℕ). z ∷ map (glyph_of lettered) (unr p.k p.wall sa sc (x - get_or sa l 0) (y - get_or sc l 0) rest)) (sym ev)

        pub next-letter : Writing lettered p sa sc off val r (set buf (s - 1) v) (x - get_or sa l 0) from rest (s - 1)
        next-letter = record {
          y = y - get_or sc l 0;
          full = w.full;
          stand = stand-back w.full w.stand inside_of l so.falls.inside ef step_from.0 step_from.1;
          less = step_from.2;
          x_le = omega (arith, w.x_le, step_back.0);
          s_le = omega (arith, w.s_le);
          room = simp length-set w.room;
          so_far = write_turn buf s v (map (glyph_of lettered) (unr p.k p.wall sa sc x y left)) _ (omega (arith, w.x_le)) (omega (arith, w.s_le, w.room)) letters ∙ w.so_far;
        }
