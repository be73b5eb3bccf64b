-- Families 1 and 3 over their own table, with the steps written into the loops. Assumes nothing.
--
--   Near, near                      what N and E bring to a cell can be read, and fits
--   PlainAlong                      the loop along a row, by the plan of families 1 and 3
--   Begins, row-begins, row-start   its first cell
--   Filling, filling_in, filling_far, filling_next, row-over, row_next    a cell more
--   Here, LedBack, led-start, led-out, led-end    the loop of `read`
--   Left, Taken, none_read, one_read    the letters that are left, and one fewer
--   Reading, reading-near, north-led, east-led, across-led, east-fits, across-fits    a step read
--   no_step, across-left            where `read` finds no step of the job
--   Given, Spelt, spelt-start    the loop of `spell`
--   Spelling, spelling_near, Added, north-added, east-added, across-added    a step written
use Rattle.std.proofs.Common.{◌≡◌, ℕ, ◌+◌, ◌-◌, ◌*◌, ◌^◌, ◌<◌, ◌≤◌, Bool, true, false, not, T, eqb, ltb, List, [], ◌∷◌, ◌++◌, append_assoc, append-nil, length, length-append, get_or, set, sym, refl, ap, ◌∙◌, subst, arith, eqb→eq, eq-eqb}
use Rattle.std.specs.List.{push}
use Rattle.std.proofs.Math.Seq.{get_or-append_seam}
use native.Mathlib.Decide.{ℕ_discrete}
use Rattle.howmany.specs.Choose.{pick, bit}
use Rattle.howmany.specs.Sum.{sum}
use Rattle.howmany.proofs.Sums.{sum_mono}
use Rattle.howmany.proofs.Choices.{is_true, holds, and_left, and_right}
use Rattle.std.specs.Prelude.{Some, None}
use Rattle.letters.specs.Letters.{ordinal_of, glyph_of}
use Rattle.letters.proofs.Glyphs.{place_n, place-e, place-d, place_no, glyph_n, glyph-e, glyph-d}
use Rattle.rows.specs.declared.plain.Plain.{Plain}
use Rattle.tables.specs.Form.{wall, via}
use Rattle.tables.specs.Cells.{cap_of, place}
use Rattle.tables.specs.Edges.{brought_at, Sought}
use Rattle.rows.specs.Plains.{plain_plan, plain_right, plain_up, plain_back, plain_end, plain_walks, PlainRank, is_across, PlainReadable}
use Rattle.tables.specs.Plans.{stride_for}
use Rattle.rows.specs.Rows.{Rowing}
use Rattle.tables.proofs.Walls.{wall-none}
use Rattle.tables.proofs.Laws.{sum_more, walks-start, cell-value}
use Rattle.tables.proofs.Counts.{pos_of}
use Rattle.tables.proofs.Numbers.{Stand, stand_in, all-le, reads_at, reads-sum, end-stand, Walking, not_there, walking_start, walking-reads, walking-fits, not_letter, not_back, stepped, not_start, walking-end}
use Rattle.tables.proofs.Building.{Writing, writing_start, left-of, step_from, step_back, next-letter, seek_here, seek_end}
use Rattle.rows.proofs.Plains.{plain-steps}
use Rattle.rows.proofs.Along.{Along, place-far, row_at, row_small, row-far, along-start, along_in, along-far, next_in, next_small, along-over, along-next}

two-there : (d : Bool) → (2 ≤ pick d 3 2) × (pick d 3 2 ≤ 8)
two-there true = (omega arith, omega arith)
two-there false = (omega arith, omega arith)

two-right : (d : Bool) → 2 ≤ pick d 2 100
two-right true = omega arith
two-right false = omega arith

third-there : (d : Bool) → 2 < pick d 3 2 → d ≡ true
third-there true l = refl
third-there false l = absurd (omega arith)

one_up : (t : Bool) (u : ℕ) → u ≡ bit (not t) → (u ≤ 1) × (1 - u ≡ bit t) × (u + bit t ≡ 1)
one_up true u e = (omega arith, omega arith, omega arith)
one_up false u e = (omega arith, omega arith, omega arith)

module _ (c : Plain) where
  -- how many walks lead to (x, y) by each last step
  abbrev steps-via : ℕ → ℕ → ℕ → ℕ
  steps-via x y = via (plain_plan c).k (plain_plan c).wall (plain_right c) (plain_up c) x y

  level : (x y : ℕ) → T (wall (plain_plan c).wall x y)
  level x y = wall-none (plain_plan c).wall x y refl

  -- D's cells lie as far back as N's and E's together
  across-back : {n o : ℕ} → n ≡ get_or (plain_back c) 0 0 → o ≡ get_or (plain_back c) 1 0 → c.diagonal ≡ true → n + o ≡ get_or (plain_back c) 2 0
  across-back en eo d = rw d (omega (arith, en, eo, one_up (ltb c.n c.m) _ refl))

-- ---- what N and E bring

-- n and o are how far back the cells of N and E lie
pub record Near (c : Plain) (val : List ℕ) (x y cell n o : ℕ) : Type 0 where
  pub north_back : n ≤ cell
  pub east_back : o ≤ cell
  pub north_in : cell - n < length val
  pub east_in : cell - o < length val
  pub north_is : get_or val (cell - n) 0 ≡ steps-via c x y 0
  pub east_is : get_or val (cell - o) 0 ≡ steps-via c x y 1
  pub one : get_or val (cell - n) 0 ≡ sum (steps-via c x y) 1
  pub both : get_or val (cell - n) 0 + get_or val (cell - o) 0 ≡ sum (steps-via c x y) 2
  pub fits : get_or val (cell - n) 0 + get_or val (cell - o) 0 < 2 ^ 64

-- what stands as far back as a step leads is what the step brings: where it leads out of the grid, a zero
module _ (c : Plain) {val : List ℕ} (fu : PlainReadable c val) {x y cell : ℕ} (st : Stand (plain_plan c) (plain_right c) (plain_up c) x y cell) where
  brings : (l : ℕ) → l < (plain_plan c).k → {o : ℕ} → o ≡ get_or (plain_back c) l 0 → get_or val (cell - o) 0 ≡ steps-via c x y l
  brings l h eo = ap (λ (z : ℕ). get_or val (cell - z) 0) eo ∙ (reads_at fu st (level c x y)).says l h

  pub near : {n o : ℕ} → n ≡ get_or (plain_back c) 0 0 → o ≡ get_or (plain_back c) 1 0 → Near c val x y cell n o
  unfolding sum
  near {n} {o} en eo = record {
    north_back = back_n;
    east_back = back-e;
    north_in = omega (arith, stand_in fu st);
    east_in = omega (arith, stand_in fu st);
    north_is = is-north;
    east_is = is-east;
    one = omega (arith, is-north);
    both = omega (arith, is-north, is-east);
    fits = omega (arith, is-north, is-east, sum_mono (steps-via c x y) 2 (plain_plan c).k (two-there c.diagonal).0, all-le fu st (level c x y), st.fits);
  }
    where
      back_n : n ≤ cell
      back_n = omega (arith, en, st.at, place-far 1 (plain_plan c).ey x y, one_up (ltb c.n c.m) _ refl)

      back-e : o ≤ cell
      back-e = omega (arith, eo, st.at, place-far 1 (plain_plan c).ey x y, one_up (ltb c.n c.m) _ refl)

      is-north : get_or val (cell - n) 0 ≡ steps-via c x y 0
      is-north = brings 0 (omega (arith, two-there c.diagonal)) en

      is-east : get_or val (cell - o) 0 ≡ steps-via c x y 1
      is-east = brings 1 (omega (arith, two-there c.diagonal)) eo

-- ---- the loop along a row

abbrev pub PlainAlong : Plain → ℕ → List ℕ → ℕ → ℕ → ℕ → Type 0
PlainAlong c y val cell sum i = Along (plain_plan c) (plain_right c) (plain_up c) (plain_back c) y val cell sum i

-- where row y begins, if s is how many cells a column has
pub record Begins (c : Plain) (val : List ℕ) (y s : ℕ) : Type 0 where
  pub at : (y + 1) * s + 1 + y ≡ place 1 (plain_plan c).ey y y
  pub small : (y + 1) * s + 1 + y < 3712
  pub inside : (y + 1) * s + 1 + y < length val
  pub far : s < (y + 1) * s + 1 + y

module _ (c : Plain) {s : ℕ} (es : s ≡ stride_for (plain_plan c)) {val : List ℕ} {y : ℕ} (w : Rowing (plain_plan c) (plain_right c) (plain_up c) (plain_back c) val y) where
  pub row-begins : Begins c val y s
  row-begins = record { at = at; small = omega (arith, at, row_small w); inside = omega (arith, at, row_at w); far = omega (arith, at, es, row-far w) }
    where
      at : (y + 1) * s + 1 + y ≡ place 1 (plain_plan c).ey y y
      at = rw es (omega arith)

  pub row-start : (sum : ℕ) → sum ≡ pick (eqb y 0) 1 (get_or val ((y + 1) * s + 1 + y - s - 1) 0)
      → PlainAlong c y (set val ((y + 1) * s + 1 + y) sum) ((y + 1) * s + 1 + y) sum 0
  row-start sum e =
      let cell : ℕ = (y + 1) * s + 1 + y in
      along-start w cell sum row-begins.at (e ∙ ap (λ (z : ℕ). pick (eqb y 0) 1 (get_or val (cell - z - 1) 0)) es)

-- a turn: the row goes on, and s is how many cells a column has
pub record Filling (c : Plain) (y : ℕ) (val : List ℕ) (cell sum i s : ℕ) : Type 0 where
  pub along : PlainAlong c y val cell sum i
  pub more : i < c.n + c.m - (plain_plan c).ey
  pub stride : s ≡ stride_for (plain_plan c)

module _ {c : Plain} {y : ℕ} {val : List ℕ} {cell sum i s : ℕ} (t : Filling c y val cell sum i s) where
  pub filling_in : cell < length val
  filling_in = along_in t.along

  pub filling_far : s < cell
  filling_far = omega (arith, t.stride, along-far t.along)

  pub filling_next : (cell + s < 3712) × (cell + s < length val)
  filling_next = (omega (arith, t.stride, next_small t.along t.more), omega (arith, t.stride, next_in t.along t.more))

  module _ (b d : ℕ) (eb : b ≡ get_or val (cell - 1) 0) (ed : d ≡ pick c.diagonal (get_or val (cell - s - 1) 0) 0) where
    third : d ≡ pick (eqb (plain_plan c).k 3) (get_or val (cell - stride_for (plain_plan c) - 1) 0) 0
    third = ed ∙ go c.diagonal
      where
        go : (b : Bool) → pick b (get_or val (cell - s - 1) 0) 0 ≡ pick (eqb (pick b 3 2) 3) (get_or val (cell - stride_for (plain_plan c) - 1) 0) 0
        go true = ap (λ (z : ℕ). get_or val (cell - z - 1) 0) t.stride
        go false = refl

    pub row-over : 2 ^ 64 ≤ sum + b + d → 2 ^ 64 ≤ plain_walks c
    row-over h = along-over t.along t.more b d eb third h

    pub row_next : {v : ℕ} → v ≡ sum + b + d → PlainAlong c y (set val (cell + s) v) (cell + s) v (i + 1)
    row_next {v} ev = along-next t.along t.more b d eb third (cell + s) v (omega (arith, t.stride)) ev

-- ---- the loop of `read`, which keeps neither column nor height

-- the letters from i on lead back from the end to the cell, which is that of some (x, y)
abbrev pub Here : Plain → List ℕ → List ℕ → ℕ → ℕ → ℕ → Type 0
Here c val e acc cell i = Walking true (plain_plan c) (plain_right c) (plain_up c) (plain_back c) val e acc cell i

-- the same, or they lead to a cell that no walk leads to
pub record LedBack (c : Plain) (val e : List ℕ) (acc cell i : ℕ) : Type 0 where
  pub full : PlainReadable c val
  pub i_le : i ≤ length e
  pub inside : cell < length val
  pub none : get_or val cell 0 ≡ 0 → PlainRank c e None
  pub some : (get_or val cell 0 ≡ 0 → ⊥) → Here c val e acc cell i

module _ (c : Plain) {val e : List ℕ} where
  pub led-start : PlainReadable c val → {cell : ℕ} → cell ≡ plain_end c → LedBack c val e 0 cell (length e)
  led-start fu ep = record { full = fu; i_le = omega arith; inside = stand_in fu (end-stand fu ep); none = not_there true e fu ep; some = walking_start true e fu ep }

  module _ {acc cell i : ℕ} (w : LedBack c val e acc cell i) (h : i ≤ 0) where
    pub led-out : (cell ≡ stride_for (plain_plan c) + 1 → ⊥) → PlainRank c e None
    led-out o = elim (ℕ_discrete (get_or val cell 0) 0) [ yes z ↦ w.none z | no n ↦ not_start (w.some n) h (omega arith) o ]

    pub led-end : cell ≡ stride_for (plain_plan c) + 1 → PlainRank c e (Some acc)
    led-end q = walking-end (w.some (λ z. omega (arith, z, one))) h (omega arith) q
      where
        one : get_or val cell 0 ≡ 1
        one =
            let e : cell ≡ place 1 (plain_plan c).ey 0 0 = omega arith in
            cell-value _ (get_or w.full.solid.ov cell 0) 1
            (rw e (w.full.solid.flags.right 0 0 (omega arith) (omega arith, omega (arith, (plain-steps c).wide))
            ∙ ap cap_of (walks-start (plain_plan c).k (plain_plan c).wall (plain_right c) (plain_up c) (pos_of w.full.ready.slopes) 0)))
            (omega arith)

-- the edge's letters that are left, and those that were read
pub record Left (e rest : List ℕ) : Type 0 where
  pub read : List ℕ
  pub whole : e ≡ rest ++ read

-- the last of them taken away
pub record Taken (e rest less : List ℕ) (b : ℕ) : Type 0 where
  pub left : Left e less
  pub more : 0 < length rest
  pub one : length rest - 1 ≡ length less
  pub letter : get_or e (length rest - 1) 0 ≡ b

pub none_read : (e : List ℕ) {rest : List ℕ} → rest ≡ e → Left e rest
none_read e q = record { read = []; whole = rw q (sym (append-nil e)) }

pub one_read : {e rest less : List ℕ} {b : ℕ} → Left e rest → rest ≡ push less b → Taken e rest less b
one_read {e} {rest} {less} {b} w q =
    let l : length rest ≡ length less + 1 = omega (arith, ap length q, length-append less (b ∷ [])) in
    let one : length rest - 1 ≡ length less = omega arith in
    let whole : e ≡ less ++ (b ∷ w.read) = w.whole ∙ ap (λ (z : List ℕ). z ++ w.read) q ∙ append_assoc less (b ∷ []) w.read in
    record {
      left = record { read = b ∷ w.read; whole = whole };
      more = omega arith;
      one = one;
      letter = rw (one, whole) (get_or-append_seam less b w.read 0);
    }

-- a turn: a letter is left, and n and o are how far back the cells of N and E lie
pub record Reading (c : Plain) (val e : List ℕ) (acc cell i n o : ℕ) : Type 0 where
  pub here : Here c val e acc cell i
  pub more : 0 < i
  pub north : n ≡ get_or (plain_back c) 0 0
  pub east : o ≡ get_or (plain_back c) 1 0

module _ {c : Plain} {val e : List ℕ} {acc cell i n o : ℕ} (t : Reading c val e acc cell i n o) where
  abbrev x : ℕ
  x = t.here.x

  abbrev y : ℕ
  y = t.here.y

  abbrev walking : Here c val e acc cell i
  walking = t.here

  -- what the cells say of the steps before l
  said : (l : ℕ) → l ≤ (plain_plan c).k → {v : ℕ} → v ≡ sum (steps-via c x y) l → v ≡ sum (brought_at (plain_back c) val cell) l
  said l k ev = ev ∙ sym (reads-sum (walking-reads walking) l k)

  -- a step back, with v more summed
  next : (l : ℕ) → l ≡ ordinal_of true (get_or e (i - 1) 0) → l < (plain_plan c).k → {b v s : ℕ} → b ≡ get_or (plain_back c) l 0
      → v ≡ sum (steps-via c x y) l → s ≡ acc + v → LedBack c val e s (cell - b) (i - 1)
  next l q k eb ev es = record {
    full = walking.full;
    i_le = omega (arith, walking.i_le);
    inside = omega (arith, stand_in walking.full walking.stand);
    none = not_back walking t.more q k (ap (λ (z : ℕ). cell - z) eb);
    some = λ n. rw es (stepped walking t.more q k (ap (λ (z : ℕ). cell - z) eb) n (said l (omega arith) ev));
  }

  pub reading-near : Near c val x y cell n o
  reading-near = near c walking.full walking.stand t.north t.east

  pub east-fits : acc + get_or val (cell - n) 0 < 2 ^ 64
  east-fits = let k : 1 ≤ (plain_plan c).k = omega (arith, two-there c.diagonal) in walking-fits walking 1 k (said 1 k reading-near.one)

  pub across-fits : acc + (get_or val (cell - n) 0 + get_or val (cell - o) 0) < 2 ^ 64
  across-fits = walking-fits walking 2 (two-there c.diagonal).0 (said 2 (two-there c.diagonal).0 reading-near.both)

  pub north-led : get_or e (i - 1) 0 ≡ 78 → LedBack c val e acc (cell - n) (i - 1)
  unfolding sum
  north-led b = next 0 (place_n true _ refl b) (omega (arith, two-there c.diagonal)) t.north refl (omega arith)

  module _ (a : get_or e (i - 1) 0 ≡ 78 → ⊥) where
    pub east-led : get_or e (i - 1) 0 ≡ 69 → LedBack c val e (acc + get_or val (cell - n) 0) (cell - o) (i - 1)
    east-led b = next 1 (place-e true _ refl a b) (omega (arith, two-there c.diagonal)) t.east reading-near.one refl

    module _ (m : get_or e (i - 1) 0 ≡ 69 → ⊥) where
      pub no_step : is_across c (get_or e (i - 1) 0) ≡ false → PlainRank c e None
      no_step f = go (ℕ_discrete (get_or e (i - 1) 0) 68) c.diagonal refl
        where
          go : Dec (get_or e (i - 1) 0 ≡ 68) → (d : Bool) → c.diagonal ≡ d → PlainRank c e None
          go (no b) d q = not_letter walking t.more (place_no true _ refl a m b) (two-there c.diagonal).1
          go (yes b) false q = not_letter walking t.more (place-d true _ refl a m b) (rw q (omega arith))
          go (yes b) true q = let g : true ≡ false = rw (eq-eqb (get_or e (i - 1) 0) 68 b, q) at f in absurd (subst T g tt)

      module _ (is : is_across c (get_or e (i - 1) 0) ≡ true) where
        d : c.diagonal ≡ true
        d = is_true c.diagonal (and_right (eqb (get_or e (i - 1) 0) 68) c.diagonal (holds is))

        letter : 2 ≡ ordinal_of true (get_or e (i - 1) 0)
        letter = place-d true _ refl a m (eqb→eq (get_or e (i - 1) 0) 68 (and_left (eqb (get_or e (i - 1) 0) 68) c.diagonal (holds is)))

        pub across-left : cell < n + o → PlainRank c e None
        across-left l = not_back walking t.more letter (rw d (omega arith)) (ap (λ (z : ℕ). cell - z) (across-back c t.north t.east d)) (zero (omega arith))
          where
            zero : cell - (n + o) ≡ 0 → get_or val (cell - (n + o)) 0 ≡ 0
            zero z = rw z (cell-value _ (get_or walking.full.solid.ov 0 0) 0 (walking.full.solid.flags.front 0 (omega arith)) (omega arith))

        pub across-led : LedBack c val e (acc + (get_or val (cell - n) 0 + get_or val (cell - o) 0)) (cell - (n + o)) (i - 1)
        across-led = next 2 letter (rw d (omega arith)) (across-back c t.north t.east d) reading-near.both refl

-- ---- the loop of `spell`, which doesn't keep the height

-- what holds of the code's numbers before the loop
pub record Given (c : Plain) (val : List ℕ) (r : ℕ) (buf : List ℕ) (n o x cell : ℕ) : Type 0 where
  pub full : PlainReadable c val
  pub less : r < plain_walks c
  pub long : length buf ≡ 128
  pub north : n ≡ get_or (plain_back c) 0 0
  pub east : o ≡ get_or (plain_back c) 1 0
  pub from : x ≡ c.n + c.m
  pub at : cell ≡ plain_end c

abbrev pub Spelt : Plain → List ℕ → ℕ → List ℕ → ℕ → ℕ → ℕ → ℕ → Type 0
Spelt c val r buf x cell left s = Writing true (plain_plan c) (plain_right c) (plain_up c) (plain_back c) val r buf x cell left s

-- the byte g written, and a columns and o cells back
pub record Added (c : Plain) (val : List ℕ) (r : ℕ) (buf : List ℕ) (x cell s g a o rest : ℕ) : Type 0 where
  pub right : a ≤ x
  pub far : o ≤ cell
  pub ahead : x - a < x
  pub next : Spelt c val r (set buf (s - 1) g) (x - a) (cell - o) rest (s - 1)

-- a turn: the start isn't reached, and n and o are how far back the cells of N and E lie
pub record Spelling (c : Plain) (val : List ℕ) (r : ℕ) (buf : List ℕ) (x cell left s n o : ℕ) : Type 0 where
  pub spelt : Spelt c val r buf x cell left s
  pub more : 0 < x
  pub north : n ≡ get_or (plain_back c) 0 0
  pub east : o ≡ get_or (plain_back c) 1 0

pub spelt-start : (c : Plain) {val : List ℕ} {r : ℕ} {buf : List ℕ} {n o x cell : ℕ} → Given c val r buf n o x cell → Spelt c val r buf x cell r 128
spelt-start c g = rw g.from (writing_start true g.full g.less g.long g.at)

module _ {c : Plain} {val : List ℕ} {r : ℕ} {buf : List ℕ} {x cell left s n o : ℕ} (t : Spelling c val r buf x cell left s n o) where
  -- what each step brings
  abbrev each : ℕ → ℕ
  each = steps-via c x t.spelt.y

  pub spelling_near : Near c val x t.spelt.y cell n o
  spelling_near = near c t.spelt.full t.spelt.stand t.north t.east

  added : (l g a b rest : ℕ) → Sought each (plain_plan c).k left l rest → a ≡ get_or (plain_right c) l 0 → b ≡ get_or (plain_back c) l 0 → g ≡ glyph_of true l
      → Added c val r buf x cell s g a b rest
  added l g a b rest so ea eb eg =
      let w = step_back t.spelt t.more so in
      let f = step_from t.spelt t.more so in
      record {
        right = omega (arith, ea, f.0);
        far = omega (arith, eb, w.2);
        ahead = omega (arith, ea, w.0, f.0);
        next = rw ea (next-letter t.spelt t.more so (ap (λ (z : ℕ). cell - z) eb) eg);
      }

  pub north-added : left < get_or val (cell - n) 0 → Added c val r buf x cell s 78 1 n left
  unfolding sum
  north-added l =
      added 0 78 1 n left
      (seek_here each 0 (plain_plan c).k left left (omega arith) (omega (arith, two-there c.diagonal)) _ spelling_near.north_is l) refl t.north (glyph_n true 0 refl refl)

  module _ (l : get_or val (cell - n) 0 ≤ left) where
    past-north : sum each 1 + (left - get_or val (cell - n) 0) ≡ left
    unfolding sum
    past-north = omega (arith, spelling_near.one)

    pub east-added : left - get_or val (cell - n) 0 < get_or val (cell - o) 0 → Added c val r buf x cell s 69 1 o (left - get_or val (cell - n) 0)
    east-added q =
        added 1 69 1 o _
        (seek_here each 1 (plain_plan c).k _ left past-north (omega (arith, two-there c.diagonal)) _ spelling_near.east_is q) refl t.east (glyph-e true 1 refl (λ z. omega arith) refl)

    module _ (q : get_or val (cell - o) 0 ≤ left - get_or val (cell - n) 0) where
      past-east : sum each 2 + (left - get_or val (cell - n) 0 - get_or val (cell - o) 0) ≡ left
      past-east = omega (arith, spelling_near.both)

      -- what neither N nor E stands for, D does
      across_sought : Sought each (plain_plan c).k left 2 (left - get_or val (cell - n) 0 - get_or val (cell - o) 0)
      across_sought = go c.diagonal refl
        where
          go : (d : Bool) → c.diagonal ≡ d → Sought each (plain_plan c).k left 2 (left - get_or val (cell - n) 0 - get_or val (cell - o) 0)
          go true e =
              let k : (plain_plan c).k ≡ 3 = ap (λ (b : Bool). pick b 3 2) e in
              seek_here each 2 (plain_plan c).k _ left past-east (omega arith) _ refl
              (omega (arith, past-east, sum_more each 2, left-of t.spelt t.more, ap (sum each) k))
          go false e =
              let k : (plain_plan c).k ≡ 2 = ap (λ (b : Bool). pick b 3 2) e in
              absurd (seek_end each 2 (plain_plan c).k _ left past-east (two-there c.diagonal).0 (omega arith) (left-of t.spelt t.more))

      pub across-added : Added c val r buf x cell s 68 2 (n + o) (left - get_or val (cell - n) 0 - get_or val (cell - o) 0)
      across-added =
          let d = third-there c.diagonal across_sought.falls.inside in
          let two : 2 ≡ get_or (plain_right c) 2 0 = ap (λ (b : Bool). pick b 2 100) (sym d) in
          added 2 68 2 (n + o) _ across_sought two (across-back c t.north t.east d) (glyph-d true 2 refl (λ z. omega arith) (λ z. omega arith))
