-- The families of the grid: their edges are the walks of their grid. Assumes nothing.
--
--   north-east-gridded, delannoy-gridded, directed-gridded    families 1, 3, and 6 and 7
use mathlib.Core.Path.{◌≡◌, refl, sym, ap, ◌∙◌}
use mathlib.Core.Bool.{Bool, true, false}
use mathlib.Core.List.{List, [], ◌∷◌}
use Prim.Native.Nat.{ℕ, suc, ◌+◌, ◌-◌, ◌≤◌, ◌<◌}
use native.Mathlib.Decide.{dec_lt}
use native.Mathlib.Omega.{arith}
use lib.Dec.{ltb, eqb}
use lib.IntN.{ℤ, pos}
use lib.ListN.{length}
use borrow.Author.Tests.{lt-ltb, le-ltb, ne_eqb}
use Rattle.howmany.specs.Choose.{pick}
use Rattle.howmany.proofs.Cases.{two, three}
use Rattle.backward.specs.Grid.{Spot}
use Rattle.rules.specs.Jobs.{Pair, one, numbered, steps_of, end_of}
use Rattle.rules.specs.Jobs.Job.{north_east, delannoy, directed}
use Rattle.rules.specs.Valid.{place, at}
use Rattle.rules.specs.Counts.{L, Dl, W, count_of}
use Rattle.rules.specs.Numbers.{rimmed, number_of, edge_of}
use Rattle.rules.proofs.Ranges.{Small}
use Rattle.rules.proofs.Shear.{north_east_grid, delannoy_grid, slope_grid, Upright, Slope}
use Rattle.rules.proofs.Sheared.{walks-word, number_word, edge-word}
use Rattle.rules.proofs.Plains.{north-east_shear, delannoy_shear, north-east-counted, delannoy-counted}
use Rattle.rules.proofs.Slopes.{digit_at, digit-place, slope_shear, slope-counted}
use Rattle.letters.specs.Letters.{ordinal_of, glyph_of}
use Rattle.tables.specs.Gridded.{Agree, Gridded}
use Rattle.tables.specs.Gridded.Agree.{same, both}

-- ---- letters: the code's places and the job's

two-places : (x y z : Bool) → Agree 2 (pick x 0 (pick y 1 (pick z 2 8))) (pick x 0 (suc (pick y 0 (suc 0))))
two-places true y z = same refl
two-places false true z = same refl
two-places false false true = both (omega arith) (omega arith)
two-places false false false = both (omega arith) (omega arith)

three-places : (x y z : Bool) → Agree 3 (pick x 0 (pick y 1 (pick z 2 8))) (pick x 0 (suc (pick y 0 (suc (pick z 0 (suc 0))))))
three-places true y z = same refl
three-places false true z = same refl
three-places false false true = same refl
three-places false false false = both (omega arith) (omega arith)

place_other : (d : ℕ) (ps : List Pair) (b : ℕ) → (d ≤ b → d + length ps ≤ b) → place b (numbered d ps) ≡ length ps
unfolding place numbered
place_other d [] b f = refl
place_other d (p ∷ ps) b f = rw (ne_eqb b d (λ e. omega (arith, f (omega arith)))) (ap suc (place_other (suc d) ps b (λ l. omega (arith, f (omega arith)))))

digit-places : (ps : List Pair) (b : ℕ) → length ps ≤ 8 → Agree (length ps) (ordinal_of false b) (place b (numbered one ps))
unfolding ordinal_of
digit-places ps b few = go (dec_lt b 49) (dec_lt 56 b) (dec_lt (b - 49) (length ps))
  where
    none-there : (one ≤ b → one + length ps ≤ b) → length ps ≤ place b (numbered one ps)
    none-there f = omega (arith, place_other one ps b f)

    go : Dec (b < 49) → Dec (56 < b) → Dec (b - 49 < length ps) → Agree (length ps) (pick (ltb b 49) 8 (pick (ltb 56 b) 8 (b - 49))) (place b (numbered one ps))
    go (yes l) h k = rw (lt-ltb b 49 l) (both few (none-there (λ g. omega arith)))
    go (no l) (yes h) k = rw (le-ltb b 49 (omega arith), lt-ltb 56 b h) (both few (none-there (λ g. omega arith)))
    go (no l) (no h) (yes k) =
        let e : one + (b - 49) ≡ b = omega arith in
        rw (le-ltb b 49 (omega arith), le-ltb 56 b (omega arith)) (same (sym (digit-place one ps (b - 49) k) ∙ ap (λ (x : ℕ). place x (numbered one ps)) e))
    go (no l) (no h) (no k) = rw (le-ltb b 49 (omega arith), le-ltb 56 b (omega arith)) (both (omega arith) (none-there (λ g. omega arith)))

-- ---- the families

plain-x : (n m : ℕ) (q : Spot) → Upright (record { x = n; y = pos m }) q → q.x ≤ n + m
plain-x n m q c = let e : m ≡ q.y = cc in omega (arith, c.across)

pub north-east-gridded : (n m : ℕ) (q : Spot) → Upright (end_of (north_east n m)) q → Gridded (north_east n m) true north_east_grid q
unfolding ordinal_of place glyph_of number_of edge_of count_of
north-east-gridded n m q s =
    let J = north_east n m in
    let H = north-east_shear n m in
    let C = north-east-counted n m in
    record {
      places = λ b. two-places (eqb b 78) (eqb b 69) (eqb b 68);
      glyphs = two (λ i. glyph_of true i ≡ (at (steps_of J) i).letter) refl refl;
      onward = H.onward;
      walks = walks-word J north_east_grid Upright H q s;
      numbers = number_word J north_east_grid Upright H (rimmed L) C q s;
      spells = λ r l. edge-word J north_east_grid Upright H (rimmed L) C q s (n + m) r (plain-x n m q s) l;
      counts = C.agrees (end_of J) q s;
    }

pub delannoy-gridded : (n m : ℕ) (q : Spot) → Upright (end_of (delannoy n m)) q → Gridded (delannoy n m) true delannoy_grid q
unfolding ordinal_of place glyph_of number_of edge_of count_of
delannoy-gridded n m q s =
    let J = delannoy n m in
    let H = delannoy_shear n m in
    let C = delannoy-counted n m in
    record {
      places = λ b. three-places (eqb b 78) (eqb b 69) (eqb b 68);
      glyphs = three (λ i. glyph_of true i ≡ (at (steps_of J) i).letter) refl refl refl;
      onward = H.onward;
      walks = walks-word J delannoy_grid Upright H q s;
      numbers = number_word J delannoy_grid Upright H (rimmed Dl) C q s;
      spells = λ r l. edge-word J delannoy_grid Upright H (rimmed Dl) C q s (n + m) r (plain-x n m q s) l;
      counts = C.agrees (end_of J) q s;
    }

pub directed-gridded : (f : Bool) (n : ℕ) (m : ℤ) (z : ℕ) (p : List Pair) → Small p → (q : Spot) → Slope z (end_of (directed f n m z p)) q
    → Gridded (directed f n m z p) false (slope_grid f z p) q
unfolding glyph_of number_of edge_of count_of
directed-gridded f n m z p small q s =
    let J = directed f n m z p in
    let H = slope_shear f z p small in
    let C = slope-counted f z p small in
    record {
      places = λ b. digit-places p b small.few;
      glyphs = λ i l. omega (arith, (digit_at one p i l).letter);
      onward = H.onward;
      walks = walks-word J (slope_grid f z p) (Slope z) H q s;
      numbers = number_word J (slope_grid f z p) (Slope z) H (W f z p) C q s;
      spells = λ r l. edge-word J (slope_grid f z p) (Slope z) H (W f z p) C q s n r (omega (arith, s.across)) l;
      counts = C.agrees (end_of J) q s;
    }
