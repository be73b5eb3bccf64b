-- Edges over the grid of a job's shape are the job's edges: how many there are, what is valid, its number, and the edge of a number. Assumes
-- nothing.
--
--   valid-map, rank-map            words of places that agree
--   map-letters                    a word's letters by two tables that agree below k
--   Walked, walked                 the grid that a shape shows and the shape's own have the same walks to their ends
--   shape-count                    the job's count by the grid of its shape
--   shape-edge, shape-number, shape-spells    and its edges
use mathlib.Core.Path.{◌≡◌, refl, sym, ap, ap₂, ◌∙◌, subst}
use mathlib.Core.Bool.{Bool, ◌&&◌}
use mathlib.Core.Option.{Option, none, some}
use mathlib.Core.List.{List, [], ◌∷◌, map, reverse}
use Prim.Native.Nat.{ℕ, ◌+◌, ◌<◌}
use native.Mathlib.Omega.{arith}
use lib.Dec.{T, ltb}
use lib.ListN.{get_or}
use borrow.Author.Tests.{le-ltb}
use Rattle.howmany.specs.Sum.{sum}
use Rattle.backward.specs.Reader.{Reader, Lawful, valid, count, rank, unrank}
use Rattle.backward.specs.Grid.{Spot, Steps, grid, paths}
use Rattle.backward.specs.Shears.{Lower, Across}
use Rattle.backward.proofs.Backward.{letter, rest, unrank-built}
use Rattle.backward.proofs.Grids.{grid_lawful}
use Rattle.backward.proofs.Carried.{Led, Carries, valid-carried, count-carried, rank-carried, unrank-carried}
use Rattle.backward.proofs.Shears.{slid-carries, slid_enters, mirrored-carries, mirrored_enters}
use Rattle.rules.specs.Valid as valids
use Rattle.rules.specs.Jobs as rules
use Rattle.rules.specs.Jobs.{steps_of}
use Rattle.rules.specs.Valid.{place, at}
use Rattle.rules.specs.Words.{word_of}
use Rattle.rules.specs.Counts.{count_of}
use Rattle.rules.specs.Numbers as numbers
use Rattle.rules.proofs.Letters.{map-reverse}
use Rattle.letters.specs.Letters.{ordinal_of, glyph_of}
use Rattle.tables.specs.Form.{walks_to}
use Rattle.tables.specs.Edges as edges
use Rattle.tables.specs.Shapes.{steps_at, end_at, Shows}
use Rattle.tables.specs.Shapes.Shows.{slid, mirrored}
use Rattle.tables.specs.declared.Shape.{Shape}
use Rattle.tables.proofs.Laws.{onward}
use Rattle.tables.specs.Gridded.{Agree, entered, Gridded}
use Rattle.tables.specs.Gridded.Agree.{same, both}

module _ (R : Reader) (p q : ℕ → ℕ) (agree : (b : ℕ) → Agree R.letters (p b) (q b)) where
  valid-map : (u : List ℕ) (m : Option R.State) → valid R (map p u) m ≡ valid R (map q u) m
  unfolding valid
  valid-map [] m = refl
  valid-map (b ∷ u) none = refl
  valid-map (b ∷ u) (some s) = go (agree b) (valid-map u (R.back s (q b)))
    where
      go : Agree R.letters (p b) (q b) → valid R (map p u) (R.back s (q b)) ≡ valid R (map q u) (R.back s (q b))
          → (ltb (p b) R.letters && valid R (map p u) (R.back s (p b))) ≡ (ltb (q b) R.letters && valid R (map q u) (R.back s (q b)))
      go (same e) ih = ap (λ (i : ℕ). ltb i R.letters && valid R (map p u) (R.back s i)) e ∙ ap (λ (t : Bool). ltb (q b) R.letters && t) ih
      go (both l h) ih = rw (le-ltb (p b) R.letters l, le-ltb (q b) R.letters h) refl

  rank-map : (lawful : Lawful R) (u : List ℕ) (m : Option R.State) → T (valid R (map p u) m) → rank R (map p u) m ≡ rank R (map q u) m
  unfolding rank
  rank-map lawful [] m t = refl
  rank-map lawful (b ∷ u) none t = refl
  rank-map lawful (b ∷ u) (some s) t = go (agree b) (rank-map lawful u (R.back s (p b)) (rest R lawful s (p b) (map p u) t))
    where
      l : p b < R.letters
      l = letter R lawful s (p b) (map p u) t

      go : Agree R.letters (p b) (q b) → rank R (map p u) (R.back s (p b)) ≡ rank R (map q u) (R.back s (p b)) → rank R (p b ∷ map p u) (some s) ≡ rank R (q b ∷ map q u) (some s)
      go (same e) ih = rw (sym e) (ap (λ (n : ℕ). sum (λ j. count R (R.back s j)) (p b) + n) ih)
      go (both h k) ih = absurd (omega (arith, l))

module _ (R : Reader) (lawful : Lawful R) (f g : ℕ → ℕ) (agree : (i : ℕ) → i < R.letters → f i ≡ g i) where
  map-letters : (w : List ℕ) (m : Option R.State) → T (valid R w m) → map f w ≡ map g w
  unfolding valid
  map-letters [] m t = refl
  map-letters (i ∷ w) none t = absurd t
  map-letters (i ∷ w) (some s) t = ap₂ {C = List ℕ} (λ x y. x ∷ y) (agree i (letter R lawful s i w t)) (map-letters w (R.back s i) (rest R lawful s i w t))

record Walked (G : Steps) (q : Spot) (s : Shape) : Type 1 where
  At : Spot → Spot → Type 0
  many : s.k ≡ G.k
  right : (i : ℕ) → i < s.k → get_or s.sa i 0 ≡ G.a i
  carries : Carries (grid (steps_at s)) (grid G) At
  led : Led (grid (steps_at s)) (grid G) At (entered (steps_at s) (end_at s)) (entered G q)

walked : (G : Steps) (q : Spot) (s : Shape) → Shows G q s → Walked G q s
walked G q s (slid d l a) = record {
  At = Lower d;
  many = l.many;
  right = l.right;
  carries = slid-carries d G (steps_at s) l;
  led = slid_enters d G (steps_at s) l (end_at s) q a;
}
walked G q s (mirrored d l a) = record {
  At = Across d;
  many = l.many;
  right = l.right;
  carries = mirrored-carries d G (steps_at s) l;
  led = mirrored_enters d G (steps_at s) l (end_at s) q a;
}

-- ---- a job's edges by the grid of its shape

module _ {J : rules.Job} {lettered : Bool} {G : Steps} {q : Spot} (g : Gridded J lettered G q) (s : Shape) (v : Shows G q s) where
  abbrev H : Steps
  H = steps_at s

  -- the end in both grids
  abbrev end : Option Spot
  end = entered G q

  abbrev end-there : Option Spot
  end-there = entered H (end_at s)

  -- a byte's place, the code's and the job's
  abbrev byte : ℕ → ℕ
  byte b = ordinal_of lettered b

  abbrev step : ℕ → ℕ
  step b = place b (steps_of J)

  w : Walked G q s
  w = walked G q s v

  job_lawful : Lawful (grid G)
  job_lawful = grid_lawful G g.onward

  shape_lawful : Lawful (grid H)
  shape_lawful = grid_lawful H (onward s.k s.wall s.sa s.sc (λ i l. rw (w.right i l) (g.onward.ahead i (omega (arith, w.many)))))

  same_count : count (grid H) end-there ≡ count (grid G) end
  same_count = count-carried (grid H) (grid G) w.At w.carries end-there end w.led

  same-valid : (u : List ℕ) → valid (grid H) u end-there ≡ valid (grid G) u end
  same-valid u = valid-carried (grid H) (grid G) w.At w.carries u end-there end w.led

  word-valid : (e : List ℕ) → valid (grid G) (reverse (map byte e)) end ≡ valid (grid G) (word_of J e) end
  word-valid e = rw (map-reverse byte e, map-reverse step e) (valid-map (grid G) byte step g.places (reverse e) end)

  pub shape-count : walks_to s.k s.wall s.sa s.sc s.ex s.ey ≡ count_of J
  unfolding walks_to paths
  shape-count = same_count ∙ sym g.counts

  pub shape-edge : (e : List ℕ) → edges.is_walk lettered s.k s.wall s.sa s.sc s.ex s.ey e ≡ valids.is_edge J e
  unfolding edges.is_walk
  shape-edge e = same-valid (reverse (map byte e)) ∙ word-valid e ∙ sym (g.walks e)

  pub shape-number : (e : List ℕ) → T (valids.is_edge J e) → edges.walk_number lettered s.k s.wall s.sa s.sc s.ex s.ey e ≡ numbers.number_of J e
  unfolding edges.walk_number
  shape-number e t =
      let c : T (valid (grid G) (reverse (map byte e)) end) = subst T (g.walks e ∙ sym (word-valid e)) t in
      let d : T (valid (grid G) (map byte (reverse e)) end) = rw (map-reverse byte e) at c in
      let h : T (valid (grid H) (reverse (map byte e)) end-there) = rw (same-valid (reverse (map byte e))) c in
      rank-carried (grid H) (grid G) w.At w.carries shape_lawful job_lawful (reverse (map byte e)) end-there end w.led h
      ∙ rw (map-reverse byte e, g.numbers e t, map-reverse step e) (rank-map (grid G) byte step g.places job_lawful (reverse e) end d)

  pub shape-spells : (n : ℕ) → n < count_of J → edges.walk_at lettered s.k s.wall s.sa s.sc s.ex s.ey n ≡ numbers.edge_of J n
  unfolding edges.walk_at paths
  shape-spells n l =
      let h : n < paths G q = rw g.counts at l in
      let c : n < count (grid H) end-there = rw same_count h in
      let b = unrank-built (grid G) job_lawful end n h in
      rw (
        unrank-carried (grid H) (grid G) w.At w.carries shape_lawful job_lawful end-there end w.led n c,
        g.spells n h,
        ← map-reverse (glyph_of lettered) (unrank (grid G) end n),
        ← map-reverse (λ i. (at (steps_of J) i).letter) (unrank (grid G) end n),
      )
      (ap reverse (map-letters (grid G) job_lawful (glyph_of lettered) (λ i. (at (steps_of J) i).letter) g.glyphs (unrank (grid G) end n) end b.is))
