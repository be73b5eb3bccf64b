-- Laws of the shapes of families 6 and 7: how steps are laid one by one, and what each shape says of its job. Assumes nothing.
--
--   laid_more                              one step more
--   beyond-shaped                          a job of the grid whose end no step leads to
--   small, directed-shaped                 the job is in range; the lowered shape
--   stands-ranged, shaped-by               the same by what a held job stands for
use mathlib.Core.Path.{◌≡◌, refl, sym, ap, ◌∙◌, subst}
use mathlib.Core.Bool.{Bool, true, false}
use mathlib.Core.List.{List}
use Prim.Native.Nat.{ℕ, suc, ◌+◌, ◌*◌, ◌-◌, ◌≤◌, ◌<◌}
use native.Mathlib.Omega.{arith}
use lib.Dec.{T, leb, le→leb}
use lib.IntN.{ℤ, pos, negsuc}
use lib.ListN.{get_or, set, length-set}
use lib.Seq.{get_or-set_other}
use Rattle.howmany.specs.Choose.{pick}
use Rattle.backward.specs.Grid.{Spot, Steps, grid, paths}
use Rattle.backward.specs.Shears.{Slid}
use Rattle.backward.proofs.Carried.{barren-count}
use Rattle.rules.specs.Points.{Is, leℤ}
use Rattle.rules.specs.Jobs as rules
use Rattle.rules.specs.Jobs.{Pair, pair_at, end_of}
use Rattle.rules.specs.Jobs.Job.{directed}
use Rattle.rules.specs.Blocks.{paired, fenced}
use Rattle.rules.specs.Valid.{Valid}
use Rattle.rules.specs.Words.{word_of}
use Rattle.rules.specs.Counts.{count_of}
use Rattle.rules.proofs.Shear.{lift, slope_grid, Slope}
use Rattle.rules.proofs.Signed.{is-shift, is_up, is-lift, is-apart}
use Rattle.rules.proofs.Sheared.{some_end}
use Rattle.rules.proofs.Ranges.{Small}
use Rattle.rules.proofs.Slopes.{W-none, slope_shear}
use Rattle.job.specs.declared.Family.{Family}
use Rattle.job.specs.declared.Family.TheVariants.{Open as OpenFamily, Fenced as FencedFamily}
use Rattle.job.specs.declared.Job.{Job}
use Rattle.job.specs.Stands.{Directed, family_number, Stands}
use Rattle.job.proofs.Sorts.{AsDirected, directed_of}
use Rattle.job.proofs.Sorts.AsDirected.{as_directed}
use Rattle.tables.specs.declared.Wall.{Wall}
use Rattle.tables.specs.Form.{wall, fence_of}
use Rattle.std.specs.Prelude.{Option, Some, None}
use Rattle.tables.specs.Shapes.{steps_at, end_at, Nothing, Shaped, ShapedFor, Ranged, Laying, Laid, Beyond, Lowered, Chosen}
use Rattle.tables.specs.Shapes.Chosen.{sunk, lowered}
use Rattle.tables.specs.declared.Shape.{Shape}
use Rattle.tables.proofs.Walls.{set_more, fence-is}
use Rattle.tables.specs.Gridded.{entered, Gridded}
use Rattle.tables.proofs.Gridded.{directed-gridded}
use Rattle.tables.proofs.Lowering.{shows_same, beyond-same, beyond-barren}

-- ---- the steps

module _ (a b sa sc : List ℕ) (i x y : ℕ) (w : Laying a b sa sc i) (l : i < 8) (ex : x ≡ get_or a i 0) (ey : y ≡ get_or b i 0 + 3 * get_or a i 0 - 128) where
  pub laid_more : Laying a b (set sa i x) (set sc i y) (i + 1)
  laid_more = record {
    eight = length-set sa i x ∙ w.eight;
    eight_too = length-set sc i y ∙ w.eight_too;
    right = set_more sa i x (λ j v. v ≡ get_or a j 0) (omega (arith, w.eight)) w.right ex;
    up = set_more sc i y (λ j v. v ≡ get_or b j 0 + 3 * get_or a j 0 - 128) (omega (arith, w.eight_too)) w.up ey;
    away = λ j h k. get_or-set_other sa i j x 0 (λ e. omega arith) ∙ w.away j (omega arith) k;
    flat = λ j h k. get_or-set_other sc i j y 0 (λ e. omega arith) ∙ w.flat j (omega arith) k;
  }

-- nothing leads to an end that no step leads to
beyond-shaped : {J : rules.Job} {lettered : Bool} {G : Steps} {q : Spot} → Gridded J lettered G q → Beyond G q → Nothing J
unfolding Valid paths
beyond-shaped {J} {lettered} {G} {q} g o =
    let b = beyond-barren G q o in
    record { none = g.counts ∙ barren-count (grid G) (entered G q) b; empty = λ z v. b (word_of J z) (subst T (g.walks z) v) }

steep : (z : ℤ) (p : ℕ) → Is z p 128 → 125 ≤ p → T (leℤ (negsuc 2) z)
steep (pos a) p e l = tt
steep (negsuc a) p e l = le→leb a 2 (omega arith)

module _ (j : Job) (fenced : Bool) (m : ℤ) (pairs : List Pair) (d : Directed j m pairs) where
  abbrev J : rules.Job
  J = directed fenced j.n m 0 pairs

  abbrev G : Steps
  G = slope_grid fenced 0 pairs

  pub small : Small pairs
  small = record {
    few = omega (arith, d.many, d.few);
    on = λ i l. omega (arith, d.a_is i (omega (arith, d.many)), d.a_least i (omega (arith, d.many)));
    steep = λ i l. steep (pair_at pairs i).b (get_or j.b i 0) (d.b_is i (omega (arith, d.many))) (d.b_least i (omega (arith, d.many)));
  }

  below : (t : ℕ) → j.m + (3 * j.n + suc t) ≡ 128 → Is m 0 (3 * j.n + suc t)
  below t e = is-shift m j.m 128 0 (3 * j.n + suc t) d.m_is (omega arith)

  no_edge : (t : ℕ) → Is m 0 (3 * j.n + suc t) → (e : List ℕ) → Valid J e → ⊥
  unfolding Valid
  no_edge t h e v =
      let (q, a) = some_end J G (Slope 0) (slope_shear fenced 0 pairs small) e v in
      is-apart m q.y 0 (3 * j.n) t (is-shift m (q.y + 0) (3 * q.x) (q.y + 0) (3 * j.n) a.up (omega (arith, a.across))) h

  sunk-shaped : j.m + 3 * j.n < 128 → Nothing J
  unfolding count_of Valid
  sunk-shaped l =
      let t : ℕ = 127 - (j.m + 3 * j.n) in
      let h : Is m 0 (3 * j.n + suc t) = below t (omega arith) in
      record { none = W-none fenced 0 pairs small j.n t m h; empty = no_edge t h }

  module _ (s : Shape) (w : Laid j (fence_of (pick fenced 3 0) 0) s) where
    lifted : (i : ℕ) → i < j.k → get_or j.b i 0 + 3 * get_or j.a i 0 - 128 ≡ G.c i
    lifted i l =
        let z : ℤ = (pair_at pairs i).b in
        let x : ℕ = (pair_at pairs i).a in
        is_up z (get_or j.b i 0 + 3 * get_or j.a i 0 - 128) (lift x z) (3 * x)
        (is-shift z (get_or j.b i 0) 128 (get_or j.b i 0 + 3 * get_or j.a i 0 - 128) (3 * x) (d.b_is i l) (omega (arith, d.a_is i l, d.a_least i l, d.b_least i l)))
        (is-lift z (3 * x) (steep z (get_or j.b i 0) (d.b_is i l) (d.b_least i l)) (omega (arith, d.a_is i l, d.a_least i l)))

    own : Slid 0 G (steps_at s)
    own = record {
      many = w.k_is ∙ sym d.many;
      right = λ i h. w.steps.right i (omega (arith, w.k_is)) ∙ d.a_is i (omega (arith, w.k_is));
      up = λ i h. omega (arith, w.steps.up i (omega (arith, w.k_is)), lifted i (omega (arith, w.k_is)));
      wall = λ x y.
          let z : y + 0 ≡ y + 0 * x + 0 = omega arith in
          ap (λ (v : Wall). wall v x y) w.wall_is ∙ fence-is (fence_of (pick fenced 3 0) 0) x y refl ∙ ap (leb (pick fenced 3 0 * x)) z;
    }

    sits : 128 ≤ j.m + 3 * j.n → Slope 0 (end_of J) (end_at s)
    sits l = record {
      across = sym w.ex_is;
      up = is-shift m j.m 128 (s.ey + 0) (3 * s.ex) d.m_is (omega (arith, w.ex_is, w.ey_is));
    }

    own-grid : Gridded J false G (end_at s)
    own-grid = directed-gridded fenced j.n m 0 pairs small (end_at s) (sits w.above)

    lowered-shaped : (r : Option Shape) → Lowered s r → Shaped J r
    lowered-shaped (Some r) v = record { form = v.0; fits = record { steps = G; end = end_at s; gridded = own-grid; shows = shows_same G (steps_at s) own (end_at s) r v.1 } }
    lowered-shaped None o = beyond-shaped own-grid (beyond-same G (steps_at s) own (end_at s) o)

  pub directed-shaped : {r : Option Shape} → Chosen j (fence_of (pick fenced 3 0) 0) r → Shaped J r
  directed-shaped (sunk l) = sunk-shaped l
  directed-shaped (lowered {r} s w l) = lowered-shaped s w r l

-- ---- by what a held job stands for

ranged : {j : Job} {m : ℤ} {pairs : List Pair} → Directed j m pairs → Ranged j
ranged d = record {
  n_most = d.n_most;
  m_most = d.m_most;
  some = d.some;
  few = d.few;
  a_least = d.a_least;
  a_most = d.a_most;
  b_least = d.b_least;
  b_most = d.b_most;
}

pub stands-ranged : {j : Job} {J : rules.Job} → Stands j J → paired (family_number j.family) ≡ true → Ranged j
stands-ranged st q = go (directed_of st q)
  where
    go : {j : Job} {J : rules.Job} → AsDirected j J → Ranged j
    go (as_directed fenced e d) = ranged d

-- family 7 has the fence of slope 3, family 6 none
pub shaped-by : (j : Job) (s : Option Shape) → paired (family_number j.family) ≡ true → {f : Wall} → f ≡ fence_of (pick (fenced (family_number j.family)) 3 0) 0 → Chosen j f s → ShapedFor j s
shaped-by j s q o w J st = go J (directed_of st q)
  where
    seven : (t : Bool) → fenced (family_number (pick t FencedFamily OpenFamily)) ≡ t
    seven true = refl
    seven false = refl

    go : (J : rules.Job) → AsDirected j J → Shaped J s
    go _ (as_directed t {m} {pairs} e d) =
        let k : fenced (family_number j.family) ≡ t = ap (λ (f : Family). fenced (family_number f)) e ∙ seven t in
        directed-shaped j t m pairs d (subst (λ (v : Wall). Chosen j v s) (o ∙ ap (λ (t : Bool). fence_of (pick t 3 0) 0) k) w)
