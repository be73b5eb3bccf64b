-- Families 1 and 3: what their plan says of their job. Assumes nothing.
--
--   plain_form                     the steps and the end are a form
--   plain_shape c                   the steps and the end as a shape, which shows the job's own grid, mirrored where n is below m
--   plain-steps                    the steps are those of families 1 and 3, and lead to the end
--   plain-counts                   a count by rows is the job's
--   plain_over                     the count where the end is above height 33
--   plain_ready, plain-last        all that filling asks, for as many cells as there are, and for the largest table
--   plain-numbers, plain-builds    what the plan's table says is the job's
--   plain-level, plain-answer     what holds of a held job of family 1 or 3
use Rattle.std.proofs.Common.{◌≡◌, ℕ, ◌+◌, ◌-◌, ◌*◌, ◌^◌, ◌<◌, ◌≤◌, Bool, true, false, not, ◌&&◌, T, eqb, ltb, leb, List, [], ◌∷◌, length, get_or, sym, refl, ap, ◌∙◌, subst, inl, inr, arith, eqb→eq, leb→le, ltb-false, ltb-true, le-ltb, lt-ltb}
use native.Mathlib.Decide.{dec_lt}
use Rattle.howmany.specs.Choose.{pick, bit}
use Rattle.howmany.proofs.Choices.{and_left, and_right, is_true}
use Rattle.howmany.proofs.Cases.{two, three, eight}
use Rattle.rules.specs.Jobs as rules
use Rattle.rules.specs.Jobs.Job.{north_east, delannoy}
use Rattle.rules.specs.Counts.{count_of}
use Rattle.rules.proofs.Shear.{north_east_grid, delannoy_grid}
use Rattle.rules.specs.Blocks.{family_of, plain, job_answer}
use Rattle.rules.specs.Refusals.Answer.{accepted}
use Rattle.job.specs.Replies.{reply}
use Rattle.std.specs.Prelude.{Result}
use Rattle.job.specs.declared.Refusal.{Refusal}
use Rattle.job.specs.declared.Family.TheVariants.{NorthEast, Delannoy}
use Rattle.job.specs.declared.Job.{Job}
use Rattle.job.specs.Stands.{Level}
use Rattle.job.proofs.Sorts.{AsPlain, plain-of}
use Rattle.job.proofs.Sorts.AsPlain.{as_plain}
use Rattle.job.proofs.Standing.{Kept}
use Rattle.plains.specs.Plains.{ends}
use Rattle.plains.proofs.Ends.{ends-over}
use Rattle.tables.specs.Form.{Form, spot, wall, unwalled}
use Rattle.tables.specs.Shapes.{Fits}
use Rattle.tables.specs.Shapes.Shows.{slid, mirrored}
use Rattle.tables.specs.Table.{Offsets}
use Rattle.tables.specs.Plans.{stride_for, cells_for, Planned, PlanOf}
use Rattle.rows.specs.Rows.{Rises, PlainSteps, PlainStepsFor}
use Rattle.lines.specs.Known.{CountsOf, NumbersOf, BuildsOf}
use Rattle.rows.specs.Plains.{crosses, plain_of, plain_job, plain_count, plain_plan, plain_right, plain_up, plain_back, PlainReady, PlainNumbers, PlainBuilds, PlainRange}
use Rattle.rows.specs.declared.plain.Plain.{Plain}
use Rattle.tables.specs.declared.Shape.{Shape}
use Rattle.tables.proofs.Walls.{wall-none}
use Rattle.tables.proofs.Gridded.{north-east-gridded, delannoy-gridded}
use Rattle.tables.proofs.Laws.{mul_bound}
use Rattle.tables.proofs.Prepare.{form-pos}
use Rattle.tables.proofs.Planning.{prepared_for, prepared-last}
use Rattle.tables.proofs.Counted.{plan_numbers}
use Rattle.tables.proofs.Builds.{plan_builds}

-- ---- the steps

-- a step of families 1 and 3 that is there, or one that isn't
ok : ℕ → ℕ → ℕ → ℕ → Bool
ok k i a c = pick (ltb i k) (leb 1 a && (leb a 3 && leb c 1)) (eqb a 100 && eqb c 0)

record There (a c : ℕ) : Type 0 where
  ahead : 1 ≤ a
  near : a ≤ 3
  low : c ≤ 1

there : (k i a c : ℕ) → T (ok k i a c) → i < k → There a c
unfolding ok
there k i a c t l =
    let u : T (leb 1 a && (leb a 3 && leb c 1)) = rw (lt-ltb i k l) at t in
    let v = and_right (leb 1 a) (leb a 3 && leb c 1) u in
    record {
      ahead = leb→le 1 a (and_left (leb 1 a) (leb a 3 && leb c 1) u);
      near = leb→le a 3 (and_left (leb a 3) (leb c 1) v);
      low = leb→le c 1 (and_right (leb a 3) (leb c 1) v);
    }

gone : (k i a c : ℕ) → T (ok k i a c) → k ≤ i → (a ≡ 100) × (c ≡ 0)
unfolding ok
gone k i a c t l =
    let u : T (eqb a 100 && eqb c 0) = rw (le-ltb i k l) at t in
    (eqb→eq a 100 (and_left (eqb a 100) (eqb c 0) u), eqb→eq c 0 (and_right (eqb a 100) (eqb c 0) u))

plain_form : (k : ℕ) (sa sc : List ℕ) (ex ey : ℕ) → length sa ≡ 8 → length sc ≡ 8 → 1 ≤ k → k ≤ 8
    → ((i : ℕ) → i < 8 → T (ok k i (get_or sa i 0) (get_or sc i 0))) → ex ≤ 97 → ey ≤ 33 → Form k unwalled sa sc 1 ex ey
plain_form k sa sc ex ey la lc some most t lx ly = record {
  eight = la;
  eight_too = lc;
  some = some;
  most = most;
  ahead = λ i l. (there k i (get_or sa i 0) (get_or sc i 0) (t i (omega arith)) l).ahead;
  near = λ i l. (there k i (get_or sa i 0) (get_or sc i 0) (t i (omega arith)) l).near;
  away = λ i l h. (gone k i (get_or sa i 0) (get_or sc i 0) (t i h) l).0;
  flat = λ i l h. (gone k i (get_or sa i 0) (get_or sc i 0) (t i h) l).1;
  low = λ i l. low i l (dec_lt i k);
  top_le = omega arith;
  slight = record { slope_le = omega arith; start_le = omega arith };
  ex_le = lx;
  ey_le = omega arith;
  cells = omega (arith, mul_bound (ex + 2) (1 + ey + 1) 99 35 (omega arith) (omega arith));
}
  where
    low : (i : ℕ) → i < 8 → Dec (i < k) → get_or sc i 0 ≤ 1
    low i l (yes h) = (there k i (get_or sa i 0) (get_or sc i 0) (t i l) h).low
    low i l (no h) = omega (arith, (gone k i (get_or sa i 0) (get_or sc i 0) (t i l) (omega arith)).1)

-- ---- the grid

-- the shape of such a job, with the end at n and E going up where t, else at m and N
abbrev shape_by : Bool → Bool → ℕ → ℕ → Shape
shape_by t d n m = record {
  k = pick d 3 2;
  wall = unwalled;
  top = 1;
  ex = n + m;
  ey = pick t n m;
  sa = 1 ∷ 1 ∷ pick d 2 100 ∷ 100 ∷ 100 ∷ 100 ∷ 100 ∷ 100 ∷ [];
  sc = bit (not t) ∷ bit t ∷ bit d ∷ 0 ∷ 0 ∷ 0 ∷ 0 ∷ 0 ∷ [];
}

abbrev job_by : Bool → ℕ → ℕ → rules.Job
job_by d n m = pick d (delannoy n m) (north_east n m)

abbrev plain_shape : Plain → Shape
plain_shape c = shape_by (ltb c.n c.m) c.diagonal c.n c.m

free : (x y : ℕ) → wall unwalled x y ≡ true
free x y = is_true (wall unwalled x y) (wall-none unwalled x y refl)

fits : (t d : Bool) (n m : ℕ) → Fits (job_by d n m) true (shape_by t d n m)
fits true true n m = record {
  steps = delannoy_grid;
  end = spot (n + m) m;
  gridded = delannoy-gridded n m (spot (n + m) m) (record { across = refl; up = refl });
  shows = mirrored 1 (record {
    many = refl;
    right = three (λ i. get_or (shape_by true true n m).sa i 0 ≡ delannoy_grid.a i) refl refl refl;
    up = three (λ i. get_or (shape_by true true n m).sc i 0 + delannoy_grid.c i ≡ 1 * delannoy_grid.a i) refl refl refl;
    wall = λ x y l. free x y;
  }) (refl, omega arith);
}
fits true false n m = record {
  steps = north_east_grid;
  end = spot (n + m) m;
  gridded = north-east-gridded n m (spot (n + m) m) (record { across = refl; up = refl });
  shows = mirrored 1 (record {
    many = refl;
    right = two (λ i. get_or (shape_by true false n m).sa i 0 ≡ north_east_grid.a i) refl refl;
    up = two (λ i. get_or (shape_by true false n m).sc i 0 + north_east_grid.c i ≡ 1 * north_east_grid.a i) refl refl;
    wall = λ x y l. free x y;
  }) (refl, omega arith);
}
fits false true n m = record {
  steps = delannoy_grid;
  end = spot (n + m) m;
  gridded = delannoy-gridded n m (spot (n + m) m) (record { across = refl; up = refl });
  shows = slid 0 (record {
    many = refl;
    right = three (λ i. get_or (shape_by false true n m).sa i 0 ≡ delannoy_grid.a i) refl refl refl;
    up = three (λ i. get_or (shape_by false true n m).sc i 0 + 0 * delannoy_grid.a i ≡ delannoy_grid.c i) refl refl refl;
    wall = λ x y. free x y;
  }) (refl, omega arith);
}
fits false false n m = record {
  steps = north_east_grid;
  end = spot (n + m) m;
  gridded = north-east-gridded n m (spot (n + m) m) (record { across = refl; up = refl });
  shows = slid 0 (record {
    many = refl;
    right = two (λ i. get_or (shape_by false false n m).sa i 0 ≡ north_east_grid.a i) refl refl;
    up = two (λ i. get_or (shape_by false false n m).sc i 0 + 0 * north_east_grid.a i ≡ north_east_grid.c i) refl refl;
    wall = λ x y. free x y;
  }) (refl, omega arith);
}

steps-ok : (t d : Bool) (n m i : ℕ) → i < 8 → T (ok (pick d 3 2) i (get_or (shape_by t d n m).sa i 0) (get_or (shape_by t d n m).sc i 0))
unfolding ok
steps-ok true true n m = eight (λ i. T (ok 3 i (get_or (shape_by true true n m).sa i 0) (get_or (shape_by true true n m).sc i 0))) tt tt tt tt tt tt tt tt
steps-ok true false n m = eight (λ i. T (ok 2 i (get_or (shape_by true false n m).sa i 0) (get_or (shape_by true false n m).sc i 0))) tt tt tt tt tt tt tt tt
steps-ok false true n m = eight (λ i. T (ok 3 i (get_or (shape_by false true n m).sa i 0) (get_or (shape_by false true n m).sc i 0))) tt tt tt tt tt tt tt tt
steps-ok false false n m = eight (λ i. T (ok 2 i (get_or (shape_by false false n m).sa i 0) (get_or (shape_by false false n m).sc i 0))) tt tt tt tt tt tt tt tt

-- an end at height 33 or below is in column 97 or before it
across : (t : Bool) (n m : ℕ) → n ≤ 64 → m ≤ 64 → pick t n m ≤ 33 → n + m ≤ 97
across true n m a b l = omega arith
across false n m a b l = omega arith

many : (d : Bool) → (1 ≤ pick d 3 2) × (pick d 3 2 ≤ 4)
many true = (omega arith, omega arith)
many false = (omega arith, omega arith)

-- the steps are those of families 1 and 3, and lead to the end
steps-plain : (t d : Bool) (n m : ℕ) → PlainSteps (pick d 3 2) unwalled (shape_by t d n m).sa (shape_by t d n m).sc 6 1 (n + m) (pick t n m)
steps-plain t d n m = record {
  plain = record { level = refl; many = many_is d; one = refl; two = refl; rise = rise-is t; third = third-is d };
  slope = refl;
  deep = refl;
  wide = reach t;
}
  where
    many_is : (d : Bool) → ◌≡◌ {A = ℕ} (pick d 3 2) (pick (eqb (pick d 3 2) 3) 3 2)
    many_is true = refl
    many_is false = refl

    rise-is : (t : Bool) → Rises (bit (not t)) (bit t)
    rise-is true = inr (refl, refl)
    rise-is false = inl (refl, refl)

    third-is : (d : Bool) → eqb (pick d 3 2) 3 ≡ true → (◌≡◌ {A = ℕ} (pick d 2 100) 2) × (bit d ≡ 1)
    third-is true e = (refl, refl)
    third-is false e = absurd (subst T (sym e) tt)

    reach : (t : Bool) → pick t n m ≤ n + m
    reach true = omega arith
    reach false = omega arith

-- ---- the plan

module _ (c : Plain) where
  abbrev steps-form : Type 0
  steps-form = Form (pick c.diagonal 3 2) unwalled (plain_right c) (plain_up c) 1 (c.n + c.m) (plain_plan c).ey

  ends_is : ends c.diagonal c.n c.m ≡ count_of (plain_job c)
  unfolding count_of
  ends_is = go c.diagonal
    where
      go : (d : Bool) → ends d c.n c.m ≡ count_of (job_by d c.n c.m)
      go true = refl
      go false = refl

  pub plain-counts : (r : Result ℕ Refusal) → r ≡ reply (plain_count c) → CountsOf (plain_job c) r
  plain-counts r e = rw (← ends_is) e

  pub plain-steps : PlainStepsFor (plain_plan c) (plain_right c) (plain_up c)
  plain-steps = steps-plain (ltb c.n c.m) c.diagonal c.n c.m

  offs : Offsets (plain_right c) (plain_up c) (plain_back c) (stride_for (plain_plan c))
  offs = record {
    is = eight (λ i. get_or (plain_back c) i 0 ≡ get_or (plain_right c) i 0 * stride_for (plain_plan c) + get_or (plain_up c) i 0) refl refl refl refl refl refl refl refl;
  }

  above : 33 < (plain_plan c).ey → (33 < c.n) × (33 < c.m)
  above l = go (ltb c.n c.m) refl l
    where
      go : (t : Bool) → ltb c.n c.m ≡ t → 33 < pick t c.n c.m → (33 < c.n) × (33 < c.m)
      go true e l = (l, omega (arith, ltb-true c.n c.m e))
      go false e l = (omega (arith, ltb-false c.n c.m e), l)

  module _ (w : PlainRange c) (l : (plain_plan c).ey ≤ 33) where
    form : steps-form
    form =
        plain_form (pick c.diagonal 3 2) (plain_right c) (plain_up c) (c.n + c.m) (plain_plan c).ey refl refl (many c.diagonal).0
        (omega (arith, many c.diagonal)) (steps-ok (ltb c.n c.m) c.diagonal c.n c.m) (across (ltb c.n c.m) c.n c.m w.n_most w.m_most l) l

    planned : Planned (plain_right c) (plain_up c) (plain_plan c)
    planned = record {
      form = form;
      steep = record { le = omega arith; all = λ i h q. omega (arith, form.low i h, form-pos form i h) };
      deep = record { le = omega arith; all = λ i h q. form.low i h };
      fewer = record { gone = λ e i h q. omega (arith, form.ex_le, form.away i (omega (arith, many c.diagonal)) q) };
    }

    plan_of : PlanOf (plain_shape c) (plain_plan c)
    plan_of = record { planned = planned; k_is = refl; wall_is = refl; ex_is = refl; ey_is = refl }

module _ (c : Plain) {y : ℕ} (ey : y ≡ (plain_plan c).ey) where
  pub plain_over : 33 < y → 2 ^ 64 ≤ count_of (plain_job c)
  plain_over l = let h = above c (omega arith) in rw (← ends_is c) (ends-over c.diagonal c.n c.m h.0 h.1)

  module _ (w : PlainRange c) (l : y ≤ 33) where
    low : (plain_plan c).ey ≤ 33
    low = omega arith

    shown : Fits (plain_job c) true (plain_shape c)
    shown = fits (ltb c.n c.m) c.diagonal c.n c.m

    pub plain_ready : {cells : ℕ} → cells ≡ cells_for (plain_plan c) → (size : ℕ) → cells ≤ size → PlainReady c size
    plain_ready e size h = prepared_for (planned c w low) (offs c) e size h

    pub plain-last : PlainReady c 3712
    plain-last = prepared-last (planned c w low) (offs c)

    pub plain-numbers : (es : List (List ℕ)) (before after : List ℕ) (x : Result ℕ Refusal) → PlainNumbers c es before after x → NumbersOf (plain_job c) es before after x
    plain-numbers es before after x h = plan_numbers (plain_job c) (plain_shape c) shown (plan_of c w low) es before after x h

    pub plain-builds : (ns steps ends : List ℕ) (x : Result ℕ Refusal) (t u : List ℕ) → PlainBuilds c ns steps ends t u x → BuildsOf (plain_job c) ns steps ends t u x
    plain-builds ns steps ends x t u h = plan_builds (plain_job c) (plain_shape c) shown (plan_of c w low) ns steps ends x t u h

-- ---- the held job

pub record Levelled (j : Job) : Type 0 where
  pub m_least : 128 ≤ j.m
  pub within : PlainRange (plain_of j)

level-within : {j : Job} {m : ℕ} → Level j m → Levelled j
level-within v = record { m_least = omega (arith, v.m_is); within = record { n_most = v.n_most; m_most = omega (arith, v.m_is, v.m_most) } }

levelled : {j : Job} {J : rules.Job} → AsPlain j J → Levelled j
levelled (as_plain d e v) = level-within v

plain-job : {j : Job} {J : rules.Job} → AsPlain j J → J ≡ plain_job (plain_of j)
plain-job {j} (as_plain d {m} e v) =
    let h : j.m - 128 ≡ m = omega (arith, v.m_is) in
    rw (ap crosses e, crossing d, h)
  where
    crossing : (d : Bool) → crosses (pick d Delannoy NorthEast) ≡ d
    crossing true = refl
    crossing false = refl

module _ (b : List ℕ) (j : Job) (k : Kept b j) (q : plain (family_of b) ≡ true) where
  pub plain-level : Levelled j
  plain-level = levelled (plain-of k.stands (ap plain k.family ∙ q))

  pub plain-answer : {c : Plain} → c ≡ plain_of j → job_answer b ≡ accepted (plain_job c)
  plain-answer e = k.answer ∙ ap accepted (plain-job (plain-of k.stands (ap plain k.family ∙ q)) ∙ rw e refl)
