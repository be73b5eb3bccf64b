-- Where a string goes wrong: the walk that stops, and that a valid edge has no such place. Assumes nothing.
--
--   stop-on, stop-here    the two ways that a step goes
--   stop-stops            where the walk stops, and why; stops-one: there is one such place
--   walks-inside          a walk that leads to the end isn't beyond it
--   arrives J e           whether every step keeps the rules, and the string leads to the end; arrives-is: so are the valid edges
--   place_is              the place, from the test of an edge
--   place_none            a valid edge has none, and only a valid edge
--   place-wrong           exactly at its place a string goes wrong; place-one: at one place
use mathlib.Core.Path.{◌≡◌, refl, sym, ap, ◌∙◌, subst}
use mathlib.Core.Logic.{◌⊎◌, inl, inr, ◌↔◌}
use mathlib.Core.Bool.{Bool, true, false, not, ◌&&◌, ◌||◌}
use mathlib.Core.Option.{none, some, none-ne-some}
use mathlib.Core.List.{List, [], ◌∷◌}
use Prim.Native.Nat.{ℕ, zero, suc, ◌+◌, ◌≤◌, ◌<◌}
use native.Mathlib.Decide.{dec_lt}
use native.Mathlib.Omega.{arith}
use lib.Dec.{T, leb, eqb, leb→le, le→leb, ltb→lt, eqb→eq, T_not}
use lib.IntN.{ℤ, pos, negsuc, ◌+ℤ◌}
use lib.ListN.{length, get_or, take}
use borrow.Author.Tests.{eq-eqb, lt-ltb, le-ltb}
use Rattle.howmany.specs.Choose.{pick, only_if}
use Rattle.howmany.proofs.Choices.{and_left, and_right, and_both, is_true, is_false, holds, only-some, tri}
use Rattle.howmany.proofs.Cases.{two, three}
use Rattle.rules.specs.Points.{Point, Step, leℤ, eqℤ, same, moved}
use Rattle.rules.specs.Jobs.{Job, steps_of, start_of, end_of, stays, is_directed}
use Rattle.rules.specs.Jobs.Job.{north_east, dyck, delannoy, schroder, motzkin, directed}
use Rattle.rules.specs.Valid.{place, at, walks, is_edge, Valid}
use Rattle.rules.specs.Places.{step_of, is_step, low, inside, keeps, reached, stop_from, stop_of, place_of, Fine, Stops, Wrong}

-- ---- the walk that stops

module _ (J : Job) where
  pub stop-on : (p : Point) (b : ℕ) (e : List ℕ) → keeps J p b ≡ true → stop_from J p (b ∷ e) ≡ suc (stop_from J (moved p (step_of J b)) e)
  unfolding stop_from
  stop-on p b e h = ap (λ (t : Bool). pick t (suc (stop_from J (moved p (step_of J b)) e)) 0) h

  pub stop-here : (p : Point) (b : ℕ) (e : List ℕ) → keeps J p b ≡ false → stop_from J p (b ∷ e) ≡ 0
  unfolding stop_from
  stop-here p b e h = ap (λ (t : Bool). pick t (suc (stop_from J (moved p (step_of J b)) e)) 0) h

  pub stop-end : (p : Point) → stop_from J p [] ≡ 0
  unfolding stop_from
  stop-end p = refl

  -- the same as Fine and Stops, from p on
  abbrev FineFrom : Point → List ℕ → ℕ → Type 0
  FineFrom p e i = T (keeps J (reached J p (take i e)) (get_or e i 0))

  record StopsFrom (p : Point) (e : List ℕ) (k : ℕ) : Type 0 where
    within : k ≤ length e
    fine : (i : ℕ) → i < k → FineFrom p e i
    broken : k < length e → ¬ FineFrom p e k

  -- step i behind the first is step i + 1
  shift : (p : Point) (b : ℕ) (e : List ℕ) (i : ℕ) → FineFrom (moved p (step_of J b)) e i ↔ FineFrom p (b ∷ e) (suc i)
  unfolding reached
  shift p b e i = (λ f. f, λ f. f)

  stop-from : (e : List ℕ) (p : Point) → StopsFrom p e (stop_from J p e)
  unfolding stop_from reached
  stop-from [] p = record { within = omega arith; fine = λ i l. absurd (omega arith); broken = λ l. absurd (omega arith) }
  stop-from (b ∷ e) p = go (keeps J p b) refl (stop-from e (moved p (step_of J b)))
    where
      k : ℕ
      k = stop_from J (moved p (step_of J b)) e

      go : (t : Bool) → keeps J p b ≡ t → StopsFrom (moved p (step_of J b)) e k → StopsFrom p (b ∷ e) (pick t (suc k) 0)
      go true h S = record { within = omega (arith, S.within); fine = fine; broken = λ l f. S.broken (omega arith) ((shift p b e k).1 f) }
        where
          fine : (i : ℕ) → i < suc k → FineFrom p (b ∷ e) i
          fine zero l = holds h
          fine (suc i) l = (shift p b e i).0 (S.fine i (omega arith))
      go false h S = record { within = omega arith; fine = λ i l. absurd (omega arith); broken = λ l f. subst T h f }

  pub stop-stops : (e : List ℕ) → Stops J e (stop_of J e)
  stop-stops e = let S = stop-from e (start_of J) in record { within = S.within; fine = S.fine; broken = S.broken }

  pub stops-one : (e : List ℕ) (k l : ℕ) → Stops J e k → Stops J e l → k ≡ l
  stops-one e k l S Q = go (tri k l)
    where
      go : (k < l) ⊎ ((l < k) ⊎ (k ≡ l)) → k ≡ l
      go (inl m) = absurd (S.broken (omega (arith, Q.within)) (Q.fine k m))
      go (inr (inl m)) = absurd (Q.broken (omega (arith, S.within)) (S.fine l m))
      go (inr (inr q)) = q

-- ---- a walk that leads to the end isn't beyond it

-- the steps of families 1 to 5 never go down
record Rising (s : Step) : Type 0 where
  up : ℕ
  is : s.b ≡ pos up

rising : (s : Step) (k : ℕ) → s.b ≡ pos k → Rising s
rising s k e = record { up = k; is = e }

risings : (J : Job) → is_directed J ≡ false → (i : ℕ) → i < length (steps_of J) → Rising (at (steps_of J) i)
risings (north_east n m) e = two (λ i. Rising (at (steps_of (north_east n m)) i)) (rising _ 1 refl) (rising _ 0 refl)
risings (dyck n) e = two (λ i. Rising (at (steps_of (dyck n)) i)) (rising _ 1 refl) (rising _ 0 refl)
risings (delannoy n m) e = three (λ i. Rising (at (steps_of (delannoy n m)) i)) (rising _ 1 refl) (rising _ 0 refl) (rising _ 1 refl)
risings (schroder n) e = three (λ i. Rising (at (steps_of (schroder n)) i)) (rising _ 1 refl) (rising _ 0 refl) (rising _ 1 refl)
risings (motzkin n) e = three (λ i. Rising (at (steps_of (motzkin n)) i)) (rising _ 2 refl) (rising _ 0 refl) (rising _ 1 refl)
risings (directed fenced n m s pairs) e = absurd (subst T e tt)

-- what is no higher than z wasn't higher before it rose
le-less : (y : ℤ) (k : ℕ) (z : ℤ) → T (leℤ (y +ℤ pos k) z) → T (leℤ y z)
le-less (pos a) k (pos c) t = le→leb a c (omega (arith, leb→le (a + k) c t))
le-less (pos a) k (negsuc c) t = t
le-less (negsuc a) k (pos c) t = tt
le-less (negsuc a) k (negsuc c) t = le→leb c a (go (dec_lt k (suc a)))
  where
    go : Dec (k < suc a) → c ≤ a
    go (yes l) = omega (arith, leb→le c _ (rw (lt-ltb k (suc a) l) at t))
    go (no f) = absurd (rw (le-ltb k (suc a) (omega arith)) at t)

same_low : (y z : ℤ) → T (eqℤ y z) → T (leℤ y z)
same_low (pos a) (pos b) t = le→leb a b (omega (arith, eqb→eq a b t))
same_low (pos a) (negsuc b) t = t
same_low (negsuc a) (pos b) t = tt
same_low (negsuc a) (negsuc b) t = le→leb b a (omega (arith, eqb→eq a b t))

or_either : (a b : Bool) → (a ≡ false → T b) → T (a || b)
or_either true b f = tt
or_either false b f = f refl

or_rest : (a b : Bool) → a ≡ false → T (a || b) → T b
or_rest true b e t = absurd (subst T e tt)
or_rest false b e t = t

module _ (J : Job) where
  low-back : (p : Point) (b : ℕ) → T (is_step J b) → T (low J (moved p (step_of J b))) → T (low J p)
  low-back p b l t = or_either (is_directed J) (leℤ p.y (end_of J).y) go
    where
      go : is_directed J ≡ false → T (leℤ p.y (end_of J).y)
      go e =
          let R = risings J e (place b (steps_of J)) (ltb→lt (place b (steps_of J)) (length (steps_of J)) l) in
          let q : T (leℤ (p.y +ℤ (step_of J b).b) (end_of J).y) = or_rest (is_directed J) (leℤ (p.y +ℤ (step_of J b).b) (end_of J).y) e t in
          le-less p.y R.up (end_of J).y (subst (λ (z : ℤ). T (leℤ (p.y +ℤ z) (end_of J).y)) R.is q)

  low_end : (p : Point) → T (eqℤ p.y (end_of J).y) → T (low J p)
  low_end p t = or_either (is_directed J) (leℤ p.y (end_of J).y) (λ e. same_low p.y (end_of J).y t)

  pub walks-inside : (e : List ℕ) (p : Point) → T (walks J p e) → T (inside J p)
  unfolding walks
  walks-inside [] p t =
      and_both (leb p.x (end_of J).x) (low J p)
      (le→leb p.x (end_of J).x (omega (arith, eqb→eq p.x (end_of J).x (and_left (eqb p.x (end_of J).x) (eqℤ p.y (end_of J).y) t))))
      (low_end p (and_right (eqb p.x (end_of J).x) (eqℤ p.y (end_of J).y) t))
  walks-inside (b ∷ e) p t =
      let q = moved p (step_of J b) in
      let l = and_left (is_step J b) (stays J q && walks J q e) t in
      let i = walks-inside e q (and_right (stays J q) (walks J q e) (and_right (is_step J b) (stays J q && walks J q e) t)) in
      and_both (leb p.x (end_of J).x) (low J p)
      (le→leb p.x (end_of J).x (omega (arith, leb→le q.x (end_of J).x (and_left (leb q.x (end_of J).x) (low J q) i))))
      (low-back p b l (and_right (leb q.x (end_of J).x) (low J q) i))

  to-stop : (e : List ℕ) (p : Point) → T (walks J p e) → (stop_from J p e ≡ length e) × T (same (reached J p e) (end_of J))
  unfolding walks stop_from reached
  to-stop [] p t = (refl, t)
  to-stop (b ∷ e) p t =
      let q = moved p (step_of J b) in
      let s = and_right (is_step J b) (stays J q && walks J q e) t in
      let w = and_right (stays J q) (walks J q e) s in
      let k = and_both (is_step J b) (stays J q && inside J q) (and_left (is_step J b) (stays J q && walks J q e) t)
      (and_both (stays J q) (inside J q) (and_left (stays J q) (walks J q e) s) (walks-inside e q w)) in
      let (i, r) = to-stop e q w in
      (stop-on J p b e (is_true (keeps J p b) k) ∙ ap suc i, r)

  to-walk : (e : List ℕ) (p : Point) → stop_from J p e ≡ length e → T (same (reached J p e) (end_of J)) → T (walks J p e)
  unfolding walks stop_from reached
  to-walk [] p h t = t
  to-walk (b ∷ e) p h t = go (keeps J p b) refl h (to-walk e (moved p (step_of J b)))
    where
      q : Point
      q = moved p (step_of J b)

      go : (k : Bool) → keeps J p b ≡ k → pick k (suc (stop_from J q e)) 0 ≡ suc (length e) → (stop_from J q e ≡ length e → T (same (reached J q e) (end_of J)) → T (walks J q e))
          → T (walks J p (b ∷ e))
      go true k h ih =
          let a = holds k in
          let s = and_right (is_step J b) (stays J q && inside J q) a in
          and_both (is_step J b) (stays J q && walks J q e) (and_left (is_step J b) (stays J q && inside J q) a)
          (and_both (stays J q) (walks J q e) (and_left (stays J q) (inside J q) s) (ih (omega arith) t))
      go false k h ih = absurd (omega arith)

one_truth : (a b : Bool) → (T a → T b) → (T b → T a) → a ≡ b
one_truth true b f g = sym (is_true b (f tt))
one_truth false b f g = sym (is_false b g)

abbrev pub arrives : Job → Point → List ℕ → Bool
arrives J p e = eqb (stop_from J p e) (length e) && same (reached J p e) (end_of J)

pub arrives-is : (J : Job) (p : Point) (e : List ℕ) → arrives J p e ≡ walks J p e
arrives-is J p e = one_truth (arrives J p e) (walks J p e) forth back
  where
    k : ℕ
    k = stop_from J p e

    at-end : Bool
    at-end = same (reached J p e) (end_of J)

    forth : T (arrives J p e) → T (walks J p e)
    forth t = to-walk J e p (eqb→eq k (length e) (and_left (eqb k (length e)) at-end t)) (and_right (eqb k (length e)) at-end t)

    back : T (walks J p e) → T (arrives J p e)
    back t = let (s, r) = to-stop J e p t in and_both (eqb k (length e)) at-end (holds (eq-eqb k (length e) s)) r

-- ---- the place

pub place_is : (J : Job) (e : List ℕ) → place_of J e ≡ only_if (not (is_edge J e)) (stop_of J e)
unfolding place_of
place_is J e = refl

none_true : {A : Type 0} (b : Bool) (a : A) → only_if (not b) a ≡ none → T b
none_true true a h = tt
none_true false a h = absurd (none-ne-some a (sym h))

pub place_none : (J : Job) (e : List ℕ) → Valid J e ↔ (place_of J e ≡ none)
unfolding Valid
place_none J e = (
  λ v. place_is J e ∙ ap (λ (b : Bool). only_if (not b) (stop_of J e)) (is_true (is_edge J e) v),
  λ h. none_true (is_edge J e) (stop_of J e) (sym (place_is J e) ∙ h),
)

pub place-one : (J : Job) (e : List ℕ) (p q : ℕ) → Wrong J e p → Wrong J e q → p ≡ q
place-one J e p q a b = stops-one J e p q a.stops b.stops

-- every step before the place is one of the job's and keeps its rule; the step at the place doesn't, or the place is the length
pub place-wrong : (J : Job) (e : List ℕ) (p : ℕ) → (place_of J e ≡ some p) ↔ Wrong J e p
unfolding Valid
place-wrong J e p = (
  λ h.
      let (t, k) = only-some (not (is_edge J e)) (stop_of J e) p (sym (place_is J e) ∙ h) in
      record { stops = subst (Stops J e) k (stop-stops J e); invalid = T_not (is_edge J e) t },
  λ w.
      place_is J e ∙ ap (λ (b : Bool). only_if (not b) (stop_of J e)) (is_false (is_edge J e) w.invalid)
      ∙ ap some (stops-one J e (stop_of J e) p (stop-stops J e) w.stops),
)
