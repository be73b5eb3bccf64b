-- The paces of a held job are those of the job that it stands for. Assumes nothing.
--
--   stands-paces                  what `paces_of` makes of a held job; held_n: its n is at most 64
--   held_paced                    the same of paces in hand; kept_paced: of the job of a block
use mathlib.Core.Path.{◌≡◌, refl, sym, ap, ◌∙◌, subst}
use mathlib.Core.Logic.{◌⊎◌, inl, inr}
use mathlib.Core.Bool.{Bool, true, false}
use mathlib.Core.List.{List, [], ◌∷◌}
use Prim.Native.Nat.{ℕ, suc, ◌+◌, ◌-◌, ◌*◌, ◌≤◌, ◌<◌}
use native.Mathlib.Decide.{dec_lt}
use native.Mathlib.Omega.{arith}
use lib.Dec.{T, ltb, eqb}
use lib.IntN.{ℤ, pos}
use lib.ListN.{length, get_or}
use borrow.Author.Tests.{lt-ltb, le-ltb, ne_eqb}
use Rattle.howmany.specs.Choose.{pick}
use Rattle.howmany.proofs.Cases.{two, three}
use Rattle.rules.specs.Points.{Is, Point, Step, origin}
use Rattle.rules.specs.Jobs as rules
use Rattle.rules.specs.Jobs.{Pair, N, E, D, one, step, numbered, steps_of, start_of, end_of, stays, is_directed}
use Rattle.rules.specs.Jobs.Job.{directed}
use Rattle.rules.specs.Valid.{place, at}
use Rattle.rules.proofs.Slopes.{numbered-length, digit_at, digit-place}
use Rattle.job.specs.declared.Job.{Job}
use Rattle.job.specs.Stands.{Directed, Stands, start_held}
use Rattle.job.specs.Stands.Stands.{as_north_east, as_dyck, as_delannoy, as_schroder, as_motzkin, as_open, as_fenced}
use Rattle.job.proofs.Standing.{Kept}
use Rattle.letters.specs.Letters as letters
use Rattle.walks.specs.declared.paces.Paces.{Paces}
use Rattle.walks.specs.Paces.{lettered_paces, paired_paces, paces_of, letter_of, kept_by, Strides, PacesOf, Paced}

-- a place among the first k, or k
abbrev capped : ℕ → ℕ → ℕ
capped k l = pick (ltb l k) l k

-- ---- families 1 to 5

lettered-place : (k b : ℕ) → letter_of true k b ≡ capped k (pick (eqb b N) 0 (pick (eqb b E) 1 (pick (eqb b D) 2 8)))
unfolding letter_of letters.ordinal_of
lettered-place k b = refl

abbrev rights : ℕ → List ℕ
rights u = 0 ∷ u ∷ 1 ∷ 0 ∷ 0 ∷ 0 ∷ 0 ∷ 0 ∷ []

abbrev ups : ℕ → List ℕ
ups u = (128 + u) ∷ 128 ∷ 129 ∷ 0 ∷ 0 ∷ 0 ∷ 0 ∷ 0 ∷ []

not_lettered : {A : Type 0} → true ≡ false → A
not_lettered e = absurd (subst T e tt)

module _ (u : ℕ) (lu : u ≤ 2) where
  abbrev two_steps : List Step
  two_steps = step N 0 (pos u) ∷ step E u (pos 0) ∷ []

  abbrev three-steps : List Step
  three-steps = step N 0 (pos u) ∷ step E u (pos 0) ∷ step D 1 (pos 1) ∷ []

  two-strides : Strides true 2 (rights u) (ups u) two_steps
  unfolding place
  two-strides = record {
    many = refl;
    letters = λ b. go (eqb b N) (eqb b E) (eqb b D) ∙ sym (lettered-place 2 b);
    a_is = two (λ i. (at two_steps i).a ≡ get_or (rights u) i 0) refl refl;
    b_is = two (λ i. Is (at two_steps i).b (get_or (ups u) i 0) 128) (omega arith) (omega arith);
    a_most = two (λ i. get_or (rights u) i 0 ≤ 3) (omega arith) (omega arith);
    b_most = two (λ i. get_or (ups u) i 0 ≤ 131) (omega arith) (omega arith);
    a_least = not_lettered;
    upward = two (λ i. 128 ≤ get_or (ups u) i 0 + 3 * get_or (rights u) i 0) (omega arith) (omega arith);
  }
    where
      go : (a b c : Bool) → pick a 0 (suc (pick b 0 (suc 0))) ≡ capped 2 (pick a 0 (pick b 1 (pick c 2 8)))
      go true b c = refl
      go false true c = refl
      go false false true = refl
      go false false false = refl

  three-strides : Strides true 3 (rights u) (ups u) three-steps
  unfolding place
  three-strides = record {
    many = refl;
    letters = λ b. go (eqb b N) (eqb b E) (eqb b D) ∙ sym (lettered-place 3 b);
    a_is = three (λ i. (at three-steps i).a ≡ get_or (rights u) i 0) refl refl refl;
    b_is = three (λ i. Is (at three-steps i).b (get_or (ups u) i 0) 128) (omega arith) (omega arith) (omega arith);
    a_most = three (λ i. get_or (rights u) i 0 ≤ 3) (omega arith) (omega arith) (omega arith);
    b_most = three (λ i. get_or (ups u) i 0 ≤ 131) (omega arith) (omega arith) (omega arith);
    a_least = not_lettered;
    upward = three (λ i. 128 ≤ get_or (ups u) i 0 + 3 * get_or (rights u) i 0) (omega arith) (omega arith) (omega arith);
  }
    where
      go : (a b c : Bool) → pick a 0 (suc (pick b 0 (suc (pick c 0 (suc 0))))) ≡ capped 3 (pick a 0 (pick b 1 (pick c 2 8)))
      go true b c = refl
      go false true c = refl
      go false false true = refl
      go false false false = refl

lettered-paced : (J : rules.Job) (square : Bool) (n m k u : ℕ) → (end_of J).x ≡ n → n ≤ 64 → Is (end_of J).y m 128 → (128 ≤ m) × (m ≤ 192) → start_of J ≡ origin
    → Strides true k (rights u) (ups u) (steps_of J) → k ≤ 8 → is_directed J ≡ false → ((q : Point) → stays J q ≡ kept_by square false q)
    → PacesOf (lettered_paces square n m k u) J
unfolding lettered_paces
lettered-paced J square n m k u x l y h s t f d g = record {
  n_is = x;
  n_most = l;
  m_is = y;
  m_most = omega arith;
  m_least = λ e. h.0;
  few = f;
  starts = s;
  strides = t;
  directs = d;
  apart = (λ e. refl, not_lettered);
  keeps = g;
}

-- ---- families 6 and 7

digit-none : (d : ℕ) (ps : List Pair) (b : ℕ) → (b < d) ⊎ (d + length ps ≤ b) → place b (numbered d ps) ≡ length ps
unfolding numbered place
digit-none d [] b o = refl
digit-none d (p ∷ ps) b (inl o) = rw (ne_eqb b d (λ e. omega arith)) (ap suc (digit-none (suc d) ps b (inl (omega arith))))
digit-none d (p ∷ ps) b (inr o) = rw (ne_eqb b d (λ e. omega arith)) (ap suc (digit-none (suc d) ps b (inr (omega arith))))

digits : (ps : List Pair) (b : ℕ) → length ps ≤ 8 → place b (numbered one ps) ≡ letter_of false (length ps) b
unfolding letter_of letters.ordinal_of
digits ps b few = go (dec_lt b one) (dec_lt (b - one) (length ps)) (dec_lt 56 b)
  where
    go : Dec (b < one) → Dec (b - one < length ps) → Dec (56 < b) → place b (numbered one ps) ≡ capped (length ps) (pick (ltb b one) 8 (pick (ltb 56 b) 8 (b - one)))
    go (yes o) d h = rw (lt-ltb b one o, le-ltb 8 (length ps) few) (digit-none one ps b (inl o))
    go (no o) (yes d) h =
        let e : b ≡ one + (b - one) = omega arith in
        rw (le-ltb b one (omega arith), le-ltb 56 b (omega arith), lt-ltb (b - one) (length ps) d)
        (ap (λ (c : ℕ). place c (numbered one ps)) e ∙ digit-place one ps (b - one) d)
    go (no o) (no d) (yes h) = rw (le-ltb b one (omega arith), lt-ltb 56 b h, le-ltb 8 (length ps) few) (digit-none one ps b (inr (omega arith)))
    go (no o) (no d) (no h) =
        rw (le-ltb b one (omega arith), le-ltb 56 b (omega arith), le-ltb (b - one) (length ps) (omega arith)) (digit-none one ps b (inr (omega arith)))

digit-strides : (j : Job) (m : ℤ) (ps : List Pair) → Directed j m ps → Strides false j.k j.a j.b (numbered one ps)
digit-strides j m ps d = record {
  many = numbered-length one ps ∙ d.many;
  letters = λ b. digits ps b (omega (arith, d.many, d.few)) ∙ ap (λ (k : ℕ). letter_of false k b) d.many;
  a_is = λ i o. (digit_at one ps i (omega (arith, d.many))).right ∙ sym (d.a_is i o);
  b_is = λ i o. subst (λ (z : ℤ). Is z (get_or j.b i 0) 128) (sym (digit_at one ps i (omega (arith, d.many))).up) (d.b_is i o);
  a_most = d.a_most;
  b_most = d.b_most;
  a_least = λ e. d.a_least;
  upward = λ i o. omega (arith, d.a_least i o, d.b_least i o);
}

directed-paced : (j : Job) (fenced : Bool) (m : ℤ) (ps : List Pair) → Directed j m ps → ((q : Point) → stays (directed fenced j.n m (start_held j) ps) q ≡ kept_by false fenced q)
    → PacesOf (paired_paces fenced j) (directed fenced j.n m (start_held j) ps)
directed-paced j fenced m ps d g = record {
  n_is = refl;
  n_most = omega (arith, d.n_most);
  m_is = d.m_is;
  m_most = d.m_most;
  m_least = λ e. absurd (subst T (sym e) tt);
  few = d.few;
  starts = refl;
  strides = digit-strides j m ps d;
  directs = refl;
  apart = (λ e. absurd (subst T (sym e) tt), λ e. refl);
  keeps = g;
}

-- ---- a held job

pub stands-paces : {j : Job} {J : rules.Job} → Stands j J → PacesOf (paces_of j) J
unfolding paces_of
stands-paces {j} {J} (as_north_east {m} e v) =
    rw e (lettered-paced J false j.n j.m 2 1 refl v.n_most (omega (arith, v.m_is)) (omega (arith, v.m_is), omega (arith, v.m_is, v.m_most)) refl (two-strides 1 (omega arith)) (omega arith) refl (λ q. refl))
stands-paces {j} {J} (as_dyck e v) =
    rw e (lettered-paced J true j.n (j.n + 128) 2 1 refl v (omega arith) (omega arith, omega arith) refl (two-strides 1 (omega arith)) (omega arith) refl (λ q. refl))
stands-paces {j} {J} (as_delannoy {m} e v) =
    rw e (lettered-paced J false j.n j.m 3 1 refl v.n_most (omega (arith, v.m_is)) (omega (arith, v.m_is), omega (arith, v.m_is, v.m_most)) refl (three-strides 1 (omega arith)) (omega arith) refl (λ q. refl))
stands-paces {j} {J} (as_schroder e v) =
    rw e (lettered-paced J true j.n (j.n + 128) 3 1 refl v (omega arith) (omega arith, omega arith) refl (three-strides 1 (omega arith)) (omega arith) refl (λ q. refl))
stands-paces {j} {J} (as_motzkin e v) =
    rw e (lettered-paced J true j.n (j.n + 128) 3 2 refl v (omega arith) (omega arith, omega arith) refl (three-strides 2 (omega arith)) (omega arith) refl (λ q. refl))
stands-paces {j} (as_open {m} {pairs} e v) = rw e (directed-paced j false m pairs v (λ q. refl))
stands-paces {j} (as_fenced {m} {pairs} e v) = rw e (directed-paced j true m pairs v (λ q. refl))

pub held_n : {j : Job} {J : rules.Job} → Stands j J → j.n ≤ 64
held_n (as_north_east e v) = v.n_most
held_n (as_dyck e v) = v
held_n (as_delannoy e v) = v.n_most
held_n (as_schroder e v) = v
held_n (as_motzkin e v) = v
held_n (as_open e v) = omega (arith, v.n_most)
held_n (as_fenced e v) = omega (arith, v.n_most)

pub held_paced : {j : Job} {J : rules.Job} {p : Paces} → p ≡ paces_of j → Stands j J → PacesOf p J
held_paced e s = rw e (stands-paces s)

pub kept_paced : {b : List ℕ} {j : Job} {p : Paces} → Kept b j → p ≡ paces_of j → Paced p
kept_paced k e = record { job = k.job; paces = held_paced e k.stands }
