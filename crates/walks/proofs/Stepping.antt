-- The loop of `walk_one`: what is left of the string goes on from the point at x and h. Assumes nothing.
--
--   Stepping p e x h i            the first i steps keep the rules, and lead to x and h; stepping_start: none of them
--   not_step, beyond, out         the step at i breaks a rule, so that i is the place
--   stepping_more                 it keeps the rules
--   not_there, not_level, arrived the string is at its end, and there or not
use mathlib.Core.Path.{◌≡◌, refl, sym, ap, ap₂, ◌∙◌}
use mathlib.Core.Bool.{Bool, true, false, not, ◌&&◌, and-false}
use mathlib.Core.Option.{some}
use mathlib.Core.List.{List, []}
use Prim.Native.Nat.{ℕ, suc, ◌+◌, ◌*◌, ◌≤◌, ◌<◌}
use native.Mathlib.Numerals.{add-one}
use native.Mathlib.Omega.{arith}
use lib.Dec.{leb, eqb, leb→le}
use lib.ListN.{length, get_or, drop, drop_of_length-le}
use lib.Seq.{drop-cons}
use borrow.Author.Tests.{eq-eqb, ne_eqb}
use Rattle.std.specs.Prelude.{Some, None}
use Rattle.howmany.specs.Choose.{pick, only_if}
use Rattle.howmany.proofs.Choices.{and_right, holds}
use Rattle.rules.specs.Points.{Point, same, moved}
use Rattle.rules.specs.Jobs.{Job, start_of, end_of}
use Rattle.rules.specs.Valid.{is_edge}
use Rattle.rules.specs.Places.{step_of, keeps, reached, stop_from, stop_of, place_of}
use Rattle.rules.proofs.Places.{stop-on, stop-here, stop-end, arrives-is, place_is}
use Rattle.walks.specs.declared.paces.Paces.{Paces}
use Rattle.walks.specs.Walks.{found}
use Rattle.walks.specs.Paces.{letter_of, within_by, within, PacesOf, Paced, StopsAs}
use Rattle.walks.proofs.Spots.{spot, spot-start, right, above, kept-none, kept-beyond, kept_on, step-to, spot-end}

-- how high a walk can be: never above the end where the letters are N E D, and else at most 6 for each column
abbrev pub highest : Paces → ℕ → ℕ
highest p x = pick p.lettered (3 * x + p.m) (128 + 6 * x)

pub record Onward (J : Job) (e : List ℕ) (x h i : ℕ) : Type 0 where
  pub stop : stop_of J e ≡ i + stop_from J (spot x h) (drop i e)
  pub at : reached J (start_of J) e ≡ reached J (spot x h) (drop i e)

pub record Stepping (p : Paces) (e : List ℕ) (x h i : ℕ) : Type 0 where
  pub paced : Paced p
  pub x_most : x ≤ p.n
  pub h_most : h ≤ highest p x
  pub passed : i ≤ length e
  pub onward : (J : Job) → PacesOf p J → Onward J e x h i

pub stepping_start : {p : Paces} {e : List ℕ} → Paced p → Stepping p e 0 128 0
stepping_start {p} {e} g = record {
  paced = g;
  x_most = omega arith;
  h_most = go p.lettered g.paces.m_least;
  passed = omega arith;
  onward = λ J s.
      let q : start_of J ≡ spot 0 128 = s.starts ∙ sym spot-start in
      let f : stop_from J (start_of J) e ≡ stop_from J (spot 0 128) e = ap (λ (z : Point). stop_from J z e) q in
      record { stop = omega (arith, f); at = ap (λ (z : Point). reached J z e) q };
}
  where
    go : (t : Bool) → (t ≡ true → 128 ≤ p.m) → 128 ≤ pick t (3 * 0 + p.m) (128 + 6 * 0)
    go true f = omega (arith, f refl)
    go false f = omega arith

-- ---- the place, from where the walk stops

module _ (J : Job) (e : List ℕ) where
  edge_by_lem : is_edge J e ≡ eqb (stop_of J e) (length e) && same (reached J (start_of J) e) (end_of J)
  edge_by_lem = sym (arrives-is J (start_of J) e)

  place-by : (i : ℕ) (t : Bool) → is_edge J e ≡ t → stop_of J e ≡ i → place_of J e ≡ only_if (not t) i
  place-by i t q s = place_is J e ∙ ap₂ (λ (b : Bool) (k : ℕ). only_if (not b) k) q s

  -- before the string's end
  stopped : (i : ℕ) → stop_of J e ≡ i → i < length e → some i ≡ place_of J e
  stopped i s l =
      let q : eqb (stop_of J e) (length e) ≡ false = ne_eqb (stop_of J e) (length e) (λ z. omega arith) in
      sym (place-by i false (edge_by_lem ∙ ap (λ (b : Bool). b && same (reached J (start_of J) e) (end_of J)) q) s)

  -- at its end
  ended : stop_of J e ≡ length e → (t : Bool) → same (reached J (start_of J) e) (end_of J) ≡ t → only_if (not t) (length e) ≡ place_of J e
  ended s t r = sym (place-by (length e) t (edge_by_lem ∙ ap (λ (b : Bool). b && same (reached J (start_of J) e) (end_of J)) (eq-eqb (stop_of J e) (length e) s) ∙ r) s)

module _ {p : Paces} {e : List ℕ} {x h i : ℕ} (w : Stepping p e x h i) where
  module _ (t : i < length e) where
    -- the step at i breaks a rule
    breaks : ((J : Job) → PacesOf p J → keeps J (spot x h) (get_or e i 0) ≡ false) → StopsAs p e (Some i)
    breaks f J s =
        let z : stop_from J (spot x h) (drop i e) ≡ 0 =
        ap (stop_from J (spot x h)) (drop-cons e i 0 t) ∙ stop-here J (spot x h) (get_or e i 0) (drop (suc i) e) (f J s) in
        ap found (stopped J e i (omega (arith, (w.onward J s).stop, z)) t)

    pub not_step : p.k ≤ letter_of p.lettered p.k (get_or e i 0) → StopsAs p e (Some i)
    not_step o = breaks (λ J s. kept-none s x h (get_or e i 0) (letter_of p.lettered p.k (get_or e i 0)) refl o)

  module _ (t : i < length e) {l : ℕ} (q : l ≡ letter_of p.lettered p.k (get_or e i 0)) where
    pub beyond : l < p.k → {x' : ℕ} → x' ≡ right p x l → p.n < x' → StopsAs p e (Some i)
    beyond o ex d = breaks t (λ J s. kept-beyond s x h (get_or e i 0) l q o (omega arith))

    module _ (o : l < p.k) {x' h' : ℕ} (ex : x' ≡ right p x l) (eh : h' ≡ above p h l) where
      kept : (J : Job) → PacesOf p J → x' ≤ p.n → keeps J (spot x h) (get_or e i 0) ≡ within p x' h'
      kept J s d = rw (ex, eh) (kept_on s x h (get_or e i 0) l q o (omega arith))

      pub out : x' ≤ p.n → {r : Bool} → r ≡ within p x' h' → r ≡ false → StopsAs p e (Some i)
      out d f v = breaks t (λ J s. kept J s d ∙ sym f ∙ v)

      low-enough : within p x' h' ≡ true → h' ≤ highest p x'
      low-enough v = go p.lettered refl v w.h_most
        where
          go : (r : Bool) → p.lettered ≡ r → within_by r p.square p.fenced p.m x' h' ≡ true → h ≤ pick r (3 * x + p.m) (128 + 6 * x) → h' ≤ pick r (3 * x' + p.m) (128 + 6 * x')
          go true r v b = leb→le h' (3 * x' + p.m) (and_right (pick p.square (leb h' (4 * x' + 128)) true) (leb h' (3 * x' + p.m)) (holds v))
          go false r v b = omega (arith, w.paced.paces.strides.a_least r l o, w.paced.paces.strides.b_most l o)

      pub stepping_more : x' ≤ p.n → {r : Bool} → r ≡ within p x' h' → r ≡ true → Stepping p e x' h' (i + 1)
      unfolding reached
      stepping_more d f v = record {
        paced = w.paced;
        x_most = d;
        h_most = low-enough (sym f ∙ v);
        passed = omega arith;
        onward = λ J s. more J s;
      }
        where
          more : (J : Job) → PacesOf p J → Onward J e x' h' (i + 1)
          more J s =
              let b = get_or e i 0 in
              let rest = drop (suc i) e in
              let g : moved (spot x h) (step_of J b) ≡ spot x' h' = rw (ex, eh) (step-to s x h b l q o) in
              let u : drop (i + 1) e ≡ rest = ap (λ (k : ℕ). drop k e) (add-one i) in
              let z : stop_from J (spot x h) (drop i e) ≡ suc (stop_from J (spot x' h') rest) =
              ap (stop_from J (spot x h)) (drop-cons e i 0 t) ∙ stop-on J (spot x h) b rest (kept J s d ∙ sym f ∙ v) ∙ ap (λ (y : Point). suc (stop_from J y rest)) g in
              let r : reached J (spot x h) (drop i e) ≡ reached J (spot x' h') rest =
              ap (reached J (spot x h)) (drop-cons e i 0 t) ∙ ap (λ (y : Point). reached J y rest) g in
              record {
                stop = rw u (omega (arith, (w.onward J s).stop, z));
                at = (w.onward J s).at ∙ r ∙ ap (reached J (spot x' h')) (sym u);
              }

  module _ (t : length e ≤ i) where
    at-end : (b : Bool) → eqb x p.n && eqb h (p.m + 3 * p.n) ≡ b → (J : Job) → PacesOf p J → found (only_if (not b) (length e)) ≡ found (place_of J e)
    unfolding reached
    at-end b v J s =
        let f : drop i e ≡ [] = drop_of_length-le e {i = i} t in
        let z : stop_from J (spot x h) (drop i e) ≡ 0 = ap (stop_from J (spot x h)) f ∙ stop-end J (spot x h) in
        let r : reached J (start_of J) e ≡ spot x h = (w.onward J s).at ∙ ap (reached J (spot x h)) f in
        ap found (ended J e (omega (arith, (w.onward J s).stop, z, w.passed)) b (ap (λ (y : Point). same y (end_of J)) r ∙ spot-end s x h ∙ v))

    pub not_there : x < p.n → StopsAs p e (Some (length e))
    not_there o = at-end false (ap (λ (b : Bool). b && eqb h (p.m + 3 * p.n)) (ne_eqb x p.n (λ q. omega arith)))

    pub not_level : (h ≡ p.m + 3 * p.n → ⊥) → StopsAs p e (Some (length e))
    not_level o = at-end false (ap (λ (b : Bool). eqb x p.n && b) (ne_eqb h (p.m + 3 * p.n) o) ∙ and-false (eqb x p.n))

    pub arrived : p.n ≤ x → h ≡ p.m + 3 * p.n → StopsAs p e None
    arrived o u = at-end true (ap₂ ◌&&◌ (eq-eqb x p.n (omega (arith, w.x_most))) (eq-eqb h (p.m + 3 * p.n) u))
