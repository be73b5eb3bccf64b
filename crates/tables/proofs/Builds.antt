-- The reply to building edges, for each way over the table. Assumes nothing.
--
--   front_copied                an edge copied from the end of a buffer
--   front-next                  it is the next of the lines
--   below-told                  a test of the numbers against the table's count
--   for_over, for_beyond, for_all    what is answered by the table's count and the numbers
--   build-over, build-none, build-empty    the count needs more than 64 bits; it is 0, and there are numbers or none
--   plan_builds                 what the table of a shape's plan says is the job's
use mathlib.Core.Path.{◌≡◌, refl, sym, ap, ◌∙◌}
use mathlib.Core.Bool.{Bool, true, false}
use mathlib.Core.List.{List, [], ◌∷◌, ◌++◌, map}
use Prim.Native.Nat.{ℕ, suc, ◌+◌, ◌-◌, ◌^◌, ◌≤◌, ◌<◌}
use native.Mathlib.Omega.{arith}
use lib.Dec.{leb}
use lib.ListN.{length, get_or, take, drop, set, length-drop}
use lib.Seq.{take_all}
use borrow.Rule.Slice.PartMut.{put_mid}
use borrow.Author.Tests.{le-leb, lt-leb}
use Rattle.howmany.proofs.Choices.{holds}
use Rattle.rules.specs.Jobs as rules
use Rattle.rules.specs.Counts.{count_of}
use Rattle.rules.specs.Numbers.{edge_of}
use Rattle.rules.specs.Refusals.{check}
use Rattle.rules.specs.Refusals.Refusal.{over, beyond}
use Rattle.rules.specs.Refusals.Answer.{accepted}
use Rattle.rules.specs.Answers.{most}
use Rattle.rules.specs.Packs.{joined}
use Rattle.rules.specs.Questions.{all_below}
use Rattle.rules.proofs.Belows.{below_at, below_not}
use Rattle.std.specs.Prelude.{Result, Ok, Err}
use Rattle.job.specs.declared.Refusal.{Refusal}
use Rattle.job.specs.declared.Refusal.TheVariants.{Over, Beyond}
use Rattle.lines.specs.Lines.{ends_from, lined, LinedAs}
use Rattle.lines.proofs.Lining.{Lining, lining_next, lined-refused}
use Rattle.tables.specs.Edges as edges
use Rattle.tables.specs.Shapes.{Fits}
use Rattle.tables.specs.Spelling.{Front, edges_for}
use Rattle.lines.specs.Known.{edges_of, BuildsOf}
use Rattle.tables.specs.Plans.{PlanOf, walks_for, ListsFor, BuildsFor}
use Rattle.tables.specs.declared.Plan.{Plan}
use Rattle.tables.specs.declared.Shape.{Shape}
use Rattle.tables.proofs.Worded.{shape-spells}
use Rattle.tables.proofs.Counted.{plan_count}

-- ---- one edge, and all of them

pub front_copied : (e buf old part : List ℕ) (at len : ℕ) → drop at buf ≡ e → at ≤ 128 → length buf ≡ 128 → len ≡ 128 → part ≡ take (len - at) (drop at buf) → Front e old (part ++ drop (128 - at) old) (128 - at)
front_copied e buf old part at len q a l z h =
    let whole : take (len - at) (drop at buf) ≡ e = take_all (len - at) (drop at buf) (omega (arith, length-drop at buf)) ∙ q in
    record { shown = ap (λ (x : List ℕ). x ++ drop (128 - at) old) (h ∙ whole); long = omega (arith, length-drop at buf, ap length q); short = omega arith }

pub front-next : (g : ℕ → List ℕ) (ns steps ends : List ℕ) (i at : ℕ) (s t : List ℕ) → Lining g ns steps ends i at s t
    → (n : ℕ) (part : List ℕ) → i < length ns → Front (g (get_or ns i 0)) (take (length s - at) (drop at s)) part n
    → Lining g ns steps ends (i + 1) (at + n) (put_mid at (length s - at) s part) (set t i (at + n))
front-next g ns steps ends i at s t so n part l w = lining_next g ns steps ends i at s t so n part l w.long w.short w.shown

-- ---- by the table's count

pub below-told : (ns : List ℕ) (w c : ℕ) (t : Bool) → c ≡ w → t ≡ all_below c ns → all_below w ns ≡ t
below-told ns w c t e q = sym (q ∙ ap (λ (z : ℕ). all_below z ns) e)

module _ (lettered : Bool) (p : Plan) (sa sc ns steps ends : List ℕ) where
  pub for_over : 2 ^ 64 ≤ walks_for p sa sc → BuildsFor lettered p sa sc ns steps ends steps ends (Err Over)
  for_over l = lined-refused (edges_for lettered p.k p.wall sa sc p.ex p.ey ns) over Over steps ends (rw (lt-leb (walks_for p sa sc) most (omega arith)) refl) refl

  pub for_beyond : walks_for p sa sc < 2 ^ 64 → all_below (walks_for p sa sc) ns ≡ false → BuildsFor lettered p sa sc ns steps ends steps ends (Err Beyond)
  for_beyond l e =
      lined-refused (edges_for lettered p.k p.wall sa sc p.ex p.ey ns) beyond Beyond steps ends (rw (le-leb (walks_for p sa sc) most (omega arith), e) refl) refl

  pub for_all : (n : ℕ) (s t : List ℕ) → walks_for p sa sc < 2 ^ 64 → all_below (walks_for p sa sc) ns ≡ true
      → ListsFor lettered p sa sc ns steps ends s t n → BuildsFor lettered p sa sc ns steps ends s t (Ok n)
  for_all n s t l e w = rw (le-leb (walks_for p sa sc) most (omega arith), e) w

-- ---- by the job's count

module _ (J : rules.Job) (ns steps ends : List ℕ) where
  pub build-over : 2 ^ 64 ≤ count_of J → BuildsOf J ns steps ends steps ends (Err Over)
  build-over l = lined-refused (edges_of J ns) over Over steps ends (rw (lt-leb (count_of J) most (omega arith)) refl) refl

  pub build-none : count_of J ≡ 0 → (length ns ≡ 0 → ⊥) → BuildsOf J ns steps ends steps ends (Err Beyond)
  build-none e n =
      lined-refused (edges_of J ns) beyond Beyond steps ends
      (rw (le-leb (count_of J) most (omega arith), below_not (count_of J) ns 0 (omega arith) (omega arith)) refl) refl

  pub build-empty : count_of J ≡ 0 → length ns ≡ 0 → BuildsOf J ns steps ends steps ends (Ok 0)
  unfolding lined joined ends_from all_below
  build-empty e n = rw (le-leb (count_of J) most (omega arith)) (go ns n)
    where
      go : (ns : List ℕ) → length ns ≡ 0 → LinedAs (lined (check (all_below (count_of J) ns) beyond (accepted (map (edge_of J) ns))) steps ends) (Ok 0) steps ends
      go [] n = record { says = refl; bytes = refl; places = refl }
      go (x ∷ ns) n = absurd (omega arith)

-- two ways to an edge that agree below c agree on a list of numbers below c
same_edges : (g h : ℕ → List ℕ) (c : ℕ) (ns : List ℕ) → ((r : ℕ) → r < c → g r ≡ h r) → ((i : ℕ) → i < length ns → get_or ns i 0 < c) → map g ns ≡ map h ns
same_edges g h c [] e l = refl
same_edges g h c (n ∷ ns) e l =
    ap (λ (z : List ℕ). z ∷ map g ns) (e n (l 0 (omega arith))) ∙ ap (λ (z : List (List ℕ)). h n ∷ z) (same_edges g h c ns e (λ i b. l (suc i) (omega arith)))

module _ (J : rules.Job) (s : Shape) {lettered : Bool} (f : Fits J lettered s) {p : Plan} (po : PlanOf s p) where
  plan_edges : (ns : List ℕ) → edges_for lettered p.k p.wall s.sa s.sc p.ex p.ey ns ≡ edges_of J ns
  plan_edges ns = rw (plan_count J s f po, po.k_is, po.wall_is, po.ex_is, po.ey_is) (go (all_below (count_of J) ns) refl)
    where
      by : ℕ → List ℕ
      by = edges.walk_at lettered s.k s.wall s.sa s.sc s.ex s.ey

      go : (t : Bool) → all_below (count_of J) ns ≡ t
          → check (leb (count_of J) most) over (check t beyond (accepted (map by ns))) ≡ check (leb (count_of J) most) over (check t beyond (accepted (map (edge_of J) ns)))
      go true e =
          ap (λ (z : List (List ℕ)). check (leb (count_of J) most) over (accepted z))
          (same_edges by (edge_of J) (count_of J) ns (shape-spells f.gridded s f.shows) (below_at (count_of J) ns (holds e)))
      go false e = refl

  pub plan_builds : (ns steps ends : List ℕ) (x : Result ℕ Refusal) (t u : List ℕ) → BuildsFor lettered p s.sa s.sc ns steps ends t u x → BuildsOf J ns steps ends t u x
  plan_builds ns steps ends x t u l = rw (plan_edges ns) at l
