-- What is known of a block of family 6 or 7, and of the shape of its job. Assumes nothing.
--
--   shape_needs              what `shape_of` asks of the block's job
--   shaped_as                the shape that it answers with is that of the block's job
--   form_of, laid_of         what a shape whose end can be reached has, and its grid
--   numbers_as, builds_as, count_laid    what its plan's table says is the job's
--   count_told, over_told    what the table's answer is where the call has a count, and where it has refusal 4
use mathlib.Core.Path.{◌≡◌, refl, sym, ap, ◌∙◌}
use mathlib.Core.Bool.{true, false}
use mathlib.Core.List.{List}
use Prim.Native.Nat.{ℕ}
use native.Mathlib.Omega.{arith}
use Rattle.rules.specs.Blocks.{family_of, paired}
use Rattle.std.specs.Prelude.{Result, Ok, Err, Option, Some, None}
use Rattle.std.specs.Option.{ok_or}
use Rattle.job.specs.declared.Refusal.{Refusal}
use Rattle.job.specs.declared.Refusal.TheVariants.{Over}
use Rattle.job.specs.declared.Job.{Job}
use Rattle.job.proofs.Standing.{Kept}
use Rattle.tables.specs.declared.Shape.{Shape}
use Rattle.tables.specs.Shapes.{Ranged, ShapedFor, FormOf}
use Rattle.tables.specs.Calls.{Countable, NumbersAs, BuildsAs}
use Rattle.tables.specs.Plans.{PlanOf, NumbersFor, BuildsFor, count_for}
use Rattle.tables.proofs.Counted.{shaped_in, plan_numbers}
use Rattle.tables.proofs.Shaping.{stands-ranged}
use Rattle.tables.proofs.Builds.{plan_builds}
use Rattle.job.specs.Stands.{family_number}
use Rattle.tables.specs.declared.Plan.{Plan}
use Rattle.grid.specs.declared.plan.Grid.{Grid}
use Rattle.grid.specs.Calls.{ShapedAs}
use Rattle.grid.specs.Grids.{GridOf, LaidOut}

module _ (b : List ℕ) (j : Job) (k : Kept b j) (q : paired (family_of b) ≡ true) where
  pub shape_needs : Ranged j × (paired (family_number j.family) ≡ true)
  shape_needs = let f : paired (family_number j.family) ≡ true = ap paired k.family ∙ q in (stands-ranged k.stands f, f)

  pub shaped_as : {s : Option Shape} → ShapedFor j s → ShapedAs b s
  shaped_as w =
      let h = shaped_in b j k w in
      record { shape = h.shape; ending = record { own = q; roomy = refl; answer = h.answer } }

module _ {s : Shape} where
  pub form_of : Countable (Some s) → FormOf s
  form_of k = k.shaped.form

  module _ {p : Plan} (po : PlanOf s p) {g : Grid} (go : GridOf s p g) where
    pub laid_of : Countable (Some s) → LaidOut p g
    laid_of k = record { planned = rw (go.sa_is, go.sc_is) po.planned; offs = go.offs; narrow = omega (arith, po.ex_is, (form_of k).1) }

    pub numbers_as : (es : List (List ℕ)) (before after : List ℕ) (x : Result ℕ Refusal) → NumbersFor false p g.sa g.sc es before after x → NumbersAs (Some s) es before after x
    numbers_as es before after x h J w = plan_numbers J s w.fits po es before after x (rw (go.sa_is, go.sc_is) at h)

    pub builds_as : (ns steps ends : List ℕ) (x : Result ℕ Refusal) (t u : List ℕ) → BuildsFor false p g.sa g.sc ns steps ends t u x → BuildsAs (Some s) ns steps ends t u x
    builds_as ns steps ends x t u h J w = plan_builds J s w.fits po ns steps ends x t u (rw (go.sa_is, go.sc_is) at h)

    pub count_laid : {r : Option ℕ} → r ≡ count_for p g.sa g.sc → r ≡ count_for p s.sa s.sc
    count_laid e = rw (go.sa_is, go.sc_is) at e

-- the table's answer, with refusal 4 in place of none
pub count_told : {a : Option ℕ} {r : Result ℕ Refusal} {c : ℕ} → r ≡ ok_or a Over → r ≡ Ok c → a ≡ Some c
count_told {a} e q = go a (sym e ∙ q)
  where
    go : (a : Option ℕ) {c : ℕ} → ok_or a Over ≡ Ok c → a ≡ Some c
    go (Some v) q = cc
    go None q = cc

pub over_told : {a : Option ℕ} {r : Result ℕ Refusal} {x : Refusal} → r ≡ ok_or a Over → r ≡ Err x → (a ≡ None) × (x ≡ Over)
over_told {a} e q = go a (sym e ∙ q)
  where
    go : (a : Option ℕ) {x : Refusal} → ok_or a Over ≡ Err x → (a ≡ None) × (x ≡ Over)
    go (Some v) q = (cc, cc)
    go None q = (refl, cc)
