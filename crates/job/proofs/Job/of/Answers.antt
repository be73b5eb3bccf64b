-- `job::Job::of` meets its contract: each return by the tests that led there. Assumes nothing.
use Rattle.std.proofs.Common.{◌≡◌, true, false, sym, ap, ◌∙◌, arith, Result, Ok}
use Rattle.rules.specs.Blocks.{formed, sized, used, twins}
use Rattle.job.specs.declared.Family.{Family}
use Rattle.job.specs.declared.Job.{Job}
use Rattle.job.specs.declared.Refusal.{Refusal}
use Rattle.job.specs.Made.{held_by}
use Rattle.job.proofs.Says.{value_not, value-one}
use Rattle.job.proofs.Blocks.{used_in}
use Rattle.job.proofs.Makes.{whole_of, no_twins, pairs_of, made-form, made-size, made_twin, made-job}
use Rattle.job.proofs.Standing.{family_found}
use Rattle.job.proofs.Job.of.Goals as goal
use Rattle.job.proofs.Job.of.Goals.{Else-not-is_formed, Else-not-is_sized, After-held-job, else-is_paired-via-then-is_paired+else-has_twins, else-is_paired-via-else-is_paired}

pub returns-then-not-is_formed : goal.returns-then-not-is_formed
returns-then-not-is_formed c = made-form _ (sym c.is_formed.ensures ∙ c.if-not-is_formed.true)

-- the block passes form, and then size
has-form : (c : Else-not-is_formed) → formed c.args.block.now ≡ true
has-form c = sym c.is_formed.ensures ∙ c.if-not-is_formed.false

has-size : (c : Else-not-is_sized) → sized c.args.block.now ≡ true
has-size c = sym c.is_sized.ensures ∙ c.if-not-is_sized.false

pub is_sized-requires : goal.is_sized-requires
is_sized-requires c = whole_of _ (has-form (goal.at.is_sized-requires c).Else-not-is_formed)

pub returns-then-not-is_sized : goal.returns-then-not-is_sized
returns-then-not-is_sized c = made-size _ (has-form (goal.at.returns-then-not-is_sized c).Else-not-is_formed) (sym c.is_sized.ensures ∙ c.if-not-is_sized.true)

pub bounds-block-0 : goal.bounds-block-0
bounds-block-0 c = let h = whole_of _ (has-form (goal.at.bounds-block-0 c).Else-not-is_formed) in omega arith

pub returns-in_err-family : goal.returns-in_err-family
returns-in_err-family c =
    absurd (value_not (sym (family_found _ (has-form (goal.at.returns-in_err-family c).Else-not-is_formed)) ∙ sym c.try_from.ensures ∙ c.in_err-family.was))

pub bounds-block-0-2 : goal.bounds-block-0-2
bounds-block-0-2 c = let h = whole_of _ (has-form (goal.at.bounds-block-0-2 c).Else-not-is_formed) in omega arith

pub bounds-block-3 : goal.bounds-block-3
bounds-block-3 c = let h = whole_of _ (has-form (goal.at.bounds-block-3 c).Else-not-is_formed) in omega arith

pub slice_bounds-has_twins-end : goal.slice_bounds-has_twins-end
slice_bounds-has_twins-end c =
    let f = has-form (goal.at.slice_bounds-has_twins-end c).Else-not-is_formed in
    let p = pairs_of c.args.block.now _ c.wide.ensures f (has-size (goal.at.slice_bounds-has_twins-end c).Else-not-is_sized) in
    omega (arith, p.whole, p.few)

pub returns-then-has_twins : goal.returns-then-has_twins
returns-then-has_twins c =
    made_twin _ (has-form (goal.at.returns-then-has_twins c).Else-not-is_formed) (has-size (goal.at.returns-then-has_twins c).Else-not-is_sized) (sym (ap twins (used_in c.args.block.now _ _ c.wide.ensures (omega arith))) ∙ sym c.has_twins.ensures ∙ c.if-has_twins.true)

pub held-job-requires : goal.held-job-requires
held-job-requires c = whole_of _ (has-form (goal.at.held-job-requires c).Else-not-is_formed)

-- no pair is used, or none is used twice
untwinned : (c : After-held-job) → twins (used c.args.block.now) ≡ false
untwinned c =
    elim c.else-is_paired.branch [
      | else-is_paired-via-then-is_paired+else-has_twins w ↦ sym (ap twins (used_in c.args.block.now _ _ w.wide.ensures (omega arith))) ∙ sym w.has_twins.ensures ∙ w.if-has_twins.false
      | else-is_paired-via-else-is_paired w ↦
          no_twins _ (has-form (goal.at.After-held-job c).Else-not-is_formed) (sym c.is_paired.ensures ∙ w.if-is_paired.false)
    ]

pub returns : goal.returns
returns c =
    let f = has-form (goal.at.returns c).Else-not-is_formed in
    let k = value-one (sym c.in_ok-family.was ∙ c.try_from.ensures ∙ family_found c.args.block.now f) in
    ap (λ (j : Job). (let m : Result Job Refusal = Ok j in m)) (c.held-job.ensures ∙ ap (λ (k : Family). held_by k c.args.block.now) k)
    ∙ made-job _ f (has-size (goal.at.returns c).Else-not-is_sized) (untwinned c)
