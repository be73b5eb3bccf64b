-- A family's number is read as it is counted. Assumes nothing.
use Rattle.std.proofs.Common.{◌≡◌, ℕ, ◌≤◌, ◌<◌, Err, sym, arith, ne_eqb}
use Rattle.job.specs.declared.Refusal.TheVariants.{Form}
use Rattle.job.specs.Made.{family_at}
use Rattle.job.proofs.FamilyTryFromU8.try_from.Goals as goal

-- no family's number
none-at : (n : ℕ) → (1 ≤ n → 7 < n) → Err Form ≡ family_at n
none-at n h =
    sym (simp (
      ne_eqb n 1 (λ e. omega (arith, h (omega arith))),
      ne_eqb n 2 (λ e. omega (arith, h (omega arith))),
      ne_eqb n 3 (λ e. omega (arith, h (omega arith))),
      ne_eqb n 4 (λ e. omega (arith, h (omega arith))),
      ne_eqb n 5 (λ e. omega (arith, h (omega arith))),
      ne_eqb n 6 (λ e. omega (arith, h (omega arith))),
      ne_eqb n 7 (λ e. omega (arith, h (omega arith))),
    ))

pub returns-in_default : goal.returns-in_default
returns-in_default c = none-at c.args.number (λ l. omega arith)
