-- Laws of a text put to an output. Assumes nothing.
--
--   put-fits    what was put lies in the output
use mathlib.Core.Path.{◌≡◌, ap}
use mathlib.Core.Bool.{Bool, true, false}
use mathlib.Core.List.{List, ◌++◌}
use Prim.Native.Nat.{ℕ, ◌≤◌}
use native.Mathlib.Omega.{arith}
use lib.Dec.{leb}
use lib.ListN.{length, drop, length-append}
use Rattle.std.specs.Prelude.{Result, Ok}
use Rattle.howmany.specs.Choose.{pick}
use Rattle.rules.specs.Refusals.Refusal.{room}
use Rattle.rules.specs.Refusals.Answer.{accepted, refused}
use Rattle.rules.specs.Answers.{written}
use Rattle.job.specs.declared.Refusal.{Refusal}
use Rattle.job.specs.Replies.{BuiltAs}
use Rattle.job.proofs.Says.{value_not, value-one}

pub put-fits : (e out : List ℕ) (r : Result ℕ Refusal) (after : List ℕ) (l : ℕ) → r ≡ Ok l → BuiltAs (written (accepted e) out) r after → l ≤ length after
unfolding written
put-fits e out r after l q w = go (leb (length e) (length out)) (rw q at w)
  where
    go : (t : Bool)
        → BuiltAs (pick t (record { answer = accepted (length e); output = e ++ drop (length e) out }) (record { answer = refused room; output = out })) (Ok l) after
        → l ≤ length after
    go true v = let s : l ≡ length e = value-one v.says in omega (arith, ap length v.output, length-append e (drop (length e) out))
    go false v = absurd (value_not v.says)
