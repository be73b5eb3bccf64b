-- "In families 2, 4 and 5 the end is printed as n n." Assumes nothing.
--
--   end-square    there m is n, unless the block is refused
use mathlib.Core.Path.{◌≡◌, ap}
use mathlib.Core.Bool.{Bool, true, false, not, ◌&&◌, ◌||◌}
use mathlib.Core.List.{List}
use Prim.Native.Nat.{ℕ}
use lib.Dec.{T, leb, eqb, eqb→eq}
use lib.IntN.{pos}
use Rattle.howmany.proofs.Choices.{and_right}
use Rattle.rules.specs.Points.{eqℤ}
use Rattle.rules.specs.Jobs.{Job}
use Rattle.rules.specs.Refusals.Refusal.{form, size}
use Rattle.rules.specs.Refusals.Answer.{accepted}
use Rattle.rules.specs.Blocks.{family_of, n_of, m_of, between, square, paired, formed, sized_lettered, sized, job_answer}
use Rattle.rules.specs.Answers.{known_job}
use Rattle.rules.proofs.Letters.{eqℤ_eq}
use Rattle.rules.proofs.Demand3.{passed}
use Rattle.rules.proofs.Families.{sized-lettered}
use Rattle.rules.proofs.Hence.{known-job}
use Rattle.listing.specs.Listing.{decimal, signed_text}

-- these families have no pairs
square_unpaired : (f : ℕ) → T (square f) → paired f ≡ false
square_unpaired f t = go (eqb f 2) (eqb f 4) (eqb f 5) (eqb→eq f 2) (eqb→eq f 4) (eqb→eq f 5) t
  where
    go : (x y z : Bool) → (T x → f ≡ 2) → (T y → f ≡ 4) → (T z → f ≡ 5) → T (x || (y || z)) → paired f ≡ false
    go true y z p q r u = ap paired (p tt)
    go false true z p q r u = ap paired (q tt)
    go false false true p q r u = ap paired (r tt)
    go false false false p q r u = absurd u

-- what is left of a test that a true one stands before
then_right : (x y : Bool) → T x → T (not x || y) → T y
then_right true y t u = u
then_right false y t u = absurd t

lettered-square : (b : List ℕ) → T (square (family_of b)) → T (sized_lettered b) → T (eqℤ (m_of b) (pos (n_of b)))
unfolding sized_lettered
lettered-square b s t =
    let even : Bool = not (square (family_of b)) || eqℤ (m_of b) (pos (n_of b)) in
    let range : Bool = between (pos 0) (pos 64) (m_of b) in
    then_right (square (family_of b)) (eqℤ (m_of b) (pos (n_of b))) s (and_right range even (and_right (leb (n_of b) 64) (range && even) t))

pub end-square : (b : List ℕ) (J : Job) → known_job b ≡ accepted J → T (square (family_of b)) → signed_text (m_of b) ≡ decimal (n_of b)
unfolding job_answer signed_text
end-square b J e s =
    let a = passed (formed b) form _ J (known-job b J e).job in
    let t = passed (sized b) size _ J a.1 in
    ap signed_text (eqℤ_eq (m_of b) (pos (n_of b)) (lettered-square b s (sized-lettered b t.0 (square_unpaired (family_of b) s))))
