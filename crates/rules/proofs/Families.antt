-- The families of document 01's table, one by one: what a block that has the form of one is a job of. Assumes nothing.
--
--   FamilyIs b J    the block b has the number of a family, and J is its job of that family
--   family-is       so it is of every block that refusal 1 isn't given for
--   sized-paired, sized-lettered    what refusal 2 tests, by whether the family has pairs
--   no_family, unformed             a block of no family is refused with 1
use mathlib.Core.Path.{◌≡◌, refl, sym, ap, ◌∙◌, subst}
use mathlib.Core.Bool.{Bool, true, false, ◌&&◌}
use mathlib.Core.List.{List}
use Prim.Native.Nat.{ℕ, ◌≤◌}
use native.Mathlib.Omega.{arith}
use lib.Dec.{T, leb, eqb, leb→le}
use lib.ListN.{length}
use borrow.Author.Tests.{eqb-true, eqb-false}
use Rattle.howmany.specs.Choose.{pick}
use Rattle.howmany.proofs.Choices.{and_left, and_right, is_false}
use Rattle.rules.specs.Points.{height}
use Rattle.rules.specs.Jobs.{Job}
use Rattle.rules.specs.Jobs.Job.{north_east, dyck, delannoy, schroder, motzkin, directed}
use Rattle.rules.specs.Blocks.{block_length, families, family_of, n_of, m_of, s_of, used, plain, square, paired, zeros, unused, formed, sized_lettered, sized_directed, sized, job_in, job_answer}
use Rattle.rules.specs.Refusals.Refusal.{form}
use Rattle.rules.specs.Refusals.Answer.{refused}

pub data FamilyIs (b : List ℕ) : Job → Type 0 where
  is_north_east : family_of b ≡ 1 → FamilyIs b (north_east (n_of b) (height (m_of b)))
  is_dyck : family_of b ≡ 2 → FamilyIs b (dyck (n_of b))
  is_delannoy : family_of b ≡ 3 → FamilyIs b (delannoy (n_of b) (height (m_of b)))
  is_schroder : family_of b ≡ 4 → FamilyIs b (schroder (n_of b))
  is_motzkin : family_of b ≡ 5 → FamilyIs b (motzkin (n_of b))
  is_open : family_of b ≡ 6 → FamilyIs b (directed false (n_of b) (m_of b) (s_of b) (used b))
  is_fenced : family_of b ≡ 7 → FamilyIs b (directed true (n_of b) (m_of b) (s_of b) (used b))

module _ (b : List ℕ) (f : T (formed b)) where
  family_range : (1 ≤ family_of b) × (family_of b ≤ families)
  unfolding formed
  family_range =
      let z = zeros (unused b) in
      let u = and_right (eqb (length b) block_length) (leb 1 (family_of b) && (leb (family_of b) families && z)) f in (
        leb→le 1 (family_of b) (and_left (leb 1 (family_of b)) (leb (family_of b) families && z) u),
        leb→le (family_of b) families (and_left (leb (family_of b) families) z (and_right (leb 1 (family_of b)) (leb (family_of b) families && z) u)),
      )

  last : (eqb (family_of b) 1 ≡ false) → (eqb (family_of b) 2 ≡ false) → (eqb (family_of b) 3 ≡ false) → (eqb (family_of b) 4 ≡ false) → (eqb (family_of b) 5 ≡ false)
      → (t : Bool) → eqb (family_of b) 7 ≡ t → FamilyIs b (directed t (n_of b) (m_of b) (s_of b) (used b))
  last p q r s t true e = is_fenced (eqb-true (family_of b) 7 e)
  last p q r s t false e =
      let w = family_of b in
      is_open (omega (arith, family_range, eqb-false w 1 p, eqb-false w 2 q, eqb-false w 3 r, eqb-false w 4 s, eqb-false w 5 t, eqb-false w 7 e))

  pub family-is : FamilyIs b (job_in b)
  unfolding job_in
  family-is = go (eqb w 1) refl (eqb w 2) refl (eqb w 3) refl (eqb w 4) refl (eqb w 5) refl
    where
      w : ℕ
      w = family_of b

      go : (p : Bool) → eqb w 1 ≡ p → (q : Bool) → eqb w 2 ≡ q → (r : Bool) → eqb w 3 ≡ r → (s : Bool) → eqb w 4 ≡ s → (t : Bool) → eqb w 5 ≡ t
          → FamilyIs b (pick p (north_east (n_of b) (height (m_of b))) (pick q (dyck (n_of b)) (pick r (delannoy (n_of b) (height (m_of b))) (pick s (schroder (n_of b))
          (pick t (motzkin (n_of b)) (directed (eqb w 7) (n_of b) (m_of b) (s_of b) (used b)))))))
      go true p q x r y s z t v = is_north_east (eqb-true w 1 p)
      go false p true x r y s z t v = is_dyck (eqb-true w 2 x)
      go false p false x true y s z t v = is_delannoy (eqb-true w 3 y)
      go false p false x false y true z t v = is_schroder (eqb-true w 4 z)
      go false p false x false y false z true v = is_motzkin (eqb-true w 5 v)
      go false p false x false y false z false v = last p x y z v (eqb w 7) refl

module _ (b : List ℕ) (s : T (sized b)) where
  pub sized-paired : paired (family_of b) ≡ true → T (sized_directed b)
  unfolding sized
  sized-paired e = rw e at s

  pub sized-lettered : paired (family_of b) ≡ false → T (sized_lettered b)
  unfolding sized
  sized-lettered e = rw e at s

-- a block of none of these families hasn't the form of any
pub no_family : (b : List ℕ) → square (family_of b) ≡ false → plain (family_of b) ≡ false → paired (family_of b) ≡ false → formed b ≡ false
no_family b s p q = is_false (formed b) (λ t. go (family-is b t))
  where
    other : (f : ℕ → Bool) {n : ℕ} → family_of b ≡ n → f n ≡ true → f (family_of b) ≡ false → ⊥
    other f e y z = subst T (sym (ap f e ∙ y) ∙ z) tt

    go : {J : Job} → FamilyIs b J → ⊥
    go (is_north_east e) = other plain e refl p
    go (is_dyck e) = other square e refl s
    go (is_delannoy e) = other plain e refl p
    go (is_schroder e) = other square e refl s
    go (is_motzkin e) = other square e refl s
    go (is_open e) = other paired e refl q
    go (is_fenced e) = other paired e refl q

pub unformed : (b : List ℕ) → formed b ≡ false → job_answer b ≡ refused form
unfolding job_answer
unformed b e = rw e refl
