-- Laws of a lent table, and of the products that are made from it: each is a summand of a count that fits. Assumes nothing.
--
--   family_of                    the family; dee_table, dyck_table: one with `D`, and Dyck's
--   table-less                   a table up to n is one up to less
--   before-none, before-next     the products, none of them and one more
--   term_is, terms_fit           a product from the table, and the products up to and with it fit
use mathlib.Core.Path.{◌≡◌, refl, ap₂}
use mathlib.Core.Bool.{Bool, true, false}
use mathlib.Core.List.{List}
use Prim.Native.Nat.{ℕ, suc, ◌+◌, ◌-◌, ◌*◌, ◌^◌, ◌≤◌, ◌<◌}
use native.Mathlib.Omega.{arith}
use lib.ListN.{get_or}
use Rattle.howmany.specs.Sum.{sum}
use Rattle.arches.specs.Counts.{count, before}
use Rattle.arches.proofs.Counting.{count-arch, before-suc, before_mono}
use Rattle.arches.proofs.Limits.{Family, count_mono}
use Rattle.arch.specs.Table.{Table}

pub family_of : {d : Bool} {v n : ℕ} {l : List ℕ} → Table d v n l → Family d v
family_of {d} {v} t = go d t.dyck
  where
    go : (b : Bool) → (b ≡ false → v ≡ 0) → Family b v
    go false e = e refl
    go true e = t.narrow

-- a table with `D`, and one with none
pub dee_table : {d : Bool} {v n : ℕ} {l : List ℕ} → d ≡ true → Table d v n l → Table true v n l
dee_table e t = rw e at t

pub dyck_table : {d : Bool} {v n : ℕ} {l : List ℕ} → d ≡ false → Table d v n l → Table false 0 n l
dyck_table e t = rw (e, t.dyck e) at t

pub table-less : (d : Bool) (v n m : ℕ) (l : List ℕ) → m ≤ n → Table d v n l → Table d v m l
table-less d v n m l h t = record {
  dyck = t.dyck;
  narrow = t.narrow;
  long = omega (arith, t.long);
  full = λ k g. t.full k (omega arith);
  fits = omega (arith, t.fits, count_mono d v (family_of t) m n h);
  small = omega (arith, t.small);
}

pub before-none : (d : Bool) (v m : ℕ) → before d v m 0 ≡ 0
unfolding before sum
before-none d v m = refl

pub before-next : (d : Bool) (v m j : ℕ) → before d v m (j + 1) ≡ before d v m j + count d v j * count d v (m - j)
before-next d v m j = let e : j + 1 ≡ suc j = omega arith in rw e (before-suc d v m j)

module _ (d : Bool) (v n : ℕ) (l : List ℕ) (t : Table d v n l) where
  pub term_is : (m j : ℕ) → m ≤ n → j ≤ m → get_or l j 0 * get_or l (m - j) 0 ≡ count d v j * count d v (m - j)
  term_is m j h g = ap₂ (λ (a b : ℕ). a * b) (t.full j (omega arith)) (t.full (m - j) (omega arith))

  pub terms_fit : (m j : ℕ) → m + v < n → j ≤ m → before d v m j + count d v j * count d v (m - j) < 2 ^ 64
  terms_fit m j h g =
      omega (
        arith,
        before-suc d v m j,
        before_mono d v m (suc j) (suc m) (omega arith),
        count-arch d v m,
        count_mono d v (family_of t) (suc (m + v)) n (omega arith),
        t.fits,
      )
