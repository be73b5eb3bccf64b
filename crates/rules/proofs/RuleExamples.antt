-- Every edge that document 01 gives a number, in its examples and in its listing, and one of family 7, from the rules alone, as one table with one theorem over all its rows: every function that keeps the rules of
-- numbers has this number, and every one that keeps those of building this edge. By the laws that there is one such function, and by computing
-- the numbers. Assumes nothing.
--
--   Row                         an edge and its number
--   Ruled r                     the rules give that number, and that edge
--   Has r, row-ruled            the edge is valid and has the number, by `number_of`; so the rules give it
--   rows                        the table; the theorem is `rows-ruled`
use mathlib.Core.Path.{◌≡◌, refl, sym, ap, ◌∙◌}
use mathlib.Core.Bool.{Bool, true, false}
use mathlib.Core.List.{List, [], ◌∷◌}
use Prim.Native.Nat.{ℕ, ◌≤◌}
use native.Mathlib.Omega.{arith}
use lib.Dec.{T}
use lib.IntN.{ℤ, pos, negsuc}
use Rattle.howmany.specs.Sum.{sum}
use Rattle.howmany.specs.Numbering.{Numbering}
use Rattle.howmany.proofs.Cases.{three}
use Rattle.arches.specs.Counts.{count, counts, before}
use Rattle.arches.specs.Trees.{size, number}
use Rattle.rules.specs.Points.{leℤ}
use Rattle.rules.specs.Jobs.{Job, Pair, pair_at, N, E, D, numbered}
use Rattle.rules.specs.Jobs.Job.{north_east, dyck, delannoy, schroder, motzkin, directed}
use Rattle.rules.specs.Valid.{walks, Valid}
use Rattle.rules.specs.Order.{Before}
use Rattle.rules.specs.Counts.{count_of}
use Rattle.rules.specs.Numbers.{number_of, edge_of}
use Rattle.rules.specs.ArchRules.{ArchFamily, RulesArchNumber, RulesArchEdge}
use Rattle.rules.specs.ArchRules.ArchFamily.{of_dyck, of_schroder, of_motzkin}
use Rattle.rules.specs.StepRules.{PlainFamily, RulesPlainNumber, RulesPlainEdge, RulesDirectedNumber, RulesDirectedEdge}
use Rattle.rules.specs.StepRules.PlainFamily.{of_north_east, of_delannoy}
use Rattle.rules.proofs.Ranges.{Small}
use Rattle.rules.proofs.Demand3.{numbering}
use Rattle.rules.proofs.ArchRules.{arch-number_rules, arch-number-only, arch-edge_rules, arch-edge-only}
use Rattle.rules.proofs.PlainRules.{plain-number_rules, plain-number-only, plain-edge_rules, plain-edge-only}
use Rattle.rules.proofs.DirectedRules.{directed-number_rules, directed-number-only, directed-edge_rules, directed-edge-only}

-- "T stands for the steps (1,-1), (1,0), (1,1)."
abbrev steps : List Pair
steps = record { a = 1; b = negsuc 0 } ∷ record { a = 1; b = pos 0 } ∷ record { a = 1; b = pos 1 } ∷ []

pub data Row : Type 0 where
  arch_row : {family : ℕ → Job} {count : ℕ → ℕ} {d : Bool} {w : ℕ} → ArchFamily family count d w → (n r : ℕ) (e : List ℕ) → Row
  plain_row : {family : ℕ → ℕ → Job} {count : ℕ → ℕ → ℕ} → PlainFamily family count → (n m r : ℕ) (e : List ℕ) → Row
  directed_row : (fenced : Bool) (n : ℕ) (m : ℤ) (r : ℕ) (e : List ℕ) → Row

abbrev pub Ruled : Row → Type 0
Ruled (arch_row {family} {count} {d} {w} F n r e) =
    ((num : ℕ → List ℕ → ℕ) → RulesArchNumber family count d w num → num n e ≡ r) × ((edge : ℕ → ℕ → List ℕ) → RulesArchEdge count d w edge → edge n r ≡ e)
Ruled (plain_row {family} {count} F n m r e) =
    ((num : ℕ → ℕ → List ℕ → ℕ) → RulesPlainNumber family count num → num n m e ≡ r) × ((edge : ℕ → ℕ → ℕ → List ℕ) → RulesPlainEdge count edge → edge n m r ≡ e)
Ruled (directed_row fenced n m r e) =
    ((num : ℕ → ℤ → List ℕ → ℕ) → RulesDirectedNumber fenced 0 steps num → num n m e ≡ r)
    × ((edge : ℕ → ℤ → ℕ → List ℕ) → RulesDirectedEdge fenced 0 steps edge → edge n m r ≡ e)

-- ---- a row holds where its edge is valid and has its number

arch-numbering : {family : ℕ → Job} {count : ℕ → ℕ} {d : Bool} {w : ℕ} → ArchFamily family count d w → (n : ℕ)
    → Numbering (Valid (family n)) (Before (family n)) (count n) (number_of (family n)) (edge_of (family n))
unfolding count_of
arch-numbering of_dyck n = numbering (dyck n) tt
arch-numbering of_schroder n = numbering (schroder n) tt
arch-numbering of_motzkin n = numbering (motzkin n) tt

plain-numbering : {family : ℕ → ℕ → Job} {count : ℕ → ℕ → ℕ} → PlainFamily family count → (n m : ℕ)
    → Numbering (Valid (family n m)) (Before (family n m)) (count n m) (number_of (family n m)) (edge_of (family n m))
unfolding count_of
plain-numbering of_north_east n m = numbering (north_east n m) tt
plain-numbering of_delannoy n m = numbering (delannoy n m) tt

T-small : Small steps
T-small = record {
  few = omega arith;
  on = three (λ i. 1 ≤ (pair_at steps i).a) (omega arith) (omega arith) (omega arith);
  steep = three (λ i. T (leℤ (negsuc 2) (pair_at steps i).b)) tt tt tt;
}

Has : Row → Type 0
Has (arch_row {family} F n r e) = Valid (family n) e × (number_of (family n) e ≡ r)
Has (plain_row {family} F n m r e) = Valid (family n m) e × (number_of (family n m) e ≡ r)
Has (directed_row fenced n m r e) = Valid (directed fenced n m 0 steps) e × (number_of (directed fenced n m 0 steps) e ≡ r)

row-ruled : (r : Row) → Has r → Ruled r
unfolding Has count_of
row-ruled (arch_row {family} F n r e) (t, q) = (
  λ num h. arch-number-only F num (λ n. number_of (family n)) h (arch-number_rules F) n e t ∙ q,
  λ edge h.
      arch-edge-only F edge (λ n. edge_of (family n)) h (arch-edge_rules F) n r (omega (arith, q, (arch-numbering F n).below e t))
      ∙ ap (edge_of (family n)) (sym q)
      ∙ (arch-numbering F n).back e t,
)
row-ruled (plain_row {family} F n m r e) (t, q) = (
  λ num h. plain-number-only F num (λ n m. number_of (family n m)) h (plain-number_rules F) n m e t ∙ q,
  λ edge h.
      plain-edge-only F edge (λ n m. edge_of (family n m)) h (plain-edge_rules F) n m r (omega (arith, q, (plain-numbering F n m).below e t))
      ∙ ap (edge_of (family n m)) (sym q)
      ∙ (plain-numbering F n m).back e t,
)
row-ruled (directed_row fenced n m r e) (t, q) =
    let A = numbering (directed fenced n m 0 steps) T-small in (
      λ num h. directed-number-only fenced 0 steps num (λ n m. number_of (directed fenced n m 0 steps)) h (directed-number_rules fenced 0 steps) n m e t ∙ q,
      λ edge h.
          directed-edge-only fenced 0 steps T-small edge (λ n m. edge_of (directed fenced n m 0 steps)) h (directed-edge_rules fenced 0 steps T-small) n m r (omega (arith, q, A.below e t))
          ∙ ap (edge_of (directed fenced n m 0 steps)) (sym q)
          ∙ A.back e t,
    )

-- ---- the table

abbrev pub All : (Row → Type 0) → List Row → Type 0
All P [] = Unit {0}
All P (r ∷ rs) = P r × All P rs

all-ruled : (rs : List Row) → All Has rs → All Ruled rs
all-ruled [] h = tt
all-ruled (r ∷ rs) h = (row-ruled r h.0, all-ruled rs h.1)

abbrev pub rows : List Row
rows =
    plain_row of_north_east 3 3 9 (N ∷ N ∷ E ∷ E ∷ E ∷ N ∷ []) ∷
    plain_row of_north_east 0 0 0 [] ∷
    plain_row of_north_east 3 3 0 (E ∷ E ∷ E ∷ N ∷ N ∷ N ∷ []) ∷
    plain_row of_north_east 3 3 19 (N ∷ N ∷ N ∷ E ∷ E ∷ E ∷ []) ∷
    arch_row of_dyck 4 4 (E ∷ E ∷ N ∷ E ∷ N ∷ E ∷ N ∷ N ∷ []) ∷
    arch_row of_dyck 4 5 (E ∷ N ∷ E ∷ E ∷ E ∷ N ∷ N ∷ N ∷ []) ∷
    plain_row of_delannoy 1 1 0 (E ∷ N ∷ []) ∷
    plain_row of_delannoy 1 1 1 (N ∷ E ∷ []) ∷
    plain_row of_delannoy 1 1 2 (D ∷ []) ∷
    arch_row of_schroder 3 12 (D ∷ E ∷ D ∷ N ∷ []) ∷
    arch_row of_schroder 3 14 (D ∷ E ∷ E ∷ N ∷ N ∷ []) ∷
    arch_row of_motzkin 3 0 (D ∷ D ∷ D ∷ []) ∷
    arch_row of_motzkin 3 1 (E ∷ N ∷ D ∷ []) ∷
    arch_row of_motzkin 3 2 (E ∷ D ∷ N ∷ []) ∷
    arch_row of_motzkin 3 3 (D ∷ E ∷ N ∷ []) ∷
    directed_row false 3 (pos 1) 5 (49 ∷ 51 ∷ 51 ∷ []) ∷
    directed_row false 3 (pos 1) 0 (51 ∷ 51 ∷ 49 ∷ []) ∷
    directed_row false 3 (pos 1) 1 (51 ∷ 50 ∷ 50 ∷ []) ∷
    directed_row true 3 (pos 1) 1 (51 ∷ 50 ∷ 50 ∷ []) ∷
    []

pub rows-ruled : All Ruled rows
unfolding Has Valid walks number_of numbered sum count counts before size number
rows-ruled = all-ruled rows ((tt, refl), ((tt, refl), ((tt, refl), ((tt, refl), ((tt, refl), ((tt, refl), ((tt, refl), ((tt, refl), ((tt, refl), ((tt, refl), ((tt, refl), ((tt, refl), ((tt, refl), ((tt, refl), ((tt, refl), ((tt, refl), ((tt, refl), ((tt, refl), ((tt, refl), tt)))))))))))))))))))
