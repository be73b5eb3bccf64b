-- The answers of a known job: what the theory of arches over (d, v) says is document 01's answer. One argument for all three families.
-- Assumes nothing.
--
--   Sort family d v           what the family has from the theory of arches over (d, v)
--   dyck-sort, schroder-sort, motzkin-sort; sort-of: the one over (d, v)
--   edge_by, edges_for          the edge of a number, and the edges of a list of numbers or refusal 6, by that theory
--   count-of                  the count
--   rank-of, numbers_of       the number of a string that is an edge, and the numbers of a list
--   edges-of                  the edges of a list of numbers
use mathlib.Core.Path.{◌≡◌, refl, sym, ap, ap₂, ◌∙◌, subst}
use mathlib.Core.Bool.{Bool, true, false}
use mathlib.Core.List.{List, map}
use Prim.Native.Nat.{ℕ, zero, suc}
use native.Mathlib.Nat.{le_refl}
use native.Mathlib.Omega.{arith}
use lib.Dec.{leb}
use lib.ListN.{get_or}
use borrow.Author.Tests.{le-leb}
use Rattle.howmany.proofs.Choices.{is_true, is_false}
use Rattle.arches.specs.Counts.{count}
use Rattle.arches.specs.Trees.{number, build, print, tree_of}
use Rattle.arches.proofs.Limits.{Family}
use Rattle.rules.specs.Jobs.{Job}
use Rattle.rules.specs.Jobs.Job.{dyck, schroder, motzkin}
use Rattle.rules.specs.Valid.{is_edge, Valid}
use Rattle.rules.specs.Counts.{C, S, M, count_of}
use Rattle.rules.specs.Numbers.{number_of, edge_of}
use Rattle.rules.specs.Refusals.{Answer, check}
use Rattle.rules.specs.Refusals.Refusal.{beyond}
use Rattle.rules.specs.Refusals.Answer.{accepted}
use Rattle.rules.specs.Answers.{most}
use Rattle.rules.specs.Questions.{all_below}
use Rattle.rules.proofs.ArchPaths.{Arched, valid-walk, walk-valid, dyck-arched, schroder-arched, motzkin-arched}
use Rattle.std.specs.Prelude.{Result, Ok, Option, Some, None}
use Rattle.job.specs.declared.Refusal.{Refusal}
use Rattle.lines.specs.Known.{CountsOf, NumbersOf, edges_of}
use Rattle.lines.specs.Ranks.{FrontIn}
use Rattle.lines.proofs.Ranking.{ranked-of}
use Rattle.arch.specs.Answers.{arch_job, Numbered, RankOf}
use Rattle.arch.specs.Table.{Table}
use Rattle.arch.proofs.Tables.{family_of}

record Sort (family : ℕ → Job) (d : Bool) (v : ℕ) : Type 0 where
  arched : Arched family d v
  counts : (n : ℕ) → count_of (family n) ≡ count d v n
  numbers : (n : ℕ) (s : List ℕ) → number_of (family n) s ≡ number d v (tree_of d v s)
  edges : (n r : ℕ) → edge_of (family n) r ≡ print d v (build d v n n r)

dyck-sort : Sort dyck false 0
unfolding count_of C number_of edge_of
dyck-sort = record { arched = dyck-arched; counts = λ n. refl; numbers = λ n s. refl; edges = λ n r. refl }

schroder-sort : Sort schroder true 0
unfolding count_of S number_of edge_of
schroder-sort = record { arched = schroder-arched; counts = λ n. refl; numbers = λ n s. refl; edges = λ n r. refl }

motzkin-sort : Sort motzkin true 1
unfolding count_of M number_of edge_of
motzkin-sort = record { arched = motzkin-arched; counts = λ n. refl; numbers = λ n s. refl; edges = λ n r. refl }

sort-of : (d : Bool) (v : ℕ) → Family d v → Sort (arch_job d v) d v
sort-of false v e = subst (Sort dyck false) (sym e) dyck-sort
sort-of true zero l = schroder-sort
sort-of true (suc zero) l = motzkin-sort
sort-of true (suc (suc v)) l = absurd (omega arith)

abbrev pub edge_by : Bool → ℕ → ℕ → ℕ → List ℕ
edge_by d v n r = print d v (build d v n n r)

abbrev pub edges_for : Bool → ℕ → ℕ → List ℕ → Answer (List (List ℕ))
edges_for d v n ns = check (all_below (count d v n) ns) beyond (accepted (map (edge_by d v n) ns))

module _ {d : Bool} {v n : ℕ} {table : List ℕ} (full : Table d v n table) where
  sort : Sort (arch_job d v) d v
  sort = sort-of d v (family_of full)

  fits : leb (count_of (arch_job d v n)) most ≡ true
  fits = le-leb (count_of (arch_job d v n)) most (omega (arith, full.fits, sort.counts n))

  pub count-of : CountsOf (arch_job d v n) (Ok (get_or table n 0))
  count-of = rw fits (ap (λ (k : ℕ). (let r : Result ℕ Refusal = Ok k in r)) (full.full n (le_refl n) ∙ sym (sort.counts n)))

  pub rank-of : (s : List ℕ) (r : Option ℕ) → Numbered d v n s r → RankOf (arch_job d v n) s r
  unfolding Valid
  rank-of s (Some r) w = (is_true (is_edge (arch_job d v n) s) (walk-valid (arch_job d v) d v sort.arched n s w.walk), w.numbered ∙ sym (sort.numbers n s))
  rank-of s None w = is_false (is_edge (arch_job d v n) s) (λ t. w (valid-walk (arch_job d v) d v sort.arched n s t))

  pub numbers_of : (es : List (List ℕ)) (before after : List ℕ) (k : ℕ) → FrontIn (is_edge (arch_job d v n)) (number_of (arch_job d v n)) es before after k
      → NumbersOf (arch_job d v n) es before after (Ok k)
  numbers_of es before after k w =
      rw fits (ranked-of (is_edge (arch_job d v n)) (number_of (arch_job d v n)) es before after k w)

  pub edges-of : (ns : List ℕ) → edges_of (arch_job d v n) ns ≡ edges_for d v n ns
  edges-of ns =
      rw fits
      (ap₂ (λ (c : ℕ) (g : ℕ → List ℕ). check (all_below c ns) beyond (accepted (map g ns))) (sort.counts n) (λ i r. sort.edges n r i))
