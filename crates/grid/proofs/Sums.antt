-- The loops that sum a run of cells. Assumes nothing.
--
--   Source, source_at             where a run starts that it is summed from
--   Summing k ..                  i cells of a run of n are summed from k runs
--   summing_none, summing_more, summing_all    none of them, one more, all
--   CellIn, cell-read, cell-written    a cell can be read, and written; one_more: their number fits
--   past, past-more               a run's cell, and one more of these summed
--   Sources, sources_at           where all of the runs start
--   turn, turn-fits               the sum of a turn is the cell's, and fits
--   all_of                        all of a run's cells are done
use mathlib.Core.Path.{◌≡◌, refl, sym, ◌∙◌}
use mathlib.Core.List.{List}
use Prim.Native.Nat.{ℕ, ◌+◌, ◌*◌, ◌^◌, ◌≤◌, ◌<◌}
use native.Mathlib.Omega.{arith}
use native.Mathlib.Nat.{not-suc-le-zero}
use lib.ListN.{length, get_or, set, length-set}
use lib.Seq.{get_or-set_same, get_or-set_other}
use borrow.Author.Count.{below_more}
use Rattle.howmany.specs.Sum.{sum}
use Rattle.howmany.proofs.Sums.{sum_cong, sum_mono}
use Rattle.tables.proofs.Laws.{sum_more}
use Rattle.tables.specs.Cells.{source_of, col_of, Run, Column}

-- run j of those that a run of n cells is summed from
pub record Source (sa off : List ℕ) (x d n j s : ℕ) : Type 0 where
  pub is : s ≡ source_of sa off x d j
  pub end : s + n ≤ d

pub source_at : {k : ℕ} {val sa off : List ℕ} {x d n s : ℕ} → Run k val sa off x d n → (j : ℕ) → j < k → s ≡ source_of sa off x d j → Source sa off x d n j s
source_at ru j l e = record { is = e; end = omega (arith, ru.apart j l) }

pub record Summing (k : ℕ) (val₀ sa off : List ℕ) (x d n : ℕ) (val : List ℕ) (i : ℕ) : Type 0 where
  pub passed : i ≤ n
  pub as_long : length val ≡ length val₀
  pub run : Run k val₀ sa off x d n
  pub done : Column k val₀ val sa off x d i
  pub bytes : (d + n) * 8 < 2 ^ 64

pub summing_none : {k : ℕ} {val sa off : List ℕ} {x d n : ℕ} → Run k val sa off x d n → (d + n) * 8 < 2 ^ 64 → Summing k val sa off x d n val 0
summing_none ru b = record {
  passed = omega arith;
  as_long = refl;
  run = ru;
  done = record { here = λ t l. absurd (not-suc-le-zero l); before = λ j l. refl; after = λ j l. refl };
  bytes = b;
}

pub record CellIn (l at : ℕ) : Type 0 where
  pub fits : at < 2 ^ 64
  pub byte : at * 8 < 2 ^ 64
  pub inside : at < l

cell_in : (at d n l : ℕ) → at < d + n → d + n ≤ l → (d + n) * 8 < 2 ^ 64 → CellIn l at
cell_in at d n l h e b = record { fits = omega arith; byte = omega arith; inside = omega arith }

module _ {k : ℕ} {val₀ sa off : List ℕ} {x d n : ℕ} {val : List ℕ} {i : ℕ} (su : Summing k val₀ sa off x d n val i) where
  pub summing_all : n ≤ i → Column k val₀ val sa off x d n
  summing_all h = let e : i ≡ n = omega (arith, su.passed) in rw e at su.done

  module _ (l : i < n) where
    reach : d + n ≤ length val
    reach = omega (arith, su.run.inside, su.as_long)

    pub cell-read : {j s : ℕ} → Source sa off x d n j s → CellIn (length val) (s + i)
    cell-read {s = s} so = cell_in (s + i) d n (length val) (omega (arith, so.end)) reach su.bytes

    pub cell-written : CellIn (length val) (d + i)
    cell-written = cell_in (d + i) d n (length val) (omega arith) reach su.bytes

    pub one_more : i + 1 < 2 ^ 64
    one_more = omega (arith, su.bytes)

    term : {j s : ℕ} → Source sa off x d n j s → get_or val₀ (source_of sa off x d j + i) 0 ≡ get_or val (s + i) 0
    term {s = s} so = let h = so.end in rw (← so.is) (sym (su.done.before (s + i) (omega arith)))

    pub summing_more : {v : ℕ} → v ≡ col_of k val₀ sa off x d i → Summing k val₀ sa off x d n (set val (d + i) v) (i + 1)
    summing_more {v} e = record {
      passed = omega arith;
      as_long = length-set val (d + i) v ∙ su.as_long;
      run = su.run;
      done = record {
        here = below_more (λ t. get_or (set val (d + i) v) (d + t) 0 ≡ col_of k val₀ sa off x d t) i
            (λ t h. get_or-set_other val (d + i) (d + t) v 0 (λ q. omega arith) ∙ su.done.here t h) (get_or-set_same val (d + i) v 0 cell-written.inside ∙ e);
        before = λ j h. get_or-set_other val (d + i) j v 0 (λ q. omega arith) ∙ su.done.before j h;
        after = λ j h. get_or-set_other val (d + i) j v 0 (λ q. omega arith) ∙ su.done.after j (omega arith);
      };
      bytes = su.bytes;
    }

-- what column i of the runs that begin at these places says
abbrev pub past : List ℕ → List ℕ → ℕ → ℕ → ℕ
past val from i j = get_or val (get_or from j 0 + i) 0

-- one term more of a sum that fits
pub past-more : (f : ℕ → ℕ) {k i : ℕ} → i < k → sum f k < 2 ^ 64 → {acc : ℕ} → acc ≡ sum f i → (acc + f i ≡ sum f (i + 1)) × (acc + f i < 2 ^ 64)
past-more f {k} {i} l h e = let s = sum_more f i in (omega arith, omega (arith, sum_mono f (i + 1) k (omega arith)))

abbrev pub Sources : ℕ → List ℕ → List ℕ → ℕ → ℕ → ℕ → List ℕ → Type 0
Sources k sa off x d n from = (j : ℕ) → j < k → Source sa off x d n j (get_or from j 0)

pub sources_at : {k : ℕ} {val sa off : List ℕ} {x d n : ℕ} (from : List ℕ) → Run k val sa off x d n → ((j : ℕ) → j < k → get_or from j 0 ≡ source_of sa off x d j) → Sources k sa off x d n from
sources_at from ru is j l = source_at ru j l (is j l)

module _ {k : ℕ} {val₀ val sa off : List ℕ} {x d n i : ℕ} (from : List ℕ) (su : Summing k val₀ sa off x d n val i) (l : i < n) (so : Sources k sa off x d n from) where
  turn-is : sum (past val from i) k ≡ col_of k val₀ sa off x d i
  turn-is = sum_cong (past val from i) (λ j. get_or val₀ (source_of sa off x d j + i) 0) k (λ j h. sym (term su l (so j h)))

  pub turn-fits : sum (past val from i) k < 2 ^ 64
  turn-fits = omega (arith, turn-is, su.run.fits i l)

  pub turn : {v : ℕ} → v ≡ sum (past val from i) k → v ≡ col_of k val₀ sa off x d i
  turn e = e ∙ turn-is

pub all_of : (i n : ℕ) → i ≤ n → n ≤ i → i ≡ n
all_of i n l h = omega arith
