-- The constants of Schroder and Motzkin are the counts: they are the list that antt computes by the recurrence, turned round, so that
-- it starts with the count for 0. Assumes nothing.
--
--   turned xs acc                    xs turned round, before acc
--   upwards n rest                   the counts for 0, 1, .., n, before rest
--   schroder-table, motzkin-table    it is a table, up to the last count that fits; Schroder's has zeros behind it
use mathlib.Core.Path.{◌≡◌, refl, ap, ◌∙◌, sym}
use mathlib.Core.Bool.{Bool, true, false}
use mathlib.Core.List.{List, [], ◌∷◌}
use Prim.Native.Nat.{ℕ, zero, suc, ◌+◌, ◌-◌, ◌^◌, ◌≤◌, ◌<◌}
use native.Mathlib.Nat.{le_refl}
use native.Mathlib.Decide.{ℕ_discrete}
use native.Mathlib.Omega.{arith}
use lib.ListN.{length, get_or, replicate}
use Rattle.arches.specs.Counts.{count, counts}
use Rattle.arches.proofs.Counting.{counts-at}
use Rattle.arches.proofs.Limits.{schroder_limit, motzkin_limit}
use Rattle.arch.specs.Table.{Table}

unfoldable pub turned : List ℕ → List ℕ → List ℕ
turned [] acc = acc
turned (x ∷ xs) acc = turned xs (x ∷ acc)

length-turned : (xs acc : List ℕ) → length (turned xs acc) ≡ length xs + length acc
unfolding turned
length-turned [] acc = omega arith
length-turned (x ∷ xs) acc = omega (arith, length-turned xs (x ∷ acc))

turned-past : (xs acc : List ℕ) (k : ℕ) → get_or (turned xs acc) (length xs + k) 0 ≡ get_or acc k 0
unfolding turned
turned-past [] acc k = let e : 0 + k ≡ k = omega arith in ap (λ (z : ℕ). get_or acc z 0) e
turned-past (x ∷ xs) acc k =
    let e : suc (length xs) + k ≡ length xs + suc k = omega arith in
    ap (λ (z : ℕ). get_or (turned xs (x ∷ acc)) z 0) e ∙ turned-past xs (x ∷ acc) (suc k)

turned-at : (xs acc : List ℕ) (k : ℕ) → k < length xs → get_or (turned xs acc) k 0 ≡ get_or xs (length xs - 1 - k) 0
unfolding turned
turned-at [] acc k h = absurd (omega arith)
turned-at (x ∷ xs) acc k h = go (λ l. turned-at xs (x ∷ acc) k l) (ℕ_discrete k (length xs))
  where
    go : (k < length xs → get_or (turned xs (x ∷ acc)) k 0 ≡ get_or xs (length xs - 1 - k) 0) → Dec (k ≡ length xs) → get_or (turned xs (x ∷ acc)) k 0 ≡ get_or (x ∷ xs) (suc (length xs) - 1 - k) 0
    go ih (yes e) =
        let a : k ≡ length xs + 0 = omega arith in
        let b : suc (length xs) - 1 - k ≡ 0 = omega arith in
        ap (λ (z : ℕ). get_or (turned xs (x ∷ acc)) z 0) a ∙ turned-past xs (x ∷ acc) 0 ∙ ap (λ (z : ℕ). get_or (x ∷ xs) z 0) (sym b)
    go ih (no e) =
        let b : suc (length xs) - 1 - k ≡ suc (length xs - 1 - k) = omega arith in
        ih (omega arith) ∙ ap (λ (z : ℕ). get_or (x ∷ xs) z 0) (sym b)

module _ (d : Bool) (v : ℕ) where
  length-counts : (n : ℕ) → length (counts d v n) ≡ suc n
  unfolding counts
  length-counts zero = refl
  length-counts (suc n) = ap suc (length-counts n)

  unfoldable pub upwards : ℕ → List ℕ → List ℕ
  upwards n rest = turned (counts d v n) rest

  upwards-at : (n k : ℕ) (rest : List ℕ) → k ≤ n → get_or (upwards n rest) k 0 ≡ count d v k
  unfolding upwards
  upwards-at n k rest h =
      let e : length (counts d v n) - 1 - k ≡ n - k = omega (arith, length-counts n) in
      let g : n - (n - k) ≡ k = omega arith in
      turned-at (counts d v n) rest k (omega (arith, length-counts n)) ∙ ap (λ (z : ℕ). get_or (counts d v n) z 0) e ∙ counts-at d v n (n - k) (omega arith) ∙ ap (count d v) g

  length-upwards : (n : ℕ) (rest : List ℕ) → length (upwards n rest) ≡ suc n + length rest
  unfolding upwards
  length-upwards n rest = omega (arith, length-turned (counts d v n) rest, length-counts n)

  upwards-table : (n : ℕ) (rest : List ℕ) → (d ≡ false → v ≡ 0) → v ≤ 1 → n ≤ 45 → count d v n < 2 ^ 64 → Table d v n (upwards n rest)
  upwards-table n rest f s h l = record {
    dyck = f;
    narrow = s;
    long = omega (arith, length-upwards n rest);
    full = λ k g. upwards-at n k rest g;
    fits = l;
    small = h;
  }

pub schroder-table : Table true 0 28 (upwards true 0 28 (replicate 17 0))
schroder-table = upwards-table true 0 28 (replicate 17 0) (λ e. cc) (omega arith) (omega arith) ((schroder_limit 28).0 (le_refl 28))

pub motzkin-table : Table true 1 45 (upwards true 1 45 [])
motzkin-table = upwards-table true 1 45 [] (λ e. cc) (omega arith) (omega arith) ((motzkin_limit 45).0 (le_refl 45))
