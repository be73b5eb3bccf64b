-- Families 2, 4 and 5 over their paths alone: how a path ends, and what its number and the path of a number are in terms of smaller
-- ones. No tree is in it.
--
--   ArchFamily family count d w    the three families, by their counts; d: whether the family has `D`; w: how far the steps of an arch lead
--   products count w n I           the products for i below I, of the counts of an arch's two parts in a path for n
--   Splits                         how paths end, in document 01's sentences
--   RulesArchNumber num            the rules of the number num n s of the path s for n (000, algorithms 3, 7 and 9)
--   RulesArchEdge edge             the rules of the path edge n r for n with the number r (000, algorithms 4, 8 and 10)
use Rattle.std.specs.Prelude.{◌≡◌, ◌≢◌, ◌⊎◌, Bool, true, false, List, [], ◌∷◌, ◌++◌, ℕ, suc, ◌+◌, ◌-◌, ◌*◌, ◌/◌, ◌%◌, ◌≤◌, ◌<◌, T}
use Rattle.howmany.specs.Sum.{sum}
use Rattle.arches.specs.Counts.{if_d}
use Rattle.rules.specs.Jobs.{Job, N, E, D}
use Rattle.rules.specs.Jobs.Job.{dyck, schroder, motzkin}
use Rattle.rules.specs.Valid.{Valid}
use Rattle.rules.specs.Order.{EndsInD, EndsInArch}
use Rattle.rules.specs.Counts.{C, S, M}

-- the table's rows 2, 4 and 5: steps `N` and `E` of one cell, and of two in family 5
pub data ArchFamily : (ℕ → Job) → (ℕ → ℕ) → Bool → ℕ → Type 0 where
  of_dyck : ArchFamily dyck C false 1
  of_schroder : ArchFamily schroder S true 1
  of_motzkin : ArchFamily motzkin M true 2

abbrev pub products : (ℕ → ℕ) → ℕ → ℕ → ℕ → ℕ
products count w n I = sum (λ i. count i * count (n - w - i)) I

module _ (family : ℕ → Job) (d : Bool) (w : ℕ) where
  pub record Splits : Type 0 where
    -- "A nonempty path either ends in `D`, with a path for n-1 before it, or is first part, `E`, inside, `N`, where that `N` is the last
    -- step and `E` its partner."
    pub ends : (n : ℕ) (s : List ℕ) → Valid (family n) s → s ≢ []
        → ((p : List ℕ) × EndsInD family s p) ⊎ ((I : ℕ) × (f : List ℕ) × (i : List ℕ) × EndsInArch family s I f i)
    -- which of the two the last step says, and no path ends in `E`
    pub last_D : (n : ℕ) (p : List ℕ) → Valid (family n) (p ++ (D ∷ [])) → EndsInD family (p ++ (D ∷ [])) p
    pub last_N : (n : ℕ) (p : List ℕ) → Valid (family n) (p ++ (N ∷ [])) → (I : ℕ) × (f : List ℕ) × (i : List ℕ) × EndsInArch family (p ++ (N ∷ [])) I f i
    pub last_E : (n : ℕ) (p : List ℕ) → Valid (family n) (p ++ (E ∷ [])) → ⊥
    -- "either": never both
    pub one : {s p f i : List ℕ} {I : ℕ} → EndsInD family s p → EndsInArch family s I f i → ⊥
    -- "the first part", "the inside", "I": a path has one of each
    pub parts : {s f i g j : List ℕ} {I K : ℕ} → EndsInArch family s I f i → EndsInArch family s K g j → (I ≡ K) × (f ≡ g) × (i ≡ j)
    pub rest : {s p q : List ℕ} → EndsInD family s p → EndsInD family s q → p ≡ q
    -- "with a path for n-1 before it", where the family has `D`
    pub before : (n : ℕ) {s p : List ℕ} → Valid (family n) s → EndsInD family s p → T d × (0 < n) × Valid (family (n - 1)) p
    -- "The first part and the inside are themselves paths of the same family": the first part for I, the inside for what is left of n
    pub inside : (n : ℕ) {s f i : List ℕ} {I : ℕ} → Valid (family n) s → EndsInArch family s I f i → (I + w ≤ n) × Valid (family I) f × Valid (family (n - w - I)) i
    -- and what is made so is a path
    pub with_D : (n : ℕ) (p : List ℕ) → T d → Valid (family n) p → Valid (family (suc n)) (p ++ (D ∷ []))
    pub arched : (I k : ℕ) (f i : List ℕ) → Valid (family I) f → Valid (family k) i → Valid (family (I + w + k)) (f ++ (E ∷ (i ++ (N ∷ []))))

module _ (family : ℕ → Job) (count : ℕ → ℕ) (d : Bool) (w : ℕ) where
  pub record RulesArchNumber (num : ℕ → List ℕ → ℕ) : Type 0 where
    -- "if n = 0 then r := 0"
    pub empty : num 0 [] ≡ 0
    -- "Paths ending in `D` come first, ordered by what precedes the `D`."
    pub ends_in_D : (n : ℕ) {s p : List ℕ} → Valid (family n) s → EndsInD family s p → num n s ≡ num (n - 1) p
    -- "The number is: the D-count (if the family has `D`), plus the products for i below I, plus the first part's number, plus the count
    -- for I times the inside's number"
    pub ends_in_arch : (n : ℕ) {s f i : List ℕ} {I : ℕ} → Valid (family n) s → EndsInArch family s I f i
        → num n s ≡ if_d d (count (n - 1)) + products count w n I + num I f + count I * num (n - w - I) i

module _ (count : ℕ → ℕ) (d : Bool) (w : ℕ) where
  pub record RulesArchEdge (edge : ℕ → ℕ → List ℕ) : Type 0 where
    -- "if n = 0 then v := ()"
    pub empty : edge 0 0 ≡ []
    -- "if r < S(n-1)": the path ends in `D`, with the path of the same number before it
    pub ends_in_D : (n r : ℕ) → r < if_d d (count n) → edge (suc n) r ≡ edge n r ++ (D ∷ [])
    -- else r is the D-count, the products for i below I, and l, below the product for I ("if sum + s > r then r := r - sum, I := i"): the
    -- number of the first part is l mod the count for I, that of the inside the quotient
    pub ends_in_arch : (n I l : ℕ) → I + w ≤ n → l < count I * count (n - w - I)
        → edge n (if_d d (count (n - 1)) + products count w n I + l) ≡ edge I (l % count I) ++ (E ∷ (edge (n - w - I) (l / count I) ++ (N ∷ [])))
