-- Families 1, 3, 6 and 7: what the number of an edge and the edge of a number are in terms of the edge without its last step, as the
-- papers' algorithms say it, and where these stop.
--
--   PlainFamily family count       families 1 and 3, by their counts
--   RulesPlainNumber num           the rules of the number num n m e of the edge e to (n,m) (000, algorithms 1 and 5)
--   rank_plain count n m u          the number as these algorithms work it out, which stop at the rim
--   RulesPlainEdge edge            the rules of the edge edge n m r to (n,m) with the number r (000, algorithms 2 and 6)
--   digit i                        the letter of step i of families 6 and 7, counted from 0
--   brings W pairs n m i           what step i brings to the count: how many edges to (n,m) end in it
--   RulesDirectedNumber num        families 6 and 7, with a start at (0,s): the number num n m e of the edge e to (n,m) (001, algorithm 7)
--   RulesDirectedEdge edge         the edge edge n m r to (n,m) with the number r (001, algorithm 8)
use Rattle.std.specs.Prelude.{◌≡◌, Bool, List, [], ◌∷◌, ◌++◌, ℕ, zero, suc, ◌+◌, ◌-◌, ◌<◌, eqb, ℤ, pos, ◌-ℤ◌, length, replicate}
use Rattle.howmany.specs.Choose.{pick}
use Rattle.howmany.specs.Sum.{sum}
use Rattle.rules.specs.Jobs.{Job, Pair, pair_at, N, E, D, one}
use Rattle.rules.specs.Jobs.Job.{north_east, delannoy, directed}
use Rattle.rules.specs.Valid.{Valid}
use Rattle.rules.specs.Counts.{L, Dl, W, from}

pub data PlainFamily : (ℕ → ℕ → Job) → (ℕ → ℕ → ℕ) → Type 0 where
  of_north_east : PlainFamily north_east L
  of_delannoy : PlainFamily delannoy Dl

module _ (family : ℕ → ℕ → Job) (count : ℕ → ℕ → ℕ) where
  -- `D` is a step of family 3 alone: in family 1 no edge ends in it
  pub record RulesPlainNumber (num : ℕ → ℕ → List ℕ → ℕ) : Type 0 where
    -- "if n = 0 or m = 0 then r := 0": there the algorithms stop
    pub left : (m : ℕ) (e : List ℕ) → Valid (family 0 m) e → num 0 m e ≡ 0
    pub low : (n : ℕ) (e : List ℕ) → Valid (family n 0) e → num n 0 e ≡ 0
    -- "if v1 = 1 then r := Rank((v2, ..), n, m-1)"
    pub north : (n m : ℕ) (e : List ℕ) → Valid (family (suc n) (suc m)) (e ++ (N ∷ [])) → num (suc n) (suc m) (e ++ (N ∷ [])) ≡ num (suc n) m e
    -- "else r := L(n,m-1) + Rank((v2, ..), n-1, m)"
    pub east : (n m : ℕ) (e : List ℕ) → Valid (family (suc n) (suc m)) (e ++ (E ∷ [])) → num (suc n) (suc m) (e ++ (E ∷ [])) ≡ count (suc n) m + num n (suc m) e
    -- "else r := D(n,m-1) + D(n-1,m) + Rank((v2, ..), n-1, m-1)": the term order of equation 6
    pub diagonal : (n m : ℕ) (e : List ℕ) → Valid (family (suc n) (suc m)) (e ++ (D ∷ []))
        → num (suc n) (suc m) (e ++ (D ∷ [])) ≡ count (suc n) m + count n (suc m) + num n m e

-- the two algorithms on a whole edge: u is the edge from its last step backwards, and what is left of it at the rim isn't looked at. Family 1
-- has the first two branches alone
unfoldable pub rank_plain : (ℕ → ℕ → ℕ) → ℕ → ℕ → List ℕ → ℕ
rank_plain count n m [] = 0
rank_plain count zero m (b ∷ u) = 0
rank_plain count (suc n) zero (b ∷ u) = 0
rank_plain count (suc n) (suc m) (b ∷ u) =
    let north = rank_plain count (suc n) m u in
    let east = count (suc n) m + rank_plain count n (suc m) u in
    let diagonal = count (suc n) m + count n (suc m) + rank_plain count n m u in
    pick (eqb b N) north (pick (eqb b E) east diagonal)

module _ (count : ℕ → ℕ → ℕ) where
  pub record RulesPlainEdge (edge : ℕ → ℕ → ℕ → List ℕ) : Type 0 where
    -- "Each leaf node labeled L(0,m) determines the lattice path that consists of m North-steps"; L(n,0): "of n East-steps"
    pub left : (m : ℕ) → edge 0 m 0 ≡ replicate m N
    pub low : (n : ℕ) → edge n 0 0 ≡ replicate n E
    -- "if r < L(n,m-1)"
    pub north : (n m r : ℕ) → r < count (suc n) m → edge (suc n) (suc m) r ≡ edge (suc n) m r ++ (N ∷ [])
    -- "else", by r - L(n,m-1)
    pub east : (n m r : ℕ) → r < count n (suc m) → edge (suc n) (suc m) (count (suc n) m + r) ≡ edge n (suc m) r ++ (E ∷ [])
    -- "else", by r - D(n,m-1) - D(n-1,m): in family 1 no number is left
    pub diagonal : (n m r : ℕ) → count (suc n) m + count n (suc m) + r < count (suc n) (suc m)
        → edge (suc n) (suc m) (count (suc n) m + count n (suc m) + r) ≡ edge n m r ++ (D ∷ [])

-- "`1` to k": the letter of step i, counted from 0
abbrev pub digit : ℕ → ℕ
digit i = one + i

-- W(n-a, m-b) for that step
abbrev pub brings : (ℕ → ℤ → ℕ) → List Pair → ℕ → ℤ → ℕ → ℕ
brings W pairs n m i = from W n m (pair_at pairs i).a (pair_at pairs i).b

module _ (fenced : Bool) (s : ℕ) (pairs : List Pair) where
  pub record RulesDirectedNumber (num : ℕ → ℤ → List ℕ → ℕ) : Type 0 where
    -- "if n = 0 and m = 0 then r := 0"
    pub start : num 0 (pos s) [] ≡ 0
    -- "I := index of ps_l in the ordered set S; sum := the sum for i below I of W(n-a_i, m-b_i); r := sum + Rank((ps_1, .., ps_(l-1)), n-a_I,
    -- m-b_I)"
    pub others : (n : ℕ) (m : ℤ) (e : List ℕ) (i : ℕ) → i < length pairs → Valid (directed fenced n m s pairs) (e ++ (digit i ∷ []))
        → num n m (e ++ (digit i ∷ [])) ≡ sum (brings (W fenced s pairs) pairs n m) i + num (n - (pair_at pairs i).a) (m -ℤ (pair_at pairs i).b) e

  pub record RulesDirectedEdge (edge : ℕ → ℤ → ℕ → List ℕ) : Type 0 where
    -- "if n = 0 and m = 0 then P := ()"
    pub start : edge 0 (pos s) 0 ≡ []
    -- "if sum + s > r then r := r - sum, I := i": the number is the sum for i below I, and r, below the term for I
    pub others : (n : ℕ) (m : ℤ) (i r : ℕ) → i < length pairs → r < brings (W fenced s pairs) pairs n m i
        → sum (brings (W fenced s pairs) pairs n m) i + r < W fenced s pairs n m
        → edge n m (sum (brings (W fenced s pairs) pairs n m) i + r) ≡ edge (n - (pair_at pairs i).a) (m -ℤ (pair_at pairs i).b) r ++ (digit i ∷ [])
