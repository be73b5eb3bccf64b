-- Laws of a block's tests, place by place, for the loops that make them. Assumes nothing.
--
--   used-next, used-length                 the used pairs from a place on, and how many
--   signed_is, signed-one                  a byte as a signed number, and raised
--   between_is, between-zero, eq_height    the tests of signed numbers on raised ones
--   small-next                             one pair more of `small`; small_range: each pair then
--   pairs_split, pairs_none, used_in       pairs that are lent as their bytes: the first, none, and the used ones of a block
--   small_more, in_more, twins_more        one pair more of `small`, `is_in` and `twins`; small_none, in_none, twins_none: no pair
--   each_zero                              the zeros of a list, by a test of each
--   rest, zeros-past                       the end of a block; no_family: an empty one
--   formed-is, lettered-is, directed-is, sized-is    the tests of form and size on raised numbers
use Rattle.std.proofs.Common.{◌≡◌, ℕ, zero, suc, ◌+◌, ◌-◌, ◌*◌, ◌%◌, ◌<◌, ◌≤◌, Bool, true, false, not, ◌&&◌, ◌||◌, ◌==◌, T, eqb, ltb, leb, List, [], ◌∷◌, length, get_or, take, drop, ℤ, pos, negsuc, sym, refl, ap, ◌∙◌, subst, ap₂, add-one, arith, length-drop, drop_of_length-le, length-take, get_or-drop, take_all, drop-cons, get_or-take, le-ltb, lt-ltb, eq-eqb, ne_eqb, le-leb}
use Rattle.std.specs.List.{list_all}
use native.Mathlib.Decide.{dec_lt, ℕ_discrete}
use lib.Dec.{eqb_refl}
use borrow.Author.Tests.{lt-leb}
use Rattle.rules.specs.Points.{Is, leℤ, eqℤ}
use Rattle.rules.specs.Jobs.{Pair}
use Rattle.rules.specs.Blocks.{families, block_length, paired, signed, family_of, n_of, m_of, k_of, zeros, pairs_in, used, unused, formed, between, square, small, sized_lettered, sized_directed, sized, is_in, twins}
use Rattle.rules.proofs.Letters.{eqℤ_eq, eqℤ_refl}
use Rattle.rules.proofs.Signed.{is_up, is-fence}
use Rattle.howmany.specs.Choose.{pick}
use Rattle.howmany.proofs.Choices.{and_left, and_right, is_true, is_false}
use Rattle.job.specs.Made.{raised, pair_by, pair_of, in_range, Pairs}

pub each_zero : (s : List ℕ) → list_all (λ b. b == 0) s ≡ zeros s
unfolding zeros
each_zero [] = refl
each_zero (x ∷ s) = ap (λ t. (x == 0) && t) (each_zero s)

-- ---- the used pairs

pairs_at : (l : List ℕ) (i : ℕ) → 2 * i + 1 < length l → get_or (pairs_in l) i (record { a = 0; b = pos 0 }) ≡ record { a = get_or l (2 * i) 0; b = signed (get_or l (2 * i + 1) 0) }
unfolding pairs_in
pairs_at [] i h = absurd (omega arith)
pairs_at (a ∷ []) i h = absurd (omega arith)
pairs_at (a ∷ b ∷ l) zero h = refl
pairs_at (a ∷ b ∷ l) (suc i) h =
    let e : 2 * suc i ≡ suc (suc (2 * i)) = omega arith in
    let g : suc (suc (2 * i)) + 1 ≡ suc (suc (2 * i + 1)) = omega arith in
    rw (e, g) (pairs_at l i (omega arith))

pairs_long : (l : List ℕ) (k : ℕ) → 2 * k ≤ length l → k ≤ length (pairs_in l)
unfolding pairs_in
pairs_long l zero h = omega arith
pairs_long [] (suc k) h = absurd (omega arith)
pairs_long (a ∷ []) (suc k) h = absurd (omega arith)
pairs_long (a ∷ b ∷ l) (suc k) h = omega (arith, pairs_long l k (omega arith))

module _ (b : List ℕ) (k : ℕ) (p : Pairs b k) where
  pub used-length : length (used b) ≡ k
  unfolding used
  used-length = omega (arith, p.many, length-take (get_or b 3 0) (pairs_in (drop 4 b)), pairs_long (drop 4 b) k (omega (arith, length-drop 4 b, p.whole, p.few)))

  pub used-next : (i : ℕ) → i < k → drop i (used b) ≡ pair_of b i ∷ drop (i + 1) (used b)
  unfolding used
  used-next i l =
      let n : 2 * i + 1 < length (drop 4 b) = omega (arith, length-drop 4 b, p.whole, p.few) in
      let x : get_or (drop 4 b) (2 * i) 0 ≡ get_or b (4 + 2 * i) 0 = get_or-drop 4 b (2 * i) 0 in
      let g : 4 + (2 * i + 1) ≡ 5 + 2 * i = omega arith in
      let y : get_or (drop 4 b) (2 * i + 1) 0 ≡ get_or b (5 + 2 * i) 0 = get_or-drop 4 b (2 * i + 1) 0 ∙ ap (λ (j : ℕ). get_or b j 0) g in
      drop-cons (used b) i nil (omega (arith, used-length)) ∙ ap₂ {C = List Pair} (λ q l. q ∷ l)
      (get_or-take (get_or b 3 0) (pairs_in (drop 4 b)) i nil (omega (arith, p.many)) ∙ pairs_at (drop 4 b) i n ∙ (λ t. record { a = x t; b = signed (y t) }))
      (ap (λ (j : ℕ). drop j (used b)) (sym (add-one i)))
    where
      nil : Pair
      nil = record { a = 0; b = pos 0 }

-- ---- signed bytes, raised

same-leb : (a b c d : ℕ) → a + d ≡ c + b → leb a b ≡ leb c d
same-leb a b c d e = go (dec_lt b a)
  where
    go : Dec (b < a) → leb a b ≡ leb c d
    go (yes l) = lt-leb a b l ∙ sym (lt-leb c d (omega arith))
    go (no f) = le-leb a b (omega arith) ∙ sym (le-leb c d (omega arith))

same-eqb : (a b c d : ℕ) → a + d ≡ c + b → eqb a b ≡ eqb c d
same-eqb a b c d e = go (ℕ_discrete a b)
  where
    go : Dec (a ≡ b) → eqb a b ≡ eqb c d
    go (yes q) = eq-eqb a b q ∙ sym (eq-eqb c d (omega arith))
    go (no f) = ne_eqb a b f ∙ sym (ne_eqb c d (λ q. f (omega arith)))

pub signed_is : (x : ℕ) → x < 256 → Is (signed x) (raised x) 128
unfolding signed
signed_is x l = go (dec_lt x 128)
  where
    go : Dec (x < 128) → Is (pick (ltb x 128) (pos x) (negsuc (255 - x))) ((x + 128) % 256) 128
    go (yes h) = rw (lt-ltb x 128 h) (omega arith)
    go (no h) = rw (le-ltb x 128 (omega arith)) (omega arith)

le-most : (z : ℤ) (p h : ℕ) → Is z p 128 → leℤ z (pos h) ≡ leb p (128 + h)
le-most (pos a) p h e = same-leb a h p (128 + h) (omega arith)
le-most (negsuc a) p h e = sym (le-leb p (128 + h) (omega arith))

le-least : (z : ℤ) (p a : ℕ) → a < 128 → Is z p 128 → leℤ (negsuc a) z ≡ leb (127 - a) p
le-least (pos b) p a l e = sym (le-leb (127 - a) p (omega arith))
le-least (negsuc b) p a l e = same-leb b a (127 - a) p (omega arith)

pub eq_height : (z : ℤ) (p n : ℕ) → Is z p 128 → eqℤ z (pos n) ≡ eqb p (128 + n)
eq_height (pos a) p n e = same-eqb a n p (128 + n) (omega arith)
eq_height (negsuc a) p n e = sym (ne_eqb p (128 + n) (λ q. omega arith))

pub between_is : (z : ℤ) (p a h : ℕ) → a < 128 → Is z p 128 → between (negsuc a) (pos h) z ≡ (leb (127 - a) p && leb p (128 + h))
between_is z p a h l e = ap₂ ◌&&◌ (le-least z p a l e) (le-most z p h e)

pub between-zero : (z : ℤ) (p h : ℕ) → Is z p 128 → between (pos 0) (pos h) z ≡ (leb 128 p && leb p (128 + h))
between-zero z p h e = ap₂ ◌&&◌ (is-fence z p 128 e) (le-most z p h e)

-- bytes that stand for one number are one byte
pub signed-one : (x y : ℕ) → x < 256 → y < 256 → eqℤ (signed x) (signed y) ≡ eqb x y
signed-one x y l h = go (ℕ_discrete x y)
  where
    same : T (eqℤ (signed x) (signed y)) → x ≡ y
    same t =
        let e : signed x ≡ signed y = eqℤ_eq (signed x) (signed y) t in
        let q : raised x ≡ raised y = is_up (signed x) (raised x) (raised y) 128 (signed_is x l) (rw e (signed_is y h)) in
        omega arith

    go : Dec (x ≡ y) → eqℤ (signed x) (signed y) ≡ eqb x y
    go (yes e) = rw e (is_true (eqℤ (signed y) (signed y)) (eqℤ_refl (signed y)) ∙ sym (is_true (eqb y y) (eqb_refl y)))
    go (no f) = is_false (eqℤ (signed x) (signed y)) (λ t. f (same t)) ∙ sym (ne_eqb x y f)

-- ---- the tests of the used pairs

and_four : (a b c d e : Bool) → (a && (b && ((c && d) && e))) ≡ ((a && (b && (c && d))) && e)
and_four true true true d e = refl
and_four true true false d e = refl
and_four true false c d e = refl
and_four false b c d e = refl

module _ (b : List ℕ) (k : ℕ) (p : Pairs b k) where
  pub small-next : (i : ℕ) → i < k → get_or b (5 + 2 * i) 0 < 256
      → small (drop i (used b)) ≡ (in_range (get_or b (4 + 2 * i) 0) (raised (get_or b (5 + 2 * i) 0)) && small (drop (i + 1) (used b)))
  unfolding small
  small-next i l h =
      let x : ℕ = get_or b (4 + 2 * i) 0 in
      let y : ℕ = get_or b (5 + 2 * i) 0 in
      ap small (used-next b k p i l)
      ∙ ap (λ (t : Bool). leb 1 x && (leb x 3 && (t && small (drop (i + 1) (used b))))) (between_is (signed y) (raised y) 2 3 (omega arith) (signed_is y h))
      ∙ and_four (leb 1 x) (leb x 3) (leb 125 (raised y)) (leb (raised y) 131) (small (drop (i + 1) (used b)))

  -- pairs that are small are in range, each of them
  module _ (e : small (used b) ≡ true) (bytes : (j : ℕ) → get_or b j 0 < 256) where
    both : (i : ℕ) → i < k → small (drop i (used b)) ≡ true → T (in_range (get_or b (4 + 2 * i) 0) (raised (get_or b (5 + 2 * i) 0)) && small (drop (i + 1) (used b)))
    both i l h = subst T (sym h ∙ small-next i l (bytes (5 + 2 * i))) tt

    small-from : (i : ℕ) → i ≤ k → small (drop i (used b)) ≡ true
    small-from zero l = e
    small-from (suc i) l =
        rw (add-one i) at (is_true (small (drop (i + 1) (used b)))
        (and_right (in_range (get_or b (4 + 2 * i) 0) (raised (get_or b (5 + 2 * i) 0))) (small (drop (i + 1) (used b))) (both i l (small-from i (omega arith)))))

    pub small_range : (i : ℕ) → i < k → T (in_range (get_or b (4 + 2 * i) 0) (raised (get_or b (5 + 2 * i) 0)))
    small_range i l = and_left (in_range (get_or b (4 + 2 * i) 0) (raised (get_or b (5 + 2 * i) 0))) (small (drop (i + 1) (used b))) (both i l (small-from i (omega arith)))

-- ---- the tests of pairs that are lent as their bytes

pub pairs_split : (l : List ℕ) → 2 ≤ length l → pairs_in l ≡ pair_by (get_or l 0 0) (get_or l 1 0) ∷ pairs_in (take (length l - 2) (drop 2 l))
unfolding pairs_in
pairs_split [] h = absurd (omega arith)
pairs_split (a ∷ []) h = absurd (omega arith)
pairs_split (a ∷ b ∷ l) h =
    ap (λ (z : List ℕ). pair_by a b ∷ pairs_in z) (sym (take_all (length (a ∷ b ∷ l) - 2) l (omega arith)))

pub pairs_none : (l : List ℕ) → length l < 2 → pairs_in l ≡ []
unfolding pairs_in
pairs_none [] h = refl
pairs_none (a ∷ []) h = refl
pairs_none (a ∷ b ∷ l) h = absurd (omega arith)

pub small_more : (a b : ℕ) (ps : List Pair) → b < 256 → small (pair_by a b ∷ ps) ≡ (in_range a (raised b) && small ps)
unfolding small
small_more a b ps h =
    ap (λ (t : Bool). leb 1 a && (leb a 3 && (t && small ps))) (between_is (signed b) (raised b) 2 3 (omega arith) (signed_is b h))
    ∙ and_four (leb 1 a) (leb a 3) (leb 125 (raised b)) (leb (raised b) 131) (small ps)

pub small_none : small [] ≡ true
unfolding small
small_none = refl

pub in_more : (a b c d : ℕ) (ps : List Pair) → b < 256 → d < 256 → is_in (pair_by a b) (pair_by c d ∷ ps) ≡ ((eqb a c && eqb b d) || is_in (pair_by a b) ps)
unfolding is_in
in_more a b c d ps h g = ap (λ (t : Bool). (eqb a c && t) || is_in (pair_by a b) ps) (signed-one b d h g)

pub in_none : (q : Pair) → is_in q [] ≡ false
unfolding is_in
in_none q = refl

pub twins_more : (q : Pair) (ps : List Pair) → twins (q ∷ ps) ≡ (is_in q ps || twins ps)
unfolding twins
twins_more q ps = refl

pub twins_none : twins [] ≡ false
unfolding twins
twins_none = refl

pairs_take : (l : List ℕ) (k : ℕ) → pairs_in (take (2 * k) l) ≡ take k (pairs_in l)
unfolding pairs_in
pairs_take l zero = refl
pairs_take [] (suc k) = ap pairs_in (take_all (2 * suc k) [] (omega arith))
pairs_take (a ∷ []) (suc k) = ap pairs_in (take_all (2 * suc k) (a ∷ []) (omega arith))
pairs_take (a ∷ b ∷ l) (suc k) =
    let e : 2 * suc k ≡ suc (suc (2 * k)) = omega arith in
    rw e (ap (λ (z : List Pair). pair_by a b ∷ z) (pairs_take l k))

-- the bytes of the used pairs
pub used_in : (b : List ℕ) (k n : ℕ) → k ≡ get_or b 3 0 → n ≡ 2 * k → pairs_in (take n (drop 4 b)) ≡ used b
unfolding used
used_in b k n q e =
    ap (λ (m : ℕ). pairs_in (take m (drop 4 b))) e ∙ pairs_take (drop 4 b) k ∙ ap (λ (m : ℕ). take m (pairs_in (drop 4 b))) q

-- ---- the tests of form and size, as code makes them

pub rest : (b : List ℕ) (n : ℕ) → n ≤ length b → take (length b - n) (drop n b) ≡ drop n b
rest b n h = take_all (length b - n) (drop n b) (omega (arith, length-drop n b))

pub zeros-past : (b : List ℕ) (n : ℕ) → length b ≤ n → zeros (drop n b) ≡ true
unfolding zeros
zeros-past b n h = ap zeros (drop_of_length-le b h)

pub formed-is : (b : List ℕ) → formed b ≡ (eqb (length b) block_length && (leb 1 (family_of b) && (leb (family_of b) families && zeros (pick (paired (family_of b)) (drop (4 + 2 * k_of b) b) (drop 3 b)))))
unfolding formed unused
formed-is b = refl

pub lettered-is : (b : List ℕ) (m : ℕ) → m ≡ raised (get_or b 2 0) → get_or b 2 0 < 256
    → sized_lettered b ≡ (leb (n_of b) 64 && ((leb 128 m && leb m 192) && (not (square (family_of b)) || eqb m (128 + n_of b))))
unfolding sized_lettered
lettered-is b m e l =
    let h : Is (m_of b) m 128 = rw e (signed_is (get_or b 2 0) l) in
    ap₂ (λ (s t : Bool). leb (n_of b) 64 && (s && (not (square (family_of b)) || t))) (between-zero (m_of b) m 64 h) (eq_height (m_of b) m (n_of b) h)

pub directed-is : (b : List ℕ) (m : ℕ) → m ≡ raised (get_or b 2 0) → get_or b 2 0 < 256
    → sized_directed b ≡ (leb (n_of b) 32 && ((leb 32 m && leb m 224) && (leb 1 (k_of b) && (leb (k_of b) 8 && small (used b)))))
unfolding sized_directed
directed-is b m e l =
    let h : Is (m_of b) m 128 = rw e (signed_is (get_or b 2 0) l) in
    ap (λ (s : Bool). leb (n_of b) 32 && (s && (leb 1 (k_of b) && (leb (k_of b) 8 && small (used b))))) (between_is (m_of b) m 95 96 (omega arith) h)

pub sized-is : (b : List ℕ) → sized b ≡ pick (paired (family_of b)) (sized_directed b) (sized_lettered b)
unfolding sized
sized-is b = refl

pub no_family : (b : List ℕ) → length b < 1 → family_of b ≡ 0
no_family [] l = refl
no_family (x ∷ b) l = absurd (omega arith)
