-- Reading a Dyck path from its last step: the longest path that ends a front of it, and why no walk goes by a front that the reader
-- refuses. By splitting the walk where a tree begins. Assumes nothing.
--
--   Mid                                       a walk by p and then q passes a point between
--   part_ok, part_none                        what was got of a part of the string
--   ok-none, ok_end                           an empty path is read
--   no_room, no_inside, no_start, no_east, no_first    why no walk goes by a front that ends with `N`: no room for it, no inside,
--                                             nothing before the inside, another byte than `E` there, or no first part
--   inner-within, both_small                  the bytes of the inside, and the size of both parts
--   ok-arch, arch-fits                        an arch is read, and its number fits
--   none-way, none-front, none-size, is_edge_lem  the whole string: no walk, bytes before the path, another size, or an edge
use mathlib.Core.Path.{◌≡◌, refl, sym, ap, ap₂, ◌∙◌, subst, subst₂}
use mathlib.Core.Bool.{false}
use mathlib.Core.Logic.{◌≢◌}
use mathlib.Core.List.{List, [], ◌∷◌, ◌++◌, append-nil, append_assoc}
use Prim.Native.Nat.{ℕ, suc, ◌+◌, ◌-◌, ◌*◌, ◌^◌, ◌≤◌, ◌<◌, zero-le}
use native.Mathlib.Nat.{le_refl, sub-zero}
use native.Mathlib.Omega.{arith}
use lib.ListN.{get_or, length, take}
use lib.Seq.{take_all, take-suc, take-take, length-take-le, get_or-take}
use Rattle.arches.specs.Counts.{count}
use Rattle.arches.specs.Trees.{Tree, Letter, letter_of, size, number, print}
use Rattle.arches.specs.Trees.Tree.{empty, dee, arch}
use Rattle.arches.specs.Trees.Letter.{north, east, diag, other}
use Rattle.arches.proofs.Limits.{count_mono}
use Rattle.arches.proofs.Ranking.{number-below, number-arch}
use Rattle.arches.proofs.Paths.{Walk, Next, ByteOf, known, print-arch}
use Rattle.arch.specs.Table.{Table}
use Rattle.arch.specs.Sums.{offset}
use Rattle.arch.specs.Answers.{IsEdge}
use Rattle.arch.proofs.Tables.{family_of}
use Rattle.arch.specs.ReadingBack.{Go, NoNorth, NoFront, Ok}
use Rattle.arch.proofs.Reading.{edge-is, sized-by}

go-to : (x y : ℕ) {a b : ℕ} (s : List ℕ) (X Y : ℕ) → a ≡ x → b ≡ y → Go a b s X Y → Go x y s X Y
go-to x y s X Y e h w = subst₂ (λ (x' y' : ℕ). Go x' y' s X Y) e h w

go_walk : (s : List ℕ) (x y n : ℕ) → Walk false 0 x y s n → Go x y s n n
unfolding Walk Go
go_walk [] x y n w = w
go_walk (b ∷ s) x y n w = step (λ x' y' z. go_walk s x' y' n z) (letter_of b) w
  where
    step : ((x' y' : ℕ) → Walk false 0 x' y' s n → Go x' y' s n n) → (k : Letter) → Next false 0 (λ x' y'. Walk false 0 x' y' s n) k x y
        → Next false 0 (λ x' y'. Go x' y' s n n) k x y
    step ih north z = (z.0, ih _ _ z.1)
    step ih east z = (z.0, ih _ _ z.1)
    step ih diag z = absurd z.0
    step ih other z = absurd z

pub record Mid (x y : ℕ) (p q : List ℕ) (X Y : ℕ) : Type 0 where
  pub a : ℕ
  pub b : ℕ
  pub first : Go x y p a b
  pub second : Go a b q X Y

go-split : (p q : List ℕ) (x y X Y : ℕ) → Go x y (p ++ q) X Y → Mid x y p q X Y
unfolding Go
go-split [] q x y X Y w = record { a = x; b = y; first = (refl, refl); second = w }
go-split (c ∷ p) q x y X Y w =
    let t = step (λ x' y' z. go-split p q x' y' X Y z) (letter_of c) w in
    record { a = t.0; b = t.1; first = t.2; second = t.3 }
  where
    step : ((x' y' : ℕ) → Go x' y' (p ++ q) X Y → Mid x' y' p q X Y) → (k : Letter) → Next false 0 (λ x' y'. Go x' y' (p ++ q) X Y) k x y
        → (a : ℕ) × (b : ℕ) × Next false 0 (λ x' y'. Go x' y' p a b) k x y × Go a b q X Y
    step ih north z = let m = ih _ _ z.1 in (m.a, m.b, (z.0, m.first), m.second)
    step ih east z = let m = ih _ _ z.1 in (m.a, m.b, (z.0, m.first), m.second)
    step ih diag z = absurd z.0
    step ih other z = absurd z

go-under : (s : List ℕ) (x y X Y : ℕ) → y ≤ x → Go x y s X Y → Y ≤ X
unfolding Go
go-under [] x y X Y h w = omega (arith, w.0, w.1)
go-under (c ∷ s) x y X Y h w = step (λ x' y' l z. go-under s x' y' X Y l z) (letter_of c) w
  where
    step : ((x' y' : ℕ) → y' ≤ x' → Go x' y' s X Y → Y ≤ X) → (k : Letter) → Next false 0 (λ x' y'. Go x' y' s X Y) k x y → Y ≤ X
    step ih north z = ih _ _ z.0 z.1
    step ih east z = ih _ _ z.0 z.1
    step ih diag z = absurd z.0
    step ih other z = absurd z

go_through : (t : Tree false) (x y : ℕ) (s : List ℕ) (X Y : ℕ) → Go x y (print false 0 t ++ s) X Y → Go (x + size false 0 t) (y + size false 0 t) s X Y
unfolding Go print size
go_through empty x y s X Y w = go-to _ _ s X Y (omega arith) (omega arith) w
go_through (dee p t) x y s X Y w = absurd p
go_through (arch f i) x y s X Y w =
    let a = go_through f x y (69 ∷ (print false 0 i ++ (78 ∷ s))) X Y (rw (print-arch false 0 f i s) at w) in
    let b = go_through i (x + size false 0 f + 1) (y + size false 0 f) (78 ∷ s) X Y a.1 in
    go-to _ _ s X Y (omega arith) (omega arith) b.1

go-tree : (t : Tree false) (x y X Y : ℕ) → Go x y (print false 0 t) X Y → (x + size false 0 t ≡ X) × (y + size false 0 t ≡ Y)
unfolding Go
go-tree t x y X Y w = go_through t x y [] X Y (subst (λ (l : List ℕ). Go x y l X Y) (sym (append-nil (print false 0 t))) w)

go-north : (x y X Y : ℕ) → Go x y (78 ∷ []) X Y → (y + 1 ≤ x) × (x ≡ X) × (y + 1 ≡ Y)
unfolding Go
go-north x y X Y w = (w.0, w.1.0, w.1.1)

-- ---- of the part `&s[0..l]`
module _ (room : ℕ) (s : List ℕ) (l : ℕ) where
  pub part_ok : {at sz r : ℕ} → Ok room (take (l - 0) s) at sz r → Ok room (take l s) at sz r
  part_ok {at} {sz} {r} g = subst (λ (z : ℕ). Ok room (take z s) at sz r) (sub-zero l) g

  pub part_none : NoFront room (take (l - 0) s) → NoFront room (take l s)
  part_none g = subst (λ (z : ℕ). NoFront room (take z s)) (sub-zero l) g

-- ---- an empty path
pub ok-none : (room : ℕ) (s : List ℕ) → length s ≡ 0 → Ok room s 0 0 0
unfolding print size number NoNorth
ok-none room [] e = record { tree = empty; shown = refl; sized = refl; numbered = refl; within = zero-le; small = zero-le; stops = λ h. absurd (omega arith) }
ok-none room (c ∷ s) e = absurd (omega arith)

pub ok_end : (room : ℕ) (s : List ℕ) → get_or s (length s - 1) 0 ≢ 78 → Ok room s (length s) 0 0
unfolding print size number NoNorth
ok_end room s h = record {
  tree = empty;
  shown = sym (append-nil (take (length s) s) ∙ take_all (length s) s (le_refl (length s)));
  sized = refl;
  numbered = refl;
  within = le_refl (length s);
  small = zero-le;
  stops = λ _. h;
}

-- a front and one byte more
front : (s : List ℕ) (k c : ℕ) → 0 < k → k ≤ length s → get_or s (k - 1) 0 ≡ c → take k s ≡ take (k - 1) s ++ (c ∷ [])
front s k c p h e =
    let g : k ≡ suc (k - 1) = omega arith in
    let l : k - 1 < length s = omega arith in
    ap (λ (z : ℕ). take z s) g ∙ take-suc s (k - 1) 0 l ∙ ap (λ (z : ℕ). take (k - 1) s ++ (z ∷ [])) e

-- a walk by a front that does not end with `N` ends with `E`
module _ (s : List ℕ) (k X Y : ℕ) (pos : 0 < k) (h : k ≤ length s) (n : get_or s (k - 1) 0 ≢ 78) (w : Go 0 0 (take k s) X Y) where
  before-east : Mid 0 0 (take (k - 1) s) (get_or s (k - 1) 0 ∷ []) X Y
  before-east = go-split (take (k - 1) s) (get_or s (k - 1) 0 ∷ []) 0 0 X Y (subst (λ (l : List ℕ). Go 0 0 l X Y) (front s k (get_or s (k - 1) 0) pos h refl) w)

  at-east : (get_or s (k - 1) 0 ≡ 69) × (before-east.a + 1 ≡ X) × (before-east.b ≡ Y)
  unfolding Go
  at-east = step (letter_of (get_or s (k - 1) 0)) (known (get_or s (k - 1) 0)) before-east.second
    where
      step : (l : Letter) → ByteOf (get_or s (k - 1) 0) l → Next false 0 (λ x' y'. Go x' y' [] X Y) l before-east.a before-east.b
          → (get_or s (k - 1) 0 ≡ 69) × (before-east.a + 1 ≡ X) × (before-east.b ≡ Y)
      step north g z = absurd (n g)
      step east g z = (g, z.1.0, z.1.1)
      step diag g z = absurd z.0
      step other g z = absurd z

module _ (room : ℕ) (s : List ℕ) (pos : 0 < length s) (e : get_or s (length s - 1) 0 ≡ 78) where
  last : s ≡ take (length s - 1) s ++ (78 ∷ [])
  last = sym (take_all (length s) s (le_refl (length s))) ∙ front s (length s) 78 pos (le_refl (length s)) e

  module _ (X Y : ℕ) (z : Go 0 0 s X Y) where
    before_last : Mid 0 0 (take (length s - 1) s) (78 ∷ []) X Y
    before_last = go-split (take (length s - 1) s) (78 ∷ []) 0 0 X Y (subst (λ (l : List ℕ). Go 0 0 l X Y) last z)

    at_last : (before_last.b + 1 ≤ before_last.a) × (before_last.a ≡ X) × (before_last.b + 1 ≡ Y)
    at_last = go-north before_last.a before_last.b X Y before_last.second

  pub no_room : room ≡ 0 → NoFront room s
  unfolding NoFront
  no_room h X Y l z = omega (arith, (at_last X Y z).2)

  pub no_inside : 0 < room → NoFront (room - 1) (take (length s - 1) s) → NoFront room s
  unfolding NoFront
  no_inside p f X Y l z = f (before_last X Y z).a (before_last X Y z).b (omega (arith, (at_last X Y z).2)) (before_last X Y z).first

  module _ (p : 0 < room) {k j q : ℕ} (u : Ok (room - 1) (take (length s - 1) s) k j q) where
    long : length (take (length s - 1) s) ≡ length s - 1
    long = length-take-le (length s - 1) s (omega arith)

    pub inner-within : k ≤ length s - 1
    inner-within = omega (arith, u.within, long)

    fronts : (i : ℕ) → i ≤ k → take i (take (length s - 1) s) ≡ take i s
    fronts i h = take-take i (length s - 1) s (omega (arith, inner-within))

    inside_is : take (length s - 1) s ≡ take k s ++ print false 0 u.tree
    inside_is = u.shown ∙ ap (λ (l : List ℕ). l ++ print false 0 u.tree) (fronts k (le_refl k))

    module _ (X Y : ℕ) (z : Go 0 0 s X Y) where
      before-inside : Mid 0 0 (take k s) (print false 0 u.tree) (before_last X Y z).a (before_last X Y z).b
      before-inside = go-split (take k s) (print false 0 u.tree) 0 0 _ _ (subst (λ (l : List ℕ). Go 0 0 l (before_last X Y z).a (before_last X Y z).b) inside_is (before_last X Y z).first)

      at-inside : (before-inside.a + j ≡ (before_last X Y z).a) × (before-inside.b + j ≡ (before_last X Y z).b)
      at-inside = subst (λ (w : ℕ). (before-inside.a + w ≡ (before_last X Y z).a) × (before-inside.b + w ≡ (before_last X Y z).b)) u.sized
          (go-tree u.tree before-inside.a before-inside.b _ _ before-inside.second)

    pub no_start : k ≡ 0 → NoFront room s
    unfolding NoFront Go
    no_start h X Y l z =
        let w = subst (λ (i : ℕ). Go 0 0 (take i s) (before-inside X Y z).a (before-inside X Y z).b) h (before-inside X Y z).first in
        omega (arith, w.0, w.1, (at-inside X Y z).0, (at-inside X Y z).1, (at_last X Y z).0)

    module _ (pk : 0 < k) where
      byte : get_or (take (length s - 1) s) (k - 1) 0 ≡ get_or s (k - 1) 0
      byte = get_or-take (length s - 1) s (k - 1) 0 (omega (arith, inner-within))

      not_north : get_or s (k - 1) 0 ≢ 78
      unfolding NoNorth
      not_north g = u.stops pk (byte ∙ g)

      short : k ≤ length s
      short = omega (arith, inner-within)

      pub no_east : get_or s (k - 1) 0 ≢ 69 → NoFront room s
      unfolding NoFront
      no_east g X Y l z = g (at-east s k _ _ pk short not_north (before-inside X Y z).first).0

      module _ (g : get_or s (k - 1) 0 ≡ 69) where
        pub no_first : NoFront (room - 1 - j) (take (k - 1) s) → NoFront room s
        unfolding NoFront
        no_first f X Y l z =
            let m = before-east s k _ _ pk short not_north (before-inside X Y z).first in
            let t = at-east s k _ _ pk short not_north (before-inside X Y z).first in
            f m.a m.b (omega (arith, t.2, (at-inside X Y z).1, (at_last X Y z).2, u.small)) m.first

        module _ {at i a : ℕ} (v : Ok (room - 1 - j) (take (k - 1) s) at i a) where
          first-within : at ≤ k - 1
          first-within = omega (arith, v.within, length-take-le (k - 1) s (omega (arith, short)))

          pub both_small : i + j + 1 ≤ room
          both_small = omega (arith, v.small, u.small)

          first-is : take (k - 1) s ≡ take at s ++ print false 0 v.tree
          first-is = v.shown ∙ ap (λ (l : List ℕ). l ++ print false 0 v.tree) (take-take at (k - 1) s first-within)

          whole_is : s ≡ take at s ++ print false 0 (arch v.tree u.tree)
          unfolding print
          whole_is =
              last
              ∙ ap (λ (l : List ℕ). l ++ (78 ∷ [])) (inside_is ∙ ap (λ (l : List ℕ). l ++ print false 0 u.tree) (front s k 69 pk short g ∙ ap (λ (l : List ℕ). l ++ (69 ∷ [])) first-is))
              ∙ append_assoc (((take at s ++ print false 0 v.tree) ++ (69 ∷ []))) (print false 0 u.tree) (78 ∷ [])
              ∙ append_assoc (take at s ++ print false 0 v.tree) (69 ∷ []) (print false 0 u.tree ++ (78 ∷ []))
              ∙ append_assoc (take at s) (print false 0 v.tree) (69 ∷ (print false 0 u.tree ++ (78 ∷ [])))

          pub ok-arch : (lo c : ℕ) → lo ≡ offset false 0 (i + j) i → c ≡ count false 0 i → Ok room s at (i + j + 1) (lo + (a + c * q))
          unfolding size offset NoNorth
          ok-arch lo c el ec = record {
            tree = arch v.tree u.tree;
            shown = whole_is;
            sized = omega (arith, v.sized, u.sized);
            numbered = number-arch false 0 v.tree u.tree (i + j) i a q (ap₂ (λ (a b : ℕ). a + b) v.sized u.sized) v.sized v.numbered u.numbered ∙ rw (el, ec);
            within = omega (arith, first-within, short);
            small = both_small;
            stops = λ h x. v.stops h (get_or-take (k - 1) s (at - 1) 0 (omega (arith, first-within)) ∙ x);
          }

          pub arch-fits : (n : ℕ) (l : List ℕ) → Table false 0 n l → room ≤ n → (lo c : ℕ) → lo ≡ offset false 0 (i + j) i → c ≡ count false 0 i → lo + (a + c * q) < 2 ^ 64
          arch-fits n l t h lo c el ec =
              let b = ok-arch lo c el ec in
              let d : i + j + 1 ≤ n = omega (arith, both_small) in
              omega (arith, rw b.sized at (number-below false 0 b.tree), b.numbered, count_mono false 0 (family_of t) (i + j + 1) n d, t.fits)

-- ---- the whole string
module _ (n : ℕ) (s : List ℕ) where
  pub none-way : NoFront n s → Walk false 0 0 0 s n → ⊥
  unfolding NoFront
  none-way f z = f n n (le_refl n) (go_walk s 0 0 n z)

  module _ {at sz r : ℕ} (u : Ok n s at sz r) where
    whole : Walk false 0 0 0 s n → Mid 0 0 (take at s) (print false 0 u.tree) n n
    whole z = go-split (take at s) (print false 0 u.tree) 0 0 n n (subst (λ (l : List ℕ). Go 0 0 l n n) u.shown (go_walk s 0 0 n z))

    pub none-front : at ≢ 0 → Walk false 0 0 0 s n → ⊥
    unfolding NoNorth Go
    none-front b z = omega (arith, go-under (take (at - 1) s) 0 0 m.a m.b (le_refl 0) m.first, t.1, t.2, ends.0, ends.1)
      where
        pos : 0 < at
        pos = omega arith

        ends : ((whole z).a + size false 0 u.tree ≡ n) × ((whole z).b + size false 0 u.tree ≡ n)
        ends = go-tree u.tree (whole z).a (whole z).b n n (whole z).second

        m : Mid 0 0 (take (at - 1) s) (get_or s (at - 1) 0 ∷ []) (whole z).a (whole z).b
        m = before-east s at _ _ pos u.within (u.stops pos) (whole z).first

        t : (get_or s (at - 1) 0 ≡ 69) × (m.a + 1 ≡ (whole z).a) × (m.b ≡ (whole z).b)
        t = at-east s at _ _ pos u.within (u.stops pos) (whole z).first

    shown-whole : at ≡ 0 → print false 0 u.tree ≡ s
    shown-whole e = sym (u.shown ∙ ap (λ (i : ℕ). take i s ++ print false 0 u.tree) e)

    pub none-size : at ≡ 0 → sz ≢ n → Walk false 0 0 0 s n → ⊥
    none-size e b z = b (sym u.sized ∙ sized-by false 0 n u.tree s (shown-whole e) z)

    pub is_edge_lem : at ≡ 0 → sz ≡ n → IsEdge false 0 n r s
    is_edge_lem e g = edge-is false 0 n u.tree s (shown-whole e) (u.sized ∙ g) r u.numbered
