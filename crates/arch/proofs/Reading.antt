-- Reading any string of bytes from its first step: what is read so far, and why no walk goes on where a reader stops. By going along
-- the walk with the tree that is read. Assumes nothing.
--
--   edge-is, sized-by                         what a tree prints is an edge, and its size is where the walk ends
--   begun-start, with_dee, with_arch          what the loop of the path reader knows: at its start, and after a `D` or an arch
--   begun-fits                                the number so far fits
--   arch-falls, moves, wide                   the bytes for an arch, those after it, and its room
--   no_room, no_arch                          why no walk goes on: no room for a `D`, no arch
--   no_east, no_inside, no_end, no_north      why there is no arch: no room for the `E`, no inside, no byte after it, another than `N`
--   arch-read                                 the arch
--   none-way, none-long, none-size, is_edge_lem   the whole string: no walk, too long, another size, or an edge
use mathlib.Core.Path.{◌≡◌, refl, sym, ap, ap₂, ◌∙◌, subst}
use mathlib.Core.Bool.{Bool, true}
use mathlib.Core.Logic.{◌≢◌}
use mathlib.Core.List.{List, [], ◌∷◌, ◌++◌, append-nil}
use Prim.Native.Nat.{ℕ, suc, ◌+◌, ◌-◌, ◌*◌, ◌^◌, ◌≤◌, ◌<◌, zero-le}
use native.Mathlib.Nat.{add-zero, le_refl}
use native.Mathlib.Numerals.{add-one}
use native.Mathlib.Omega.{arith}
use lib.ListN.{get_or, length, drop, length-drop, length-append, drop_of_length-le}
use lib.Seq.{drop-cons, get_or-drop}
use Rattle.arches.specs.Counts.{count}
use Rattle.arches.specs.Trees.{Tree, Letter, letter_of, size, number, print, tree_of}
use Rattle.arches.specs.Trees.Tree.{empty, dee, arch}
use Rattle.arches.specs.Trees.Letter.{north, east, diag, other}
use Rattle.arches.proofs.Limits.{count_mono}
use Rattle.arches.proofs.Ranking.{number-below, number-arch}
use Rattle.arches.proofs.Paths.{Walk, Next, ByteOf, known, print-dee, print-arch, print-walk, walk_through, walk-tree, tree_of_print}
use Rattle.arch.specs.Table.{Table}
use Rattle.arch.specs.Sums.{offset}
use Rattle.arch.specs.Answers.{IsEdge}
use Rattle.arch.proofs.Tables.{family_of}
use Rattle.arch.specs.Reading.{Ends, Stops, Begun, PathRead, ArchRead, NoWay}

-- ---- parts of the string
byte_at : (s : List ℕ) (a b : ℕ) → a < length s → get_or s a 0 ≡ b → drop a s ≡ b ∷ drop (a + 1) s
byte_at s a b h e = rw (add-one a, drop-cons s a 0 h, e)

-- ---- what a tree prints
module _ (d : Bool) (v n : ℕ) (t : Tree d) (s : List ℕ) (e : print d v t ≡ s) where
  tree_is : tree_of d v s ≡ t
  tree_is = ap (tree_of d v) (sym e) ∙ tree_of_print d v t

  pub edge-is : size d v t ≡ n → (r : ℕ) → number d v t ≡ r → IsEdge d v n r s
  edge-is z r q = record {
    walk = rw (z, e) at (print-walk d v t);
    numbered = sym (ap (number d v) tree_is ∙ q);
  }

  pub sized-by : Walk d v 0 0 s n → size d v t ≡ n
  sized-by w = sym (ap (size d v) tree_is) ∙ (walk-tree d v n s w).1

-- ---- walks
walk-le : (v : ℕ) (s : List ℕ) (x y n : ℕ) → Walk true v x y s n → x ≤ n
unfolding Walk
walk-le v [] x y n w = omega (arith, w.0)
walk-le v (b ∷ s) x y n w = go (λ x' y' w'. walk-le v s x' y' n w') (letter_of b) w
  where
    go : ((x y : ℕ) → Walk true v x y s n → x ≤ n) → (k : Letter) → Next true v (λ x' y'. Walk true v x' y' s n) k x y → x ≤ n
    go ih north w = ih x (y + suc v) w.1
    go ih east w = omega (arith, ih (x + suc v) y w.1)
    go ih diag w = omega (arith, ih (x + 1) (y + 1) w.2)
    go ih other w = absurd w

-- above the diagonal a walk that stops has an `N` next
closes : (v : ℕ) (s : List ℕ) (x y n : ℕ) → y < x → Stops s → Walk true v x y s n → (0 < length s) × (get_or s 0 0 ≡ 78)
unfolding Walk
closes v [] x y n l st w = absurd (omega arith)
closes v (b ∷ s) x y n l st w = go (letter_of b) (known b) st w
  where
    go : (k : Letter) → ByteOf b k → Ends k → Next true v (λ x' y'. Walk true v x' y' s n) k x y → (0 < suc (length s)) × (b ≡ 78)
    go north e t z = (omega arith, e)
    go east e t z = absurd t
    go diag e t z = absurd t
    go other e t z = absurd z

-- on the diagonal no walk goes on where a path stops
none_left : (v : ℕ) (s : List ℕ) (x n : ℕ) → Stops s → Walk true v x x s n → s ≡ []
unfolding Walk
none_left v [] x n st w = refl
none_left v (b ∷ s) x n st w = absurd (go (letter_of b) st w)
  where
    go : (k : Letter) → Ends k → Next true v (λ x' y'. Walk true v x' y' s n) k x x → ⊥
    go north t z = omega (arith, z.0)
    go east t z = t
    go diag t z = t
    go other t z = z

-- ---- the path reader
pub begun-start : {v room : ℕ} {s : List ℕ} {from : ℕ} → from ≤ length s → Begun v room s from from 0 0
unfolding print size number
begun-start h = record { tree = empty; shown = refl; within = h; sized = refl; numbered = refl; fits = zero-le }

module _ {v room : ℕ} {s : List ℕ} {from next sz r : ℕ} (w : Begun v room s from next sz r) where
  walk-on : (x y n : ℕ) → Walk true v x y (drop from s) n → Walk true v (x + sz) (y + sz) (drop next s) n
  walk-on x y n z =
      subst (λ (k : ℕ). Walk true v (x + k) (y + k) (drop next s) n) w.sized
      (walk_through true v w.tree x y (drop next s) n (subst (λ (l : List ℕ). Walk true v x y l n) w.shown z))

  pub begun-fits : {l : List ℕ} → Table true v room l → r < 2 ^ 64
  begun-fits t =
      omega (arith, rw w.sized at (number-below true v w.tree), w.numbered, count_mono true v (family_of t) sz room w.fits, t.fits)

  module _ {k j q : ℕ} (u : ArchRead v (room - sz) s (next + 1) k j q) where
    pub moves : length s - k < length s - next
    moves = omega (arith, length-drop (next + 1) s, length-drop k s, length-append (print true v u.tree) (78 ∷ drop k s), ap length u.shown)

    pub wide : sz + j + v + 1 ≤ room
    wide = omega (arith, u.fits, w.fits)

  module _ (h : next < length s) where
    pub no_room : get_or s next 0 ≡ 68 → sz ≡ room → NoWay v room (drop from s)
    unfolding NoWay Walk
    no_room e l x y k z =
        let a = subst (λ (q : List ℕ). Walk true v (x + sz) (y + sz) q (x + room)) (byte_at s next 68 h e) (walk-on x y (x + room) z) in
        omega (arith, walk-le v (drop (next + 1) s) _ _ (x + room) a.2)

    pub with_dee : get_or s next 0 ≡ 68 → sz ≢ room → Begun v room s from (next + 1) (sz + 1) r
    unfolding size number
    with_dee e l = record {
      tree = dee tt w.tree;
      shown = w.shown ∙ ap (λ (q : List ℕ). print true v w.tree ++ q) (byte_at s next 68 h e) ∙ sym (print-dee true v tt w.tree (drop (next + 1) s));
      within = omega arith;
      sized = omega (arith, w.sized);
      numbered = w.numbered;
      fits = omega (arith, w.fits);
    }

    -- the bytes that are left for an arch
    pub arch-falls : length s - (next + 1) < length s - from
    arch-falls = omega (arith, length-drop from s, length-drop next s, length-append (print true v w.tree) (drop next s), ap length w.shown)

    module _ (e : get_or s next 0 ≡ 69) where
      pub no_arch : NoWay v (room - sz) (69 ∷ drop (next + 1) s) → NoWay v room (drop from s)
      unfolding NoWay
      no_arch f x y k z =
          let g : x + room ≡ x + sz + (room - sz) = omega (arith, w.fits) in
          f (x + sz) (y + sz) (omega arith) (rw (byte_at s next 69 h e, g) at (walk-on x y (x + room) z))

      pub with_arch : {k j q : ℕ} → ArchRead v (room - sz) s (next + 1) k j q → (lo c : ℕ) → lo ≡ offset true v (sz + j) sz → c ≡ count true v sz
          → Begun v room s from k (sz + j + v + 1) (lo + (r + c * q))
      unfolding size offset
      with_arch {k} {j} {q} u lo c el ec = record {
        tree = arch w.tree u.tree;
        shown = w.shown ∙ ap (λ (z : List ℕ). print true v w.tree ++ z) (byte_at s next 69 h e ∙ ap (λ (z : List ℕ). 69 ∷ z) u.shown)
            ∙ sym (print-arch true v w.tree u.tree (drop k s));
        within = u.within;
        sized = omega (arith, w.sized, u.sized);
        numbered = number-arch true v w.tree u.tree (sz + j) sz r q (ap₂ (λ (a b : ℕ). a + b) w.sized u.sized) w.sized w.numbered u.numbered ∙ rw (el, ec);
        fits = wide u;
      }

-- ---- the arch reader
after-east : (v : ℕ) (s : List ℕ) (x y n : ℕ) → Walk true v x y (69 ∷ s) n → Walk true v (x + suc v) y s n
unfolding Walk
after-east v s x y n z = z.1

module _ (v room : ℕ) (s : List ℕ) where
  pub no_east : room < v + 1 → NoWay v room (69 ∷ s)
  unfolding NoWay
  no_east h x y l z = omega (arith, walk-le v s _ _ (x + room) (after-east v s x y (x + room) z))

  pub no_inside : v + 1 ≤ room → NoWay v (room - v - 1) s → NoWay v room (69 ∷ s)
  unfolding NoWay
  no_inside h f x y l z =
      let g : x + room ≡ x + suc v + (room - v - 1) = omega arith in
      f (x + suc v) y (omega arith) (rw g at (after-east v s x y (x + room) z))

module _ {v left : ℕ} {s : List ℕ} {from k j q : ℕ} (r : PathRead v left s from k j q) (room : ℕ) where
  last : (x y : ℕ) → y ≤ x → Walk true v x y (69 ∷ drop from s) (x + room) → (0 < length (drop k s)) × (get_or (drop k s) 0 0 ≡ 78)
  last x y l z =
      closes v (drop k s) (x + suc v + j) (y + j) (x + room) (omega arith) r.stops
      (walk-on r.begun (x + suc v) y (x + room) (after-east v (drop from s) x y (x + room) z))

  pub no_end : length s ≤ k → NoWay v room (69 ∷ drop from s)
  unfolding NoWay
  no_end h x y l z = omega (arith, (last x y l z).0, length-drop k s)

  pub no_north : get_or s k 0 ≢ 78 → NoWay v room (69 ∷ drop from s)
  unfolding NoWay
  no_north h x y l z = h (rw (get_or-drop, add-zero) at (last x y l z).1)

pub arch-read : {v room : ℕ} {s : List ℕ} {from k j q : ℕ} → v + 1 ≤ room → Begun v (room - v - 1) s from k j q → k < length s → get_or s k 0 ≡ 78
    → ArchRead v room s from (k + 1) j q
arch-read {v} {room} {s} {from} {k} h w b g = record {
  tree = w.tree;
  shown = w.shown ∙ ap (λ (z : List ℕ). print true v w.tree ++ z) (byte_at s k 78 b g);
  within = omega arith;
  sized = w.sized;
  numbered = w.numbered;
  fits = omega (arith, w.fits);
}

-- ---- the whole string
pub none-way : (v n : ℕ) (s : List ℕ) → NoWay v n s → Walk true v 0 0 s n → ⊥
unfolding NoWay
none-way v n s f z = let g : n ≡ 0 + n = omega arith in f 0 0 (le_refl 0) (rw g at z)

module _ {v n : ℕ} {s : List ℕ} {k j q : ℕ} (r : PathRead v n s 0 k j q) where
  rest-none : Walk true v 0 0 s n → drop k s ≡ []
  rest-none z = none_left v (drop k s) (0 + j) n r.stops (walk-on r.begun 0 0 n z)

  pub none-long : k ≢ length s → Walk true v 0 0 s n → ⊥
  none-long b z =
      let e = ap length (rest-none z) in
      let g : k ≡ length s = omega (arith, length-drop k s, r.begun.within) in
      b g

  shown-whole : drop k s ≡ [] → print true v r.begun.tree ≡ s
  shown-whole e = sym (append-nil _) ∙ ap (λ (l : List ℕ). print true v r.begun.tree ++ l) (sym e) ∙ sym r.begun.shown

  pub none-size : j ≢ n → Walk true v 0 0 s n → ⊥
  none-size b z = b (sym r.begun.sized ∙ sized-by true v n r.begun.tree s (shown-whole (rest-none z)) z)

  pub is_edge_lem : k ≡ length s → j ≡ n → IsEdge true v n q s
  is_edge_lem e g =
      let h : length s ≤ k = omega arith in
      edge-is true v n r.begun.tree s (shown-whole (drop_of_length-le s h)) (r.begun.sized ∙ g) q r.begun.numbered
