-- Building: the tree of a number is spelt from its last step, and then written to the front of the bytes. By the bytes before and after
-- each store, and by the numbers of the arch's two parts, which no other tree of that size has. Assumes nothing.
--
--   wide, with_d_lem                      the last step: an arch, which is not too wide, or `D`
--   spot-pos, spot_rem, spot_quot     the two parts' numbers, from what is left where the number falls
--   spelt-none, spelt-dee, spelt-arch an empty path, one that ends in `D`, one that ends in an arch
--   spelt-before                      as many bytes as there were
--   Insides, insides                  what the code asks between an arch's inside and its first part
--   room_in_front, front-length, part-length, put_in_front    the spelt bytes, copied to the front of others
use mathlib.Core.Path.{◌≡◌, refl, sym, ap, ◌∙◌}
use mathlib.Core.Bool.{Bool}
use mathlib.Core.List.{List, [], ◌∷◌, ◌++◌, append-nil, append_assoc}
use Prim.Native.Nat.{ℕ, suc, ◌+◌, ◌-◌, ◌*◌, ◌/◌, ◌%◌, ◌≤◌, ◌<◌}
use native.Mathlib.Nat.{mod-add-div, mod-lt, div-lt_iff_lt-mul, mul_comm}
use native.Mathlib.Decide.{dec_le}
use native.Mathlib.Omega.{arith}
use lib.Dec.{T}
use lib.ListN.{length, take, drop, set, length-append, length-set, length-drop, take-append-drop, drop_of_length-le, replicate, length-replicate}
use lib.Seq.{append_snoc, take_all, take-set-le, take-take, set_split, drop_at, length-take-le}
use Rattle.arches.specs.Counts.{if_d, count}
use Rattle.arches.specs.Trees.{Tree, size, number, build, print}
use Rattle.arches.specs.Trees.Tree.{dee, arch}
use Rattle.arches.proofs.Counting.{if_d-pos, count-short}
use Rattle.arches.proofs.Lengths.{print-length}
use Rattle.arches.proofs.Ranking.{pos-of_product, number-arch, number-one, build-built}
use Rattle.arch.specs.Sums.{Falls}
use Rattle.arch.specs.Answers.{EdgeInFront, Spelt}

built-is : (d : Bool) (v n r : ℕ) (t : Tree d) → size d v t ≡ n → number d v t ≡ r → r < count d v n → build d v n n r ≡ t
built-is d v n r t z q lt =
    let b = build-built d v n n r (omega arith) lt in
    number-one d v (build d v n n r) t (b.sized ∙ sym z) (b.numbered ∙ sym q)

-- ---- the numbers
module _ (d : Bool) (v n r hd : ℕ) (pos : 0 < n) (eh : hd ≡ if_d d (count d v (n - 1))) (lt : r < count d v n) where
  same_n : suc (n - 1) ≡ n
  same_n = omega arith

  -- an r from the arches on: the arch is not too wide
  pub wide : hd ≤ r → v ≤ n - 1
  wide h = go (dec_le v (n - 1))
    where
      go : Dec (v ≤ n - 1) → v ≤ n - 1
      go (yes l) = l
      go (no l) = absurd (omega (arith, rw same_n at (count-short d v (n - 1) (omega arith))))

  pub with_d_lem : r < hd → T d × (r < count d v (n - 1))
  with_d_lem h = if_d-pos d r (count d v (n - 1)) (omega arith)

module _ {d : Bool} {v m r i rest c : ℕ} (f : Falls d v m r i rest) (ec : c ≡ count d v i) where
  pub spot-pos : 0 < c
  spot-pos = rw ec (pos-of_product (count d v i) (count d v (m - i)) rest f.fits)

  pub spot_rem : (x : ℕ) → x ≡ rest % c → x < count d v i
  spot_rem x e = omega (arith, mod-lt rest spot-pos)

  pub spot_quot : (y : ℕ) → y ≡ rest / c → y < count d v (m - i)
  spot_quot y e = rw e ((div-lt_iff_lt-mul spot-pos).1 (rw (ec, mul_comm) f.fits))

-- ---- the trees
tree-dee : (d : Bool) (v n r : ℕ) (pos : 0 < n) (p : T d) → r < count d v (n - 1) → r < count d v n
    → print d v (build d v n n r) ≡ print d v (build d v (n - 1) (n - 1) r) ++ (68 ∷ [])
unfolding size number print
tree-dee d v n r pos p lt ltn =
    let t = build d v (n - 1) (n - 1) r in
    let b = build-built d v (n - 1) (n - 1) r (omega arith) lt in
    ap (print d v) (built-is d v n r (dee p t) (omega (arith, b.sized)) b.numbered ltn)

tree-arch : (d : Bool) (v n r hd i rest c x y : ℕ) → x ≡ rest % c → y ≡ rest / c → 0 < n → r < count d v n
    → hd ≡ if_d d (count d v (n - 1)) → hd ≤ r → v ≤ n - 1
    → Falls d v (n - 1 - v) (r - hd) i rest → c ≡ count d v i
    → print d v (build d v n n r) ≡ print d v (build d v i i x) ++ (69 ∷ (print d v (build d v (n - 1 - v - i) (n - 1 - v - i) y) ++ (78 ∷ [])))
unfolding size print
tree-arch d v n r hd i rest c x y ex ey pos lt eh le w f ec =
    let j : ℕ = n - 1 - v - i in
    let t = build d v i i x in
    let u = build d v j j y in
    let bt = build-built d v i i x (omega arith) (spot_rem f ec x ex) in
    let bu = build-built d v j j y (omega arith) (spot_quot f ec y ey) in
    let m : size d v t + size d v u ≡ n - 1 - v = omega (arith, bt.sized, bu.sized, f.below) in
    let g : n - 1 - v + v ≡ n - 1 = omega arith in
    let z : c * y ≡ count d v i * y = ap (λ (z : ℕ). z * y) ec in
    let k = rw g at (number-arch d v t u (n - 1 - v) i x y m bt.sized bt.numbered bu.numbered) in
    let o : x + c * y ≡ rest = rw (ex, ey) (mod-add-div rest c) in
    ap (print d v) (built-is d v n r (arch t u) (omega arith) (omega (arith, k, f.adds)) lt)

long-least : (d : Bool) (v n r : ℕ) → r < count d v n → length (print d v (build d v n n r)) ≤ n + n
long-least d v n r lt =
    let b = build-built d v n n r (omega arith) lt in
    omega (arith, print-length d v (build d v n n r), b.sized)

-- ---- the bytes
-- what stands from a stored byte on
from-set : (l : List ℕ) (k b : ℕ) → k < length l → drop k (set l k b) ≡ b ∷ drop (k + 1) l
from-set l k b h =
    let s : suc k ≡ k + 1 = omega arith in
    ap (drop k) (set_split l k b h) ∙ drop_at (take k l) (b ∷ drop (suc k) l) k (length-take-le k l (omega arith)) ∙ ap (λ (z : ℕ). b ∷ drop z l) s

-- and from one that is stored before T
before-set : (l T : List ℕ) (k b : ℕ) → 0 < k → k ≤ length l → drop k l ≡ T → drop (k - 1) (set l (k - 1) b) ≡ b ∷ T
before-set l T k b h g e =
    let back : k - 1 + 1 ≡ k = omega arith in
    from-set l (k - 1) b (omega arith) ∙ ap (λ (z : List ℕ). b ∷ z) (ap (λ (z : ℕ). drop z l) back ∙ e)

-- the letters around an arch's inside, before what is behind it
seam : (E F R : List ℕ) → (E ++ (69 ∷ (F ++ (78 ∷ [])))) ++ R ≡ E ++ (69 ∷ (F ++ (78 ∷ R)))
seam E F R = append_assoc E (69 ∷ (F ++ (78 ∷ []))) R ∙ ap (λ (z : List ℕ). E ++ (69 ∷ z)) (append_snoc F 78 R)

pub spelt-none : (d : Bool) (v n r : ℕ) (l : List ℕ) (end : ℕ) → n ≡ 0 → Spelt d v n r l l end end
unfolding print build
spelt-none d v n r l end e = record {
  kept = refl;
  shown = rw e refl;
  long = rw e (omega arith);
}

spelt-length : (d : Bool) (v n r : ℕ) (old new : List ℕ) (end k : ℕ) → Spelt d v n r old new end k → end ≤ length old → length new ≡ length old
spelt-length d v n r old new end k s h =
    omega (
      arith,
      s.long,
      ap length (take-append-drop k new),
      length-append (take k new) (drop k new),
      ap length s.kept,
      length-take-le k old (omega (arith, s.long)),
      ap length s.shown,
      length-append (print d v (build d v n n r)) (drop end old),
      length-drop end old,
    )

-- after a byte is stored, and a path is spelt before it
pub spelt-before : {d : Bool} {v n r : ℕ} {new : List ℕ} {k : ℕ} (old : List ℕ) (last b : ℕ) → length old ≡ 128 → last < 128 → Spelt d v n r (set old last b) new last k → length new ≡ 128
spelt-before {d} {v} {n} {r} {new} {k} old last b e h s =
    let g = length-set old last b in
    spelt-length d v n r (set old last b) new last k s (omega arith) ∙ g ∙ e

module _ (d : Bool) (v n r : ℕ) (old : List ℕ) (last : ℕ) (pos : 0 < n) (ltn : r < count d v n) (here : last < length old) where
  pub spelt-dee : (new : List ℕ) (k : ℕ) → T d → r < count d v (n - 1) → Spelt d v (n - 1) r (set old last 68) new last k → Spelt d v n r old new (last + 1) k
  spelt-dee new k p lt s =
      let e = tree-dee d v n r pos p lt ltn in
      let E = print d v (build d v (n - 1) (n - 1) r) in
      record {
        kept = s.kept ∙ take-set-le k old last 68 (omega (arith, s.long));
        shown =
            s.shown ∙ ap (λ (z : List ℕ). E ++ z) (from-set old last 68 here) ∙ sym (append_snoc E 68 (drop (last + 1) old))
            ∙ ap (λ (z : List ℕ). z ++ drop (last + 1) old) (sym e);
        long = omega (arith, s.long, ap length e, length-append E (68 ∷ []));
      }

  module _ (hd i rest c x y : ℕ) (ex : x ≡ rest % c) (ey : y ≡ rest / c) (eh : hd ≡ if_d d (count d v (n - 1))) (le : hd ≤ r) (w : v ≤ n - 1) (f : Falls d v (n - 1 - v) (r - hd) i rest) (ec : c ≡ count d v i) where
    pub spelt-arch : (mid new : List ℕ) (k l : ℕ) → 0 < k → Spelt d v (n - 1 - v - i) y (set old last 78) mid last k → Spelt d v i x (set mid (k - 1) 69) new (k - 1) l → Spelt d v n r old new (last + 1) l
    spelt-arch mid new k l kpos s t =
        let j : ℕ = n - 1 - v - i in
        let E = print d v (build d v i i x) in
        let F = print d v (build d v j j y) in
        let R : List ℕ = drop (last + 1) old in
        let e = tree-arch d v n r hd i rest c x y ex ey pos ltn eh le w f ec in
        let long : length mid ≡ length old = spelt-length d v j y (set old last 78) mid last k s (omega (arith, length-set old last 78)) ∙ length-set old last 78 in
        let under : take l mid ≡ take l (set old last 78) = sym (take-take l k mid (omega (arith, t.long))) ∙ ap (take l) s.kept ∙ take-take l k (set old last 78) (omega (arith, t.long)) in
        let inner : drop k mid ≡ F ++ (78 ∷ R) = s.shown ∙ ap (λ (z : List ℕ). F ++ z) (from-set old last 78 here) in
        let outer = before-set mid (F ++ (78 ∷ R)) k 69 kpos (omega (arith, s.long)) inner in
        record {
          kept = t.kept ∙ take-set-le l mid (k - 1) 69 (omega (arith, t.long)) ∙ under ∙ take-set-le l old last 78 (omega (arith, s.long, t.long));
          shown = t.shown ∙ ap (λ (z : List ℕ). E ++ z) outer ∙ sym (seam E F R) ∙ ap (λ (z : List ℕ). z ++ R) (sym e);
          long = omega (arith, s.long, t.long, ap length e, length-append E (69 ∷ (F ++ (78 ∷ []))), length-append F (78 ∷ []));
        }

-- what the code asks between an arch's inside and its first part
pub record Insides (i k : ℕ) : Type 0 where
  pub some : 0 < k
  pub room : i + i ≤ k - 1
  pub under : k - 1 < 128

pub insides : {d : Bool} {v y : ℕ} {old new : List ℕ} {last k : ℕ} (n i : ℕ) → 0 < n → v ≤ n - 1 → i ≤ n - 1 - v → n + n ≤ last + 1 → last < 128 → y < count d v (n - 1 - v - i)
    → Spelt d v (n - 1 - v - i) y old new last k → Insides i k
insides {d} {v} {y} n i pos w le room h lt s =
    let g = long-least d v (n - 1 - v - i) y lt in
    record { some = omega (arith, s.long); room = omega (arith, s.long); under = omega (arith, s.long) }

-- ---- put to the front of others
module _ {d : Bool} {v n r : ℕ} {new : List ℕ} {k : ℕ} (s : Spelt d v n r (replicate 128 0) new 128 k) (lt : r < count d v n) (out : List ℕ) where
  part-is : take (128 - k) (drop k new) ≡ print d v (build d v n n r)
  part-is =
      let E = print d v (build d v n n r) in
      let z = length-replicate {A = ℕ} 128 0 in
      let whole : drop k new ≡ E = s.shown ∙ ap (λ (z : List ℕ). E ++ z) (drop_of_length-le (replicate 128 0) {i = 128} (omega arith)) ∙ append-nil E in
      ap (take (128 - k)) whole ∙ take_all (128 - k) E (omega (arith, s.long))

  pub room_in_front : n + n ≤ length out → 128 - k ≤ length out
  room_in_front h = omega (arith, s.long, long-least d v n r lt)

  pub front-length : n + n ≤ length out → 128 - k ≡ length (take (128 - k) out)
  front-length h = sym (length-take-le (128 - k) out (room_in_front h))

  pub part-length : length (take (128 - k) (drop k new)) ≡ 128 - k
  part-length = omega (arith, ap length part-is, s.long)

  pub put_in_front : (part : List ℕ) → part ≡ take (128 - k) (drop k new) → EdgeInFront d v n r out (part ++ drop (128 - k) out) (128 - k)
  put_in_front part e = record {
    shown = ap (λ (z : List ℕ). z ++ drop (128 - k) out) (e ∙ part-is);
    long = omega (arith, s.long);
    short = omega (arith, s.long, long-least d v n r lt);
  }
