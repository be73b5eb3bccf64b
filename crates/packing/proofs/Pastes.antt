-- Laws of bytes put to a lent output. Assumes nothing.
--
--   pasted-more      bytes behind those that were put
--   put-pasted       what a copy does to a part of the output; two-bytes: a number as two bytes
--   offsets-none, offsets-next, offsets-all    no offset, one more, all of them
--   front_length, offsets-length, pack-length    how long the parts are
--   front-all        the front, put part by part
--   pack-short, pack-put    no room for the pack; the pack, put part by part
use mathlib.Core.Path.{◌≡◌, refl, sym, ap, ap₂, ◌∙◌}
use mathlib.Core.List.{List, [], ◌∷◌, ◌++◌, append_assoc}
use Prim.Native.Nat.{ℕ, ◌+◌, ◌*◌, ◌/◌, ◌%◌, ◌≤◌, ◌<◌}
use native.Mathlib.Numerals.{add-one}
use native.Mathlib.Omega.{arith}
use lib.ListN.{length, get_or, take, drop, length-append, take-append-drop}
use lib.Seq.{take_at, take_all, take-suc, length-take-le, drop-drop, drop-append-add}
use borrow.Rule.Slice.PartMut.{put_mid}
use Rattle.std.specs.Int.{w16, to_le_bytes}
use Rattle.std.proofs.Math.Nat.{mod-eq_of_lt}
use Rattle.rules.specs.Blocks.{block_length}
use Rattle.rules.specs.Refusals.Answer.{accepted}
use Rattle.rules.specs.Answers.{written}
use Rattle.rules.specs.Packs.{block_at, count_at, offsets_at, shortest, mark, two}
use Rattle.std.specs.Prelude.{Ok, Err}
use Rattle.job.specs.declared.Refusal.TheVariants.{Room}
use Rattle.job.specs.Replies.{BuiltAs}
use Rattle.job.proofs.Puts.{put-short, put-room}
use Rattle.packing.specs.Packing.{pasted, first_of, front_of, offsets_of, pack_from}

pub pasted-more : (L s t : List ℕ) (at k : ℕ) → at + length s ≡ k → at ≤ length L → pasted (pasted L at s) k t ≡ pasted L at (s ++ t)
pasted-more L s t at k q h =
    let A : List ℕ = take at L in
    let R : List ℕ = drop (at + length s) L in
    let whole : pasted L at s ≡ (A ++ s) ++ R = sym (append_assoc A s R) in
    let long : length (A ++ s) ≡ k = omega (arith, length-append A s, length-take-le at L h) in
    let front : take k (pasted L at s) ≡ A ++ s = ap (take k) whole ∙ take_at (A ++ s) R k long in
    let sum : at + length s + length t ≡ at + length (s ++ t) = omega (arith, length-append s t) in
    let back : drop (k + length t) (pasted L at s) ≡ drop (at + length (s ++ t)) L =
    ap₂ (λ (n : ℕ) (l : List ℕ). drop (n + length t) l) (sym long) whole ∙ drop-append-add (A ++ s) R (length t) ∙ drop-drop (length t) (at + length s) L
    ∙ ap (λ (n : ℕ). drop n L) sum in
    ap₂ (λ (x y : List ℕ). x ++ (t ++ y)) front back ∙ append_assoc A s (t ++ drop (at + length (s ++ t)) L)
    ∙ ap (λ (z : List ℕ). A ++ z) (sym (append_assoc s t (drop (at + length (s ++ t)) L)))

pub put-pasted : (L s part : List ℕ) (at k : ℕ) → k ≡ length s → part ≡ s → put_mid at k L part ≡ pasted L at s
put-pasted L s part at k l e = ap₂ (λ (p q : List ℕ). take at L ++ (p ++ q)) e (ap (λ (n : ℕ). drop n (drop at L)) l ∙ drop-drop (length s) at L)

pub two-bytes : (v : ℕ) → v < 65536 → to_le_bytes w16 v ≡ two v
two-bytes v l = let h : v / 256 < 256 = omega arith in ap (λ (k : ℕ). v % 256 ∷ k ∷ []) (mod-eq_of_lt h)

offsets_snoc : (first : ℕ) (ends : List ℕ) (e : ℕ) → offsets_of first (ends ++ (e ∷ [])) ≡ offsets_of first ends ++ two (first + e)
unfolding offsets_of
offsets_snoc first [] e = refl
offsets_snoc first (x ∷ ends) e = ap (λ (z : List ℕ). two (first + x) ++ z) (offsets_snoc first ends e)

pub offsets-length : (first : ℕ) (ends : List ℕ) → length (offsets_of first ends) ≡ 2 * length ends
unfolding offsets_of
offsets-length first [] = refl
offsets-length first (x ∷ ends) = omega (arith, offsets-length first ends)

pub offsets-none : (L ends : List ℕ) (first : ℕ) → L ≡ pasted L shortest (offsets_of first (take 0 ends))
unfolding offsets_of
offsets-none L ends first = sym (take-append-drop shortest L)

pub offsets-all : (L ends : List ℕ) (first i : ℕ) → length ends ≤ i → pasted L shortest (offsets_of first (take i ends)) ≡ pasted L shortest (offsets_of first ends)
offsets-all L ends first i l = ap (λ (z : List ℕ). pasted L shortest (offsets_of first z)) (take_all i ends l)

pub offsets-next : (L ends : List ℕ) (first i : ℕ) (out next : List ℕ) → i < length ends → shortest ≤ length L → out ≡ pasted L shortest (offsets_of first (take i ends))
    → next ≡ pasted out (shortest + 2 * i) (two (first + get_or ends i 0)) → next ≡ pasted L shortest (offsets_of first (take (i + 1) ends))
offsets-next L ends first i out next l h e q =
    q ∙ ap (λ (z : List ℕ). pasted z (shortest + 2 * i) (two (first + get_or ends i 0))) e
    ∙ pasted-more L (offsets_of first (take i ends)) (two (first + get_or ends i 0)) shortest (shortest + 2 * i)
    (omega (arith, offsets-length first (take i ends), length-take-le i ends (omega arith))) h
    ∙ ap (pasted L shortest)
    (sym (ap (offsets_of first) (ap (λ (k : ℕ). take k ends) (add-one i) ∙ take-suc ends i 0 l) ∙ offsets_snoc first (take i ends) (get_or ends i 0)))

pub front_length : (block : List ℕ) (c : ℕ) → length block ≡ block_length → length (front_of block c) ≡ shortest
front_length block c h = omega (arith, length-append block (two c ++ two (shortest + 2 * c)))

pub pack-length : (block ends steps : List ℕ) → length block ≡ block_length → length (pack_from block ends steps) ≡ shortest + 2 * length ends + length steps
unfolding pack_from
pack-length block ends steps h =
    omega (
      arith,
      length-append (front_of block (length ends)) (offsets_of (shortest + 2 * length ends) ends ++ steps),
      length-append (offsets_of (shortest + 2 * length ends) ends) steps,
      front_length block (length ends) h,
      offsets-length (shortest + 2 * length ends) ends,
    )

-- the mark, the block, the count and the first offset, put one after the other
front-put : (L block : List ℕ) (c : ℕ) → length block ≡ block_length
    → pasted (pasted (pasted (pasted L 0 mark) block_at block) count_at (two c)) offsets_at (two (shortest + 2 * c)) ≡ pasted L 0 (front_of block c)
front-put L block c h =
    let z : 0 ≤ length L = omega arith in
    ap (λ (l : List ℕ). pasted (pasted l count_at (two c)) offsets_at (two (shortest + 2 * c))) (pasted-more L mark block 0 4 refl z)
    ∙ ap (λ (l : List ℕ). pasted l offsets_at (two (shortest + 2 * c))) (pasted-more L (mark ++ block) (two c) 0 count_at (omega (arith, length-append mark block)) z)
    ∙ pasted-more L ((mark ++ block) ++ two c) (two (shortest + 2 * c)) 0 offsets_at (omega (arith, length-append (mark ++ block) (two c), length-append mark block)) z
    ∙ ap (pasted L 0) (append_assoc (mark ++ block) (two c) (two (shortest + 2 * c)) ∙ append_assoc mark block (two c ++ two (shortest + 2 * c)))

pub front-all : (L block x y z w : List ℕ) (c : ℕ) → length block ≡ block_length → x ≡ pasted L 0 mark → y ≡ pasted x block_at block → z ≡ pasted y count_at (two c)
    → w ≡ pasted z offsets_at (two (shortest + 2 * c)) → w ≡ pasted L 0 (front_of block c)
front-all L block x y z w c h ex ey ez ew = rw (ew, ez, ey, ex) (front-put L block c h)

pub pack-short : (block ends steps out : List ℕ) → length block ≡ block_length → length out < shortest + 2 * length ends + length steps
    → BuiltAs (written (accepted (pack_from block ends steps)) out) (Err Room) out
pack-short block ends steps out h l = put-short (pack_from block ends steps) out (omega (arith, pack-length block ends steps h))

pub pack-put : (block ends steps out a b after : List ℕ) (first len : ℕ) → length block ≡ block_length → first ≡ shortest + 2 * length ends → len ≡ first + length steps → len ≤ length out
    → a ≡ pasted out 0 (front_of block (length ends)) → b ≡ pasted a shortest (offsets_of (first_of ends) ends) → after ≡ pasted b first steps
    → BuiltAs (written (accepted (pack_from block ends steps)) out) (Ok len) after
unfolding pack_from
pack-put block ends steps out a b after first len h q w l ea eb ec =
    let F : List ℕ = front_of block (length ends) in
    let O : List ℕ = offsets_of (first_of ends) ends in
    let z : 0 ≤ length out = omega arith in
    let fl : length F ≡ shortest = front_length block (length ends) h in
    let two-parts : b ≡ pasted out 0 (F ++ O) = eb ∙ ap (λ (x : List ℕ). pasted x shortest O) ea ∙ pasted-more out F O 0 shortest (omega arith) z in
    let all : after ≡ pasted out 0 ((F ++ O) ++ steps) =
    ec ∙ ap (λ (x : List ℕ). pasted x first steps) two-parts
    ∙ pasted-more out (F ++ O) steps 0 first (omega (arith, length-append F O, offsets-length (first_of ends) ends)) z in
    let same : (F ++ O) ++ steps ≡ pack_from block ends steps =
    append_assoc F O steps in
    let long : len ≡ length (pack_from block ends steps) = omega (arith, pack-length block ends steps h) in
    let zero : 0 + length (pack_from block ends steps) ≡ length (pack_from block ends steps) = omega arith in
    rw long
    (put-room (pack_from block ends steps) out after (omega arith)
    (all ∙ ap (pasted out 0) same ∙ ap (λ (k : ℕ). pack_from block ends steps ++ drop k out) zero))
