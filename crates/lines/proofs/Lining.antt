-- Laws of edges written one after the other, for any way g from a number to its edge. Assumes nothing.
--
--   room-few, room_for      what has_room answers; room_of: what that means
--   Lining g ns i at ..    the edges of the first i numbers are written, and end at `at`
--   lining_none, lining_next, lining_all    none of them, one more, all of them; lining_room, lining_part: there is room for one more
--   widened_reply, narrowed_listed    an answer told of a list, and back
--   lined-refused, lines-short, lines-room   a refusal; no room; room; lines-built: the answer, where there is room
use mathlib.Core.Path.{◌≡◌, refl, sym, ap, ap₂, ◌∙◌}
use mathlib.Core.Bool.{true, false}
use mathlib.Core.List.{List, [], ◌∷◌, ◌++◌, map, append-nil, append_assoc, map-append}
use Prim.Native.Nat.{ℕ, suc, ◌+◌, ◌*◌, ◌-◌, ◌/◌, ◌≤◌, ◌<◌}
use native.Mathlib.Decide.{dec_le}
use native.Mathlib.Numerals.{add-one}
use native.Mathlib.Omega.{arith}
use lib.Dec.{T, leb, leb→le}
use lib.ListN.{length, get_or, take, drop, set, length-append, length-drop, length-set, length-map, drop_of_length-le}
use lib.Seq.{take-suc, take-length, length-take-le, take_at, drop_at, drop-drop, take_all}
use borrow.Rule.Slice.PartMut.{put_mid, same_len_mid}
use borrow.Author.Tests.{le-leb, lt-leb}
use Rattle.howmany.proofs.Choices.{and_left, and_right, holds}
use Rattle.rules.specs.Refusals as refusals
use Rattle.rules.specs.Refusals.Answer.{accepted, refused}
use Rattle.rules.specs.Packs.{joined}
use Rattle.std.specs.Prelude.{Result, Ok, Err}
use Rattle.job.specs.declared.Refusal.{Refusal}
use Rattle.job.specs.Replies.{named, reply}
use Rattle.job.proofs.Puts.{put_byte}
use Rattle.lines.specs.declared.Unanswered.{Unanswered}
use Rattle.lines.specs.declared.Unanswered.TheVariants.{NoRoom}
use Rattle.lines.specs.Lines.{ends_from, roomy, Room, lined, LinedAs, listed, widened, narrowed, lines, WroteAs}

-- ---- room

pub room-few : (many steps ends : ℕ) → ends < many → false ≡ roomy many steps ends
room-few many steps ends l = sym (rw (lt-leb many ends l) refl)

pub room_for : (many steps ends : ℕ) → many ≤ ends → leb many (steps / 128) ≡ roomy many steps ends
room_for many steps ends l = go (dec_le (128 * many) steps)
  where
    go : Dec (128 * many ≤ steps) → leb many (steps / 128) ≡ roomy many steps ends
    go (yes h) = le-leb many (steps / 128) (omega arith) ∙ sym (rw (le-leb many ends l, le-leb (128 * many) steps h) refl)
    go (no h) = lt-leb many (steps / 128) (omega arith) ∙ sym (rw (le-leb many ends l, lt-leb (128 * many) steps (omega arith)) refl)

pub room_of : (many steps ends : ℕ) → roomy many steps ends ≡ true → Room many steps ends
room_of many steps ends e =
    let t : T (roomy many steps ends) = holds e in
    record {
      for_steps = leb→le (128 * many) steps (and_right (leb many ends) (leb (128 * many) steps) t);
      for_ends = leb→le many ends (and_left (leb many ends) (leb (128 * many) steps) t);
    }

-- ---- one edge more

joined_snoc : (es : List (List ℕ)) (e : List ℕ) → joined (es ++ (e ∷ [])) ≡ joined es ++ e
unfolding joined
joined_snoc [] e = append-nil e
joined_snoc (x ∷ es) e = ap (λ (z : List ℕ). x ++ z) (joined_snoc es e) ∙ sym (append_assoc x (joined es) e)

ends_snoc : (at : ℕ) (es : List (List ℕ)) (e : List ℕ) → ends_from at (es ++ (e ∷ [])) ≡ ends_from at es ++ ((at + length (joined es) + length e) ∷ [])
unfolding ends_from joined
ends_snoc at [] e = ap (λ (z : ℕ). z ∷ []) (let q : at + length e ≡ at + 0 + length e = omega arith in q)
ends_snoc at (x ∷ es) e =
    let q : at + length x + length (joined es) + length e ≡ at + length (x ++ joined es) + length e = omega (arith, length-append x (joined es)) in
    ap (λ (z : List ℕ). (at + length x) ∷ z) (ends_snoc (at + length x) es e ∙ ap (λ (z : ℕ). ends_from (at + length x) es ++ (z ∷ [])) q)

map_next : (g : ℕ → List ℕ) (ns : List ℕ) (i : ℕ) → i < length ns → map g (take (i + 1) ns) ≡ map g (take i ns) ++ (g (get_or ns i 0) ∷ [])
map_next g ns i l =
    ap (λ (k : ℕ). map g (take k ns)) (add-one i) ∙ ap (map g) (take-suc ns i 0 l) ∙ map-append g (take i ns) (get_or ns i 0 ∷ [])

pub length-ends : (at : ℕ) (es : List (List ℕ)) → length (ends_from at es) ≡ length es
unfolding ends_from
length-ends at [] = refl
length-ends at (e ∷ es) = ap suc (length-ends (at + length e) es)

pub record Lining (g : ℕ → List ℕ) (ns steps₀ ends₀ : List ℕ) (i at : ℕ) (steps ends : List ℕ) : Type 0 where
  pub room : Room (length ns) (length steps₀) (length ends₀)
  pub passed : i ≤ length ns
  pub bytes : steps ≡ joined (map g (take i ns)) ++ drop at steps₀
  pub places : ends ≡ ends_from 0 (map g (take i ns)) ++ drop i ends₀
  pub end : at ≡ length (joined (map g (take i ns)))
  pub most : at ≤ 128 * i
  pub as_long : length steps ≡ length steps₀
  pub as_many : length ends ≡ length ends₀

pub lining_none : (g : ℕ → List ℕ) (ns steps ends : List ℕ) → Room (length ns) (length steps) (length ends) → Lining g ns steps ends 0 0 steps ends
unfolding joined ends_from
lining_none g ns steps ends r =
    record {
      room = r;
      passed = omega arith;
      bytes = refl;
      places = refl;
      end = refl;
      most = omega arith;
      as_long = refl;
      as_many = refl;
    }

module _ (g : ℕ → List ℕ) (ns steps₀ ends₀ : List ℕ) (i at : ℕ) (steps ends : List ℕ) (so : Lining g ns steps₀ ends₀ i at steps ends) where
  -- there is room for one more
  pub lining_room : i < length ns → at + 128 ≤ length steps
  lining_room l = omega (arith, so.room.for_steps, so.most, so.as_long)

  pub lining_part : i < length ns → 128 ≤ length (take (length steps - at) (drop at steps))
  lining_part l =
      let h = lining_room l in
      omega (arith, ap length (take_all (length steps - at) (drop at steps) (omega (arith, length-drop at steps))), length-drop at steps)

  -- an edge of n steps written at `at`, and its end noted
  pub lining_next : (n : ℕ) (part : List ℕ) → i < length ns → n ≡ length (g (get_or ns i 0)) → n ≤ 128
      → part ≡ g (get_or ns i 0) ++ drop n (take (length steps - at) (drop at steps))
      → Lining g ns steps₀ ends₀ (i + 1) (at + n) (put_mid at (length steps - at) steps part) (set ends i (at + n))
  lining_next n part l q m w =
      let a : at + 128 ≤ length steps = lining_room l in
      let h : i < length ends₀ = omega (arith, so.room.for_ends) in
      let e : List ℕ = g (get_or ns i 0) in
      let es : List (List ℕ) = map g (take i ns) in
      let step : map g (take (i + 1) ns) ≡ es ++ (e ∷ []) = map_next g ns i l in
      let front : take at steps ≡ joined es = ap (take at) so.bytes ∙ take_at (joined es) (drop at steps₀) at (sym so.end) in
      let back : drop at steps ≡ drop at steps₀ = ap (drop at) so.bytes ∙ drop_at (joined es) (drop at steps₀) at (sym so.end) in
      let long : length (drop at steps) ≡ length steps - at = length-drop at steps in
      let tail : take (length steps - at) (drop at steps) ≡ drop at steps₀ = take_all (length steps - at) (drop at steps) (omega arith) ∙ back in
      let none : drop (length steps - at) (drop at steps) ≡ [] = drop_of_length-le (drop at steps) {i = length steps - at} (omega arith) in
      let part-is : part ≡ e ++ drop (at + n) steps₀ = w ∙ ap (λ (z : List ℕ). e ++ drop n z) tail ∙ ap (λ (z : List ℕ). e ++ z) (drop-drop n at steps₀) in
      let more : at + n ≡ 0 + length (joined es) + length e = omega (arith, so.end) in
      let wide : length (ends_from 0 es) ≡ i = length-ends 0 es ∙ length-map (take i ns) g ∙ length-take-le i ns (omega arith) in
      record {
        room = so.room;
        passed = omega arith;
        bytes =
            ap₂ (λ (x y : List ℕ). x ++ (part ++ y)) front none
            ∙ ap (λ (z : List ℕ). joined es ++ z) (append-nil part ∙ part-is)
            ∙ sym (append_assoc (joined es) e (drop (at + n) steps₀))
            ∙ ap (λ (z : List ℕ). z ++ drop (at + n) steps₀) (sym (ap joined step ∙ joined_snoc es e));
        places =
            ap (λ (z : List ℕ). set z i (at + n)) so.places ∙ put_byte (ends_from 0 es) ends₀ i (at + n) wide h
            ∙ ap (λ (z : List ℕ). z ++ drop (i + 1) ends₀)
            (ap (λ (z : ℕ). ends_from 0 es ++ (z ∷ [])) more ∙ sym (ap (ends_from 0) step ∙ ends_snoc 0 es e));
        end = omega (arith, so.end, ap length (ap joined step ∙ joined_snoc es e), length-append (joined es) e);
        most = omega (arith, so.most);
        as_long =
            same_len_mid at (length steps - at) steps part
            (omega (
              arith,
              ap length w,
              length-append e (drop n (take (length steps - at) (drop at steps))),
              length-drop n (take (length steps - at) (drop at steps)),
              lining_part l,
            ))
            ∙ so.as_long;
        as_many = length-set ends i (at + n) ∙ so.as_many;
      }

  pub lining_all : i ≡ length ns → LinedAs (lined (accepted (map g ns)) steps₀ ends₀) (Ok at) steps ends
  unfolding lined
  lining_all q =
      let all : take i ns ≡ ns = ap (λ (k : ℕ). take k ns) q ∙ take-length ns in
      let at-is : at ≡ length (joined (map g ns)) = so.end ∙ ap (λ (l : List ℕ). length (joined (map g l))) all in
      let many : i ≡ length (map g ns) = q ∙ sym (length-map ns g) in
      record {
        says = ap (λ (n : ℕ). (let r : Result ℕ Refusal = Ok n in r)) at-is;
        bytes = so.bytes ∙ ap₂ (λ (l : List ℕ) (k : ℕ). joined (map g l) ++ drop k steps₀) all at-is;
        places = so.places ∙ ap₂ (λ (l : List ℕ) (k : ℕ). ends_from 0 (map g l) ++ drop k ends₀) all many;
      }

-- ---- refusals

pub lined-refused : (a : refusals.Answer (List (List ℕ))) (x : refusals.Refusal) (r : Refusal) (steps ends : List ℕ) → a ≡ refused x → r ≡ named x → LinedAs (lined a steps ends) (Err r) steps ends
unfolding lined
lined-refused a x r steps ends e q = rw (e, q) (record { says = refl; bytes = refl; places = refl })

pub widened_reply : {A : Type 0} (a : refusals.Answer A) → widened (reply a) ≡ listed a
widened_reply (accepted a) = refl
widened_reply (refused r) = refl

pub narrowed_listed : {A : Type 0} (a : refusals.Answer A) → narrowed (listed a) ≡ reply a
narrowed_listed (accepted a) = refl
narrowed_listed (refused r) = refl

pub lines-short : (a : refusals.Answer (List (List ℕ))) (ns steps ends : List ℕ) → roomy (length ns) (length steps) (length ends) ≡ false
    → WroteAs (lines a ns steps ends) (Err NoRoom) steps ends
unfolding lines
lines-short a ns steps ends e = rw e (record { says = refl; bytes = refl; places = refl })

pub lines-room : (a : refusals.Answer (List (List ℕ))) (ns steps ends : List ℕ) (r : Result ℕ Refusal) (s t : List ℕ) → roomy (length ns) (length steps) (length ends) ≡ true
    → LinedAs (lined a steps ends) r s t → WroteAs (lines a ns steps ends) (widened r) s t
unfolding lines
lines-room a ns steps ends r s t e w =
    rw e (record { says = ap widened w.says ∙ widened_reply (lined a steps ends).answer; bytes = w.bytes; places = w.places })

-- where there is room, what was written is an answer
pub lines-built : (a : refusals.Answer (List (List ℕ))) (ns steps ends : List ℕ) (w : Result ℕ Unanswered) (r : Result ℕ Refusal) (s t : List ℕ) → Room (length ns) (length steps) (length ends)
    → r ≡ narrowed w → WroteAs (lines a ns steps ends) w s t → LinedAs (lined a steps ends) r s t
unfolding lines
lines-built a ns steps ends x r s t h e w =
    let v : WroteAs (record { told = listed (lined a steps ends).answer; steps = (lined a steps ends).steps; ends = (lined a steps ends).ends }) x s t =
    rw (le-leb (length ns) (length ends) h.for_ends, le-leb (128 * length ns) (length steps) h.for_steps) at w in
    record { says = e ∙ ap narrowed v.says ∙ narrowed_listed (lined a steps ends).answer; bytes = v.bytes; places = v.places }
