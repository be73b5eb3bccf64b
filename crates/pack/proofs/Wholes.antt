-- Laws of a pack that is numbered whole, for the code that does it. Assumes nothing.
--
--   kept-none, kept-all    no number is written, or all
--   gathered-front         the edges asked alone, by the numbers up to the first that isn't valid
--   WholeSays, whole_says    what is told of a pack, by what was told of its edges
--   whole-bad              a pack whose layout is broken; whole-laid: one whose layout is kept
use mathlib.Core.Path.{◌≡◌, refl, sym, ap, ◌∙◌}
use mathlib.Core.Bool.{Bool, true, false}
use mathlib.Core.List.{List, [], ◌∷◌, ◌++◌, map}
use Prim.Native.Nat.{ℕ, suc, ◌≤◌, ◌<◌}
use native.Mathlib.Decide.{dec_lt}
use native.Mathlib.Omega.{arith}
use lib.Dec.{ltb}
use lib.ListN.{length, take, drop, length-append, length-drop}
use lib.Seq.{take_at, length-take-le}
use borrow.Author.Tests.{le-leb, lt-leb, lt-ltb, le-ltb}
use Rattle.std.specs.Prelude.{Result, Ok, Err}
use Rattle.howmany.specs.Choose.{pick}
use Rattle.rules.specs.Jobs.{Job}
use Rattle.rules.specs.Valid.{is_edge}
use Rattle.rules.specs.Numbers.{number_of}
use Rattle.rules.specs.Refusals as rules
use Rattle.rules.specs.Refusals.{Answer, refusal_number, and_then}
use Rattle.rules.specs.Refusals.Answer.{accepted, refused}
use Rattle.rules.specs.Answers.{known_job, number_answer}
use Rattle.rules.specs.Packs.{block_in, laid, pack_of}
use Rattle.rules.specs.Whole.{Gathered, Indexed, more, gathered, listed, numbers_in, numbers_answer}
use Rattle.rules.specs.Whole.Gathered.{all, fault}
use Rattle.rules.specs.Whole.Indexed.{value as counted, refusal as refused-with, bad_edge}
use Rattle.rules.proofs.Answering.{number-known}
use Rattle.job.specs.declared.Refusal.{Refusal}
use Rattle.job.specs.declared.Refusal.TheVariants.{BadPack}
use Rattle.job.specs.Replies as replies
use Rattle.job.proofs.Says.{value-one, value_not, refusal-one, named_number}
use Rattle.lines.specs.declared.Unanswered.{Unanswered}
use Rattle.lines.specs.declared.Unanswered.TheVariants.{NoRoom, Refused as Unfit}
use Rattle.lines.specs.Lines.{listed as listed_as, refusal_for}
use Rattle.lines.specs.Ranks.{front_by, ranks_of, ranks_answer, ranked, ranks, Ranks, RanksAs}
use Rattle.pack.specs.Layout.{edges_in}
use Rattle.pack.specs.Replies.{numbers_says}
use Rattle.pack.specs.Whole.{ListedAs, told_of, KeptAs, NumberedAs}
use Rattle.pack.specs.declared.Fault.{Fault}
use Rattle.pack.specs.declared.Fault.TheVariants.{NotEdge, Refused}

-- ---- what is kept

value_alone : (x : Fault) {c : ℕ} → numbers_says (Err x) ≡ counted c → ⊥
value_alone (NotEdge i) e = let z : ◌≡◌ {A = ℕ} 0 1 = cc in omega arith
value_alone (Refused r) e = let z : ◌≡◌ {A = ℕ} 0 1 = cc in omega arith

bad-edge_not : {c i : ℕ} → counted c ≡ bad_edge i → ⊥
bad-edge_not e = let z : ◌≡◌ {A = ℕ} 0 1 = cc in omega arith

refusal_not : {c r : ℕ} → counted c ≡ refused-with r → ⊥
refusal_not e = let z : ◌≡◌ {A = ℕ} 0 1 = cc in omega arith

count-one : {c d : ℕ} → counted c ≡ counted d → c ≡ d
count-one e = cc

module _ (n : ℕ) (kept list : List ℕ) where
  abbrev told : Indexed ℕ
  told = told_of n (length kept) (length list)

  pub kept-none : (x : Fault) → numbers_says (Err x) ≡ told → KeptAs n kept list (Err x) list
  unfolding listed refusal_number
  kept-none x e = go (dec_lt n (length kept)) (dec_lt (length list) (length kept)) e
    where
      go : Dec (n < length kept) → Dec (length list < length kept) → numbers_says (Err x) ≡ told → KeptAs n kept list (Err x) list
      go (yes l) s f = let b = lt-ltb n (length kept) l in rw b (record { says = rw b at f; list_is = refl })
      go (no l) (yes s) f =
          let b = le-ltb n (length kept) (omega arith) in
          let d = lt-leb (length kept) (length list) s in
          rw (b, d) (record { says = rw (b, d) at f; list_is = refl })
      go (no l) (no s) f = absurd (value_alone x (rw (le-ltb n (length kept) (omega arith), le-leb (length kept) (length list) (omega arith)) at f))

  record Fits (c : ℕ) : Type 0 where
    passed : length kept ≤ n
    whole : c ≡ length kept
    room : c ≤ length list

  kept-fits : {c : ℕ} → numbers_says (Ok c) ≡ told → Fits c
  kept-fits {c} e = go (dec_lt n (length kept)) (dec_lt (length list) (length kept)) e
    where
      go : Dec (n < length kept) → Dec (length list < length kept) → numbers_says (Ok c) ≡ told → Fits c
      go (yes l) s f = absurd (bad-edge_not (rw (lt-ltb n (length kept) l) at f))
      go (no l) (yes s) f = absurd (refusal_not (rw (le-ltb n (length kept) (omega arith), lt-leb (length kept) (length list) s) at f))
      go (no l) (no s) f =
          let q : c ≡ length kept = count-one (rw (le-ltb n (length kept) (omega arith), le-leb (length kept) (length list) (omega arith)) at f) in
          record { passed = omega arith; whole = q; room = omega arith }

  pub kept-all : {c : ℕ} {after : List ℕ} → numbers_says (Ok c) ≡ told → after ≡ kept ++ drop c list → KeptAs n kept list (Ok c) after
  unfolding listed
  kept-all {c} {after} e h =
      let w : Fits c = kept-fits e in
      let l : length kept ≤ length list = omega (arith, w.whole, w.room) in
      rw (le-ltb n (length kept) w.passed, le-leb (length kept) (length list) l)
      (record { says = ap counted w.whole; list_is = h ∙ ap (λ (m : ℕ). kept ++ drop m list) w.whole })

-- ---- the edges asked alone

module _ (b : List ℕ) (J : Job) (known : known_job b ≡ accepted J) where
  -- all numbers, or the index of the first edge that has none
  abbrev upto : List ℕ → ℕ → Gathered ℕ
  upto ns many = pick (ltb (length ns) many) (fault (length ns)) (all ns)

  upto-more : (v : ℕ) (ns : List ℕ) (many : ℕ) → more v (upto ns many) ≡ upto (v ∷ ns) (suc many)
  upto-more v ns many = go (dec_lt (length ns) many)
    where
      go : Dec (length ns < many) → more v (upto ns many) ≡ upto (v ∷ ns) (suc many)
      go (yes l) = rw (lt-ltb (length ns) many l, lt-ltb (suc (length ns)) (suc many) (omega arith)) refl
      go (no l) = rw (le-ltb (length ns) many (omega arith), le-ltb (suc (length ns)) (suc many) (omega arith)) refl

  pub gathered-front : (es : List (List ℕ)) → gathered (map (number_answer b) es) ≡ upto (ranks_of J es) (length es)
  unfolding gathered front_by
  gathered-front [] = refl
  gathered-front (e ∷ es) = go (is_edge J e) refl (gathered-front es)
    where
      go : (t : Bool) → is_edge J e ≡ t → gathered (map (number_answer b) es) ≡ upto (ranks_of J es) (length es)
          → gathered (number_answer b e ∷ map (number_answer b) es) ≡ upto (pick (is_edge J e) (number_of J e ∷ ranks_of J es) []) (suc (length es))
      go true q ih = rw (number-known b e J known, q) (ap (more (number_of J e)) ih ∙ upto-more (number_of J e) (ranks_of J es) (length es))
      go false q ih = rw (number-known b e J known, q, lt-ltb 0 (suc (length es)) (omega arith)) refl

  front-most : (es : List (List ℕ)) → length (ranks_of J es) ≤ length es
  unfolding front_by
  front-most [] = omega arith
  front-most (e ∷ es) = go (is_edge J e) (front-most es)
    where
      go : (t : Bool) → length (ranks_of J es) ≤ length es → length (pick t (number_of J e ∷ ranks_of J es) []) ≤ suc (length es)
      go true l = omega arith
      go false l = omega arith

-- ---- what is told of a pack

same-told : (fr before kept : List ℕ) (n c e : ℕ) → n ≡ length fr → kept ≡ fr ++ drop n before → length fr ≤ c → e ≡ c → length (take c kept) ≡ c
    → pick {A = Gathered ℕ} (ltb (length fr) e) (fault (length fr)) (all fr) ≡ pick (ltb n (length (take c kept))) (fault n) (all (take c kept))
same-told fr before kept n c e m k most many front = go (dec_lt n c)
  where
    go : Dec (n < c) → pick {A = Gathered ℕ} (ltb (length fr) e) (fault (length fr)) (all fr) ≡ pick (ltb n (length (take c kept))) (fault n) (all (take c kept))
    go (yes l) = rw (lt-ltb (length fr) e (omega arith), lt-ltb n (length (take c kept)) (omega arith)) (ap fault (sym m))
    go (no l) =
        let long : length fr ≡ c = omega arith in
        rw (le-ltb (length fr) e (omega arith), le-ltb n (length (take c kept)) (omega arith)) (ap all (sym (ap (take c) k ∙ take_at fr (drop n before) c long)))

-- what each case of the answer about the edges says of the pack
abbrev pub WholeSays : List ℕ → List ℕ → List ℕ → ℕ → Result ℕ Unanswered → Type 0
WholeSays p list kept c (Ok n) = (r : Result ℕ Fault) (after : List ℕ) → KeptAs n (take c kept) list r after → NumberedAs p list r after
WholeSays p list kept c (Err y) = NumberedAs p list (Err (Refused (refusal_for y))) list

room_not : {r : Refusal} → ◌≡◌ {A = Unanswered} NoRoom (Unfit r) → ⊥
room_not e = let z : ◌≡◌ {A = ℕ} 0 1 = cc in omega arith

unfit-one : {r s : Refusal} → ◌≡◌ {A = Unanswered} (Unfit r) (Unfit s) → r ≡ s
unfit-one e = cc

module _ (p list before kept : List ℕ) (c : ℕ) (many : length (edges_in p) ≡ c) (room : c ≤ length before) where
  -- what is told where there is room
  abbrev asked : Answer (List ℕ) → Ranks
  asked a = let w = ranked a before in record { told = listed_as w.answer; numbers = w.numbers }

  numbered : (J : Job) → known_job (block_in p) ≡ accepted J → (n : ℕ) → n ≡ length (ranks_of J (edges_in p)) → kept ≡ ranks_of J (edges_in p) ++ drop n before
      → gathered (map (number_answer (block_in p)) (edges_in p)) ≡ pick (ltb n (length (take c kept))) (fault n) (all (take c kept))
  numbered J q n m k =
      let fr : List ℕ = ranks_of J (edges_in p) in
      let most : length fr ≤ c = omega (arith, front-most (block_in p) J q (edges_in p), many) in
      let long : length kept ≡ length before = ap length k ∙ (omega (arith, length-append fr (drop n before), length-drop n before, m, most, room)) in
      let front : length (take c kept) ≡ c = length-take-le c kept (omega (arith, long, room)) in
      gathered-front (block_in p) J q (edges_in p) ∙ same-told fr before kept n c (length (edges_in p)) m k most many front

  told_of_lem : (J : Job) → known_job (block_in p) ≡ accepted J → (x : Result ℕ Unanswered) → RanksAs (asked (accepted (ranks_of J (edges_in p)))) x kept → WholeSays p list kept c x
  unfolding ranked
  told_of_lem J q (Ok n) w =
      let m : n ≡ length (ranks_of J (edges_in p)) = value-one w.says in
      λ r after k. rw (q, numbered J q n m (w.numbers_are ∙ ap (λ (z : ℕ). ranks_of J (edges_in p) ++ drop z before) (sym m))) k
  told_of_lem J q (Err y) w = absurd (value_not (sym w.says))

  untold : (r : rules.Refusal) → known_job (block_in p) ≡ refused r → (x : Result ℕ Unanswered) → RanksAs (asked (refused r)) x kept → WholeSays p list kept c x
  unfolding ranked listed
  untold r q (Ok n) w = absurd (value_not w.says)
  untold r q (Err NoRoom) w = absurd (room_not (refusal-one w.says))
  untold r q (Err (Unfit k)) w =
      rw q (record { says = ap refused-with (ap replies.number_of (unfit-one (refusal-one w.says)) ∙ named_number r); list_is = refl })

  pub whole_says : (x : Result ℕ Unanswered) → RanksAs (ranks (ranks_answer (block_in p) (edges_in p)) c before) x kept → WholeSays p list kept c x
  unfolding ranks_answer ranks
  whole_says x w = go (known_job (block_in p)) refl (rw (le-leb c (length before) room) at w)
    where
      go : (a : Answer Job) → known_job (block_in p) ≡ a → RanksAs (asked (and_then a (λ J. accepted (ranks_of J (edges_in p))))) x kept → WholeSays p list kept c x
      go (accepted J) q v = told_of_lem J q x v
      go (refused r) q v = untold r q x v

pub whole-bad : (p list : List ℕ) (r : Refusal) → r ≡ BadPack → laid p ≡ false → ListedAs (numbers_answer p list) (Err (Refused r)) list
unfolding numbers_answer numbers_in pack_of listed refusal_number
whole-bad p list r e q = rw (q, e) (record { says = refl; list_is = refl })

pub whole-laid : (p b list : List ℕ) (r : Result ℕ Fault) (after : List ℕ) → b ≡ p → laid b ≡ true → NumberedAs b list r after → ListedAs (numbers_answer p list) r after
unfolding numbers_answer numbers_in pack_of
whole-laid p b list r after e q w = rw (sym e, q) w
