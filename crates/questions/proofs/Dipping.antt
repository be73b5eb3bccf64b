-- Dips: the loop that looks for the first rise after a fall, and the refusals before it. Assumes nothing.
--
--   falls-is, rises-is     the tests of a slope on the raised byte
--   found-next             whether a search up to n + 1 finds something
--   not_fallen, not_rising    where the loop goes on
--   lettered, slopes       the bytes of a valid edge of family 6 or 7 are digits of its steps
--   Looking, looking_start, looking_more, dips-at, dips-never    the loop of `first_rise`
--   dip-told, dip-over, dip_kind, dip-walked, dip-stops, dip-digits, dip-value    the answer to a dip, for each way through it
use mathlib.Core.Path.{◌≡◌, refl, sym, ap, ap₂, ◌∙◌, subst}
use mathlib.Core.Bool.{Bool, true, false, ◌&&◌, ◌||◌, and-false}
use mathlib.Core.List.{List, [], ◌∷◌}
use mathlib.Core.Option.{Option, none, some}
use Prim.Native.Nat.{ℕ, zero, suc, ◌+◌, ◌-◌, ◌≤◌, ◌<◌}
use native.Mathlib.Numerals.{add-one}
use native.Mathlib.Nat.{not-suc-le-zero, le_of_suc-le-suc}
use native.Mathlib.Decide.{dec_le}
use native.Mathlib.Omega.{arith}
use lib.Dec.{T, leb, ltb, ltb→lt}
use lib.IntN.{ℤ, pos, negsuc}
use lib.ListN.{length, get_or}
use borrow.Author.Tests.{lt-ltb, le-ltb, le-leb, lt-leb, ltb-true}
use Rattle.std.specs.Prelude as Found
use Rattle.std.specs.Prelude.{Some, None, Result, Ok, Err}
use Rattle.std.proofs.Math.Bool.{or_comm}
use Rattle.howmany.specs.Choose.{pick, only_if}
use Rattle.howmany.specs.Least.{least}
use Rattle.howmany.proofs.Choices.{and_left, and_right, is_true, is_false, holds}
use Rattle.howmany.proofs.Leasts.{least_on, least_at}
use Rattle.rules.specs.Points.{Is, Point, moved, leℤ}
use Rattle.rules.specs.Jobs as rules
use Rattle.rules.specs.Jobs.{Pair, one, steps_of, start_of, stays}
use Rattle.rules.specs.Jobs.Job.{directed}
use Rattle.rules.specs.Valid.{place, at, walks, is_edge, Valid}
use Rattle.rules.specs.Places.{place_of}
use Rattle.rules.specs.Refusals.{Answer, check, and_then}
use Rattle.rules.specs.Refusals.Refusal.{not-an-edge, kind}
use Rattle.rules.specs.Refusals.Answer.{accepted, refused}
use Rattle.rules.specs.Blocks.{family_of, paired, job_answer}
use Rattle.rules.specs.Answers.{known_job, count_answer}
use Rattle.rules.specs.Jobs.{is_directed}
use Rattle.rules.specs.Questions.{slope, fallen, dip_of, dip_answer}
use Rattle.rules.proofs.Letters.{place-letter}
use Rattle.rules.proofs.Slopes.{numbered-length, digit_at}
use Rattle.rules.proofs.Places.{place_none, place-wrong}
use Rattle.rules.proofs.Answering.{known-told, count-known, count-told}
use Rattle.job.specs.declared.Job.{Job}
use Rattle.job.specs.declared.Refusal.{Refusal}
use Rattle.job.specs.declared.Refusal.TheVariants.{NotEdge, Kind}
use Rattle.job.specs.Stands.{Directed, start_held, family_number, Stands}
use Rattle.job.proofs.Sorts.{AsDirected, directed_of, directs}
use Rattle.job.proofs.Sorts.AsDirected.{as_directed}
use Rattle.job.specs.Replies.{reply}
use Rattle.job.proofs.Standing.{Kept, Told}
use Rattle.job.proofs.Says.{value_not, value-one}
use Rattle.walks.specs.Walks.{found, finding, walk_of}
use Rattle.walks.proofs.Finding.{found_is}
use Rattle.calls.proofs.Fitting.{known_of}
use Rattle.questions.specs.Steps.{Slopes, Digits, RisesAs}
use Rattle.questions.proofs.Comparing.{carried}

-- ---- slopes on raised bytes

pub falls-is : (z : ℤ) (p : ℕ) → Is z p 128 → leℤ z (negsuc 0) ≡ ltb p 128
falls-is (pos a) p h = sym (le-ltb p 128 (omega arith))
falls-is (negsuc a) p h = le-leb 0 a (omega arith) ∙ sym (lt-ltb p 128 (omega arith))

pub rises-is : (z : ℤ) (p : ℕ) → Is z p 128 → leℤ (pos 1) z ≡ ltb 128 p
rises-is (pos a) p h = go (dec_le 1 a)
  where
    go : Dec (1 ≤ a) → leb 1 a ≡ ltb 128 p
    go (yes l) = le-leb 1 a l ∙ sym (lt-ltb 128 p (omega arith))
    go (no l) = lt-leb 1 a (omega arith) ∙ sym (le-ltb 128 p (omega arith))
rises-is (negsuc a) p h = sym (le-ltb 128 p (omega arith))

-- ---- the bytes of a valid edge

lettered : (J : rules.Job) (e : List ℕ) (p : Point) → T (walks J p e) → (i : ℕ) → i < length e → place (get_or e i 0) (steps_of J) < length (steps_of J)
unfolding walks
lettered J [] p t i l = absurd (not-suc-le-zero l)
lettered J (b ∷ e) p t zero l =
    let s = at (steps_of J) (place b (steps_of J)) in
    ltb→lt (place b (steps_of J)) (length (steps_of J)) (and_left (ltb (place b (steps_of J)) (length (steps_of J))) (stays J (moved p s) && walks J (moved p s) e) t)
lettered J (b ∷ e) p t (suc i) l =
    let s = at (steps_of J) (place b (steps_of J)) in
    let u = and_right (ltb (place b (steps_of J)) (length (steps_of J))) (stays J (moved p s) && walks J (moved p s) e) t in
    lettered J e (moved p s) (and_right (stays J (moved p s)) (walks J (moved p s) e) u) i (le_of_suc-le-suc l)

module _ (j : Job) (fenced : Bool) (m : ℤ) (pairs : List Pair) (d : Directed j m pairs) (e : List ℕ) where
  abbrev J : rules.Job
  J = directed fenced j.n m (start_held j) pairs

  module _ (t : T (walks J (start_of J) e)) (i : ℕ) (l : i < length e) where
    abbrev here : ℕ
    here = place (get_or e i 0) (steps_of J)

    known : here < length pairs
    known = omega (arith, lettered J e (start_of J) t i l, numbered-length one pairs)

    digit-is : get_or e i 0 ≡ one + here
    digit-is = sym (place-letter (get_or e i 0) (steps_of J) (lettered J e (start_of J) t i l)) ∙ (digit_at one pairs here known).letter

    place_is : here ≡ get_or e i 0 - one
    place_is = omega (arith, digit-is)

    adds : Is (slope J e i) (get_or j.b (get_or e i 0 - one) 0) 128
    adds =
        subst (λ (q : ℕ). Is (slope J e i) (get_or j.b q 0) 128) place_is
        (subst (λ (z : ℤ). Is z (get_or j.b here 0) 128) (sym (digit_at one pairs here known).up) (d.b_is here (omega (arith, known, d.many))))

  directed-slopes : T (walks J (start_of J) e) → Slopes j.b e J
  directed-slopes t = record {
    least = λ i l. omega (arith, digit-is t i l);
    most = λ i l. omega (arith, place_is t i l, known t i l, d.many, d.few);
    adds = adds t;
  }

pub slopes : {j : Job} {J : rules.Job} → Stands j J → (e : List ℕ) → paired (family_number j.family) ≡ true → is_edge J e ≡ true → Slopes j.b e J
slopes st e f t = go (directed_of st f) t
  where
    go : {j : Job} {J : rules.Job} → AsDirected j J → is_edge J e ≡ true → Slopes j.b e J
    go {j} (as_directed fenced {m} {pairs} q d) t = directed-slopes j fenced m pairs d e (holds t)

-- ---- the loop of `first_rise`

pub found-next : (f : ℕ → Bool) (n : ℕ) → ltb (least f (suc n)) (suc n) ≡ f n || ltb (least f n) n
unfolding least
found-next f n = go (ltb (least f n) n) refl (f n)
  where
    go : (t : Bool) → ltb (least f n) n ≡ t → (u : Bool) → ltb (pick t (least f n) (pick u n (suc n))) (suc n) ≡ u || t
    go true e true = lt-ltb (least f n) (suc n) (omega (arith, ltb-true (least f n) n e))
    go true e false = lt-ltb (least f n) (suc n) (omega (arith, ltb-true (least f n) n e))
    go false e true = lt-ltb n (suc n) (omega arith)
    go false e false = le-ltb (suc n) (suc n) (omega arith)

-- where the loop goes on: nothing has fallen yet, or the step doesn't rise
pub not_fallen : (up : ℕ) {down : Bool} → down ≡ false → ltb 128 up && down ≡ false
not_fallen up q = ap (λ (d : Bool). ltb 128 up && d) q ∙ and-false (ltb 128 up)

pub not_rising : {up : ℕ} (down : Bool) → up ≤ 128 → ltb 128 up && down ≡ false
not_rising {up} down l = ap (λ (t : Bool). t && down) (le-ltb 128 up l)

-- a step of e that rises after one that falls
abbrev pub dips : rules.Job → List ℕ → ℕ → Bool
dips J e i = leℤ (pos 1) (slope J e i) && fallen J e i

fallen-next : (J : rules.Job) (e : List ℕ) (i : ℕ) → fallen J e (suc i) ≡ leℤ (slope J e i) (negsuc 0) || fallen J e i
unfolding fallen
fallen-next J e i = found-next (λ (k : ℕ). leℤ (slope J e k) (negsuc 0)) i

dip-at : (J : rules.Job) (e : List ℕ) (j : ℕ) → least (dips J e) (length e) ≡ j → dip_of J e ≡ only_if (ltb j (length e)) j
unfolding dip_of
dip-at J e j q = ap (λ (k : ℕ). only_if (ltb k (length e)) k) q

pub record Seen (J : rules.Job) (e : List ℕ) (down : Bool) (i : ℕ) : Type 0 where
  pub no_dip : least (dips J e) i ≡ i
  pub down_is : down ≡ fallen J e i

pub record Looking (b e : List ℕ) (down : Bool) (i : ℕ) : Type 0 where
  pub i_most : i ≤ length e
  pub job : rules.Job
  pub digits : Slopes b e job
  pub seen : (J : rules.Job) → Slopes b e J → Seen J e down i

pub looking_start : {j : Job} {e : List ℕ} → Digits j e → Looking j.b e false 0
unfolding least fallen
looking_start d = record {
  i_most = omega arith;
  job = d.job;
  digits = d.slopes;
  seen = λ J s. record { no_dip = refl; down_is = refl };
}

module _ {b e : List ℕ} {down : Bool} {i : ℕ} (w : Looking b e down i) where
  module _ (l : i < length e) {up : ℕ} (q : up ≡ get_or b (get_or e i 0 - one) 0) where
    falls : (J : rules.Job) → Slopes b e J → leℤ (slope J e i) (negsuc 0) ≡ ltb up 128
    falls J s = falls-is (slope J e i) (get_or b (get_or e i 0 - one) 0) (s.adds i l) ∙ ap (λ (p : ℕ). ltb p 128) (sym q)

    dip-is : (J : rules.Job) → Slopes b e J → dips J e i ≡ ltb 128 up && down
    dip-is J s =
        ap₂ ◌&&◌ (rises-is (slope J e i) (get_or b (get_or e i 0 - one) 0) (s.adds i l) ∙ ap (ltb 128) (sym q)) (sym (w.seen J s).down_is)

    pub dips-at : 128 < up → down ≡ true → (J : rules.Job) → Slopes b e J → Some i ≡ found (dip_of J e)
    dips-at h d J s =
        let dipped : dips J e i ≡ true = dip-is J s ∙ ap₂ ◌&&◌ (lt-ltb 128 up h) d in
        sym (ap found (dip-at J e i (least_at (dips J e) i (length e) (w.seen J s).no_dip dipped l) ∙ ap (λ (t : Bool). only_if t i) (lt-ltb i (length e) l)))

    pub looking_more : ltb 128 up && down ≡ false → Looking b e (down || ltb up 128) (i + 1)
    looking_more h = record {
      i_most = omega arith;
      job = w.job;
      digits = w.digits;
      seen = λ J s. rw (add-one i) (record {
        no_dip = least_on (dips J e) i (w.seen J s).no_dip (dip-is J s ∙ h);
        down_is = or_comm down (ltb up 128) ∙ ap₂ ◌||◌ (sym (falls J s)) (w.seen J s).down_is ∙ sym (fallen-next J e i);
      });
    }

  pub dips-never : length e ≤ i → (J : rules.Job) → Slopes b e J → None ≡ found (dip_of J e)
  dips-never l J s =
      let q : i ≡ length e = omega (arith, w.i_most) in
      sym (ap found (dip-at J e (length e) (subst (λ (k : ℕ). least (dips J e) k ≡ k) q (w.seen J s).no_dip) ∙ ap (λ (t : Bool). only_if t (length e)) (le-ltb (length e) (length e) (omega arith))))

-- ---- the replies

module _ (block e : List ℕ) where
  -- what is asked of the job
  abbrev asks : rules.Job → Answer (Option ℕ)
  asks J = check (is_directed J) kind (check (is_edge J e) not-an-edge (accepted (dip_of J e)))

  dip_then : (a : Answer rules.Job) → known_job block ≡ a → dip_answer block e ≡ and_then a asks
  unfolding dip_answer
  dip_then a q = ap (λ (x : Answer rules.Job). and_then x asks) q

  pub dip-told : {k : Refusal} → Told block k → Err k ≡ finding (dip_answer block e)
  dip-told t = ap Err t.name ∙ ap finding (sym (dip_then (refused t.refusal) (known-told block t.refusal t.answer)))

  pub dip-over : {k : Refusal} → Err k ≡ reply (count_answer block) → Err k ≡ finding (dip_answer block e)
  dip-over {k} h = go (known_job block) refl
    where
      go : (a : Answer rules.Job) → known_job block ≡ a → Err k ≡ finding (dip_answer block e)
      go (accepted J) q = absurd (value_not (sym (h ∙ ap reply (count-known block J q))))
      go (refused x) q = carried (h ∙ ap reply (count-told block x q)) ∙ ap finding (sym (dip_then (refused x) q))

  module _ {j : Job} (h : Kept block j) {n : ℕ} (v : Ok n ≡ reply (count_answer block)) where
    fitting : known_job block ≡ accepted h.job
    fitting = let k = known_of block n v in k.answer ∙ sym k.made ∙ h.answer

    dip-asked : (d t : Bool) → paired (family_of block) ≡ d → is_edge h.job e ≡ t → dip_answer block e ≡ check d kind (check t not-an-edge (accepted (dip_of h.job e)))
    dip-asked d t p q =
        dip_then (accepted h.job) fitting
        ∙ ap₂ (λ (d t : Bool). check d kind (check t not-an-edge (accepted (dip_of h.job e)))) (directs h.stands ∙ ap paired h.family ∙ p) q

    pub dip_kind : paired (family_of block) ≡ false → Err Kind ≡ finding (dip_answer block e)
    dip_kind p = sym (ap finding (dip-asked false (is_edge h.job e) p refl))

    -- what the walk says of the string; it isn't refused
    module _ {r : Result (Found.Option ℕ) Refusal} (w : r ≡ finding (walk_of (job_answer block) e)) where
      walked : r ≡ Ok (found (place_of h.job e))
      walked = w ∙ ap (λ (a : Answer rules.Job). finding (walk_of a e)) h.answer

      pub dip-walked : {k : Refusal} → r ≡ Err k → ⊥
      dip-walked q = value_not (sym walked ∙ q)

      module _ (p : paired (family_of block) ≡ true) where
        pub dip-stops : {i : ℕ} → r ≡ Ok (Some i) → Err NotEdge ≡ finding (dip_answer block e)
        unfolding Valid
        dip-stops {i} q =
            let z : some i ≡ place_of h.job e = found_is (Some i) (place_of h.job e) (value-one (sym q ∙ walked)) in
            sym (ap finding (dip-asked true false p (is_false (is_edge h.job e) ((place-wrong h.job e i).0 (sym z)).invalid)))

        module _ (q : r ≡ Ok None) where
          valid : is_edge h.job e ≡ true
          unfolding Valid
          valid =
              let z : none ≡ place_of h.job e = found_is None (place_of h.job e) (value-one (sym q ∙ walked)) in
              is_true (is_edge h.job e) ((place_none h.job e).1 (sym z))

          pub dip-digits : Digits j e
          dip-digits = record { job = h.job; slopes = slopes h.stands e (ap paired h.family ∙ p) valid }

          pub dip-value : (o : Found.Option ℕ) → RisesAs j e o → Ok o ≡ finding (dip_answer block e)
          unfolding dip-digits
          dip-value o f = ap Ok (f h.job dip-digits.slopes) ∙ ap finding (sym (dip-asked true true p valid))
