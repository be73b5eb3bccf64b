-- A pack that is numbered whole is numbered as its edges are asked alone, and refused as every question on a pack. Assumes nothing.
--
--   Each, gathered-all       all answers of a list are accepted, and their values
--   Stopped, gathered-fault  one is refused, and which is the first
--   listed-value, listed-fault, listed-refusal    what is answered, and the list after it
--   numbers-value, numbers-fault, numbers-refusal    document 02's sentences on each of the three
--   numbers_index            an index is at most 199
--   numbers-read, numbers-bad, numbers-unread    where a question on the pack is accepted, where it is refused with 5, and where otherwise
--   numbers-number           a refusal number that is told is neither 0 nor 5, and no more than a byte
use mathlib.Core.Path.{◌≡◌, refl, sym, ap, ap₂, ◌∙◌, subst}
use mathlib.Core.Bool.{Bool, true, false, not, ◌&&◌}
use mathlib.Core.List.{List, [], ◌∷◌, ◌++◌, map}
use Prim.Native.Nat.{ℕ, zero, suc, ◌+◌, ◌-◌, ◌≤◌, ◌<◌}
use native.Mathlib.Nat.{zero-add}
use native.Mathlib.Omega.{arith}
use lib.Dec.{T, leb, leb→le}
use lib.ListN.{length, get_or, drop, length-append, length-drop, length-map}
use lib.Seq.{get_or-take, get_or-drop, get_or-append-add, take-append_seam}
use Rattle.howmany.specs.Choose.{pick}
use Rattle.howmany.proofs.Choices.{is_true}
use Rattle.rules.specs.Refusals.{Answer, Refusal, refusal_number, check, and_then}
use Rattle.rules.specs.Refusals.Refusal.{form, size, twin, over, not-an-edge, beyond, room, bad-pack, no-such-edge, many, kind}
use Rattle.rules.specs.Refusals.Answer.{accepted, refused}
use Rattle.rules.specs.Jobs.{Job}
use Rattle.rules.specs.Valid.{is_edge}
use Rattle.rules.specs.Numbers.{number_of}
use Rattle.rules.specs.Blocks.{formed, sized, twins, used, job_answer}
use Rattle.rules.specs.Counts.{count_of}
use Rattle.rules.specs.Answers.{most, known_job, number_answer}
use Rattle.rules.specs.Packs.{most_edges, count_in, block_in, edge_in, edges_from, laid, Pack, pack_of}
use Rattle.rules.specs.Questions.{all_valid, read_answer}
use Rattle.rules.specs.Whole.{Gathered, more, gathered, Indexed, numbers_in, Listed, listed, numbers_answer, alone_answer, AsAlone, AtFault}
use Rattle.rules.specs.Whole.Gathered.{all, fault}
use Rattle.rules.specs.Whole.Indexed.{value, refusal, bad_edge}
use Rattle.rules.proofs.Answering.{number-known}
use Rattle.rules.proofs.Demand3.{passed, then_passed, accepted-one, refused_not}
use Rattle.rules.proofs.PackLaws.{LaidOut, laid_of, edges-length, edges_at}

-- ---- the answers of a list

abbrev IsAll : Gathered ℕ → Type 0
IsAll (all vs) = Unit {0}
IsAll (fault i) = ⊥

fault_not : (i : ℕ) (vs : List ℕ) → fault i ≡ all vs → ⊥
fault_not i vs e = subst IsAll (sym e) tt

all_one : (us vs : List ℕ) → all us ≡ all vs → us ≡ vs
all_one us vs e = cc

fault-one : (i j : ℕ) → ◌≡◌ {A = Gathered ℕ} (fault i) (fault j) → i ≡ j
fault-one i j e = cc

module _ (f : List ℕ → Answer ℕ) where
  pub record Each (es : List (List ℕ)) (vs : List ℕ) : Type 0 where
    pub many : length vs ≡ length es
    pub each : (i : ℕ) → i < length es → f (get_or es i []) ≡ accepted (get_or vs i 0)

  each_more : {e : List ℕ} {es : List (List ℕ)} {v : ℕ} {vs : List ℕ} → f e ≡ accepted v → Each es vs → Each (e ∷ es) (v ∷ vs)
  each_more {e} {es} {v} {vs} r h = record { many = ap suc h.many; each = go }
    where
      go : (i : ℕ) → i < suc (length es) → f (get_or (e ∷ es) i []) ≡ accepted (get_or (v ∷ vs) i 0)
      go zero l = r
      go (suc i) l = h.each i (omega arith)

  pub gathered-all : (es : List (List ℕ)) (vs : List ℕ) → gathered (map f es) ≡ all vs → Each es vs
  unfolding gathered
  gathered-all [] vs q = rw (sym (all_one [] vs q)) (record { many = refl; each = λ i l. absurd (omega arith) })
  gathered-all (e ∷ es) vs q = go (f e) (gathered (map f es)) (λ ws. gathered-all es ws) refl refl q
    where
      go : (a : Answer ℕ) (g : Gathered ℕ) → ((ws : List ℕ) → gathered (map f es) ≡ all ws → Each es ws)
          → f e ≡ a → gathered (map f es) ≡ g → gathered (a ∷ map f es) ≡ all vs → Each (e ∷ es) vs
      go (accepted v) (all ws) ih r s q =
          subst (λ (z : List ℕ). Each (e ∷ es) z) (all_one (v ∷ ws) vs (ap (more v) (sym s) ∙ q)) (each_more r (ih ws s))
      go (accepted v) (fault i) ih r s q = absurd (fault_not (suc i) vs (ap (more v) (sym s) ∙ q))
      go (refused x) g ih r s q = absurd (fault_not 0 vs q)

  pub record Stopped (es : List (List ℕ)) (i : ℕ) : Type 0 where
    pub below : i < length es
    pub reason : Refusal
    pub wrong : f (get_or es i []) ≡ refused reason
    pub before : (j : ℕ) → j < i → (n : ℕ) × (f (get_or es j []) ≡ accepted n)

  stopped_more : {e : List ℕ} {es : List (List ℕ)} {v i : ℕ} → f e ≡ accepted v → Stopped es i → Stopped (e ∷ es) (suc i)
  stopped_more {e} {es} {v} {i} r h = record { below = omega (arith, h.below); reason = h.reason; wrong = h.wrong; before = go }
    where
      go : (j : ℕ) → j < suc i → (n : ℕ) × (f (get_or (e ∷ es) j []) ≡ accepted n)
      go zero l = (v, r)
      go (suc j) l = h.before j (omega arith)

  pub gathered-fault : (es : List (List ℕ)) (i : ℕ) → gathered (map f es) ≡ fault i → Stopped es i
  unfolding gathered
  gathered-fault [] i q = absurd (fault_not i [] (sym q))
  gathered-fault (e ∷ es) i q = go (f e) (gathered (map f es)) (λ j. gathered-fault es j) refl refl q
    where
      go : (a : Answer ℕ) (g : Gathered ℕ) → ((j : ℕ) → gathered (map f es) ≡ fault j → Stopped es j)
          → f e ≡ a → gathered (map f es) ≡ g → gathered (a ∷ map f es) ≡ fault i → Stopped (e ∷ es) i
      go (accepted v) (all ws) ih r s q = absurd (fault_not i (v ∷ ws) (sym (ap (more v) (sym s) ∙ q)))
      go (accepted v) (fault j) ih r s q =
          subst (λ (z : ℕ). Stopped (e ∷ es) z) (fault-one (suc j) i (ap (more v) (sym s) ∙ q)) (stopped_more r (ih j s))
      go (refused x) g ih r s q =
          subst (λ (z : ℕ). Stopped (e ∷ es) z) (fault-one 0 i q)
          (record { below = omega arith; reason = x; wrong = r; before = λ j l. absurd (omega arith) })

-- ---- what is answered, and the list after it

pub record Wrote (a : Answer (Gathered ℕ)) (list : List ℕ) (c : ℕ) : Type 0 where
  pub numbers : List ℕ
  pub gathers : a ≡ accepted (all numbers)
  pub many : c ≡ length numbers
  pub fits : c ≤ length list
  pub after : (listed a list).list ≡ numbers ++ drop c list

value-one : (c d : ℕ) → value c ≡ value d → c ≡ d
value-one c d e = cc

edge-one : (c d : ℕ) → ◌≡◌ {A = Indexed ℕ} (bad_edge c) (bad_edge d) → c ≡ d
edge-one c d e = cc

abbrev IsValue : Indexed ℕ → Type 0
IsValue (value c) = Unit {0}
IsValue (refusal r) = ⊥
IsValue (bad_edge i) = ⊥

abbrev IsEdge : Indexed ℕ → Type 0
IsEdge (value c) = ⊥
IsEdge (refusal r) = ⊥
IsEdge (bad_edge i) = Unit {0}

-- the list with the numbers at its front, or as it was and refused
abbrev put : Bool → List ℕ → List ℕ → Listed
put t ns list =
    pick t (record { answer = value (length ns); list = ns ++ drop (length ns) list }) (record { answer = refusal (refusal_number room); list = list })

put-answer : (t : Bool) (ns list : List ℕ) → (put t ns list).answer ≡ pick t (value (length ns)) (refusal (refusal_number room))
put-answer true ns list = refl
put-answer false ns list = refl

pub listed-value : (a : Answer (Gathered ℕ)) (list : List ℕ) (c : ℕ) → (listed a list).answer ≡ value c → Wrote a list c
unfolding listed
listed-value (accepted (all ns)) list c q = go (leb (length ns) (length list)) refl q
  where
    go : (t : Bool) → leb (length ns) (length list) ≡ t
        → (put t ns list).answer ≡ value c
        → Wrote (accepted (all ns)) list c
    go true h q =
        let m : length ns ≡ c = value-one (length ns) c q in
        record {
          numbers = ns;
          gathers = refl;
          many = sym m;
          fits = omega (arith, leb→le (length ns) (length list) (subst T (sym h) tt));
          after = rw (h, m) refl;
        }
    go false h q = absurd (subst IsValue (sym q) tt)
listed-value (accepted (fault i)) list c q = absurd (subst IsValue (sym q) tt)
listed-value (refused r) list c q = absurd (subst IsValue (sym q) tt)

pub listed-fault : (a : Answer (Gathered ℕ)) (list : List ℕ) (i : ℕ) → (listed a list).answer ≡ bad_edge i → (a ≡ accepted (fault i)) × ((listed a list).list ≡ list)
unfolding listed
listed-fault (accepted (all ns)) list i q = go (leb (length ns) (length list)) q
  where
    go : (t : Bool)
        → (put t ns list).answer ≡ bad_edge i
        → (accepted (all ns) ≡ accepted (fault i)) × ((listed (accepted (all ns)) list).list ≡ list)
    go true q = absurd (subst IsEdge (sym q) tt)
    go false q = absurd (subst IsEdge (sym q) tt)
listed-fault (accepted (fault j)) list i q = (ap (λ (z : ℕ). accepted (fault z)) (edge-one j i q), refl)
listed-fault (refused r) list i q = absurd (subst IsEdge (sym q) tt)

abbrev IsRefusal : Indexed ℕ → Type 0
IsRefusal (value c) = ⊥
IsRefusal (refusal r) = Unit {0}
IsRefusal (bad_edge i) = ⊥

pub listed-refusal : (a : Answer (Gathered ℕ)) (list : List ℕ) (r : ℕ) → (listed a list).answer ≡ refusal r → (listed a list).list ≡ list
unfolding listed
listed-refusal (accepted (all ns)) list r q = go (leb (length ns) (length list)) q
  where
    go : (t : Bool)
        → (put t ns list).answer ≡ refusal r
        → (put t ns list).list ≡ list
    go true q = absurd (subst IsRefusal (sym q) tt)
    go false q = refl
listed-refusal (accepted (fault j)) list r q = refl
listed-refusal (refused x) list r q = refl

-- ---- document 02's sentences

in_front : (ns rest : List ℕ) (i : ℕ) → i < length ns → get_or (ns ++ rest) i 0 ≡ get_or ns i 0
in_front ns rest i l = sym (get_or-take (length ns) (ns ++ rest) i 0 l) ∙ ap (λ (z : List ℕ). get_or z i 0) (take-append_seam ns rest)

behind : (ns list : List ℕ) (c i : ℕ) → c ≡ length ns → c ≤ i → get_or (ns ++ drop c list) i 0 ≡ get_or list i 0
behind ns list c i m l =
    let q : length ns + (i - c) ≡ i = omega arith in
    let r : c + (i - c) ≡ i = omega arith in
    ap (λ (k : ℕ). get_or (ns ++ drop c list) k 0) (sym q) ∙ get_or-append-add ns (drop c list) (i - c) 0 ∙ get_or-drop c list (i - c) 0
    ∙ ap (λ (k : ℕ). get_or list k 0) r

refused-one : {A : Type 0} (r x : Refusal) → ◌≡◌ {A = Answer A} (refused r) (refused x) → r ≡ x
refused-one r x q = cc

false_not : false ≡ true → ⊥
false_not q = subst T (sym q) tt

check-refused : (ok : Bool) (r : Refusal) (v : ℕ) (x : Refusal) → check ok r (accepted v) ≡ refused x → x ≡ r
check-refused true r v x q = absurd (refused_not x v (sym q))
check-refused false r v x q = cc

module _ (p : List ℕ) where
  abbrev edges : List (List ℕ)
  edges = edges_from p 0 (count_in p)

  -- the pack is laid, its job is known, and this is what its edges give
  pub record Gathering (g : Gathered ℕ) : Type 0 where
    pub layout : LaidOut p
    pub job : Job
    pub known : known_job (block_in p) ≡ accepted job
    pub gathers : gathered (map (number_answer (block_in p)) edges) ≡ g

  pub numbers_in_lem : (g : Gathered ℕ) → numbers_in p ≡ accepted g → Gathering g
  unfolding numbers_in pack_of
  numbers_in_lem g q =
      let F : Pack → Answer (Gathered ℕ) = λ k. and_then (known_job k.block) (λ J. accepted (gathered (map (number_answer k.block) k.edges))) in
      let w = then_passed (pack_of p) F g q in
      let l = passed (laid p) bad-pack (accepted (record { block = block_in p; edges = edges })) w.0 w.1 in
      let e : record { block = block_in p; edges = edges } ≡ w.0 = accepted-one (record { block = block_in p; edges = edges }) w.0 l.1 in
      let v = then_passed (known_job (block_in p)) (λ J. accepted (gathered (map (number_answer (block_in p)) edges))) g (ap F e ∙ w.2) in
      record {
        layout = laid_of p l.0;
        job = v.0;
        known = v.1;
        gathers = accepted-one (gathered (map (number_answer (block_in p)) edges)) g v.2;
      }

  alone-is : (i : ℕ) → i < count_in p → number_answer (block_in p) (get_or edges i []) ≡ alone_answer p i
  unfolding alone_answer
  alone-is i l = ap (number_answer (block_in p)) (edges_at p 0 (count_in p) i i (zero-add i) l)

  module _ (list : List ℕ) where
    pub numbers-value : (c : ℕ) → (numbers_answer p list).answer ≡ value c → AsAlone p list c (numbers_answer p list).list
    unfolding numbers_answer
    numbers-value c q =
        let w : Wrote (numbers_in p) list c = listed-value (numbers_in p) list c q in
        let ns : List ℕ = w.numbers in
        let h : Each (number_answer (block_in p)) edges ns = gathered-all (number_answer (block_in p)) edges ns (numbers_in_lem (all ns) w.gathers).gathers in
        let many : c ≡ count_in p = w.many ∙ h.many ∙ edges-length p 0 (count_in p) in
        record {
          many = many;
          room = w.fits;
          as_long = ap length w.after ∙ (omega (arith, length-append ns (drop c list), length-drop c list, w.many, w.fits));
          entry = λ i l. sym (alone-is i (omega (arith, many))) ∙ h.each i (omega (arith, edges-length p 0 (count_in p), many))
              ∙ ap accepted (sym (ap (λ (z : List ℕ). get_or z i 0) w.after ∙ in_front ns (drop c list) i (omega (arith, w.many))));
          past = λ i l. ap (λ (z : List ℕ). get_or z i 0) w.after ∙ behind ns list c i w.many l;
        }

    pub numbers-fault : (i : ℕ) → (numbers_answer p list).answer ≡ bad_edge i → AtFault p list i (numbers_answer p list).list
    unfolding numbers_answer
    numbers-fault i q =
        let w = listed-fault (numbers_in p) list i q in
        let h : Gathering (fault i) = numbers_in_lem (fault i) w.0 in
        let s : Stopped (number_answer (block_in p)) edges i = gathered-fault (number_answer (block_in p)) edges i h.gathers in
        let below : i < count_in p = omega (arith, s.below, edges-length p 0 (count_in p)) in
        let e : List ℕ = get_or edges i [] in
        let why : s.reason ≡ not-an-edge =
        check-refused (is_edge h.job e) not-an-edge (number_of h.job e) s.reason (sym (number-known (block_in p) e h.job h.known) ∙ s.wrong) in
        record {
          below = below;
          wrong = sym (alone-is i below) ∙ s.wrong ∙ ap refused why;
          before = λ j l. ((s.before j l).0, sym (alone-is j (omega (arith, below))) ∙ (s.before j l).1);
          as_it_was = w.1;
        }

    pub numbers-refusal : (r : ℕ) → (numbers_answer p list).answer ≡ refusal r → (numbers_answer p list).list ≡ list
    unfolding numbers_answer
    numbers-refusal r q = listed-refusal (numbers_in p) list r q

    pub numbers_index : (i : ℕ) → (numbers_answer p list).answer ≡ bad_edge i → i < most_edges
    unfolding numbers_answer
    numbers_index i q = omega (arith, (numbers-fault i q).below, (numbers_in_lem (fault i) (listed-fault (numbers_in p) list i q).0).layout.few)

-- ---- refused as every question on a pack

-- any refusal but "5 Not an edge"
abbrev pub Other : Refusal → Type 0
Other not-an-edge = ⊥
Other form = Unit {0}
Other size = Unit {0}
Other twin = Unit {0}
Other over = Unit {0}
Other beyond = Unit {0}
Other room = Unit {0}
Other bad-pack = Unit {0}
Other no-such-edge = Unit {0}
Other many = Unit {0}
Other kind = Unit {0}

-- the number of one: neither 0 nor 5, and no more than a byte
pub record Telling (r : ℕ) : Type 0 where
  pub some : 0 < r
  pub no_five : r ≡ 5 → ⊥
  pub byte : r < 256

telling : (x : Refusal) → Other x → Telling (refusal_number x)
unfolding refusal_number
telling not-an-edge o = absurd o
telling form o = record { some = omega arith; no_five = λ z. omega arith; byte = omega arith }
telling size o = record { some = omega arith; no_five = λ z. omega arith; byte = omega arith }
telling twin o = record { some = omega arith; no_five = λ z. omega arith; byte = omega arith }
telling over o = record { some = omega arith; no_five = λ z. omega arith; byte = omega arith }
telling beyond o = record { some = omega arith; no_five = λ z. omega arith; byte = omega arith }
telling room o = record { some = omega arith; no_five = λ z. omega arith; byte = omega arith }
telling bad-pack o = record { some = omega arith; no_five = λ z. omega arith; byte = omega arith }
telling no-such-edge o = record { some = omega arith; no_five = λ z. omega arith; byte = omega arith }
telling many o = record { some = omega arith; no_five = λ z. omega arith; byte = omega arith }
telling kind o = record { some = omega arith; no_five = λ z. omega arith; byte = omega arith }

refusal-one : (r s : ℕ) → ◌≡◌ {A = Indexed ℕ} (refusal r) (refusal s) → r ≡ s
refusal-one r s e = cc

-- an answer that isn't refused with 5
abbrev Edgeless : {A : Type 0} → Answer A → Type 0
Edgeless (accepted a) = Unit {0}
Edgeless (refused x) = Other x

check_edgeless : {A : Type 0} (ok : Bool) (r : Refusal) (a : Answer A) → Other r → Edgeless a → Edgeless (check ok r a)
check_edgeless true r a o h = h
check_edgeless false r a o h = o

known_edgeless : (b : List ℕ) → Edgeless (known_job b)
unfolding known_job job_answer
known_edgeless b = go (job_answer b) (check_edgeless (formed b) form _ tt (check_edgeless (sized b) size _ tt (check_edgeless (not (twins (used b))) twin _ tt tt)))
  where
    go : (a : Answer Job) → Edgeless a → Edgeless (and_then a (λ J. check (leb (count_of J) most) over (accepted J)))
    go (accepted J) o = check_edgeless (leb (count_of J) most) over (accepted J) tt tt
    go (refused r) o = o

module _ (b : List ℕ) (J : Job) (known : known_job b ≡ accepted J) where
  pub gathered-valid : (es : List (List ℕ)) → all_valid J es ≡ true → gathered (map (number_answer b) es) ≡ all (map (number_of J) es)
  unfolding gathered all_valid
  gathered-valid [] h = refl
  gathered-valid (e ∷ es) h = go (is_edge J e) refl h (λ l. gathered-valid es l)
    where
      go : (t : Bool) → is_edge J e ≡ t → t && all_valid J es ≡ true
          → (all_valid J es ≡ true → gathered (map (number_answer b) es) ≡ all (map (number_of J) es))
          → gathered (number_answer b e ∷ map (number_answer b) es) ≡ all (number_of J e ∷ map (number_of J) es)
      go true q l ih = rw (number-known b e J known, q, ih l) refl
      go false q l ih = absurd (false_not l)

  pub gathered-wrong : (es : List (List ℕ)) → all_valid J es ≡ false → (i : ℕ) × (gathered (map (number_answer b) es) ≡ fault i)
  unfolding gathered all_valid
  gathered-wrong [] h = absurd (false_not (sym h))
  gathered-wrong (e ∷ es) h = go (is_edge J e) refl h (λ l. gathered-wrong es l)
    where
      go : (t : Bool) → is_edge J e ≡ t → t && all_valid J es ≡ false
          → (all_valid J es ≡ false → (i : ℕ) × (gathered (map (number_answer b) es) ≡ fault i))
          → (i : ℕ) × (gathered (number_answer b e ∷ map (number_answer b) es) ≡ fault i)
      go true q l ih = let w = ih l in (suc w.0, rw (number-known b e J known, q, w.1) refl)
      go false q l ih = (0, rw (number-known b e J known, q) refl)

module _ (p list : List ℕ) where
  abbrev asked : Answer Pack → Answer (Gathered ℕ)
  asked a = and_then a (λ k. and_then (known_job k.block) (λ J. accepted (gathered (map (number_answer k.block) k.edges))))

  abbrev read : Answer Pack → Answer Pack
  read a = and_then a (λ k. and_then (known_job k.block) (λ J. check (all_valid J k.edges) not-an-edge (accepted k)))

  unread : (a : Answer Pack) (x : Refusal) → Other x → read a ≡ refused x → (listed (asked a) list).answer ≡ refusal (refusal_number x)
  unfolding listed
  unread (refused r) x o q = ap (λ (z : Refusal). refusal (refusal_number z)) (refused-one r x q)
  unread (accepted k) x o q = go (known_job k.block) q
    where
      G : Gathered ℕ
      G = gathered (map (number_answer k.block) k.edges)

      valid : (t : Bool) → check t not-an-edge (accepted k) ≡ refused x → (listed (accepted G) list).answer ≡ refusal (refusal_number x)
      valid true q = absurd (refused_not x k (sym q))
      valid false q = absurd (subst Other (sym (refused-one not-an-edge x q)) o)

      go : (b : Answer Job) → and_then b (λ J. check (all_valid J k.edges) not-an-edge (accepted k)) ≡ refused x
          → (listed (and_then b (λ J. accepted G)) list).answer ≡ refusal (refusal_number x)
      go (refused r) q = ap (λ (z : Refusal). refusal (refusal_number z)) (refused-one r x q)
      go (accepted J) q = valid (all_valid J k.edges) q

  bad : (a : Answer Pack) → Edgeless a → read a ≡ refused not-an-edge → (i : ℕ) × ((listed (asked a) list).answer ≡ bad_edge i)
  unfolding listed
  bad (refused r) o q = absurd (subst Other (refused-one r not-an-edge q) o)
  bad (accepted k) o q = go (known_job k.block) refl (known_edgeless k.block) q
    where
      G : Gathered ℕ
      G = gathered (map (number_answer k.block) k.edges)

      valid : (J : Job) → known_job k.block ≡ accepted J → (t : Bool) → all_valid J k.edges ≡ t → check t not-an-edge (accepted k) ≡ refused not-an-edge
          → (i : ℕ) × ((listed (accepted G) list).answer ≡ bad_edge i)
      valid J e true h q = absurd (refused_not not-an-edge k (sym q))
      valid J e false h q =
          let w = gathered-wrong k.block J e k.edges h in
          (w.0, ap (λ (g : Gathered ℕ). (listed (accepted g) list).answer) w.1)

      go : (b : Answer Job) → known_job k.block ≡ b → Edgeless b → and_then b (λ J. check (all_valid J k.edges) not-an-edge (accepted k)) ≡ refused not-an-edge
          → (i : ℕ) × ((listed (and_then b (λ J. accepted G)) list).answer ≡ bad_edge i)
      go (refused r) e o q = absurd (subst Other (refused-one r not-an-edge q) o)
      go (accepted J) e o q = valid J e (all_valid J k.edges) refl q

  pub numbers-unread : (x : Refusal) → Other x → read_answer p ≡ refused x → (numbers_answer p list).answer ≡ refusal (refusal_number x)
  unfolding numbers_answer numbers_in read_answer
  numbers-unread x o q = unread (pack_of p) x o q

  pub numbers-bad : read_answer p ≡ refused not-an-edge → (i : ℕ) × ((numbers_answer p list).answer ≡ bad_edge i)
  unfolding numbers_answer numbers_in read_answer pack_of
  numbers-bad q = bad (pack_of p) (check_edgeless (laid p) bad-pack _ tt tt) q

  pub numbers-read : (k : Pack) → read_answer p ≡ accepted k → (numbers_answer p list).answer ≡ pick (leb (count_in p) (length list)) (value (count_in p)) (refusal (refusal_number room))
  unfolding numbers_answer numbers_in read_answer listed pack_of
  numbers-read k q =
      let w = then_passed (pack_of p) (λ k. and_then (known_job k.block) (λ J. check (all_valid J k.edges) not-an-edge (accepted k))) k q in
      let l = passed (laid p) bad-pack (accepted (record { block = block_in p; edges = edges_from p 0 (count_in p) })) w.0 w.1 in
      let e : record { block = block_in p; edges = edges_from p 0 (count_in p) } ≡ w.0 = accepted-one _ w.0 l.1 in
      let v = then_passed (known_job w.0.block) (λ J. check (all_valid J w.0.edges) not-an-edge (accepted w.0)) k w.2 in
      let J : Job = v.0 in
      let ok : all_valid J w.0.edges ≡ true = is_true _ (passed (all_valid J w.0.edges) not-an-edge (accepted w.0) k v.2).0 in
      let ns : List ℕ = map (number_of J) w.0.edges in
      let many : length ns ≡ count_in p = length-map w.0.edges (number_of J) ∙ ap (λ (z : Pack). length z.edges) (sym e) ∙ edges-length p 0 (count_in p) in
      ap (λ (a : Answer Pack). (listed (asked a) list).answer) w.1
      ∙ ap (λ (b : Answer Job). (listed (and_then b (λ J. accepted (gathered (map (number_answer w.0.block) w.0.edges)))) list).answer) v.1
      ∙ ap (λ (g : Gathered ℕ). (listed (accepted g) list).answer) (gathered-valid w.0.block J v.1 w.0.edges ok)
      ∙ put-answer (leb (length ns) (length list)) ns list
      ∙ ap (λ (c : ℕ). pick (leb c (length list)) (value c) (refusal (refusal_number room))) many

  pub numbers-number : (r : ℕ) → (numbers_answer p list).answer ≡ refusal r → Telling r
  unfolding refusal_number
  numbers-number r q = go (read_answer p) refl
    where
      seven : (t : Bool) → refusal r ≡ pick t (value (count_in p)) (refusal 7) → Telling r
      seven true e = absurd (subst IsValue (sym e) tt)
      seven false e = let s : r ≡ 7 = refusal-one r 7 e in record { some = omega arith; no_five = λ z. omega arith; byte = omega arith }

      other : (x : Refusal) → Other x → read_answer p ≡ refused x → Telling r
      other x o e = subst Telling (refusal-one (refusal_number x) r (sym (numbers-unread x o e) ∙ q)) (telling x o)

      go : (a : Answer Pack) → read_answer p ≡ a → Telling r
      go (accepted k) e = seven (leb (count_in p) (length list)) (sym q ∙ numbers-read k e)
      go (refused not-an-edge) e = let w = numbers-bad e in absurd (subst IsEdge (sym w.1 ∙ q) tt)
      go (refused form) e = other form tt e
      go (refused size) e = other size tt e
      go (refused twin) e = other twin tt e
      go (refused over) e = other over tt e
      go (refused beyond) e = other beyond tt e
      go (refused room) e = other room tt e
      go (refused bad-pack) e = other bad-pack tt e
      go (refused no-such-edge) e = other no-such-edge tt e
      go (refused many) e = other many tt e
      go (refused kind) e = other kind tt e
