-- Demand 3 of the calls, from their contracts alone: b is any block that `count` accepts, and c its count. Assumes nothing.
--
--   stood            the job of an accepted block
--   count-many       c is how many valid edges there are
--   number-valid     a valid edge gets a number below c, which is how many valid edges stand before it
--   number-invalid   any other string is refused with 5
--   number-alone     two edges with one number are equal
--   number_up, number-down    numbers run in document 01's order
--   number-each      every number below c is some valid edge's
--   build-beyond     any other number is refused with 6
--   built-number     numbering what was built gives the number back
--   number-built     building the number of an edge gives exactly its bytes, and 7 exactly if the output is shorter
--   build-each       so every number below c is built as a valid edge of that number
use mathlib.Core.Path.{◌≡◌, refl, sym, ap, ◌∙◌, subst}
use mathlib.Core.Bool.{Bool, true, false}
use mathlib.Core.List.{List, ◌++◌}
use Prim.Native.Nat.{ℕ, ◌≤◌, ◌<◌}
use native.Mathlib.Omega.{arith}
use lib.Dec.{leb}
use lib.Seq.{take-append_seam}
use lib.ListN.{length, take, drop}
use Rattle.howmany.specs.HowMany.{HowMany}
use Rattle.rules.specs.Jobs.{Job}
use Rattle.rules.specs.Valid.{Valid}
use Rattle.rules.specs.Order.{Before}
use Rattle.rules.specs.Counts.{count_of}
use Rattle.rules.specs.Numbers.{number_of}
use Rattle.rules.specs.Refusals.{Answer}
use Rattle.rules.specs.Refusals.Refusal.{beyond, room}
use Rattle.rules.specs.Refusals.Answer.{accepted, refused}
use Rattle.rules.specs.Answers.{known_job, count_answer, number_answer, edge_answer, written, Written}
use Rattle.rules.proofs.Answering.{count-told, count-known, build-of}
use Rattle.rules.proofs.Demand3.{accepted-one, demand_3}
use Rattle.howmany.specs.Choose.{pick}
use Rattle.rules.proofs.Hence as hence
use Rattle.std.specs.Prelude.{Result, Ok, Err}
use Rattle.job.specs.declared.Refusal.{Refusal}
use Rattle.job.specs.declared.Refusal.TheVariants.{NotEdge, Beyond, Room}
use Rattle.job.specs.Replies.{reply, BuiltAs}
use Rattle.job.proofs.Says.{value_not, answer-value}
use Rattle.calls.specs.Meets.{NumberMeets, BuildMeets}
use Rattle.promises.specs.Accepted.{Accepted, Spelt}
use Rattle.promises.proofs.One.{equal_one}

-- what was written of an edge: its length, and its bytes at the output's front
pub record Put (a : Answer (List ℕ)) (output : List ℕ) (l : ℕ) (after : List ℕ) : Type 0 where
  pub edge : List ℕ
  pub is : a ≡ accepted edge
  pub long : length edge ≡ l
  pub bytes : after ≡ edge ++ drop (length edge) output

pub put_of : (a : Answer (List ℕ)) (output after : List ℕ) (l : ℕ) → BuiltAs (written a output) (Ok l) after → Put a output l after
unfolding written
put_of (refused r) output after l h = absurd (value_not h.says)
put_of (accepted e) output after l h = go (leb (length e) (length output)) h
  where
    go : (t : Bool) → BuiltAs (pick t (record { answer = accepted (length e); output = e ++ drop (length e) output }) (record { answer = refused room; output = output })) (Ok l) after → Put (accepted e) output l after
    go true h = record { edge = e; is = refl; long = accepted-one _ _ (answer-value (accepted (length e)) l h.says); bytes = h.output }
    go false h = absurd (value_not h.says)

-- what an accepted block stands for
pub record Stands (b : List ℕ) (c : ℕ) : Type 0 where
  pub job : Job
  pub known : known_job b ≡ accepted job
  pub count : count_of job ≡ c

module _ (b : List ℕ) (c : ℕ) (ok : Accepted b c) where
  pub stood : Stands b c
  stood = go (known_job b) refl
    where
      go : (a : Answer Job) → known_job b ≡ a → Stands b c
      go (accepted J) e = record { job = J; known = e; count = accepted-one _ _ (sym (count-known b J e) ∙ answer-value (count_answer b) c ok) }
      go (refused r) e = absurd (value_not (ok ∙ ap reply (count-told b r e)))

  pub count-many : HowMany (Valid stood.job) c
  count-many =
      subst (λ (n : ℕ). HowMany (Valid stood.job) n) stood.count (demand_3 b stood.job (hence.known-job b stood.job stood.known).job).counts

  pub number-valid : (e : List ℕ) (s : Result ℕ Refusal) → Valid stood.job e → NumberMeets b e s
      → (r : ℕ) × (s ≡ Ok r) × (r < c) × HowMany (λ f. Valid stood.job f × Before stood.job f e) r
  number-valid e s v h =
      let q = hence.number-valid b stood.job stood.known e v in
      let d = demand_3 b stood.job (hence.known-job b stood.job stood.known).job in
      (number_of stood.job e, equal_one _ s (Ok (number_of stood.job e)) h (ap reply (sym q)), omega (arith, d.below e v, stood.count), d.places e v)

  pub number-invalid : (e : List ℕ) (s : Result ℕ Refusal) → (Valid stood.job e → ⊥) → NumberMeets b e s → s ≡ Err NotEdge
  number-invalid e s v h = equal_one _ s (Err NotEdge) h (ap reply (sym (hence.number-refused b stood.job stood.known e v)))

  pub number-alone : (e f : List ℕ) (r : ℕ) → NumberMeets b e (Ok r) → NumberMeets b f (Ok r) → e ≡ f
  number-alone e f r p q = hence.number-alone b stood.job stood.known e f r (answer-value (number_answer b e) r p) (answer-value (number_answer b f) r q)

  pub build-beyond : (r : ℕ) (output after : List ℕ) (x : Result ℕ Refusal) → c ≤ r → BuildMeets b r output x after → (x ≡ Err Beyond) × (after ≡ output)
  unfolding written
  build-beyond r output after x l h =
      let h2 : BuiltAs (written (refused beyond) output) x after
      = subst (λ (w : Written). BuiltAs w x after) (build-of b r output ∙ ap (λ (a : Answer (List ℕ)). written a output) (hence.edge-refused b stood.job stood.known r (omega (arith, stood.count)))) h in
      (equal_one _ x (Err Beyond) h2.says refl, h2.output)

  pub built-number : (r l : ℕ) (output after : List ℕ) (s : Result ℕ Refusal) → BuildMeets b r output (Ok l) after → NumberMeets b (take l after) s → s ≡ Ok r
  built-number r l output after s h n =
      let p = put_of (edge_answer b r) output after l (subst (λ (w : Written). BuiltAs w (Ok l) after) (build-of b r output) h) in
      let front : take l after ≡ p.edge = ap (λ (k : ℕ). take k after) (sym p.long) ∙ ap (take (length p.edge)) p.bytes ∙ take-append_seam p.edge (drop (length p.edge) output) in
      equal_one _ s (Ok r) n (ap reply (sym (hence.built-number b stood.job stood.known r p.edge p.is) ∙ ap (number_answer b) (sym front)))

  -- what two edges that have numbers stand for
  valid-of : (e : List ℕ) (r : ℕ) → NumberMeets b e (Ok r) → Valid stood.job e × (number_of stood.job e ≡ r)
  valid-of e r n = hence.number-of-valid b stood.job stood.known e r (answer-value (number_answer b e) r n)

  pub number_up : (e f : List ℕ) (r s : ℕ) → NumberMeets b e (Ok r) → NumberMeets b f (Ok s) → Before stood.job e f → r < s
  number_up e f r s p q h =
      let (v, i) = valid-of e r p in
      let (w, j) = valid-of f s q in
      omega (arith, i, j, (demand_3 b stood.job (hence.known-job b stood.job stood.known).job).up e f v w h)

  pub number-down : (e f : List ℕ) (r s : ℕ) → NumberMeets b e (Ok r) → NumberMeets b f (Ok s) → r < s → Before stood.job e f
  number-down e f r s p q h =
      let (v, i) = valid-of e r p in
      let (w, j) = valid-of f s q in
      (demand_3 b stood.job (hence.known-job b stood.job stood.known).job).down e f v w (omega (arith, i, j))

  pub number-each : (r : ℕ) → r < c → (e : List ℕ) × Valid stood.job e × NumberMeets b e (Ok r)
  number-each r l =
      let (e, q) = hence.number-taken b stood.job stood.known r (omega (arith, stood.count)) in
      (e, (hence.number-of-valid b stood.job stood.known e r q).0, ap reply (sym q))

  pub number-built : (e : List ℕ) (r : ℕ) (output after : List ℕ) (x : Result ℕ Refusal) → NumberMeets b e (Ok r) → BuildMeets b r output x after → Spelt e output x after
  number-built e r output after x n h =
      let q = hence.number-built b stood.job stood.known e r (answer-value (number_answer b e) r n) in
      record {
        fits = λ l.
            let t : BuiltAs (record { answer = accepted (length e); output = e ++ drop (length e) output }) x after
            = subst (λ (w : Written). BuiltAs w x after) (hence.build-room b r output e q l) h in
            (equal_one _ x (Ok (length e)) t.says refl, t.output);
        short = λ l.
            let t : BuiltAs (record { answer = refused room; output = output }) x after
            = subst (λ (w : Written). BuiltAs w x after) (hence.build-short b r output e q l) h in
            (equal_one _ x (Err Room) t.says refl, t.output);
      }

  pub build-each : (r : ℕ) → r < c
      → (e : List ℕ) × Valid stood.job e × NumberMeets b e (Ok r) × ((output after : List ℕ) (x : Result ℕ Refusal) → BuildMeets b r output x after → Spelt e output x after)
  build-each r l =
      let (e, v, n) = number-each r l in
      (e, v, n, λ output after x h. number-built e r output after x n h)
