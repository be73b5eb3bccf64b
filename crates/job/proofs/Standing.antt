-- What the job maker hands out stands for the job of its block. Assumes nothing.
--
--   Kept b j         the block's job isn't refused, and j stands for it
--   Told b r         the block is refused with r
--   family_found     the family of a block that refusal 1 isn't given for
--   made_kept        where a job is made, it is kept
--   made_told        where a refusal is told, it is the block's; kept_of, told_of_lem: the same of an answer in hand
use Rattle.std.proofs.Common.{◌≡◌, ℕ, ◌+◌, ◌*◌, ◌<◌, ◌≤◌, Bool, true, false, not, ◌&&◌, ◌||◌, T, eqb, leb, List, ◌∷◌, get_or, drop, ℤ, pos, negsuc, sym, refl, ap, ◌∙◌, subst, arith, leb→le, get_or-drop, Result, Ok, Err}
use Rattle.howmany.proofs.Choices.{and_left, and_right, is_true, holds}
use Rattle.howmany.proofs.Cases.{eight}
use Rattle.rules.specs.Jobs as jobs
use Rattle.rules.specs.Jobs.{Pair, pair_at}
use Rattle.rules.specs.Points.{Is, height}
use Rattle.rules.specs.Refusals as rules
use Rattle.rules.specs.Refusals.{Answer, check}
use Rattle.rules.specs.Refusals.Refusal.{form, size, twin}
use Rattle.rules.specs.Refusals.Answer.{accepted, refused}
use Rattle.rules.specs.Blocks.{family_of, paired, n_of, m_of, k_of, formed, sized, small, used, square, twins, job_in, job_answer}
use Rattle.rules.proofs.Families.{FamilyIs, family-is, sized-lettered, sized-paired}
use Rattle.rules.proofs.Families.FamilyIs.{is_north_east, is_dyck, is_delannoy, is_schroder, is_motzkin, is_open, is_fenced}
use Rattle.job.specs.declared.Job.{Job}
use Rattle.job.specs.declared.Family.{Family}
use Rattle.job.specs.declared.Family.TheVariants.{NorthEast, Delannoy, Open, Fenced}
use Rattle.job.specs.declared.Refusal.{Refusal}
use Rattle.job.specs.Made.{raised, pair_of, in_range, Pairs, held_by, family_at, kind_of, made_of, makes}
use Rattle.job.specs.Replies.{named}
use Rattle.job.specs.Stands.{Level, Directed, family_number, Stands}
use Rattle.job.specs.Stands.Stands.{as_north_east, as_dyck, as_delannoy, as_schroder, as_motzkin, as_open, as_fenced}
use Rattle.job.proofs.Blocks.{lettered-is, directed-is, signed_is, used-next, used-length, small_range}
use Rattle.job.proofs.Makes.{pairs_of}
use Rattle.job.proofs.Says.{value-one, refusal-one, value_not}

-- the bytes of a block
abbrev pub Bytes : List ℕ → Type 0
Bytes b = (i : ℕ) → get_or b i 0 < 256

pub record Kept (b : List ℕ) (j : Job) : Type 0 where
  pub job : jobs.Job
  pub answer : job_answer b ≡ accepted job
  pub family : family_number j.family ≡ family_of b
  pub stands : Stands j job

pub record Told (b : List ℕ) (r : Refusal) : Type 0 where
  pub refusal : rules.Refusal
  pub answer : job_answer b ≡ refused refusal
  pub name : r ≡ named refusal

height-is : (z : ℤ) (p : ℕ) → Is z p 128 → 128 ≤ p → height z + 128 ≡ p
height-is (pos a) p e l = e
height-is (negsuc a) p e l = absurd (omega arith)

first-at : (ps : List Pair) (i : ℕ) (q : Pair) {rest : List Pair} → drop i ps ≡ q ∷ rest → pair_at ps i ≡ q
first-at ps i q e = sym (get_d_zero ps i) ∙ ap (λ (l : List Pair). get_or l 0 (record { a = 0; b = pos 0 })) e
  where
    get_d_zero : (ps : List Pair) (i : ℕ) → get_or (drop i ps) 0 (record { a = 0; b = pos 0 }) ≡ get_or ps i (record { a = 0; b = pos 0 })
    get_d_zero ps i = let n : i + 0 ≡ i = omega arith in get_or-drop i ps 0 (record { a = 0; b = pos 0 }) ∙ ap (λ (j : ℕ). get_or ps j (record { a = 0; b = pos 0 })) n

record Ranged (a b : ℕ) : Type 0 where
  a_least : 1 ≤ a
  a_most : a ≤ 3
  b_least : 125 ≤ b
  b_most : b ≤ 131

ranged : (a b : ℕ) → T (in_range a b) → Ranged a b
ranged a b t =
    let u = and_right (leb 1 a) (leb a 3 && (leb 125 b && leb b 131)) t in
    let v = and_right (leb a 3) (leb 125 b && leb b 131) u in
    record {
      a_least = leb→le 1 a (and_left (leb 1 a) (leb a 3 && (leb 125 b && leb b 131)) t);
      a_most = leb→le a 3 (and_left (leb a 3) (leb 125 b && leb b 131) u);
      b_least = leb→le 125 b (and_left (leb 125 b) (leb b 131) v);
      b_most = leb→le b 131 (and_right (leb 125 b) (leb b 131) v);
    }

-- ---- what the tests say of a block

module _ (b : List ℕ) (bytes : Bytes b) (f : formed b ≡ true) (s : sized b ≡ true) where
  byte : (i : ℕ) → get_or b i 0 < 256
  byte i = bytes i

  m_is : Is (m_of b) (raised (get_or b 2 0)) 128
  m_is = signed_is (get_or b 2 0) (byte 2)

  record Lettered : Type 0 where
    n_most : n_of b ≤ 64
    m_least : 128 ≤ raised (get_or b 2 0)
    m_most : raised (get_or b 2 0) ≤ 192

  lettered : paired (family_of b) ≡ false → Lettered
  lettered l =
      let m = raised (get_or b 2 0) in
      let q = not (square (family_of b)) || eqb m (128 + n_of b) in
      let t : T (leb (n_of b) 64 && ((leb 128 m && leb m 192) && q)) =
      subst T (lettered-is b m refl (byte 2)) (sized-lettered b (holds s) l) in
      let u = and_left (leb 128 m && leb m 192) q (and_right (leb (n_of b) 64) ((leb 128 m && leb m 192) && q) t) in
      record {
        n_most = leb→le (n_of b) 64 (and_left (leb (n_of b) 64) ((leb 128 m && leb m 192) && q) t);
        m_least = leb→le 128 m (and_left (leb 128 m) (leb m 192) u);
        m_most = leb→le m 192 (and_right (leb 128 m) (leb m 192) u);
      }

  record Wide : Type 0 where
    n_most : n_of b ≤ 32
    m_least : 32 ≤ raised (get_or b 2 0)
    m_most : raised (get_or b 2 0) ≤ 224
    some : 1 ≤ k_of b
    few : k_of b ≤ 8
    small_ones : small (used b) ≡ true

  wide : paired (family_of b) ≡ true → Wide
  wide l =
      let m = raised (get_or b 2 0) in
      let r = leb 1 (k_of b) && (leb (k_of b) 8 && small (used b)) in
      let t : T (leb (n_of b) 32 && ((leb 32 m && leb m 224) && r)) =
      subst T (directed-is b m refl (byte 2)) (sized-paired b (holds s) l) in
      let u = and_right (leb (n_of b) 32) ((leb 32 m && leb m 224) && r) t in
      let h = and_left (leb 32 m && leb m 224) r u in
      let g = and_right (leb 32 m && leb m 224) r u in
      let w = and_right (leb 1 (k_of b)) (leb (k_of b) 8 && small (used b)) g in
      record {
        n_most = leb→le (n_of b) 32 (and_left (leb (n_of b) 32) ((leb 32 m && leb m 224) && r) t);
        m_least = leb→le 32 m (and_left (leb 32 m) (leb m 224) h);
        m_most = leb→le m 224 (and_right (leb 32 m) (leb m 224) h);
        some = leb→le 1 (k_of b) (and_left (leb 1 (k_of b)) (leb (k_of b) 8 && small (used b)) g);
        few = leb→le (k_of b) 8 (and_left (leb (k_of b) 8) (small (used b)) w);
        small_ones = is_true (small (used b)) (and_right (leb (k_of b) 8) (small (used b)) w);
      }

  -- ---- the job that is held

  level : (k : Family) → paired (family_of b) ≡ false → Level (held_by k b) (height (m_of b))
  unfolding held_by
  level k l =
      let c = lettered l in
      let e : height (m_of b) + 128 ≡ raised (get_or b 2 0) = height-is (m_of b) (raised (get_or b 2 0)) m_is c.m_least in
      record { n_most = c.n_most; m_most = omega (arith, c.m_most); m_is = omega arith }

  held_a : (k : Family) (i : ℕ) → i < 8 → get_or (held_by k b).a i 0 ≡ get_or b (4 + 2 * i) 0
  unfolding held_by
  held_a k = eight (λ i. get_or (held_by k b).a i 0 ≡ get_or b (4 + 2 * i) 0) refl refl refl refl refl refl refl refl

  held_b : (k : Family) (i : ℕ) → i < 8 → get_or (held_by k b).b i 0 ≡ raised (get_or b (5 + 2 * i) 0)
  unfolding held_by
  held_b k = eight (λ i. get_or (held_by k b).b i 0 ≡ raised (get_or b (5 + 2 * i) 0)) refl refl refl refl refl refl refl refl

  pair_at_lem : (i : ℕ) → i < k_of b → Wide → pair_at (used b) i ≡ pair_of b i
  pair_at_lem i l w = first-at (used b) i (pair_of b i) (used-next b (k_of b) (pairs_of b (k_of b) refl f s) i l)

  directed_held : (k : Family) → paired (family_of b) ≡ true → Directed (held_by k b) (m_of b) (used b)
  unfolding held_by
  directed_held k l =
      let w = wide l in
      let p : Pairs b (k_of b) = pairs_of b (k_of b) refl f s in
      let r : (i : ℕ) → i < k_of b → T (in_range (get_or b (4 + 2 * i) 0) (raised (get_or b (5 + 2 * i) 0))) = small_range b (k_of b) p w.small_ones byte in
      record {
        n_most = w.n_most;
        m_is = m_is;
        m_least = w.m_least;
        m_most = w.m_most;
        some = w.some;
        few = w.few;
        many = used-length b (k_of b) p;
        a_is = λ i h. held_a k i (omega (arith, w.few)) ∙ sym (ap (λ (q : Pair). q.a) (pair_at_lem i h w));
        a_least = λ i h. omega (arith, held_a k i (omega (arith, w.few)), (ranged (get_or b (4 + 2 * i) 0) (raised (get_or b (5 + 2 * i) 0)) (r i h)).a_least);
        a_most = λ i h. omega (arith, held_a k i (omega (arith, w.few)), (ranged (get_or b (4 + 2 * i) 0) (raised (get_or b (5 + 2 * i) 0)) (r i h)).a_most);
        b_is = λ i h. rw (held_b k i (omega (arith, w.few)), pair_at_lem i h w) (signed_is (get_or b (5 + 2 * i) 0) (byte (5 + 2 * i)));
        b_least = λ i h. omega (arith, held_b k i (omega (arith, w.few)), (ranged (get_or b (4 + 2 * i) 0) (raised (get_or b (5 + 2 * i) 0)) (r i h)).b_least);
        b_most = λ i h. omega (arith, held_b k i (omega (arith, w.few)), (ranged (get_or b (4 + 2 * i) 0) (raised (get_or b (5 + 2 * i) 0)) (r i h)).b_most);
      }

  held_stands : {J : jobs.Job} → FamilyIs b J → Stands (held_by (kind_of J) b) J
  unfolding held_by
  held_stands (is_north_east e) = as_north_east refl (level NorthEast (ap paired e))
  held_stands (is_dyck e) = as_dyck refl (lettered (ap paired e)).n_most
  held_stands (is_delannoy e) = as_delannoy refl (level Delannoy (ap paired e))
  held_stands (is_schroder e) = as_schroder refl (lettered (ap paired e)).n_most
  held_stands (is_motzkin e) = as_motzkin refl (lettered (ap paired e)).n_most
  held_stands (is_open e) = as_open refl (directed_held Open (ap paired e))
  held_stands (is_fenced e) = as_fenced refl (directed_held Fenced (ap paired e))

-- ---- the maker's answer

tested : (b : List ℕ) → Answer jobs.Job
tested b = check (formed b) form (check (sized b) size (check (not (twins (used b))) twin (accepted (job_in b))))

answer-is : (b : List ℕ) → job_answer b ≡ tested b
unfolding job_answer tested
answer-is b = refl

-- ---- the family

module _ (b : List ℕ) where
  numbered : {J : jobs.Job} → FamilyIs b J → family_number (kind_of J) ≡ family_of b
  numbered (is_north_east e) = sym e
  numbered (is_dyck e) = sym e
  numbered (is_delannoy e) = sym e
  numbered (is_schroder e) = sym e
  numbered (is_motzkin e) = sym e
  numbered (is_open e) = sym e
  numbered (is_fenced e) = sym e

  found : {J : jobs.Job} → FamilyIs b J → family_at (family_of b) ≡ Ok (kind_of J)
  found (is_north_east e) = ap family_at e
  found (is_dyck e) = ap family_at e
  found (is_delannoy e) = ap family_at e
  found (is_schroder e) = ap family_at e
  found (is_motzkin e) = ap family_at e
  found (is_open e) = ap family_at e
  found (is_fenced e) = ap family_at e

  pub family_found : formed b ≡ true → family_at (family_of b) ≡ Ok (kind_of (job_in b))
  family_found p = found (family-is b (holds p))

held-family : (b : List ℕ) (f : Family) → family_number (held_by f b).family ≡ family_number f
unfolding held_by
held-family b f = refl

pub made_kept : (b : List ℕ) (j : Job) → Bytes b → made_of b ≡ Ok j → Kept b j
unfolding made_of tested
made_kept b j bytes e = go (formed b) refl (sized b) refl (twins (used b)) refl e
  where
    Made-by : Bool → Bool → Bool → Answer jobs.Job
    Made-by p q r = check p form (check q size (check (not r) twin (accepted (job_in b))))

    go : (p : Bool) → formed b ≡ p → (q : Bool) → sized b ≡ q → (r : Bool) → twins (used b) ≡ r → makes (Made-by p q r) b ≡ Ok j → Kept b j
    go true p true q false r e =
        subst (Kept b) (value-one e)
        (record { job = job_in b; answer = answer-is b ∙ rw (p, q, r); family = held-family b (kind_of (job_in b)) ∙ numbered b (family-is b (holds p)); stands = held_stands b bytes p q (family-is b (holds p)) })
    go true p true q true r e = absurd (value_not (sym e))
    go true p false q x r e = absurd (value_not (sym e))
    go false p y q x r e = absurd (value_not (sym e))

pub made_told : (b : List ℕ) (r : Refusal) → made_of b ≡ Err r → Told b r
unfolding made_of tested
made_told b r e = go (job_answer b) refl e
  where
    go : (a : Answer jobs.Job) → job_answer b ≡ a → makes a b ≡ Err r → Told b r
    go (accepted J) q e = absurd (value_not e)
    go (refused x) q e = record { refusal = x; answer = q; name = sym (refusal-one e) }

-- ---- the same of a maker's answer in hand

pub kept_of : (b : List ℕ) {m : Result Job Refusal} {j : Job} → Bytes b → m ≡ made_of b → m ≡ Ok j → Kept b j
kept_of b {m} {j} bytes e q = made_kept b j bytes (sym e ∙ q)

pub told_of_lem : (b : List ℕ) {m : Result Job Refusal} {r : Refusal} → m ≡ made_of b → m ≡ Err r → Told b r
told_of_lem b {m} {r} e q = made_told b r (sym e ∙ q)
