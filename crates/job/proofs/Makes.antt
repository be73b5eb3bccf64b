-- The job maker's answer by the three tests. Assumes nothing.
--
--   whole_of, pairs_of                          a block that passes form has all its bytes; one that passes size has at most eight pairs
--   no_twins                                    where there are no pairs, none is twice there
--   made-form, made-size, made_twin, made-job    the answer for each way through the tests
use Rattle.std.proofs.Common.{◌≡◌, ℕ, ◌+◌, ◌*◌, ◌≤◌, Bool, true, false, not, ◌&&◌, T, eqb, leb, List, length, get_or, drop, pos, negsuc, sym, refl, ◌∙◌, arith, eqb→eq, leb→le, drop-cons, Ok, Err}
use Rattle.howmany.specs.Choose.{pick}
use Rattle.howmany.proofs.Choices.{and_left, and_right, holds}
use Rattle.rules.specs.Refusals.{check}
use Rattle.rules.specs.Refusals.Refusal.{form, size, twin}
use Rattle.rules.specs.Refusals.Answer.{accepted}
use Rattle.rules.specs.Blocks.{families, block_length, paired, family_of, n_of, m_of, k_of, zeros, formed, sized, sized_directed, small, used, between, twins, job_in, job_answer}
use Rattle.rules.proofs.Families.{sized-paired}
use Rattle.job.specs.Made.{Pairs, kind_of, held_by, makes, made_of}
use Rattle.job.specs.declared.Refusal.TheVariants.{Form, Size, Twin}
use Rattle.job.proofs.Blocks.{formed-is}

pub whole_of : (b : List ℕ) → formed b ≡ true → length b ≡ block_length
whole_of b e = eqb→eq (length b) block_length (and_left (eqb (length b) block_length) _ (holds (sym (formed-is b) ∙ e)))

-- where there are no pairs, k is an unused byte
no_pairs : (b : List ℕ) → formed b ≡ true → paired (family_of b) ≡ false → k_of b ≡ 0
unfolding zeros
no_pairs b e l =
    let z : ℕ → Bool = λ n. zeros (pick (paired (family_of b)) (drop (4 + 2 * k_of b) b) (drop 3 b)) in
    let a = and_right (eqb (length b) block_length) _ (holds (sym (formed-is b) ∙ e)) in
    let c = and_right (leb (family_of b) families) (z 0) (and_right (leb 1 (family_of b)) _ a) in
    let d : T (zeros (drop 3 b)) = rw l at c in
    let f : T (eqb (get_or b 3 0) 0 && zeros (drop 4 b)) = rw (drop-cons b 3 0 (omega (arith, whole_of b e))) at d in
    eqb→eq (get_or b 3 0) 0 (and_left (eqb (get_or b 3 0) 0) (zeros (drop 4 b)) f)

pub no_twins : (b : List ℕ) → formed b ≡ true → paired (family_of b) ≡ false → twins (used b) ≡ false
unfolding used twins
no_twins b e l = rw (no_pairs b e l) refl

few_pairs : (b : List ℕ) → sized b ≡ true → paired (family_of b) ≡ true → k_of b ≤ 8
unfolding sized_directed
few_pairs b e l =
    let m = between (negsuc 95) (pos 96) (m_of b) in
    let k = leb (k_of b) 8 && small (used b) in
    let t : T (sized_directed b) = sized-paired b (holds e) l in
    let a = and_right m (leb 1 (k_of b) && k) (and_right (leb (n_of b) 32) (m && (leb 1 (k_of b) && k)) t) in
    leb→le (k_of b) 8 (and_left (leb (k_of b) 8) (small (used b)) (and_right (leb 1 (k_of b)) k a))

pub pairs_of : (b : List ℕ) (k : ℕ) → k ≡ get_or b 3 0 → formed b ≡ true → sized b ≡ true → Pairs b k
pairs_of b k q e f = record { whole = whole_of b e; many = sym q; few = go (paired (family_of b)) refl }
  where
    go : (t : Bool) → paired (family_of b) ≡ t → k ≤ 8
    go true l = omega (arith, few_pairs b f l)
    go false l = omega (arith, no_pairs b e l)

module _ (b : List ℕ) where
  made-is : made_of b ≡ makes (check (formed b) form (check (sized b) size (check (not (twins (used b))) twin (accepted (job_in b))))) b
  unfolding made_of job_answer
  made-is = refl

  pub made-form : formed b ≡ false → Err Form ≡ made_of b
  made-form e = sym (made-is ∙ simp e)

  pub made-size : formed b ≡ true → sized b ≡ false → Err Size ≡ made_of b
  made-size e f = sym (made-is ∙ simp (e, f))

  pub made_twin : formed b ≡ true → sized b ≡ true → twins (used b) ≡ true → Err Twin ≡ made_of b
  made_twin e f g = sym (made-is ∙ simp (e, f, g))

  pub made-job : formed b ≡ true → sized b ≡ true → twins (used b) ≡ false → Ok (held_by (kind_of (job_in b)) b) ≡ made_of b
  made-job e f g = sym (made-is ∙ simp (e, f, g))
