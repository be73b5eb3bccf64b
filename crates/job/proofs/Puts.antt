-- Laws of an edge written to a lent output. Assumes nothing.
--
--   put_byte                 one byte more of a copy
--   put-room, put-short      what is written, and that nothing is; copied_put: what the kit's copy writes
--   zeros-at                 each of a list of zeros
use Rattle.std.proofs.Common.{◌≡◌, ℕ, zero, suc, ◌+◌, ◌<◌, ◌≤◌, List, [], ◌∷◌, ◌++◌, length, get_or, take, drop, set, replicate, sym, refl, ap, ◌∙◌, arith, drop-cons, le-leb, Ok, Err}
use lib.Seq.{set_at, append_snoc, take-length}
use borrow.Author.Tests.{lt-leb}
use Rattle.rules.specs.Refusals.Answer.{accepted}
use Rattle.rules.specs.Answers.{written}
use Rattle.job.specs.declared.Refusal.TheVariants.{Room}
use Rattle.job.specs.Replies.{BuiltAs}

pub put_byte : (P L : List ℕ) (k b : ℕ) → length P ≡ k → k < length L → set (P ++ drop k L) k b ≡ (P ++ (b ∷ [])) ++ drop (k + 1) L
put_byte P L k b l h =
    let s : suc k ≡ k + 1 = omega arith in
    ap (λ (z : List ℕ). set (P ++ z) k b) (drop-cons L k 0 h) ∙ set_at P (get_or L k 0) (drop (suc k) L) b k l
    ∙ sym (append_snoc P b (drop (suc k) L)) ∙ ap (λ (z : ℕ). (P ++ (b ∷ [])) ++ drop z L) s

pub put-short : (e out : List ℕ) → length out < length e → BuiltAs (written (accepted e) out) (Err Room) out
unfolding written
put-short e out l = rw (lt-leb (length e) (length out) l) (record { says = refl; output = refl })

pub put-room : (e out after : List ℕ) → length e ≤ length out → after ≡ e ++ drop (length e) out → BuiltAs (written (accepted e) out) (Ok (length e)) after
unfolding written
put-room e out after l q = rw (le-leb (length e) (length out) l) (record { says = refl; output = q })

pub copied_put : (e out after : List ℕ) (r : ℕ) → length e ≤ length out → r ≡ length e → after ≡ take (length e) e ++ drop (length e) out
    → BuiltAs (written (accepted e) out) (Ok r) after
copied_put e out after r l q h = rw q (put-room e out after l (h ∙ ap (λ (z : List ℕ). z ++ drop (length e) out) (take-length e)))

pub zeros-at : (n i : ℕ) → ◌≡◌ {A = ℕ} (get_or (replicate n 0) i 0) 0
zeros-at zero i = refl
zeros-at (suc n) zero = refl
zeros-at (suc n) (suc i) = zeros-at n i
