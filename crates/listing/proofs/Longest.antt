-- No listing is longer than 152,000 bytes, so none is refused where there is room for as many. Assumes nothing.
--
--   listing_most    the bound; never-refused: what follows from it for whoever lends so many bytes
use mathlib.Core.Path.{◌≡◌, refl, sym}
use mathlib.Core.List.{List}
use Prim.Native.Nat.{ℕ, zero, suc, ◌*◌, ◌≤◌, ◌<◌, min}
use native.Mathlib.Nat.{min-le_left, min-le_right}
use native.Mathlib.Omega.{arith}
use lib.ListN.{length, length-append}
use borrow.Author.Tests.{le-leb}
use Rattle.std.specs.Prelude.{Result, Err}
use Rattle.rules.specs.Jobs as rules
use Rattle.rules.specs.Counts.{count_of}
use Rattle.rules.specs.Numbers.{edge_of}
use Rattle.rules.specs.Refusals.{Answer, refusal_number}
use Rattle.rules.specs.Refusals.Answer.{accepted, refused}
use Rattle.rules.specs.Answers.{known_job, written}
use Rattle.rules.proofs.Hence.{known-job}
use Rattle.rules.proofs.Lengths.{edge-short}
use Rattle.job.specs.declared.Refusal.{Refusal}
use Rattle.job.specs.Replies.{BuiltAs}
use Rattle.job.proofs.Says.{value_not}
use Rattle.listing.specs.Listing.{decimal, refused_word, field, feed, header_text, line_text, lines_text, refused_text, answer_text, listing_text}
use Rattle.listing.proofs.Decimals.{decimal-long}
use Rattle.listing.proofs.Lengths.{header_long, line_long}

-- ---- the text

lines-most : (g : ℕ → List ℕ) (k : ℕ) → ((i : ℕ) → i < k → length (g i) ≤ 128) → length (lines_text g k) ≤ 151 * k
unfolding lines_text
lines-most g zero f = omega arith
lines-most g (suc k) f =
    omega (arith, length-append (lines_text g k) (line_text k (g k)), lines-most g k (λ i l. f i (omega arith)), line_long k (g k), f k (omega arith))

refused-long : (r : ℕ) → length (refused_text r) ≤ 100
unfolding refused_text
refused-long r = omega (arith, length-append (field refused_word r) feed, length-append refused_word (decimal r), decimal-long r)

answer-most : (b : List ℕ) (a : Answer rules.Job) → ((J : rules.Job) → a ≡ accepted J → (r : ℕ) → r < count_of J → length (edge_of J r) ≤ 128)
    → length (answer_text b a) ≤ 152000
unfolding answer_text
answer-most b (accepted J) f =
    let k = min (count_of J) 1000 in
    let lines = lines-most (edge_of J) k (λ i l. f J refl i (omega (arith, min-le_left (count_of J) 1000))) in
    omega (arith, length-append (header_text b (count_of J)) (lines_text (edge_of J) k), header_long b (count_of J), lines, min-le_right (count_of J) 1000)
answer-most b (refused r) f = omega (arith, refused-long (refusal_number r))

-- no edge has more than 128 steps
pub listing_most : (b : List ℕ) → length (listing_text b) ≤ 152000
unfolding listing_text
listing_most b = answer-most b (known_job b) (λ J e r l. edge-short b J (known-job b J e).job r l)

pub never-refused : (b out : List ℕ) (x : Result ℕ Refusal) (after : List ℕ) (k : Refusal) → 152000 ≤ length out
    → BuiltAs (written (accepted (listing_text b)) out) x after → x ≡ Err k → ⊥
unfolding written
never-refused b out x after k l w q =
    let v = rw (le-leb (length (listing_text b)) (length out) (omega (arith, listing_most b))) at (rw q at w) in
    value_not (sym v.says)
