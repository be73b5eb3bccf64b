-- The crate that has a block's family answers for it, and refusal 1 is left where none has. Assumes nothing.
--
--   none-counts, none-ranks, none-lines    no crate has the family
--   taken-.., passed-..                    a crate has the family, or it hasn't and wrote nothing; ranks-over, lines-over: so the next one writes over what was lent;
--                                          lines-short-over, none-lines-over: and so it is where none has it
--   width_value, width_refusal             the width's reply, from the count's
use mathlib.Core.Path.{◌≡◌, refl, sym, ap, ◌∙◌, subst}
use mathlib.Core.Bool.{Bool, true, false}
use mathlib.Core.List.{List}
use Prim.Native.Nat.{ℕ, ◌≤◌}
use lib.ListN.{length}
use Rattle.rules.specs.Width.{width_of}
use Rattle.rules.specs.Blocks.{family_of, square, plain, paired}
use Rattle.rules.specs.Refusals.{Answer, and_then}
use Rattle.rules.specs.Refusals.Refusal.{form}
use Rattle.rules.specs.Refusals.Answer.{accepted, refused}
use Rattle.rules.specs.Answers.{known_job, count_answer, width_answer}
use Rattle.rules.specs.Questions.{edges_answer}
use Rattle.rules.proofs.Answering.{known-told, count-told, edges-told, width_of-count}
use Rattle.rules.proofs.Families.{no_family, unformed}
use Rattle.job.specs.Replies.{reply}
use Rattle.std.specs.Prelude.{Result, Ok, Err, Option, Some, None}
use Rattle.job.specs.declared.Refusal.{Refusal}
use Rattle.lines.specs.declared.Unanswered.{Unanswered}
use Rattle.job.specs.declared.Refusal.TheVariants.{Form}
use Rattle.lines.specs.declared.Unanswered.TheVariants.{NoRoom, Refused}
use Rattle.lines.specs.Lines.{roomy, Lines, lines, WroteAs}
use Rattle.lines.specs.Ranks.{Ranks, ranks, ranks_answer, RanksAs}
use Rattle.lines.specs.Mine.{CountsFor, RanksFor, LinesFor}
use Rattle.lines.proofs.Lining.{lined-refused, lines-short, lines-room}
use Rattle.lines.proofs.Mines.{not_mine, count_mine, ranks_mine, lines_mine, ranks-other, lines_other}
use Rattle.lines.proofs.Ranking.{ranked-refused, ranks-told, ranks-room}

module _ (b : List ℕ) (p : plain (family_of b) ≡ false) (s : square (family_of b) ≡ false) (q : paired (family_of b) ≡ false) where
  none-known : known_job b ≡ refused form
  none-known = known-told b form (unformed b (no_family b s p q))

  pub none-counts : Err Form ≡ reply (count_answer b)
  none-counts = sym (ap reply (count-told b form none-known))

  pub none-ranks : (es : List (List ℕ)) (many : ℕ) (before : List ℕ) → many ≤ length before → RanksAs (ranks (ranks_answer b es) many before) (Err (Refused Form)) before
  none-ranks es many before l =
      ranks-room (ranks_answer b es) many before (Err Form) before l (ranked-refused (ranks_answer b es) form Form before (ranks-told b es form none-known) refl)

  pub none-lines : (ns steps ends : List ℕ) → roomy (length ns) (length steps) (length ends) ≡ true
      → WroteAs (lines (edges_answer b ns) ns steps ends) (Err (Refused Form)) steps ends
  none-lines ns steps ends e =
      lines-room (edges_answer b ns) ns steps ends (Err Form) steps ends e (lined-refused (edges_answer b ns) form Form steps ends (edges-told b ns form none-known) refl)

-- ---- the crates in turn

-- a crate's answer in hand, that it has the family or not
module _ (mine : Bool) (a : Answer ℕ) (x : Option (Result ℕ Refusal)) (w : CountsFor mine a x) where
  pub taken-count : (r : Result ℕ Refusal) → x ≡ Some r → r ≡ reply a
  taken-count r e = count_mine mine a r (rw e at w)

  pub passed-count : x ≡ None → mine ≡ false
  passed-count e = not_mine (reply a) mine (rw e at w)

module _ {mine : Bool} {w : Ranks} {x : Option (Result ℕ Unanswered)} {before after : List ℕ} (h : RanksFor mine w x before after) where
  pub taken-ranks : (r : Result ℕ Unanswered) → x ≡ Some r → RanksAs w r after
  taken-ranks r e = ranks_mine mine w r before after (rw e at h)

  pub passed-ranks : x ≡ None → (mine ≡ false) × (after ≡ before)
  passed-ranks e = ranks-other mine w before after (rw e at h)

module _ {mine : Bool} {w : Lines} {x : Option (Result ℕ Unanswered)} {steps ends after-steps after-ends : List ℕ} (h : LinesFor mine w x steps ends after-steps after-ends) where
  pub taken-lines : (r : Result ℕ Unanswered) → x ≡ Some r → WroteAs w r after-steps after-ends
  taken-lines r e = lines_mine mine w r steps ends after-steps after-ends (rw e at h)

  pub passed_lines : x ≡ None → (mine ≡ false) × (after-steps ≡ steps) × (after-ends ≡ ends)
  passed_lines e = lines_other mine w steps ends after-steps after-ends (rw e at h)

-- what is written after a crate that hasn't the family is written over what was lent
pub ranks-over : (a : Answer (List ℕ)) (many : ℕ) (r : Result ℕ Unanswered) {before lent after : List ℕ} → lent ≡ before → RanksAs (ranks a many lent) r after → RanksAs (ranks a many before) r after
ranks-over a many r {before} {lent} {after} e w = subst (λ (z : List ℕ). RanksAs (ranks a many z) r after) e w

pub lines-over : (a : Answer (List (List ℕ))) (ns : List ℕ) (r : Result ℕ Unanswered) {steps lent-steps ends lent-ends s t : List ℕ} → lent-steps ≡ steps → lent-ends ≡ ends
    → WroteAs (lines a ns lent-steps lent-ends) r s t → WroteAs (lines a ns steps ends) r s t
lines-over a ns r {steps} {lent-steps} {ends} {lent-ends} {s} {t} e q w =
    subst (λ (y : List ℕ). WroteAs (lines a ns y ends) r s t) e (subst (λ (z : List ℕ). WroteAs (lines a ns lent-steps z) r s t) q w)

pub lines-short-over : (a : Answer (List (List ℕ))) (ns : List ℕ) {steps lent-steps ends lent-ends : List ℕ} → lent-steps ≡ steps → lent-ends ≡ ends
    → roomy (length ns) (length lent-steps) (length lent-ends) ≡ false → WroteAs (lines a ns steps ends) (Err NoRoom) lent-steps lent-ends
lines-short-over a ns {steps} {lent-steps} {ends} {lent-ends} e q h = lines-over a ns (Err NoRoom) e q (lines-short a ns lent-steps lent-ends h)

pub none-lines-over : (b : List ℕ) → plain (family_of b) ≡ false → square (family_of b) ≡ false → paired (family_of b) ≡ false
    → (ns : List ℕ) {steps lent-steps ends lent-ends : List ℕ} → lent-steps ≡ steps → lent-ends ≡ ends
    → roomy (length ns) (length lent-steps) (length lent-ends) ≡ true → WroteAs (lines (edges_answer b ns) ns steps ends) (Err (Refused Form)) lent-steps lent-ends
none-lines-over b p s q ns {steps} {lent-steps} {ends} {lent-ends} e f h =
    lines-over (edges_answer b ns) ns (Err (Refused Form)) e f (none-lines b p s q ns lent-steps lent-ends h)

-- a reply, its value changed by f
abbrev pub along : (ℕ → ℕ) → Result ℕ Refusal → Result ℕ Refusal
along f (Ok v) = Ok (f v)
along f (Err r) = Err r

pub width_reply : (b : List ℕ) → reply (width_answer b) ≡ along width_of (reply (count_answer b))
width_reply b = ap reply (width_of-count b) ∙ go (count_answer b)
  where
    go : (a : Answer ℕ) → reply (and_then a (λ x. accepted (width_of x))) ≡ along width_of (reply a)
    go (accepted x) = refl
    go (refused r) = refl

pub width_value : (b : List ℕ) (c w : ℕ) → w ≡ width_of c → Ok c ≡ reply (count_answer b) → Ok w ≡ reply (width_answer b)
width_value b c w q e = ap (λ (n : ℕ). (let r : Result ℕ Refusal = Ok n in r)) q ∙ ap (along width_of) e ∙ sym (width_reply b)

pub width_refusal : (b : List ℕ) (r : Refusal) → Err r ≡ reply (count_answer b) → Err r ≡ reply (width_answer b)
width_refusal b r e = ap (along width_of) e ∙ sym (width_reply b)
