-- Edges that lie one after the other are found again by their ends. Assumes nothing.
--
--   cut_of, edge-of    the ends cut so many edges; edge i is the i-th
--   lines_same         the same edges give the same lines
use mathlib.Core.Path.{◌≡◌, refl, sym, ap, ap₂, ◌∙◌}
use mathlib.Core.List.{List, [], ◌∷◌, ◌++◌, append_assoc}
use Prim.Native.Nat.{ℕ, zero, suc, ◌+◌, ◌-◌, ◌≤◌, ◌<◌}
use native.Mathlib.Omega.{arith}
use lib.ListN.{length, get_or, take, drop, length-append}
use lib.Seq.{take-append_seam, drop-append_seam}
use Rattle.rules.specs.Packs.{joined}
use Rattle.lines.specs.Lines.{ends_from}
use Rattle.lines.proofs.Lining.{length-ends}
use Rattle.listing.specs.Listing.{line_text, lines_text}
use Rattle.listing.specs.Texts.{edge_at, Cut}

-- edge i of steps is e, where the first begins at base
record CutAt (base : ℕ) (steps ends : List ℕ) (i : ℕ) (e : List ℕ) : Type 0 where
  rise : get_or (base ∷ ends) i 0 ≤ get_or ends i 0
  within : get_or ends i 0 ≤ length steps
  edge : take (get_or ends i 0 - get_or (base ∷ ends) i 0) (drop (get_or (base ∷ ends) i 0) steps) ≡ e

cut-first : (pre e xs : List ℕ) (es : List ℕ) → CutAt (length pre) (pre ++ (e ++ xs)) ((length pre + length e) ∷ es) 0 e
cut-first pre e xs es =
    let q : length pre + length e - length pre ≡ length e = omega arith in
    record {
      rise = omega arith;
      within = omega (arith, length-append pre (e ++ xs), length-append e xs);
      edge =
          ap₂ (λ (k : ℕ) (z : List ℕ). take k z) q (drop-append_seam pre (e ++ xs)) ∙ take-append_seam e xs;
    }

cut-next : (base b : ℕ) (steps ends : List ℕ) (i : ℕ) (e : List ℕ) → CutAt b steps ends i e → CutAt base steps (b ∷ ends) (suc i) e
cut-next base b steps ends i e c = record { rise = c.rise; within = c.within; edge = c.edge }

cut_at : (rest pre : List ℕ) (es : List (List ℕ)) (i : ℕ) → i < length es
    → CutAt (length pre) (pre ++ (joined es ++ rest)) (ends_from (length pre) es) i (get_or es i [])
unfolding joined ends_from
cut_at rest pre [] i l = absurd (omega arith)
cut_at rest pre (e ∷ es) zero l = rw (append_assoc e (joined es) rest) (cut-first pre e (joined es ++ rest) (ends_from (length pre + length e) es))
cut_at rest pre (e ∷ es) (suc i) l =
    let whole : (pre ++ e) ++ (joined es ++ rest) ≡ pre ++ ((e ++ joined es) ++ rest) =
    append_assoc pre e (joined es ++ rest) ∙ ap (λ (z : List ℕ). pre ++ z) (sym (append_assoc e (joined es) rest)) in
    cut-next (length pre) (length pre + length e) (pre ++ ((e ++ joined es) ++ rest)) (ends_from (length pre + length e) es) i (get_or es i [])
    (rw (length-append pre e, whole) at (cut_at rest (pre ++ e) es i (omega arith)))

module _ (es : List (List ℕ)) (rest steps ends : List ℕ) (s : steps ≡ joined es ++ rest) (t : ends ≡ ends_from 0 es) where
  cut-here : (i : ℕ) → i < length es → CutAt 0 steps ends i (get_or es i [])
  cut-here i l = rw (s, t) (cut_at rest [] es i l)

  many : length ends ≡ length es
  many = ap length t ∙ length-ends 0 es

  pub cut_of : Cut steps ends
  cut_of = record {
    rise = λ i l. (cut-here i (omega (arith, many))).rise;
    within = λ i l. (cut-here i (omega (arith, many))).within;
  }

  pub edge-of : (i : ℕ) → i < length es → edge_at steps ends i ≡ get_or es i []
  unfolding edge_at
  edge-of i l = (cut-here i l).edge

pub lines_same : (g h : ℕ → List ℕ) (k : ℕ) → ((i : ℕ) → i < k → g i ≡ h i) → lines_text g k ≡ lines_text h k
unfolding lines_text
lines_same g h zero f = refl
lines_same g h (suc k) f =
    ap₂ (λ (x y : List ℕ). x ++ line_text k y) (lines_same g h k (λ i l. f i (omega arith))) (f k (omega arith))
