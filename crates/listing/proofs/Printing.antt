-- Laws of the lines of a listing, printed one after the other. Assumes nothing.
--
--   Printed                the first i lines are appended, and the next edge begins at begin
--   printed-none, printed-next    none of them, and one more
use mathlib.Core.Path.{◌≡◌, refl, sym, ap, subst}
use mathlib.Core.List.{List, ◌++◌, append-nil, append_assoc}
use Prim.Native.Nat.{ℕ, ◌+◌, ◌*◌, ◌-◌, ◌≤◌, ◌<◌}
use native.Mathlib.Numerals.{add-one}
use native.Mathlib.Omega.{arith}
use lib.ListN.{length, get_or, take, drop, length-append, length-drop}
use lib.Seq.{length-take-le}
use Rattle.listing.specs.Listing.{line_text, lines_text}
use Rattle.listing.specs.Texts.{start, edge_at, Roomy}
use Rattle.listing.proofs.Lengths.{line_long}

pub record Printed (steps ends old text : List ℕ) (begin i : ℕ) : Type 0 where
  pub begins : begin ≡ start ends i
  pub appended : text ≡ old ++ lines_text (edge_at steps ends) i
  pub most : length text ≤ length old + 23 * i + begin

pub printed-none : (steps ends old : List ℕ) → Printed steps ends old old 0 0
unfolding lines_text
printed-none steps ends old = record { begins = refl; appended = sym (append-nil old); most = omega arith }

module _ (steps ends old : List ℕ) (ready : Roomy steps ends old) (text : List ℕ) (begin i : ℕ)
    (so : Printed steps ends old text begin i) (l : i < length ends) where
  rise : begin ≤ get_or ends i 0
  rise = rw so.begins (ready.cut.rise i l)

  edge-long : length (take (get_or ends i 0 - begin) (drop begin steps)) ≡ get_or ends i 0 - begin
  edge-long = length-take-le (get_or ends i 0 - begin) (drop begin steps) (omega (arith, length-drop begin steps, ready.cut.within i l))

  pub printed-next : (new : List ℕ) → new ≡ text ++ line_text i (take (get_or ends i 0 - begin) (drop begin steps))
      → Printed steps ends old new (get_or ends i 0) (i + 1)
  unfolding lines_text edge_at
  printed-next new a =
      let e : List ℕ = take (get_or ends i 0 - begin) (drop begin steps) in
      let same : line_text i e ≡ line_text i (edge_at steps ends i) =
      ap (λ (z : ℕ). line_text i (take (get_or ends i 0 - z) (drop z steps))) so.begins in
      record {
        begins = ap (λ (k : ℕ). start ends k) (sym (add-one i));
        appended =
            subst (λ (k : ℕ). new ≡ old ++ lines_text (edge_at steps ends) k) (sym (add-one i))
            (simp (a, so.appended, append_assoc) (ap (λ (z : List ℕ). old ++ (lines_text (edge_at steps ends) i ++ z)) same));
        most = omega (arith, ap length a, length-append text (line_text i e), line_long i e, edge-long, rise, so.most);
      }
