-- The loop over the bounds of the columns, with a wall or without: what it has before column x. Assumes nothing.
--
--   SpansTo          the columns before x have their bounds, and the arrays have room for the others
--   spans_turn, spans_end    so after a turn of the loop, and at its end
use Prim.Native.Nat.{ℕ, ◌+◌, ◌≤◌, ◌<◌}
use mathlib.Core.List.{List}
use native.Mathlib.Omega.{arith}
use lib.ListN.{length, length-set, set}
use Rattle.tables.specs.declared.Wall.{Wall}
use Rattle.tables.specs.Table.{From, To, Spans}
use Rattle.tables.proofs.Walls.{spans_more, spans_all}

pub record SpansTo (f : Wall) (hi ex ey : ℕ) (starts stops : List ℕ) (x : ℕ) : Type 0 where
  pub first : 1 ≤ x
  pub last : x ≤ ex + 1
  pub for_starts : ex < length starts
  pub for_stops : ex < length stops
  pub done : Spans f hi ex ey starts stops x

module _ {f : Wall} {hi ex ey : ℕ} {starts stops : List ℕ} where
  pub spans_turn : {x from to : ℕ} → SpansTo f hi ex ey starts stops x → x ≤ ex → From f hi ex ey x from → To f hi ey x to
      → SpansTo f hi ex ey (set starts x from) (set stops x to) (x + 1)
  spans_turn {x} {from} {to} s l fr up = record {
    first = omega arith;
    last = omega arith;
    for_starts = simp length-set s.for_starts;
    for_stops = simp length-set s.for_stops;
    done = spans_more s.done (omega (arith, s.for_starts)) (omega (arith, s.for_stops)) fr up;
  }

  pub spans_end : {x : ℕ} → SpansTo f hi ex ey starts stops x → ex < x → Spans f hi ex ey starts stops (ex + 1)
  spans_end s l = spans_all s.done (omega (arith, s.last))
