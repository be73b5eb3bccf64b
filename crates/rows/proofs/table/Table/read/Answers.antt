-- `rows::table::Table::read` meets its contract: at each step what is read so far and what is left make up the edge's validity and its
-- number, or the cell holds 0 and the bytes are no edge. Assumes nothing.
use Rattle.std.proofs.Common.{◌≡◌, ℕ, ◌-◌, true, length, get_or, sym, ◌∙◌, ap, subst, arith}
use Rattle.rows.specs.Plains.{is_across}
use Rattle.rows.proofs.PlainRows.{Left, none_read, Taken, one_read, LedBack, led-start, led-out, led-end, Reading, reading-near, north-led, east-fits, east-led, no_step, across-left, across-fits, across-led}
use Rattle.rows.proofs.table.Table.read.Goals as goal
use Rattle.rows.proofs.table.Table.read.Goals.{Else-not-is_across, Else-val-at-eq0, Else-b-eq-NORTH, Else-b-eq-EAST, In-Some}

-- the letter that is read
taken : (c : In-Some) → Taken c.args.e.now c.loop-b.b-iterator.iter.rest.now c.next.new.self.iter.rest.now c.in-Some.field-0.now
taken c = one_read c.loop-b.invariant.0 (let next = c.in-Some.ensures in next.steps)

-- where the cell isn't 0 a walk leads to it
turn : (c : Else-val-at-eq0) →
    let args = c.args in
    let at = c.loop-b in
    Reading args.self.plain args.self.val.now args.e.now at.acc at.at (length at.b-iterator.iter.rest.now) c.north-north.result c.east-east.result
turn c =
    record {
      here = c.loop-b.invariant.1.some c.if-val-at-eq0.false;
      more = (taken (goal.at.Else-val-at-eq0 c).In-Some).more;
      north = c.north-north.ensures;
      east = c.east-east.ensures;
    }

-- what the code asks of the letter, said of the edge
letter : (c : Else-val-at-eq0) → get_or c.args.e.now (length c.loop-b.b-iterator.iter.rest.now - 1) 0 ≡ c.in-Some.field-0.now
letter c = (taken (goal.at.Else-val-at-eq0 c).In-Some).letter

not_north : (c : Else-b-eq-NORTH) → get_or c.args.e.now (length c.loop-b.b-iterator.iter.rest.now - 1) 0 ≡ 78 → ⊥
not_north c e = c.if-b-eq-NORTH.false (sym (letter (goal.at.Else-b-eq-NORTH c).Else-val-at-eq0) ∙ e)

not-east : (c : Else-b-eq-EAST) → get_or c.args.e.now (length c.loop-b.b-iterator.iter.rest.now - 1) 0 ≡ 69 → ⊥
not-east c e = c.if-b-eq-EAST.false (sym (letter (goal.at.Else-b-eq-EAST c).Else-val-at-eq0) ∙ e)

-- where the byte is no N and no E, it is a D of the job
across : (c : Else-not-is_across) →
    let args = c.args in
    is_across args.self.plain (get_or args.e.now (length c.loop-b.b-iterator.iter.rest.now - 1) 0) ≡ true
across c = ap (is_across c.args.self.plain) (letter (goal.at.Else-not-is_across c).Else-val-at-eq0) ∙ sym c.is_across.ensures ∙ c.if-not-is_across.false

-- a letter fewer is left
led : (c : Else-val-at-eq0) {s cell : ℕ} →
    let args = c.args in
    let less = c.next.new.self.iter.rest.now in
    LedBack args.self.plain args.self.val.now args.e.now s cell (length c.loop-b.b-iterator.iter.rest.now - 1)
    → Left args.e.now less × LedBack args.self.plain args.self.val.now args.e.now s cell (length less)
led c {s} {cell} w =
    let args = c.args in
    let t = taken (goal.at.Else-val-at-eq0 c).In-Some in
    (t.left, subst (LedBack args.self.plain args.self.val.now args.e.now s cell) t.one w)

pub loop-b-init : goal.loop-b-init
loop-b-init c =
    let all : c.into_iter-b-iterator.result.iter.rest.now ≡ c.args.e.now = cc in
    (none_read _ all, rw (ap length all) (led-start c.args.self.plain c.requires c.end-at.ensures))

pub loop-b-preserved-then-b-eq-NORTH : goal.loop-b-preserved-then-b-eq-NORTH
loop-b-preserved-then-b-eq-NORTH c =
    let q = (goal.at.loop-b-preserved-then-b-eq-NORTH c).Else-val-at-eq0 in
    led q (north-led (turn q) (letter q ∙ c.if-b-eq-NORTH.true))

pub overflow_add-acc : goal.overflow_add-acc
overflow_add-acc c = record { fits = east-fits (turn (goal.at.overflow_add-acc c).Else-val-at-eq0) }

pub loop-b-preserved-then-b-eq-EAST : goal.loop-b-preserved-then-b-eq-EAST
loop-b-preserved-then-b-eq-EAST c =
    let p = goal.at.loop-b-preserved-then-b-eq-EAST c in
    let q = p.Else-val-at-eq0 in
    led q (east-led (turn q) (not_north p.Else-b-eq-NORTH) (letter q ∙ c.if-b-eq-EAST.true))

pub returns-then-not-is_across : goal.returns-then-not-is_across
returns-then-not-is_across c =
    let p = goal.at.returns-then-not-is_across c in
    let q = p.Else-val-at-eq0 in
    no_step (turn q) (not_north p.Else-b-eq-NORTH) (not-east p.Else-b-eq-EAST) (ap (is_across c.args.self.plain) (letter q) ∙ sym c.is_across.ensures ∙ c.if-not-is_across.true)

pub returns-then-at-north : goal.returns-then-at-north
returns-then-at-north c =
    let p = goal.at.returns-then-at-north c in
    across-left (turn p.Else-val-at-eq0) (not_north p.Else-b-eq-NORTH) (not-east p.Else-b-eq-EAST) (across p.Else-not-is_across) c.if-at-north.true

pub overflow_add-acc-in-loop-b : goal.overflow_add-acc-in-loop-b
overflow_add-acc-in-loop-b c = record { fits = (reading-near (turn (goal.at.overflow_add-acc-in-loop-b c).Else-val-at-eq0)).fits }

pub overflow_add-acc-in-loop-b-2 : goal.overflow_add-acc-in-loop-b-2
overflow_add-acc-in-loop-b-2 c = record { fits = across-fits (turn (goal.at.overflow_add-acc-in-loop-b-2 c).Else-val-at-eq0) }

pub loop-b-preserved : goal.loop-b-preserved
loop-b-preserved c =
    let p = goal.at.loop-b-preserved c in
    let q = p.Else-val-at-eq0 in
    led q (across-led (turn q) (not_north p.Else-b-eq-NORTH) (not-east p.Else-b-eq-EAST) (across p.Else-not-is_across))

pub returns-then-at-stride : goal.returns-then-at-stride
returns-then-at-stride c =
    let none = c.in-None.ensures in
    led-out _ c.loop-b.invariant.1 (omega (arith, none.steps.0)) (λ e. omega (arith, e, c.if-at-stride.true, c.stride.ensures))

pub returns : goal.returns
returns c =
    let none = c.in-None.ensures in
    led-end _ c.loop-b.invariant.1 (omega (arith, none.steps.0)) (omega (arith, c.if-at-stride.false, c.stride.ensures))
