-- `read_arch` and `read_path` meet their contracts. What is known of the arch that the loop has read is said once, in numbers of its own, by the
-- laws of `Reading`. What is left of the bytes falls at each call of `read_arch`, which hands on as many as it has. Assumes nothing.
use Rattle.std.proofs.Common.{◌≡◌, Bool, true, ℕ, ◌+◌, ◌-◌, ◌*◌, ◌^◌, ◌<◌, ◌≤◌, List, length, get_or, add-one-le}
use native.Mathlib.Nat.{le_trans, sub-le}
use Rattle.arch.specs.Table.{Table}
use Rattle.arch.specs.Sums.{offset}
use Rattle.arch.specs.Reading.{Begun, ArchRead}
use Rattle.arch.proofs.Sizes.{falls-less, parts_fit}
use Rattle.arch.proofs.Tables.{dee_table, table-less}
use Rattle.arch.proofs.Reading.{begun-start, begun-fits, moves, no_room, with_dee, arch-falls, no_arch, with_arch}
use Rattle.arch.proofs.Reading.{no_east, no_inside, no_end, no_north, arch-read}
use Rattle.arch.proofs.forward.+read_arch_read_path.Goals as goal

pub read_arch-returns-then-room-parts : goal.read_arch-returns-then-room-parts
read_arch-returns-then-room-parts t c = no_east _ _ _ c.if-room-parts.true

pub read_arch-returns-then-s-from-eq-NORTH : goal.read_arch-returns-then-s-from-eq-NORTH
read_arch-returns-then-s-from-eq-NORTH t c = arch-read c.if-room-parts.false (begun-start c.requires.2) c.if-from-s.true c.if-s-from-eq-NORTH.true

pub read_arch-returns-in_err-p : goal.read_arch-returns-in_err-p
read_arch-returns-in_err-p t c = rw c.from_residual.ensures (no_inside _ _ _ c.if-room-parts.false c.in_err-p.ensures)

pub read_arch-returns-then-s-e : goal.read_arch-returns-then-s-e
read_arch-returns-then-s-e t c =
    no_end c.in_ok-p.ensures _ c.if-s-e.true

pub read_arch-returns-then-s-e-ne-NORTH : goal.read_arch-returns-then-s-e-ne-NORTH
read_arch-returns-then-s-e-ne-NORTH t c =
    no_north c.in_ok-p.ensures _ c.if-s-e-ne-NORTH.true

pub read_path-loop-next-init : goal.read_path-loop-next-init
read_path-loop-next-init t c = begun-start c.requires.2

pub read_path-read_arch-requires : goal.read_path-read_arch-requires
read_path-read_arch-requires t c =
    (falls-less _ _ _ c.decreases (arch-falls c.loop-next.invariant c.loop-next-test.true), (c.requires.0, le_trans (sub-le _ _) c.requires.1, add-one-le c.loop-next-test.true))

pub read_path-returns-in_err-p : goal.read_path-returns-in_err-p
read_path-returns-in_err-p t c =
    rw c.from_residual.ensures (no_arch c.loop-next.invariant c.loop-next-test.true c.if-b-eq-EAST.true c.in_err-p.ensures)

-- once an arch is read, and the number before it is worked out
module _ {d : Bool} {v n room : ℕ} {s : List ℕ} {from next sz r : ℕ} {table : List ℕ} (w : Begun v room s from next sz r) (f : Table d v n table) (ed : d ≡ true) (l : room ≤ n) (h : next < length s) (e : get_or s next 0 ≡ 69) {k j q : ℕ} (u : ArchRead v (room - sz) s (next + 1) k j q) (low : ℕ) (el : low ≡ offset d v (sz + j) sz) where
  longer : Begun v room s from k (sz + j + v + 1) (low + (r + get_or table sz 0 * q))
  longer = with_arch w h e u low _ (rw ed at el) ((dee_table ed f).full sz (le_trans w.fits l))

  number-fits : low + (r + get_or table sz 0 * q) < 2 ^ 64
  number-fits = begun-fits longer (table-less true v n room table l (dee_table ed f))

pub read_path-overflow_mul-number : goal.read_path-overflow_mul-number
read_path-overflow_mul-number t c =
    record { fits = (parts_fit _ _ _ (number-fits c.loop-next.invariant c.args.parts.now.full c.requires.0 c.requires.1 c.loop-next-test.true c.if-b-eq-EAST.true c.in_ok-p.ensures c.lower.result c.lower.ensures)).0 }

pub read_path-overflow_add-number : goal.read_path-overflow_add-number
read_path-overflow_add-number t c =
    record { fits = (parts_fit _ _ _ (number-fits c.loop-next.invariant c.args.parts.now.full c.requires.0 c.requires.1 c.loop-next-test.true c.if-b-eq-EAST.true c.in_ok-p.ensures c.lower.result c.lower.ensures)).1 }

pub read_path-overflow_add-number-then-b-eq-EAST : goal.read_path-overflow_add-number-then-b-eq-EAST
read_path-overflow_add-number-then-b-eq-EAST t c =
    record { fits = number-fits c.loop-next.invariant c.args.parts.now.full c.requires.0 c.requires.1 c.loop-next-test.true c.if-b-eq-EAST.true c.in_ok-p.ensures c.lower.result c.lower.ensures }

pub read_path-loop-next-smaller-then-b-eq-EAST : goal.read_path-loop-next-smaller-then-b-eq-EAST
read_path-loop-next-smaller-then-b-eq-EAST t c =
    moves c.loop-next.invariant c.in_ok-p.ensures

pub read_path-loop-next-preserved-then-b-eq-EAST : goal.read_path-loop-next-preserved-then-b-eq-EAST
read_path-loop-next-preserved-then-b-eq-EAST t c =
    longer c.loop-next.invariant c.args.parts.now.full c.requires.0 c.requires.1 c.loop-next-test.true c.if-b-eq-EAST.true c.in_ok-p.ensures c.lower.result c.lower.ensures

pub read_path-returns-then-size-room : goal.read_path-returns-then-size-room
read_path-returns-then-size-room t c = no_room c.loop-next.invariant c.loop-next-test.true c.if-b-ne-DIAGONAL.false c.if-size-room.true

pub read_path-loop-next-preserved : goal.read_path-loop-next-preserved
read_path-loop-next-preserved t c = with_dee c.loop-next.invariant c.loop-next-test.true c.if-b-ne-DIAGONAL.false c.if-size-room.false
