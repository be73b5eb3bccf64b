-- `closing` and `read` meet their contracts, by the laws of `ReadingBack`. What is known once both parts are read is said once, in numbers of its own.
-- What is left of the room falls at each `N`. Assumes nothing.
use Rattle.std.proofs.Common.{◌≡◌, ◌≢◌, Bool, false, ℕ, ◌+◌, ◌-◌, ◌*◌, ◌^◌, ◌<◌, ◌≤◌, List, length, get_or, take}
use native.Mathlib.Nat.{pos_of_ne-zero}
use Rattle.arches.specs.Counts.{count}
use Rattle.arch.specs.Table.{Table}
use Rattle.arch.specs.Sums.{offset}
use Rattle.arch.specs.ReadingBack.{Ok}
use Rattle.arch.proofs.Sizes.{parts_fit, both-le}
use Rattle.arch.proofs.Tables.{dyck_table}
use Rattle.arch.proofs.ReadingBack.{part_ok, part_none, ok-none, ok_end, no_room, no_inside, no_start, no_east, no_first, both_small, ok-arch, arch-fits}
use Rattle.arch.proofs.reverse.+closing_read.Goals as goal

pub closing-returns-then-room-eq0 : goal.closing-returns-then-room-eq0
closing-returns-then-room-eq0 t c = no_room c.args.room c.args.s.now c.requires.2 c.requires.3 c.if-room-eq0.true

pub closing-returns-in_err-p : goal.closing-returns-in_err-p
closing-returns-in_err-p t c =
    let s = c.args.s.now in
    rw c.from_residual.ensures (no_inside c.args.room s c.requires.2 c.requires.3 (pos_of_ne-zero c.if-room-eq0.false) (part_none _ s (length s - 1) c.in_err-p.ensures))

pub closing-returns-then-p-eq0 : goal.closing-returns-then-p-eq0
closing-returns-then-p-eq0 t c =
    let s = c.args.s.now in
    let u = part_ok _ s (length s - 1) c.in_ok-p.ensures in
    no_start c.args.room s c.requires.2 c.requires.3 (pos_of_ne-zero c.if-room-eq0.false) u c.if-p-eq0.true

pub closing-returns-then-s-f-ne-EAST : goal.closing-returns-then-s-f-ne-EAST
closing-returns-then-s-f-ne-EAST t c =
    let s = c.args.s.now in
    let u = part_ok _ s (length s - 1) c.in_ok-p.ensures in
    no_east c.args.room s c.requires.2 c.requires.3 (pos_of_ne-zero c.if-room-eq0.false) u (pos_of_ne-zero c.if-p-eq0.false) c.if-s-f-ne-EAST.true

pub closing-returns-in_err-w : goal.closing-returns-in_err-w
closing-returns-in_err-w t c =
    let s = c.args.s.now in
    let u = part_ok _ s (length s - 1) c.in_ok-p.ensures in
    rw c.from_residual-in_err-w.ensures
    (no_first c.args.room s c.requires.2 c.requires.3 (pos_of_ne-zero c.if-room-eq0.false) u (pos_of_ne-zero c.if-p-eq0.false) c.if-s-f-ne-EAST.false (part_none _ s (c.in_ok-p.p.at - 1) c.in_err-w.ensures))

-- once both parts are read, and the number before the arch is worked out
module _ {d : Bool} {v n room : ℕ} (s : List ℕ) {table : List ℕ} (pos : 0 < length s) (north : get_or s (length s - 1) 0 ≡ 78) (some : room ≢ 0) {k j q : ℕ} (u : Ok (room - 1) (take (length s - 1) s) k j q) (opens : k ≢ 0) (east : get_or s (k - 1) 0 ≡ 69) {at i a : ℕ} (w : Ok (room - 1 - j) (take (k - 1) s) at i a) (f : Table d v n table) (ed : d ≡ false) (h : room ≤ n) (low : ℕ) (el : low ≡ offset d v (i + j) i) where
  counted : get_or table i 0 ≡ count false 0 i
  counted = (dyck_table ed f).full i (both-le i j room n (both_small room s pos north (pos_of_ne-zero some) u (pos_of_ne-zero opens) east w) h)

  arch : Ok room s at (i + j + 1) (low + (a + get_or table i 0 * q))
  arch = ok-arch room s pos north (pos_of_ne-zero some) u (pos_of_ne-zero opens) east w low _ (rw (ed, f.dyck ed) at el) counted

  number-fits : low + (a + get_or table i 0 * q) < 2 ^ 64
  number-fits = arch-fits room s pos north (pos_of_ne-zero some) u (pos_of_ne-zero opens) east w n table (dyck_table ed f) h low _ (rw (ed, f.dyck ed) at el) counted

pub closing-overflow_mul-r : goal.closing-overflow_mul-r
closing-overflow_mul-r t c =
    let s = c.args.s.now in
    let u = part_ok _ s (length s - 1) c.in_ok-p.ensures in
    let w = part_ok _ s (c.in_ok-p.p.at - 1) c.in_ok-w.ensures in
    record { fits = (parts_fit _ _ _ (number-fits s c.requires.2 c.requires.3 c.if-room-eq0.false u c.if-p-eq0.false c.if-s-f-ne-EAST.false w c.args.parts.now.full c.requires.0 c.requires.1 c.lower-low.result c.lower-low.ensures)).0 }

pub closing-overflow_add-r : goal.closing-overflow_add-r
closing-overflow_add-r t c =
    let s = c.args.s.now in
    let u = part_ok _ s (length s - 1) c.in_ok-p.ensures in
    let w = part_ok _ s (c.in_ok-p.p.at - 1) c.in_ok-w.ensures in
    record { fits = (parts_fit _ _ _ (number-fits s c.requires.2 c.requires.3 c.if-room-eq0.false u c.if-p-eq0.false c.if-s-f-ne-EAST.false w c.args.parts.now.full c.requires.0 c.requires.1 c.lower-low.result c.lower-low.ensures)).1 }

pub closing-overflow_add-r-2 : goal.closing-overflow_add-r-2
closing-overflow_add-r-2 t c =
    let s = c.args.s.now in
    let u = part_ok _ s (length s - 1) c.in_ok-p.ensures in
    let w = part_ok _ s (c.in_ok-p.p.at - 1) c.in_ok-w.ensures in
    record { fits = number-fits s c.requires.2 c.requires.3 c.if-room-eq0.false u c.if-p-eq0.false c.if-s-f-ne-EAST.false w c.args.parts.now.full c.requires.0 c.requires.1 c.lower-low.result c.lower-low.ensures }

pub closing-returns : goal.closing-returns
closing-returns t c =
    let s = c.args.s.now in
    let u = part_ok _ s (length s - 1) c.in_ok-p.ensures in
    let w = part_ok _ s (c.in_ok-p.p.at - 1) c.in_ok-w.ensures in
    arch s c.requires.2 c.requires.3 c.if-room-eq0.false u c.if-p-eq0.false c.if-s-f-ne-EAST.false w c.args.parts.now.full c.requires.0 c.requires.1 c.lower-low.result c.lower-low.ensures

pub read-returns-then-e-eq0 : goal.read-returns-then-e-eq0
read-returns-then-e-eq0 t c = ok-none _ c.args.s.now c.if-e-eq0.true

pub read-returns-then-s-l-ne-NORTH : goal.read-returns-then-s-l-ne-NORTH
read-returns-then-s-l-ne-NORTH t c = ok_end _ c.args.s.now c.if-s-l-ne-NORTH.true
