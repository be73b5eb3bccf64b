-- The loop of `read_path` has read a path from its first byte on. An arch is read after its `E`, so what is left of the bytes falls at each arch, and
-- `read_arch` is one above `read_path`, which it calls at its own place.
use Rattle.std.proofs.Common.{length, ◌-◌, ◌+◌, ◌*◌}
use Rattle.arch.specs.Reading.{Begun}
use Rattle.arch.proofs.forward.+read_arch_read_path.Given as goal

abbrev pub decreases-read_arch : goal.decreases-read_arch
decreases-read_arch l = 2 * (length l.s.now - l.from) + 1

abbrev pub decreases-read_path : goal.decreases-read_path
decreases-read_path l = 2 * (length l.s.now - l.from)

abbrev pub invariant-read_path-loop-next : goal.invariant-read_path-loop-next
invariant-read_path-loop-next l = Begun l.parts.v l.room l.s l.from l.next l.size l.number

abbrev pub decreases-read_path-loop-next : goal.decreases-read_path-loop-next
decreases-read_path-loop-next l = length l.s - l.next
