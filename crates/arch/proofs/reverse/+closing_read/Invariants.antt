-- What is left of the room falls at each `N`, and `read` is one above `closing`, which it calls with its own room.
use Rattle.std.proofs.Common.{◌+◌, ◌*◌}
use Rattle.arch.proofs.reverse.+closing_read.Given as goal

abbrev pub decreases-closing : goal.decreases-closing
decreases-closing l = 2 * l.room

abbrev pub decreases-read : goal.decreases-read
decreases-read l = 2 * l.room + 1
