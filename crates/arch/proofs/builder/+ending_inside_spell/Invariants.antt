-- The size falls at each part. At one size `inside` calls `spell`, and `spell` calls `ending`.
use Rattle.std.proofs.Common.{◌+◌, ◌*◌}
use Rattle.arch.proofs.builder.+ending_inside_spell.Given as goal

abbrev pub decreases-ending : goal.decreases-ending
decreases-ending l = 3 * l.n

abbrev pub decreases-inside : goal.decreases-inside
decreases-inside l = 3 * l.n + 2

abbrev pub decreases-spell : goal.decreases-spell
decreases-spell l = 3 * l.n + 1
