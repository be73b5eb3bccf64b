-- `pack::part` meets its contract: each return by the tests that led there. Assumes nothing.
use mathlib.Core.Path.{ap, ◌∙◌}
use Prim.Native.Nat.{◌+◌}
use native.Mathlib.Omega.{arith}
use Rattle.std.proofs.lemmas.Result.{err_from_is_err_and}
use Rattle.rules.specs.Packs.{count_in, offset}
use Rattle.pack.proofs.Reading.{part-refused, part_none, part_read}
use Rattle.pack.proofs.part.Goals as goal

pub returns-in_err-laid : goal.returns-in_err-laid
returns-in_err-laid c = let p = err_from_is_err_and c.from_residual.result c.from_residual.ensures.1 in rw (p.1, p.2) (part-refused _ _ _ c.in_err-laid.ensures)

pub returns-then-edge_count-i : goal.returns-then-edge_count-i
returns-then-edge_count-i c =
    part_none _ _ c.in_ok-laid.ensures.1 (omega (arith, ap count_in c.in_ok-laid.ensures.0, c.edge_count.ensures.0, c.if-edge_count-i.true))

pub returns : goal.returns
returns c =
    part_read _ _ _ _ c.in_ok-laid.ensures.1 (omega (arith, ap count_in c.in_ok-laid.ensures.0, c.edge_count.ensures.0, c.if-edge_count-i.false))
    (c.offset_at.ensures ∙ ap (λ p. offset p c.args.i) c.in_ok-laid.ensures.0) (c.offset_at-2.ensures ∙ ap (λ p. offset p (c.args.i + 1)) c.in_ok-laid.ensures.0)
