-- `whole::number_edges` meets its contract: the parts between the offsets are the edges, and these are numbered. Assumes nothing.
use mathlib.Core.Path.{◌≡◌, sym, ◌∙◌}
use Prim.Native.Nat.{ℕ, ◌≤◌}
use native.Mathlib.Omega.{arith}
use lib.ListN.{length, take, replicate, length-replicate}
use lib.Seq.{length-take-le}
use Rattle.std.specs.Prelude.{Result}
use Rattle.std.proofs.lemmas.Result.{err_from_is_err_and}
use Rattle.rules.specs.Packs.{count_in}
use Rattle.rules.proofs.PackLaws.{edges-length}
use Rattle.lines.specs.Lines.{cut_from}
use Rattle.lines.specs.declared.Unanswered.{Unanswered}
use Rattle.pack.specs.Layout.{edges_in}
use Rattle.pack.proofs.Listed.{cut-edges}
use Rattle.pack.proofs.Wholes.{WholeSays, whole_says}
use Rattle.pack.proofs.whole.number_edges.Goals as goal
use Rattle.pack.proofs.whole.number_edges.Goals.{After-number_all}

pub slice_bounds-number_all-end : goal.slice_bounds-number_all-end
slice_bounds-number_all-end c =
    sym (length-take-le _ _ (omega (arith, c.ends-ends.ensures.long, c.edge_count-c.ensures.0, c.edge_count-c.ensures.1)))

-- as many as there are
few : (c : After-number_all) → c.edge_count-c.result ≤ 200
few c = c.edge_count-c.ensures.1

-- the parts that are numbered are the edges
edges : (c : After-number_all) →
    let pack = c.args.pack.now.bytes.now in
    cut_from c.offset_at.result (take c.edge_count-c.result c.ends-ends.result) pack ≡ edges_in pack
edges c = cut-edges _ _ _ _ c.edge_count-c.ensures.0 (few c) c.offset_at.ensures c.ends-ends.ensures

long : (c : After-number_all) → length (take c.edge_count-c.result c.ends-ends.result) ≡ c.edge_count-c.result
long c = length-take-le _ _ (omega (arith, few c, c.ends-ends.ensures.long))

says : (c : After-number_all) →
    let args = c.args in
    (x : Result ℕ Unanswered) → c.number_all.result ≡ x → WholeSays args.pack.now.bytes.now args.list.now c.number_all.new.numbers c.edge_count-c.result x
says c x q =
    let args = c.args in
    let many = edges-length args.pack.now.bytes.now 0 (count_in args.pack.now.bytes.now) ∙ sym c.edge_count-c.ensures.0 in
    whole_says args.pack.now.bytes.now args.list.now (replicate 200 0) c.number_all.new.numbers c.edge_count-c.result
    many (omega (arith, few c, length-replicate {A = ℕ} 200 0)) x (rw (q, c.block.ensures, c.bytes.ensures, edges c, long c) at c.number_all.ensures)

pub slice_bounds-keep-end : goal.slice_bounds-keep-end
slice_bounds-keep-end c =
    sym (length-take-le _ _ (omega (arith, c.edge_count-c.ensures.0, c.edge_count-c.ensures.1, c.number_all.auto.numbers, length-replicate {A = ℕ} 200 0)))

pub returns-in_err-n : goal.returns-in_err-n
returns-in_err-n c =
    let p = err_from_is_err_and c.from_residual.result c.from_residual.ensures.1 in
    rw (p.1, p.2) (says (goal.at.returns-in_err-n c).After-number_all _ c.in_err-n.was)

pub returns : goal.returns
returns c = says (goal.at.returns c).After-number_all _ c.in_ok-n.was _ _ c.keep.ensures
