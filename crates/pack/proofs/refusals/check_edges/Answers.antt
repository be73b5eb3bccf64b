-- `refusals::check_edges` meets its contract: the parts between the offsets are the edges, and these are walked. Assumes nothing.
use mathlib.Core.Path.{◌≡◌}
use lib.ListN.{take}
use Rattle.std.proofs.lemmas.Result.{err_from_is_err_and}
use Rattle.rules.specs.Blocks.{job_answer}
use Rattle.rules.specs.Packs.{block_in}
use Rattle.lines.specs.Lines.{cut_from}
use Rattle.walks.specs.Walks.{finding, check_of}
use Rattle.pack.specs.Layout.{edges_in}
use Rattle.pack.proofs.Listed.{cut-edges, edges-fine, edges-wrong, edges_none}
use Rattle.pack.proofs.refusals.check_edges.Goals as goal
use Rattle.pack.proofs.refusals.check_edges.Goals.{After-walk_all}

-- what is walked are the edges
walked : (c : After-walk_all) →
    let p = c.args.pack.now.bytes.now in
    c.walk_all.result ≡ finding (check_of (job_answer (block_in p)) (edges_in p))
walked c =
    let p = c.args.pack.now.bytes.now in
    let few = c.edge_count.ensures in
    let cut : cut_from c.offset_at.result (take c.edge_count.result c.ends-ends.result) p ≡ edges_in p =
    cut-edges p _ _ _ few.0 few.1 c.offset_at.ensures c.ends-ends.ensures in
    rw (c.block.ensures, c.bytes.ensures, cut) at c.walk_all.ensures

pub returns-in-None : goal.returns-in-None
returns-in-None c = edges-fine _ _ (walked (goal.at.returns-in-None c).After-walk_all) c.in_ok-walk_all.was c.in-None.is

pub returns-in-Some : goal.returns-in-Some
returns-in-Some c = edges-wrong _ _ (walked (goal.at.returns-in-Some c).After-walk_all) c.in_ok-walk_all.was c.in-Some.is

pub returns-in_err-walk_all : goal.returns-in_err-walk_all
returns-in_err-walk_all c =
    let p = err_from_is_err_and c.from_residual.result c.from_residual.ensures.1 in
    rw (p.1, p.2) (edges_none _ _ (walked (goal.at.returns-in_err-walk_all c).After-walk_all) c.in_err-walk_all.was)
