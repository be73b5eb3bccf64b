-- `calls::count` meets its contract: the crate that has the family answers, or none has it. Assumes nothing.
use Rattle.rules.specs.Blocks.{family_of, square, plain, paired}
use Rattle.rules.specs.Answers.{count_answer}
use Rattle.calls.proofs.Routes.{taken-count, passed-count, none-counts}
use Rattle.calls.proofs.count.Goals as goal

pub returns-in-Some : goal.returns-in-Some
returns-in-Some c =
    let block = c.args.block.now in
    taken-count (plain (family_of block)) (count_answer block) _ c.count.ensures _ c.in-Some.is

pub returns-in-Some-count : goal.returns-in-Some-count
returns-in-Some-count c =
    let block = c.args.block.now in
    taken-count (square (family_of block)) (count_answer block) _ c.count-2.ensures _ c.in-Some-count.is

pub returns-in-Some-count-2 : goal.returns-in-Some-count-2
returns-in-Some-count-2 c =
    let block = c.args.block.now in
    taken-count (paired (family_of block)) (count_answer block) _ c.count-3.ensures _ c.in-Some-count-2.is

pub returns : goal.returns
returns c =
    let block = c.args.block.now in
    none-counts block (passed-count (plain (family_of block)) (count_answer block) _ c.count.ensures c.in_default.is)
    (passed-count (square (family_of block)) (count_answer block) _ c.count-2.ensures c.in_default-count.is)
    (passed-count (paired (family_of block)) (count_answer block) _ c.count-3.ensures c.in_default-count-2.is)
