use Rattle.std.proofs.Common.{◌<◌, sym, ◌∙◌, arith}
use Rattle.nodes.specs.Bodies.{pointer_of}
use Rattle.known_nodes.specs.Tables.{blocks_in}
use Rattle.known_nodes.specs.WholeFiles.{is_stepped}
use Rattle.known_nodes.proofs.WholeFileLaws.{all_from, all_fails}
use Rattle.known_nodes.proofs.whole_files.are_stepped.Goals as goal

pub returns-then-not-is_stepped : goal.returns-then-not-is_stepped
returns-then-not-is_stepped c =
    let f = blocks_in c.args.table.now in
    let below : c.loop-slot.slot < 15 = let test = c.loop-slot-test.true in omega (arith, test) in
    sym (all_fails (λ x. is_stepped f (pointer_of (f c.args.block)) c.args.index x) 15 c.loop-slot.slot below (sym c.is_stepped.ensures ∙ c.if-not-is_stepped.true))

pub returns : goal.returns
returns c =
    let f = blocks_in c.args.table.now in
    sym (all_from (λ x. is_stepped f (pointer_of (f c.args.block)) c.args.index x) 15 (λ x below. c.loop-slot.invariant x (let test = c.loop-slot-test.false in omega (arith, test, below))))
