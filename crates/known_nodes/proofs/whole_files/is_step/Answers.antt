use Rattle.std.proofs.Common.{◌<◌, ◌∙◌, true, false, refl, sym, arith, length}
use Rattle.std.specs.Prelude.{◌==◌}
use Rattle.std.proofs.lemmas.Bool.{ne_eqb, eq-eqb}
use Rattle.nodes.specs.Bodies.{pointer_of, data_of}
use Rattle.known_nodes.specs.Tables.{blocks_in}
use Rattle.known_nodes.specs.WholeFiles.{are_stepped}
use Rattle.known_nodes.proofs.WholeFileLaws.{step_is}
use Rattle.known_nodes.proofs.whole_files.is_step.Goals as goal

pub returns-then-not-has_index : goal.returns-then-not-has_index
returns-then-not-has_index c =
    let f = blocks_in c.args.table.now in
    let before = c.pointer_at-before.result in
    let some : 0 < c.in-Some.index = let own = c.if-index-eq0.false in omega (arith, own) in
    step_is c.args.capacity f c.args.block c.in-Some.index before false (length (data_of (f before)) == c.args.capacity) (are_stepped f (pointer_of (f c.args.block)) c.in-Some.index)
    (sym c.in-Some.ensures) some c.pointer_at-before.ensures (sym c.if-not-has_index.true ∙ c.has_index.ensures) refl refl

pub returns-then-data_length_at-capacity : goal.returns-then-data_length_at-capacity
returns-then-data_length_at-capacity c =
    let f = blocks_in c.args.table.now in
    let before = c.pointer_at-before.result in
    let some : 0 < c.in-Some.index = let own = c.if-index-eq0.false in omega (arith, own) in
    let short = ne_eqb (length (data_of (f before))) c.args.capacity (λ e. c.if-data_length_at-capacity.true (c.data_length_at.ensures ∙ e)) in
    step_is c.args.capacity f c.args.block c.in-Some.index before true false (are_stepped f (pointer_of (f c.args.block)) c.in-Some.index)
    (sym c.in-Some.ensures) some c.pointer_at-before.ensures (sym c.if-not-has_index.false ∙ c.has_index.ensures) (sym short) refl

pub returns : goal.returns
returns c =
    let f = blocks_in c.args.table.now in
    let before = c.pointer_at-before.result in
    let some : 0 < c.in-Some.index = let own = c.if-index-eq0.false in omega (arith, own) in
    let full = eq-eqb (length (data_of (f before))) c.args.capacity (sym c.data_length_at.ensures ∙ c.if-data_length_at-capacity.false) in
    step_is c.args.capacity f c.args.block c.in-Some.index before true true c.are_stepped.result
    (sym c.in-Some.ensures) some c.pointer_at-before.ensures (sym c.if-not-has_index.false ∙ c.has_index.ensures) (sym full) c.are_stepped.ensures
