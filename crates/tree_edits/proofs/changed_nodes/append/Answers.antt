use Rattle.std.proofs.Common.{◌≡◌, ℕ, ◌<◌, ◌≤◌, ◌-◌, List, length, drop, refl, arith}
use Rattle.std.proofs.lemmas.Result.{err_from_is_err_and}
use Rattle.nodes.specs.Bodies.{Blocks, data_of, back, pointer_of}
use Rattle.node_format.specs.Headers.{body_header}
use Rattle.node_format.proofs.BodyFields.{spelled_node}
use Rattle.nodes.specs.Words.{Keeps}
use Rattle.tree_edits.specs.Writing.{HoldsIndex}
use Rattle.tree_edits.proofs.Appended.{IsNext}
use Rattle.tree_edits.proofs.FirstPages.{write_refused}
use Rattle.tree_edits.proofs.Growth.{are_linked, back_stays, product_some, grown, is_next, head_full}
use Rattle.tree_edits.proofs.Marks.{linked_before, table_on}
use Rattle.tree_edits.proofs.changed_nodes.append.Goals as goal
use Rattle.nodes.specs.WordLaws.{keeps_nodes, works_answered}

pub write_new-requires-clause-whole : goal.write_new-requires-clause-whole
write_new-requires-clause-whole g c =
    let node = c.args.node.items in
    spelled_node (g.N.Nodes.limit c.args.nodes.now) c.args.index c.args.table.now.blocks (drop body_header node) node (omega (arith, c.requires.spelled.size, c.requires.fits)) c.requires.spelled

pub returns-clause-grown : goal.returns-clause-grown
returns-clause-grown g c =
    let old = c.args.nodes.now in
    let new = c.write_new.new.nodes in
    let capacity : ℕ = g.N.Nodes.limit old - body_header in
    let bytes : List ℕ = drop body_header c.args.node.items in
    let next = c.in_ok-block.block in
    let f : Blocks = g.N.Nodes.node old in
    let some : 0 < length bytes = omega (arith, c.requires.spelled.used, c.requires.spelled.node.some) in
    let fits : length bytes ≤ capacity = omega (arith, c.requires.spelled.size, c.requires.fits) in
    let least : 0 < capacity = omega (arith, some, c.requires.spelled.size, c.requires.fits) in
    let keeps : Keeps g.N.Nodes old new = keeps_nodes g.N.Nodes g.met.N.Nodes.same_node g.met.N.Nodes.stays_kept old new c.requires.sound c.write_new.ensures.calls.works.came in
    let full : 0 < c.args.index → length (data_of (f c.args.head)) ≡ capacity = head_full (g.N.Nodes.limit old) capacity f c.args.head c.args.index refl least c.requires.stored.whole (λ bytes is. g.met.N.Nodes.whole old c.args.head bytes c.requires.sound is) in
    let node : IsNext f (g.N.Nodes.node new) c.args.head c.args.index next bytes =
    is_next f (g.N.Nodes.node new) c.args.head c.args.index next c.args.table.now.blocks bytes c.args.node.items c.in_ok-block.ensures.written c.requires.spelled c.requires.slots in
    let holds : HoldsIndex (g.N.Nodes.node new next) c.args.index bytes = record {
      spelling = c.args.node.items;
      pointers = c.args.table.now.blocks;
      holds = c.in_ok-block.ensures.written;
      spelled = c.requires.spelled;
    } in
    grown capacity f (g.N.Nodes.node new) (g.N.Nodes.kept old) (g.N.Nodes.kept new) c.args.head c.args.index next bytes keeps c.requires.stored.whole c.requires.stored.held full some fits
    node holds c.in_ok-block.ensures.fresh c.in_ok-block.ensures.kept

pub returns-clause-table : goal.returns-clause-table
returns-clause-table g c last is =
    let old = c.args.nodes.now in
    let new = c.write_new.new.nodes in
    let capacity : ℕ = g.N.Nodes.limit old - body_header in
    let bytes : List ℕ = drop body_header c.args.node.items in
    let next = c.in_ok-block.block in
    let head = c.args.head in
    let index = c.args.index in
    let f : Blocks = g.N.Nodes.node old in
    let f' : Blocks = g.N.Nodes.node new in
    let some : 0 < length bytes = omega (arith, c.requires.spelled.used, c.requires.spelled.node.some) in
    let least : 0 < capacity = omega (arith, some, c.requires.spelled.size, c.requires.fits) in
    let keeps : Keeps g.N.Nodes old new = keeps_nodes g.N.Nodes g.met.N.Nodes.same_node g.met.N.Nodes.stays_kept old new c.requires.sound c.write_new.ensures.calls.works.came in
    let node : IsNext f f' head index next bytes =
    is_next f f' head index next c.args.table.now.blocks bytes c.args.node.items c.in_ok-block.ensures.written c.requires.spelled c.requires.slots in
    let before : 0 < index → pointer_of (f' next) 0 ≡ head = λ (some : 0 < index). node.slots 0 (omega arith, some, (index, omega arith)) in
    let stays : (n : ℕ) → 0 < index → n < index → back f' head n ≡ back f head n = λ (n : ℕ) (some : 0 < index) (lt : n < index).
    back_stays capacity f f' (g.N.Nodes.kept old) (g.N.Nodes.kept new) keeps (index - 1) n head (omega arith) (linked_before capacity f head index some (are_linked capacity f head index least c.requires.stored.whole)).0
    (λ b reached. c.requires.stored.held head (product_some capacity index least some, refl) b reached) in
    table_on f f' head next index last c.args.table.now.blocks c.move_on.new.self.blocks is c.move_on.ensures before stays

pub returns-in_err-block-clause-calls : goal.returns-in_err-block-clause-calls
returns-in_err-block-clause-calls g c =
    let calls = c.in_err-block.ensures.calls in
    let p = err_from_is_err_and c.from_residual.result c.from_residual.ensures.1 in
    rw (p.1, p.2) (record { works = calls.works; reads = calls.reads; writes = calls.writes; why = calls.why; faults = write_refused c.in_err-block.field-0.0 calls.faults })

pub returns-clause-calls : goal.returns-clause-calls
returns-clause-calls g c = works_answered c.in_ok-block.ensures.calls
