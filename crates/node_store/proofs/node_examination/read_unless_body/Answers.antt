use Rattle.std.proofs.Common.{◌≡◌, ℕ, true, List, [], take, Some, sym, ap, subst, ◌∙◌, arith}
use Rattle.std.specs.Prelude.{◌==◌}
use Rattle.std.proofs.lemmas.Result.{err_from_is_err_and}
use Rattle.flash_model.specs.declared.geometry.Geometry.{Geometry}
use Rattle.flash_model.specs.Geometry.{IsGeometry}
use Rattle.flash_model.specs.Reading.{OnlyReads_on}
use Rattle.node_format.specs.Headers.{field, body_magic, body_header}
use Rattle.nodes.specs.Parts.{HasBodyHeader}
use Rattle.node_store.specs.NodePages.{node_of}
use Rattle.node_store.specs.ReadingLaws.{brings_wants}
use Rattle.node_store.proofs.Examined.{first_asked, wants_on, node_stays, asked_on, header_on}
use Rattle.node_store.proofs.node_examination.read_unless_body.Goals as goal

pub returns-in_err-size-clause-refuses : goal.returns-in_err-size-clause-refuses
returns-in_err-size-clause-refuses g c =
    let old = g.F.Flash.device c.args.flash.now in
    let p = err_from_is_err_and c.from_residual.result c.from_residual.ensures.1 in
    rw (p.1, p.2) (λ shown. brings_wants old (g.F.Flash.device c.read_size.new.flash) (node_of old c.args.block) [] shown c.in_err-size.field-0.0 c.in_err-size.ensures.refuses)

pub returns-in_err-size-clause-operations : goal.returns-in_err-size-clause-operations
returns-in_err-size-clause-operations g c =
    let old = g.F.Flash.device c.args.flash.now in
    first_asked old c.args.block c.requires.lawful (g.met.F.Flash.whole_pages c.args.flash.now) old.operations (g.F.Flash.device c.read_size.new.flash).operations c.read_size.ensures.operations

pub check_rest-requires-clause-lawful : goal.check_rest-requires-clause-lawful
check_rest-requires-clause-lawful g c = subst IsGeometry (sym c.read_size.ensures.only_reads.geometry) c.requires.lawful

pub check_rest-requires-clause-whole : goal.check_rest-requires-clause-whole
check_rest-requires-clause-whole g c = c.read_size.ensures.page ∙ c.requires.whole ∙ ap (λ (h : Geometry). h.page) (sym c.read_size.ensures.only_reads.geometry)

pub finish_node-requires-clause-lawful : goal.finish_node-requires-clause-lawful
finish_node-requires-clause-lawful g c = subst IsGeometry (sym c.read_size.ensures.only_reads.geometry) c.requires.lawful

pub finish_node-requires-clause-whole : goal.finish_node-requires-clause-whole
finish_node-requires-clause-whole g c = c.read_size.ensures.page ∙ c.requires.whole ∙ ap (λ (h : Geometry). h.page) (sym c.read_size.ensures.only_reads.geometry)

pub returns-in_err-node-clause-refuses : goal.returns-in_err-node-clause-refuses
returns-in_err-node-clause-refuses g c =
    let old = g.F.Flash.device c.args.flash.now in
    let mid = g.F.Flash.device c.read_size.new.flash in
    let new = g.F.Flash.device c.finish_node.new.flash in
    let p = err_from_is_err_and c.from_residual-in_err-node.result c.from_residual-in_err-node.ensures.1 in
    rw (p.1, p.2) (λ shown. wants_on old mid new c.args.block c.requires.lawful c.read_size.ensures.only_reads shown c.in_err-node.field-0.0 (c.in_err-node.ensures.refuses shown))

pub returns-in_err-node-clause-only_reads : goal.returns-in_err-node-clause-only_reads
returns-in_err-node-clause-only_reads g c = OnlyReads_on _ _ _ c.read_size.ensures.only_reads c.finish_node.ensures.only_reads

pub returns-in_err-node-clause-operations : goal.returns-in_err-node-clause-operations
returns-in_err-node-clause-operations g c =
    let old = g.F.Flash.device c.args.flash.now in
    let mid = g.F.Flash.device c.read_size.new.flash in
    let new = g.F.Flash.device c.finish_node.new.flash in
    asked_on old mid new c.args.block c.requires.lawful c.read_size.ensures.only_reads c.in_ok-size.size c.read_size.new.page.items c.in_ok-size.ensures.begins c.in_ok-size.ensures.size
    (g.met.F.Flash.whole_pages c.args.flash.now) c.read_size.ensures.operations c.finish_node.ensures.operations

pub returns-clause-node : goal.returns-clause-node
returns-clause-node g c =
    let old = g.F.Flash.device c.args.flash.now in
    let mid = g.F.Flash.device c.read_size.new.flash in
    sym (node_stays old mid mid c.args.block c.requires.lawful c.read_size.ensures.only_reads) ∙ c.in_ok-node.ensures.brings.0

pub returns-clause-only_reads : goal.returns-clause-only_reads
returns-clause-only_reads g c = OnlyReads_on _ _ _ c.read_size.ensures.only_reads c.finish_node.ensures.only_reads

pub returns-clause-operations : goal.returns-clause-operations
returns-clause-operations g c =
    let old = g.F.Flash.device c.args.flash.now in
    let mid = g.F.Flash.device c.read_size.new.flash in
    let new = g.F.Flash.device c.finish_node.new.flash in
    asked_on old mid new c.args.block c.requires.lawful c.read_size.ensures.only_reads c.in_ok-size.size c.read_size.new.page.items c.in_ok-size.ensures.begins c.in_ok-size.ensures.size
    (g.met.F.Flash.whole_pages c.args.flash.now) c.read_size.ensures.operations c.finish_node.ensures.operations

pub returns-in_err-check_rest-clause-refuses : goal.returns-in_err-check_rest-clause-refuses
returns-in_err-check_rest-clause-refuses g c =
    let old = g.F.Flash.device c.args.flash.now in
    let mid = g.F.Flash.device c.read_size.new.flash in
    let new = g.F.Flash.device c.check_rest.new.flash in
    let fault = c.in_err-check_rest.field-0.0 in
    let p = err_from_is_err_and c.from_residual-in_err-check_rest.result c.from_residual-in_err-check_rest.ensures.1 in
    rw (p.1, p.2) (λ shown. wants_on old mid new c.args.block c.requires.lawful c.read_size.ensures.only_reads shown fault (brings_wants mid new (node_of mid c.args.block) [] shown fault c.in_err-check_rest.ensures.refuses))

pub returns-in_err-check_rest-clause-only_reads : goal.returns-in_err-check_rest-clause-only_reads
returns-in_err-check_rest-clause-only_reads g c = OnlyReads_on _ _ _ c.read_size.ensures.only_reads c.check_rest.ensures.only_reads

pub returns-in_err-check_rest-clause-operations : goal.returns-in_err-check_rest-clause-operations
returns-in_err-check_rest-clause-operations g c =
    let old = g.F.Flash.device c.args.flash.now in
    let mid = g.F.Flash.device c.read_size.new.flash in
    let new = g.F.Flash.device c.check_rest.new.flash in
    asked_on old mid new c.args.block c.requires.lawful c.read_size.ensures.only_reads c.in_ok-size.size c.read_size.new.page.items c.in_ok-size.ensures.begins c.in_ok-size.ensures.size
    (g.met.F.Flash.whole_pages c.args.flash.now) c.read_size.ensures.operations c.check_rest.ensures.operations

pub returns-then-begins_body-clause-header : goal.returns-then-begins_body-clause-header
returns-then-begins_body-clause-header g c =
    let old = g.F.Flash.device c.args.flash.now in
    let mid = g.F.Flash.device c.read_size.new.flash in
    let head = c.read_size.new.page.items in
    let there = c.in_ok-check_rest.ensures.there in
    let body : (field head 0 == body_magic) ≡ true =
    ap (λ (l : List ℕ). field l 0 == body_magic) (sym c.deref.ensures.value) ∙ sym c.begins_body.ensures ∙ c.if-begins_body.true in
    let is : c.copy_from_slice.new.self ≡ take body_header head =
    c.copy_from_slice.ensures.after ∙ ap (λ (n : ℕ). take n c.deref-then-begins_body.result.now) c.requires.sized ∙ ap (take body_header) c.deref-then-begins_body.ensures.value in
    subst (HasBodyHeader (node_of old c.args.block)) (sym is)
    (header_on old mid mid c.args.block c.requires.lawful c.read_size.ensures.only_reads c.in_ok-size.size head c.in_ok-size.ensures.begins c.in_ok-size.ensures.size
    there.0 (g.met.F.Flash.whole_pages c.args.flash.now) there.1 body)

pub returns-then-begins_body-clause-only_reads : goal.returns-then-begins_body-clause-only_reads
returns-then-begins_body-clause-only_reads g c = OnlyReads_on _ _ _ c.read_size.ensures.only_reads c.check_rest.ensures.only_reads

pub returns-then-begins_body-clause-operations : goal.returns-then-begins_body-clause-operations
returns-then-begins_body-clause-operations g c =
    let old = g.F.Flash.device c.args.flash.now in
    let mid = g.F.Flash.device c.read_size.new.flash in
    let new = g.F.Flash.device c.check_rest.new.flash in
    asked_on old mid new c.args.block c.requires.lawful c.read_size.ensures.only_reads c.in_ok-size.size c.read_size.new.page.items c.in_ok-size.ensures.begins c.in_ok-size.ensures.size
    (g.met.F.Flash.whole_pages c.args.flash.now) c.read_size.ensures.operations c.check_rest.ensures.operations
