use Rattle.std.proofs.Common.{◌≡◌, ℕ, List, [], length, Option, Ok, Some, sym, ap, subst, ◌∙◌}
use Rattle.std.proofs.lemmas.Result.{err_from_is_err_and, IfOk-weaker, IfErr-weaker}
use Rattle.flash_model.specs.declared.geometry.Geometry.{Geometry}
use Rattle.flash_model.specs.Geometry.{IsGeometry, block_bytes}
use Rattle.flash_model.specs.Reading.{OnlyReads_on}
use Rattle.node_format.specs.Headers.{node_size}
use Rattle.node_store.specs.NodePages.{node_of}
use Rattle.node_store.specs.ReadingLaws.{OnlyReads_nodes, brings_wants, block_once, each_once}
use Rattle.node_store.proofs.Examined.{wants_from}
use Rattle.node_store.proofs.node_reads.read_node.Goals as goal

pub returns-in_err-size-clause-refuses : goal.returns-in_err-size-clause-refuses
returns-in_err-size-clause-refuses g c =
    let old = g.F.Flash.device c.args.flash.now in
    let new = g.F.Flash.device c.read_size.new.flash in
    let p = err_from_is_err_and c.from_residual.result c.from_residual.ensures.1 in
    rw (p.1, p.2) (λ shown. brings_wants old new (node_of old c.args.block) [] shown c.in_err-size.field-0.0 c.in_err-size.ensures.refuses)

pub finish_node-requires-clause-lawful : goal.finish_node-requires-clause-lawful
finish_node-requires-clause-lawful g c = subst IsGeometry (sym c.read_size.ensures.only_reads.geometry) c.requires.lawful

pub finish_node-requires-clause-whole : goal.finish_node-requires-clause-whole
finish_node-requires-clause-whole g c = c.read_size.ensures.page ∙ c.requires.whole ∙ ap (λ (h : Geometry). h.page) (sym c.read_size.ensures.only_reads.geometry)

pub returns-clause-brings : goal.returns-clause-brings
returns-clause-brings g c =
    let old = g.F.Flash.device c.args.flash.now in
    let same = OnlyReads_nodes old (g.F.Flash.device c.read_size.new.flash) c.requires.lawful c.read_size.ensures.only_reads in
    IfOk-weaker c.finish_node.result _ _ (λ node is. ap (λ (f : ℕ → Option (List ℕ)). f c.args.block) (sym same) ∙ is.0) c.finish_node.ensures.brings

pub returns-clause-refuses : goal.returns-clause-refuses
returns-clause-refuses g c =
    let old = g.F.Flash.device c.args.flash.now in
    let mid = g.F.Flash.device c.read_size.new.flash in
    let new = g.F.Flash.device c.finish_node.new.flash in
    let same = OnlyReads_nodes old mid c.requires.lawful c.read_size.ensures.only_reads in
    IfErr-weaker c.finish_node.result _ _
    (λ fault wants shown. wants_from old mid new (node_of mid c.args.block) (node_of old c.args.block) shown fault c.read_size.ensures.only_reads
    (ap (λ (f : ℕ → Option (List ℕ)). f c.args.block) (sym same)) (wants shown))
    c.finish_node.ensures.refuses

pub returns-clause-only_reads : goal.returns-clause-only_reads
returns-clause-only_reads g c = OnlyReads_on _ _ _ c.read_size.ensures.only_reads c.finish_node.ensures.only_reads

pub returns-clause-operations : goal.returns-clause-operations
returns-clause-operations g c =
    let old = g.F.Flash.device c.args.flash.now in
    let mid = g.F.Flash.device c.read_size.new.flash in
    let head = c.read_size.new.page.items in
    let tells : node_size (block_bytes old.geometry) head ≡ Some c.in_ok-size.size =
    ap (λ (h : Geometry). node_size (block_bytes h) head) (sym c.read_size.ensures.only_reads.geometry) ∙ c.in_ok-size.ensures.size in
    IfOk-weaker c.finish_node.result _ _
    (λ node is. each_once old.geometry mid.geometry c.in_ok-size.size (length node.items) old.operations mid.operations (g.F.Flash.device c.finish_node.new.flash).operations head
    (Ok tt) c.requires.lawful c.read_size.ensures.only_reads.geometry tells c.read_size.ensures.operations c.finish_node.ensures.operations is.1)
    c.finish_node.ensures.brings

pub returns-clause-most : goal.returns-clause-most
returns-clause-most g c =
    let old = g.F.Flash.device c.args.flash.now in
    let mid = g.F.Flash.device c.read_size.new.flash in
    let head = c.read_size.new.page.items in
    let tells : node_size (block_bytes old.geometry) head ≡ Some c.in_ok-size.size =
    ap (λ (h : Geometry). node_size (block_bytes h) head) (sym c.read_size.ensures.only_reads.geometry) ∙ c.in_ok-size.ensures.size in
    block_once old.geometry mid.geometry c.in_ok-size.size old.operations mid.operations (g.F.Flash.device c.finish_node.new.flash).operations head
    c.requires.lawful c.read_size.ensures.only_reads.geometry tells c.read_size.ensures.operations c.finish_node.ensures.operations
