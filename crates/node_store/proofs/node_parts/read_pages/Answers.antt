use Rattle.std.proofs.Common.{◌≡◌, ℕ, ◌+◌, ◌<◌, ◌≤◌, length, [], Some, sym, ap, subst, ◌∙◌, arith}
use Rattle.std.specs.Int.{div_ceil}
use Rattle.std.proofs.lemmas.Result.{err_from_is_err_and}
use Rattle.flash_model.specs.declared.geometry.Geometry.{Geometry}
use Rattle.flash_model.specs.Device.{bytes_of}
use Rattle.flash_model.specs.Reading.{OnlyReads_on}
use Rattle.node_store.specs.NodePages.{and_page, joined}
use Rattle.nodes.specs.PageCounts.{pages_for}
use Rattle.node_store.specs.NodeLaws.{AreWhole, lawful_has_room, first_joined}
use Rattle.node_store.specs.ReadingLaws.{Brings_on, no_next}
use Rattle.node_store.proofs.PartBytes.{next_page, all_copied}
use Rattle.node_store.proofs.node_parts.read_pages.Goals as goal

pub returns-in_err-read_page-clause-refuses : goal.returns-in_err-read_page-clause-refuses
returns-in_err-read_page-clause-refuses g c =
    let p = err_from_is_err_and c.from_residual.result c.from_residual.ensures.1 in
    let so_far = c.loop-place.invariant in
    let old = g.F.Flash.device c.args.flash.now in
    let mid = g.F.Flash.device c.loop-place.flash in
    let end = c.args.offset + length c.args.out.now in
    let count : c.div_ceil-place-end.result ≡ pages_for old.geometry.page end =
    c.div_ceil-place-end.ensures ∙ ap (λ (h : Geometry). pages_for h.page end) c.geometry-size.ensures in
    let below : c.loop-place.place < pages_for old.geometry.page end = let test = c.loop-place-test.true in omega arith in
    rw (p.1, p.2) (Brings_on c.in_err-read_page.field-0.0 old mid (g.F.Flash.device c.read_page.new.flash)
    (and_page (Some []) (mid.pages (c.args.first + c.loop-place.place))) (joined old.pages c.args.first (pages_for old.geometry.page end))
    c.read_page.new.page.items [] so_far.only_reads
    (λ none. no_next old mid c.args.first c.loop-place.place (pages_for old.geometry.page end) so_far.only_reads below none)
    c.in_err-read_page.ensures.brings)

pub loop-place-preserved : goal.loop-place-preserved
loop-place-preserved g c =
    let so_far = c.loop-place.invariant in
    let old = g.F.Flash.device c.args.flash.now in
    let mid = g.F.Flash.device c.loop-place.flash in
    let size = c.geometry-size.result.page in
    let at = c.args.first + c.loop-place.place in
    let size_is : size ≡ old.geometry.page = ap (λ (h : Geometry). h.page) c.geometry-size.ensures in
    let whole = subst (λ (n : ℕ). AreWhole n old.pages) (sym size_is) (g.met.F.Flash.whole_pages c.args.flash.now) in
    let room = lawful_has_room old.geometry c.requires.lawful in
    let is : old.pages at ≡ bytes_of c.deref.result.now =
    first_joined (old.pages at) c.read_page.new.page.items (ap (and_page (Some [])) (sym (so_far.only_reads.pages at)) ∙ c.in_ok-read_page.ensures.brings)
    ∙ ap bytes_of (sym c.deref.ensures.value) in
    let below : c.loop-place.place < div_ceil (c.args.offset + length c.args.out.now) size =
    let test = c.loop-place-test.true in let count = c.div_ceil-place-end.ensures in omega arith in
    record {
      only_reads = OnlyReads_on old mid (g.F.Flash.device c.read_page.new.flash) so_far.only_reads c.read_page.ensures.only_reads;
      copied = λ n all joins fits.
          next_page old.pages size c.args.first n c.loop-place.place c.args.offset (length c.args.out.now) all c.deref.result.now c.loop-place.out
          c.copy_page.new.out whole (omega arith) is joins fits c.loop-place.auto.out below (so_far.copied n all joins fits) c.copy_page.ensures;
      page = c.read_page.ensures.page ∙ so_far.page;
      operations = let a = so_far.operations in let b = c.read_page.ensures.operations in let from = c.loop-place.auto.place in omega arith;
    }

pub returns-clause-copied : goal.returns-clause-copied
returns-clause-copied g c = λ n all joins fits.
    let old = g.F.Flash.device c.args.flash.now in
    let size = c.geometry-size.result.page in
    let size_is : size ≡ old.geometry.page = ap (λ (h : Geometry). h.page) c.geometry-size.ensures in
    let room = lawful_has_room old.geometry c.requires.lawful in
    let last : div_ceil (c.args.offset + length c.args.out.now) size ≤ c.loop-place.place =
    let test = c.loop-place-test.false in let count = c.div_ceil-place-end.ensures in omega arith in
    all_copied size c.loop-place.place c.args.offset (length c.args.out.now) all c.loop-place.out (omega arith) c.loop-place.auto.out fits last
    (c.loop-place.invariant.copied n all joins fits)
