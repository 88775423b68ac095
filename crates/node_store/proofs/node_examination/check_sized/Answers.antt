use Rattle.std.proofs.Common.{◌≡◌, ◌+◌, ◌-◌, ◌<◌, ◌++◌, take, option_map, sym, ap, ◌∙◌, arith, refl, [], Some}
use Rattle.std.proofs.lemmas.Result.{err_from_is_err_and}
use Rattle.flash_model.specs.declared.geometry.Geometry.{Geometry}
use Rattle.flash_model.specs.Reading.{OnlyReads_on, OnlyReads_itself}
use Rattle.node_store.specs.NodePages.{and_page, joined, bytes_at}
use Rattle.nodes.specs.PageCounts.{pages_for}
use Rattle.node_store.specs.ReadingLaws.{Brings_on, no_next}
use Rattle.node_store.proofs.Examined.{joined_next}
use Rattle.node_store.proofs.node_examination.check_sized.Goals as goal

pub returns-clause-there : goal.returns-clause-there
returns-clause-there g c =
    let old = g.F.Flash.device c.args.flash.now in
    let so_far = c.loop-place.invariant.some in
    let count : c.div_ceil-count.result ≡ pages_for old.geometry.page c.args.size =
    c.div_ceil-count.ensures ∙ ap (λ (h : Geometry). pages_for h.page c.args.size) c.geometry.ensures in
    let all : c.loop-place.place ≡ pages_for old.geometry.page c.args.size = omega (arith, count, c.loop-place-test.false, c.loop-place.auto.place-end, c.requires.some) in
    (take c.args.size so_far.0, ap (λ n. option_map (take c.args.size) (joined old.pages c.args.first n)) (sym all) ∙ ap (option_map (take c.args.size)) so_far.1)

pub loop-place-init : goal.loop-place-init
loop-place-init g c = record {
  only_reads = OnlyReads_itself (g.F.Flash.device c.args.flash.now);
  some = (c.args.page.now.items, c.requires.begun);
  page = refl;
  operations = omega arith;
}

pub returns-in_err-read_page-clause-refuses : goal.returns-in_err-read_page-clause-refuses
returns-in_err-read_page-clause-refuses g c =
    let p = err_from_is_err_and c.from_residual.result c.from_residual.ensures.1 in
    let so_far = c.loop-place.invariant in
    let old = g.F.Flash.device c.args.flash.now in
    let mid = g.F.Flash.device c.loop-place.flash in
    let number = c.args.first + c.loop-place.place in
    let count : c.div_ceil-count.result ≡ pages_for old.geometry.page c.args.size =
    c.div_ceil-count.ensures ∙ ap (λ (h : Geometry). pages_for h.page c.args.size) c.geometry.ensures in
    let below : c.loop-place.place < pages_for old.geometry.page c.args.size = let test = c.loop-place-test.true in omega arith in
    rw (p.1, p.2) (Brings_on c.in_err-read_page.field-0.0 old mid (g.F.Flash.device c.read_page.new.flash) (and_page (Some []) (mid.pages number))
    (bytes_at old.geometry old.pages c.args.first c.args.size) c.read_page.new.page.items [] so_far.only_reads
    (λ none. ap (option_map (take c.args.size)) (no_next old mid c.args.first c.loop-place.place (pages_for old.geometry.page c.args.size) so_far.only_reads below none))
    c.in_err-read_page.ensures.brings)

pub loop-place-preserved : goal.loop-place-preserved
loop-place-preserved g c =
    let so_far = c.loop-place.invariant in
    let old = g.F.Flash.device c.args.flash.now in
    let mid = g.F.Flash.device c.loop-place.flash in
    record {
      only_reads = OnlyReads_on old mid (g.F.Flash.device c.read_page.new.flash) so_far.only_reads c.read_page.ensures.only_reads;
      some = (
        so_far.some.0 ++ c.read_page.new.page.items,
        joined_next old mid c.args.first c.loop-place.place so_far.some.0 c.read_page.new.page.items so_far.only_reads so_far.some.1 c.in_ok-read_page.ensures.brings,
      );
      page = c.read_page.ensures.page ∙ so_far.page;
      operations = let a = so_far.operations in let b = c.read_page.ensures.operations in let from = c.loop-place.auto.place in omega arith;
    }
