use Rattle.std.proofs.Common.{◌≡◌, ◌*◌, ◌<◌, ◌≤◌, rules, sym, ap, subst, ◌∙◌, inl, inr, arith}
use Rattle.std.proofs.lemmas.Bool.{cases_eq}
use Rattle.fs_types.specs.declared.limits.TheConstants.{ANCHORS}
use Rattle.flash_model.specs.declared.geometry.Geometry.{Geometry}
use Rattle.flash_model.specs.Geometry.{page_count}
use Rattle.flash_model.specs.Reading.{OnlyReads_on}
use Rattle.flash_simulation.specs.Simulation.{device_of}
use Rattle.salvages.proofs.SureFlashes.{still_sure, data_from, anchors_to}
use Rattle.salvages.proofs.copies.copy_data.Goals as goal

pub loop-page-preserved : goal.loop-page-preserved
loop-page-preserved g c =
    let d = g.F.Flash.device c.args.flash.now in
    let mid = g.F.Flash.device c.loop-page.flash in
    let new = device_of c.copy_page.new.copy in
    let so_far = c.loop-page.invariant in
    let puts = c.in_ok-copy_page.ensures.page in
    let page = c.loop-page.page in
    record {
      sure = still_sure d.geometry c.loop-page.copy c.copy_page.new.copy puts.rest c.copy_page.ensures.plan so_far.sure;
      copied = λ p from below. elim (cases_eq p page) [
        | inl same ↦ ap new.pages same ∙ puts.own ∙ so_far.only_reads.pages page ∙ ap d.pages (sym same)
        | inr apart ↦ puts.others p apart ∙ so_far.copied p from (omega arith)
      ];
      others = λ p below. puts.others p (λ same. absurd (let first = c.loop-page.auto.page in omega arith)) ∙ so_far.others p below;
      only_reads = OnlyReads_on d mid (g.F.Flash.device c.copy_page.new.flash) so_far.only_reads c.copy_page.ensures.only_reads;
      room = search rules;
    }

pub returns-clause-data : goal.returns-clause-data
returns-clause-data g c = λ p past below.
    let d = g.F.Flash.device c.args.flash.now in
    let same : c.geometry-geometry.result ≡ d.geometry = c.geometry-geometry.ensures in
    let from : ANCHORS * c.geometry-geometry.result.pages ≤ p = subst (λ (s : Geometry). ANCHORS * s.pages ≤ p) (sym same) (data_from d.geometry p past) in
    let within : p < c.geometry-geometry.result.blocks * c.geometry-geometry.result.pages = subst (λ (s : Geometry). p < page_count s) (sym same) below in
    c.loop-page.invariant.copied p from (let stop = c.loop-page-test.false in omega arith)

pub returns-clause-erased : goal.returns-clause-erased
returns-clause-erased g c = λ p before.
    let d = g.F.Flash.device c.args.flash.now in
    let there : (device_of c.loop-page.copy).geometry ≡ d.geometry = c.loop-page.invariant.sure.geometry in
    let same : (device_of c.loop-page.copy).geometry ≡ c.geometry-geometry.result = there ∙ sym c.geometry-geometry.ensures in
    let some : 1 ≤ (device_of c.loop-page.copy).geometry.pages = subst (λ (s : Geometry). 1 ≤ s.pages) (sym there) c.requires.some_pages in
    c.loop-page.invariant.others p (subst (λ (s : Geometry). p < ANCHORS * s.pages) same (anchors_to (device_of c.loop-page.copy).geometry p some before))
