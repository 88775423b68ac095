use Rattle.std.proofs.Common.{[], subst}
use Rattle.flash_model.specs.declared.geometry.Geometry.{Geometry}
use Rattle.flash_simulation.specs.Simulation.{device_of}
use Rattle.record_format.specs.Payloads.{written}
use Rattle.std.proofs.Common.{◌≤◌, ◌∙◌}
use Rattle.anchors.specs.Programming.{Fills}
use Rattle.salvages.proofs.FirstPages.{newest_stands, data_stays}
use Rattle.salvages.proofs.record_pages.put_record.Goals as goal

pub returns-clause-newest : goal.returns-clause-newest
returns-clause-newest c =
    let d = device_of c.args.flash.now in
    let same = c.geometry-geometry.ensures in
    let bytes = c.as_slice-bytes.result.now in
    let count = c.pages_for-count.result in
    newest_stands c.page_laws.ensures c.payload_laws.ensures.written d (device_of c.put_pages.new.flash) (written c.args.saved.now []) bytes count
    c.args.flash.now.lawful c.requires.same c.requires.erased c.put_pages.ensures.only (subst (λ (s : Geometry). Fills s bytes count) same c.pages_for-count.ensures.fills)
    (subst (λ (s : Geometry). count ≤ s.pages) same c.pages_for-count.ensures.fits) c.pages_for-count.type_inv c.put_pages.ensures.fits c.put_pages.ensures.pages
    c.requires.lawful c.write_payload-payload.ensures.fits (c.as_slice-bytes.ensures.value ∙ c.write_payload-payload.ensures.spelled)

pub returns-clause-data : goal.returns-clause-data
returns-clause-data c =
    let d = device_of c.args.flash.now in
    let same = c.geometry-geometry.ensures in
    let bytes = c.as_slice-bytes.result.now in
    let count = c.pages_for-count.result in
    data_stays c.page_laws.ensures c.payload_laws.ensures.written d (device_of c.put_pages.new.flash) (written c.args.saved.now []) bytes count
    c.args.flash.now.lawful c.requires.same c.requires.erased c.put_pages.ensures.only (subst (λ (s : Geometry). Fills s bytes count) same c.pages_for-count.ensures.fills)
    (subst (λ (s : Geometry). count ≤ s.pages) same c.pages_for-count.ensures.fits) c.pages_for-count.type_inv c.put_pages.ensures.fits c.put_pages.ensures.pages
