use Rattle.std.specs.FinSet as set
use Rattle.std.specs.Ordering.{nat_cmp}
use Rattle.std.proofs.Common.{◌≡◌, ◌≢◌, ℕ, ◌/◌, Option, Some, None, refl, sym, ap, subst, ◌∙◌, arith, rules}
use Rattle.std.proofs.lemmas.Result.{err_from_is_err_and}
use Rattle.flash_model.specs.declared.geometry.Geometry.{Geometry}
use Rattle.flash_model.specs.Geometry.{IsGeometry}
use Rattle.flash_model.specs.Device.{Device, Page}
use Rattle.flash_model.specs.Reading.{OnlyReads, OnlyReads_itself, OnlyReads_on, same_pages}
use Rattle.record_format.specs.declared.record.Record.{Record}
use Rattle.anchors.specs.declared.anchors.Anchors.{Anchors}
use Rattle.anchors.specs.declared.best.Found.{Found}
use Rattle.anchors.specs.Newest.{KnowsEnd, IsNewestRecord, prepared_anchor}
use Rattle.anchors.specs.Parts.{parts_on, best_on, newest_at}
use Rattle.anchors.specs.Reading.{IsEnd}
use Rattle.anchors.specs.Remembering.{MayCommit}
use Rattle.anchors.proofs.Beginning.{remembers_at, knows_end_at, ready_at}
use Rattle.anchors.proofs.Committed.{newest_stays, none_committed, first_cause, cause_stays}
use Rattle.anchors.proofs.ScanLaws.{newest_asks}
use Rattle.anchors.proofs.anchors.Anchors.newest.Goals as goal

-- the end of the anchor on which the newest record was found
knows_end : (old : Device) (g : Geometry) (anchors : Anchors) → old.geometry ≡ g → ((found : Found) → anchors.newest ≡ Some found → IsEnd g old.pages (found.page / g.pages) g.pages anchors.end) → KnowsEnd old anchors
knows_end old g anchors same end found is = knows_end_at old old g found anchors same (OnlyReads_itself old) is (end found is) found is

-- a commit may follow where a record was found
ready_found : (old mid new : Device) (g : Geometry) (anchors : Anchors) (newest : Option Record) (bad : set.FinSet nat_cmp) → old.geometry ≡ g → OnlyReads old mid → OnlyReads mid new → anchors.newest ≡ newest_at g (parts_on g mid.pages)
    → IsNewestRecord mid newest → ((found : Found) → anchors.newest ≡ Some found → IsEnd g old.pages (found.page / g.pages) g.pages anchors.end) → prepared_anchor anchors ≡ None → newest ≢ None → MayCommit new bad anchors
ready_found old mid new g anchors newest bad same first next at is end none some = on anchors.newest refl
  where
    on : (found : Option Found) → anchors.newest ≡ found → MayCommit new bad anchors
    on None none_found = absurd (some (none_committed mid g anchors.newest newest (first.geometry ∙ same) at none_found is))
    on (Some found) here = ready_at old new bad anchors found (OnlyReads_on old mid new first next) here (remembers_at old mid g anchors.newest same first at) (knows_end old g anchors same end) none

pub read_best-requires-clause-best : goal.read_best-requires-clause-best
read_best-requires-clause-best g c =
    c.in_ok-best.ensures.best ∙ ap (λ (pages : ℕ → Page). best_on c.geometry-geometry.result (parts_on c.geometry-geometry.result pages)) (sym (same_pages c.in_ok-best.ensures.reads.only_reads))

pub returns-in_err-page-clause-newest : goal.returns-in_err-page-clause-newest
returns-in_err-page-clause-newest g c = rw (err_from_is_err_and c.from_residual.result c.from_residual.ensures.1).1 tt

pub returns-in_err-page-clause-remembers : goal.returns-in_err-page-clause-remembers
returns-in_err-page-clause-remembers g c = rw (err_from_is_err_and c.from_residual.result c.from_residual.ensures.1).1 tt

pub returns-in_err-page-clause-end : goal.returns-in_err-page-clause-end
returns-in_err-page-clause-end g c = rw (err_from_is_err_and c.from_residual.result c.from_residual.ensures.1).1 tt

pub returns-in_err-page-clause-ready : goal.returns-in_err-page-clause-ready
returns-in_err-page-clause-ready g c = rw (err_from_is_err_and c.from_residual.result c.from_residual.ensures.1).1 tt

pub returns-in_err-page-clause-forgets : goal.returns-in_err-page-clause-forgets
returns-in_err-page-clause-forgets g c = rw (err_from_is_err_and c.from_residual.result c.from_residual.ensures.1).1 c.new.ensures.none

pub returns-in_err-page-clause-uncleared : goal.returns-in_err-page-clause-uncleared
returns-in_err-page-clause-uncleared g c = c.new.ensures.uncleared

pub returns-in_err-best-clause-newest : goal.returns-in_err-best-clause-newest
returns-in_err-best-clause-newest g c = rw (err_from_is_err_and c.from_residual-in_err-best.result c.from_residual-in_err-best.ensures.1).1 tt

pub returns-in_err-best-clause-remembers : goal.returns-in_err-best-clause-remembers
returns-in_err-best-clause-remembers g c = rw (err_from_is_err_and c.from_residual-in_err-best.result c.from_residual-in_err-best.ensures.1).1 tt

pub returns-in_err-best-clause-end : goal.returns-in_err-best-clause-end
returns-in_err-best-clause-end g c = rw (err_from_is_err_and c.from_residual-in_err-best.result c.from_residual-in_err-best.ensures.1).1 tt

pub returns-in_err-best-clause-ready : goal.returns-in_err-best-clause-ready
returns-in_err-best-clause-ready g c = rw (err_from_is_err_and c.from_residual-in_err-best.result c.from_residual-in_err-best.ensures.1).1 tt

pub returns-in_err-best-clause-forgets : goal.returns-in_err-best-clause-forgets
returns-in_err-best-clause-forgets g c = rw (err_from_is_err_and c.from_residual-in_err-best.result c.from_residual-in_err-best.ensures.1).1 c.new.ensures.none

pub returns-in_err-best-clause-uncleared : goal.returns-in_err-best-clause-uncleared
returns-in_err-best-clause-uncleared g c = c.new.ensures.uncleared

pub returns-in_err-newest-clause-newest : goal.returns-in_err-newest-clause-newest
returns-in_err-newest-clause-newest g c = rw (err_from_is_err_and c.from_residual-in_err-newest.result c.from_residual-in_err-newest.ensures.1).1 tt

pub returns-in_err-newest-clause-remembers : goal.returns-in_err-newest-clause-remembers
returns-in_err-newest-clause-remembers g c = rw (err_from_is_err_and c.from_residual-in_err-newest.result c.from_residual-in_err-newest.ensures.1).1 tt

pub returns-in_err-newest-clause-end : goal.returns-in_err-newest-clause-end
returns-in_err-newest-clause-end g c = rw (err_from_is_err_and c.from_residual-in_err-newest.result c.from_residual-in_err-newest.ensures.1).1 tt

pub returns-in_err-newest-clause-ready : goal.returns-in_err-newest-clause-ready
returns-in_err-newest-clause-ready g c = rw (err_from_is_err_and c.from_residual-in_err-newest.result c.from_residual-in_err-newest.ensures.1).1 tt

pub returns-in_err-newest-clause-forgets : goal.returns-in_err-newest-clause-forgets
returns-in_err-newest-clause-forgets g c = rw (err_from_is_err_and c.from_residual-in_err-newest.result c.from_residual-in_err-newest.ensures.1).1 c.new.ensures.none

pub returns-in_err-newest-clause-uncleared : goal.returns-in_err-newest-clause-uncleared
returns-in_err-newest-clause-uncleared g c = c.new.ensures.uncleared

pub returns-in_err-page-clause-only_reads : goal.returns-in_err-page-clause-only_reads
returns-in_err-page-clause-only_reads g c = OnlyReads_itself (g.F.Flash.device c.args.flash.now)

pub returns-in_err-page-clause-operations : goal.returns-in_err-page-clause-operations
returns-in_err-page-clause-operations g c = omega arith

pub returns-in_err-best-clause-only_reads : goal.returns-in_err-best-clause-only_reads
returns-in_err-best-clause-only_reads g c = c.in_err-best.ensures.reads.only_reads

pub returns-in_err-best-clause-operations : goal.returns-in_err-best-clause-operations
returns-in_err-best-clause-operations g c =
    newest_asks (g.F.Flash.device c.args.flash.now) (g.F.Flash.device c.find_best.new.flash) (g.F.Flash.device c.find_best.new.flash) c.geometry-geometry.result (sym c.geometry-geometry.ensures) c.in_err-best.ensures.reads.only_reads c.in_err-best.ensures.reads.operations (omega arith)

pub returns-in_err-best-clause-why : goal.returns-in_err-best-clause-why
returns-in_err-best-clause-why g c =
    let p = err_from_is_err_and c.from_residual-in_err-best.result c.from_residual-in_err-best.ensures.1 in
    rw (p.1, p.2) (first_cause (g.F.Flash.device c.args.flash.now) (g.F.Flash.device c.find_best.new.flash) c.in_err-best.field-0.0 c.in_err-best.ensures.reads.why)

pub returns-in_err-newest-clause-only_reads : goal.returns-in_err-newest-clause-only_reads
returns-in_err-newest-clause-only_reads g c = OnlyReads_on (g.F.Flash.device c.args.flash.now) (g.F.Flash.device c.find_best.new.flash) (g.F.Flash.device c.read_best.new.flash) c.in_ok-best.ensures.reads.only_reads c.in_err-newest.ensures.only_reads

pub returns-in_err-newest-clause-operations : goal.returns-in_err-newest-clause-operations
returns-in_err-newest-clause-operations g c = newest_asks (g.F.Flash.device c.args.flash.now) (g.F.Flash.device c.find_best.new.flash) (g.F.Flash.device c.read_best.new.flash) c.geometry-geometry.result (sym c.geometry-geometry.ensures) c.in_ok-best.ensures.reads.only_reads c.in_ok-best.ensures.reads.operations c.in_err-newest.ensures.operations

pub returns-in_err-newest-clause-why : goal.returns-in_err-newest-clause-why
returns-in_err-newest-clause-why g c =
    let p = err_from_is_err_and c.from_residual-in_err-newest.result c.from_residual-in_err-newest.ensures.1 in
    rw (p.1, p.2) (cause_stays (g.F.Flash.device c.args.flash.now) (g.F.Flash.device c.find_best.new.flash) (g.F.Flash.device c.read_best.new.flash) c.in_err-newest.field-0.0 c.in_ok-best.ensures.reads.only_reads c.in_err-newest.ensures.why)

pub returns-clause-newest : goal.returns-clause-newest
returns-clause-newest g c = newest_stays (g.F.Flash.device c.args.flash.now) (g.F.Flash.device c.find_best.new.flash) c.in_ok-newest.newest c.in_ok-best.ensures.reads.only_reads c.in_ok-newest.ensures.newest

pub returns-clause-remembers : goal.returns-clause-remembers
returns-clause-remembers g c = remembers_at (g.F.Flash.device c.args.flash.now) (g.F.Flash.device c.find_best.new.flash) c.geometry-geometry.result c.in_ok-best.best.found (sym c.geometry-geometry.ensures) c.in_ok-best.ensures.reads.only_reads c.in_ok-newest.ensures.found

pub returns-clause-end : goal.returns-clause-end
returns-clause-end g c =
    let anchors : Anchors = record c.new.result { newest = c.in_ok-best.best.found; end = c.in_ok-best.end } in
    knows_end (g.F.Flash.device c.args.flash.now) c.geometry-geometry.result anchors (sym c.geometry-geometry.ensures) c.in_ok-best.ensures.end

pub returns-clause-ready : goal.returns-clause-ready
returns-clause-ready g c = λ some bad.
    let anchors : Anchors = record c.new.result { newest = c.in_ok-best.best.found; end = c.in_ok-best.end } in
    ready_found (g.F.Flash.device c.args.flash.now) (g.F.Flash.device c.find_best.new.flash) (g.F.Flash.device c.read_best.new.flash) c.geometry-geometry.result anchors c.in_ok-newest.newest bad (sym c.geometry-geometry.ensures) c.in_ok-best.ensures.reads.only_reads c.in_ok-newest.ensures.only_reads c.in_ok-newest.ensures.found c.in_ok-newest.ensures.newest c.in_ok-best.ensures.end c.new.ensures.unprepared some

pub returns-clause-uncleared : goal.returns-clause-uncleared
returns-clause-uncleared g c = c.new.ensures.uncleared

pub returns-clause-only_reads : goal.returns-clause-only_reads
returns-clause-only_reads g c = OnlyReads_on (g.F.Flash.device c.args.flash.now) (g.F.Flash.device c.find_best.new.flash) (g.F.Flash.device c.read_best.new.flash) c.in_ok-best.ensures.reads.only_reads c.in_ok-newest.ensures.only_reads

pub returns-clause-operations : goal.returns-clause-operations
returns-clause-operations g c = newest_asks (g.F.Flash.device c.args.flash.now) (g.F.Flash.device c.find_best.new.flash) (g.F.Flash.device c.read_best.new.flash) c.geometry-geometry.result (sym c.geometry-geometry.ensures) c.in_ok-best.ensures.reads.only_reads c.in_ok-best.ensures.reads.operations c.in_ok-newest.ensures.operations

pub find_best-requires : goal.find_best-requires
find_best-requires g c = record { may = record { same = sym c.geometry-geometry.ensures; lawful = subst IsGeometry (sym c.geometry-geometry.ensures) c.requires; whole = search rules } }

pub read_best-requires-clause-may : goal.read_best-requires-clause-may
read_best-requires-clause-may g c = record { same = c.in_ok-best.ensures.reads.only_reads.geometry ∙ sym c.geometry-geometry.ensures; lawful = subst IsGeometry (sym c.geometry-geometry.ensures) c.requires; whole = search rules }
