use Rattle.std.proofs.Common.{◌≡◌, Some, Result, refl, ap, sym, ◌∙◌, inl, inr, arith}
use Rattle.fs_types.specs.declared.fault.Fault.{Fault}
use Rattle.flash_model.specs.Reading.{OnlyReads_itself}
use Rattle.record_format.specs.declared.record.Record.{Record}
use Rattle.anchors.proofs.ReadParts.{found_once}
use Rattle.std.proofs.lemmas.Result.{err_from_is_err_and}
use Rattle.anchors.specs.declared.best.Best.{Best}
use Rattle.anchors.specs.Parts.{parts_on, payload_of, newest_at, pages_of}
use Rattle.anchors.proofs.Committed.{tie_at, none_at, committed_at, wants_at, payload_cause, refused_cause, read_cause}
use Rattle.anchors.proofs.NewestLaws.{best_ends}
use Rattle.anchors.proofs.newest.read_best.Goals as goal

pub returns-then-best-clause-why : goal.returns-then-best-clause-why
returns-then-best-clause-why g c =
    inl (tie_at (g.F.Flash.device c.args.flash.now) c.args.geometry c.args.best c.requires.may.same c.requires.best c.if-best.true)

pub returns-in_default-clause-newest : goal.returns-in_default-clause-newest
returns-in_default-clause-newest g c =
    none_at (g.F.Flash.device c.args.flash.now) c.args.geometry c.args.best c.requires.may.same c.requires.best c.in_default.is

pub find_payload-requires-clause-in_range : goal.find_payload-requires-clause-in_range
find_payload-requires-clause-in_range g c =
    best_ends c.args.geometry (parts_on c.args.geometry (g.F.Flash.device c.args.flash.now).pages) c.in-Some.found c.requires.may.lawful
    (ap (λ (b : Best). b.found) (sym c.requires.best) ∙ c.in-Some.is)

pub returns-in_err-newest-clause-why : goal.returns-in_err-newest-clause-why
returns-in_err-newest-clause-why g c =
    let p = err_from_is_err_and c.from_residual-in_err-newest.result c.from_residual-in_err-newest.ensures.1 in
    let old = g.F.Flash.device c.args.flash.now in
    let held : c.as_slice.result.now ≡ payload_of c.args.geometry (parts_on c.args.geometry old.pages) c.in-Some.found = c.as_slice.ensures.value ∙ c.in_ok-payload.ensures.payload in
    rw (p.1, p.2) (payload_cause old (g.F.Flash.device c.find_payload.new.flash) c.args.geometry c.in-Some.found.head.sequence c.as_slice.result.now c.in_err-newest.field-0.0
    (committed_at old c.args.geometry c.args.best c.in-Some.found c.as_slice.result.now c.requires.may.same c.requires.best c.if-best.false c.in-Some.is held) c.in_err-newest.ensures.err
    (λ none. wants_at old c.args.geometry c.args.best c.in-Some.found c.as_slice.result.now c.requires.may.same c.requires.best c.if-best.false c.in-Some.is held (c.in_err-newest.ensures.memory none)))

pub returns-then-best-clause-only_reads : goal.returns-then-best-clause-only_reads
returns-then-best-clause-only_reads g c = OnlyReads_itself (g.F.Flash.device c.args.flash.now)

pub returns-in_default-clause-only_reads : goal.returns-in_default-clause-only_reads
returns-in_default-clause-only_reads g c = OnlyReads_itself (g.F.Flash.device c.args.flash.now)

pub returns-in_default-clause-found : goal.returns-in_default-clause-found
returns-in_default-clause-found g c = found_once c.args.geometry (parts_on c.args.geometry (g.F.Flash.device c.args.flash.now).pages) c.args.best c.requires.best c.if-best.false

pub returns-in_err-payload-clause-newest : goal.returns-in_err-payload-clause-newest
returns-in_err-payload-clause-newest g c = rw (err_from_is_err_and c.from_residual.result c.from_residual.ensures.1).1 tt

pub returns-in_err-payload-clause-found : goal.returns-in_err-payload-clause-found
returns-in_err-payload-clause-found g c = rw (err_from_is_err_and c.from_residual.result c.from_residual.ensures.1).1 tt

pub returns-in_err-payload-clause-only_reads : goal.returns-in_err-payload-clause-only_reads
returns-in_err-payload-clause-only_reads g c = c.in_err-payload.ensures.only_reads

pub returns-in_err-payload-clause-why : goal.returns-in_err-payload-clause-why
returns-in_err-payload-clause-why g c =
    let p = err_from_is_err_and c.from_residual.result c.from_residual.ensures.1 in
    let old = g.F.Flash.device c.args.flash.now in
    let new = g.F.Flash.device c.find_payload.new.flash in
    let fault = c.in_err-payload.field-0.0 in
    let bytes = payload_of c.args.geometry (parts_on c.args.geometry old.pages) c.in-Some.found in
    rw (p.1, p.2) (elim c.in_err-payload.ensures.why [
      | inl cause ↦ read_cause old new fault cause
      | inr refused ↦ refused_cause old new c.args.geometry c.in-Some.found.head.sequence bytes fault (committed_at old c.args.geometry c.args.best c.in-Some.found bytes c.requires.may.same c.requires.best c.if-best.false c.in-Some.is refl) refused
    ])

pub returns-in_err-newest-clause-newest : goal.returns-in_err-newest-clause-newest
returns-in_err-newest-clause-newest g c = rw (err_from_is_err_and c.from_residual-in_err-newest.result c.from_residual-in_err-newest.ensures.1).1 tt

pub returns-in_err-newest-clause-found : goal.returns-in_err-newest-clause-found
returns-in_err-newest-clause-found g c = rw (err_from_is_err_and c.from_residual-in_err-newest.result c.from_residual-in_err-newest.ensures.1).1 tt

pub returns-in_err-newest-clause-only_reads : goal.returns-in_err-newest-clause-only_reads
returns-in_err-newest-clause-only_reads g c = c.in_ok-payload.ensures.only_reads

pub returns-clause-newest : goal.returns-clause-newest
returns-clause-newest g c =
    let old = g.F.Flash.device c.args.flash.now in
    let held : c.as_slice.result.now ≡ payload_of c.args.geometry (parts_on c.args.geometry old.pages) c.in-Some.found = c.as_slice.ensures.value ∙ c.in_ok-payload.ensures.payload in
    committed_at old c.args.geometry c.args.best c.in-Some.found c.as_slice.result.now c.requires.may.same c.requires.best c.if-best.false c.in-Some.is held ∙ ap (λ (r : Result Record Fault). Some r) c.in_ok-newest.ensures.ok

pub returns-clause-found : goal.returns-clause-found
returns-clause-found g c = found_once c.args.geometry (parts_on c.args.geometry (g.F.Flash.device c.args.flash.now).pages) c.args.best c.requires.best c.if-best.false

pub returns-clause-only_reads : goal.returns-clause-only_reads
returns-clause-only_reads g c = c.in_ok-payload.ensures.only_reads

pub returns-in_err-payload-clause-operations : goal.returns-in_err-payload-clause-operations
returns-in_err-payload-clause-operations g c =
    let parts = parts_on c.args.geometry (g.F.Flash.device c.args.flash.now).pages in
    let pages : pages_of (newest_at c.args.geometry parts) ≡ c.in-Some.found.head.count = ap pages_of (sym (found_once c.args.geometry parts c.args.best c.requires.best c.if-best.false) ∙ c.in-Some.is) in
    let asked = c.in_err-payload.ensures.operations in
    omega arith

pub returns-in_err-newest-clause-operations : goal.returns-in_err-newest-clause-operations
returns-in_err-newest-clause-operations g c =
    let parts = parts_on c.args.geometry (g.F.Flash.device c.args.flash.now).pages in
    let pages : pages_of (newest_at c.args.geometry parts) ≡ c.in-Some.found.head.count = ap pages_of (sym (found_once c.args.geometry parts c.args.best c.requires.best c.if-best.false) ∙ c.in-Some.is) in
    let asked = c.in_ok-payload.ensures.operations in
    omega arith

pub returns-clause-operations : goal.returns-clause-operations
returns-clause-operations g c =
    let parts = parts_on c.args.geometry (g.F.Flash.device c.args.flash.now).pages in
    let pages : pages_of (newest_at c.args.geometry parts) ≡ c.in-Some.found.head.count = ap pages_of (sym (found_once c.args.geometry parts c.args.best c.requires.best c.if-best.false) ∙ c.in-Some.is) in
    let asked = c.in_ok-payload.ensures.operations in
    omega arith

pub returns-then-best-clause-operations : goal.returns-then-best-clause-operations
returns-then-best-clause-operations g c = omega arith

pub returns-in_default-clause-operations : goal.returns-in_default-clause-operations
returns-in_default-clause-operations g c = omega arith
