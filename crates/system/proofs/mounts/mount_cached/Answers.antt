use Rattle.std.proofs.Common.{inl, inr, arith, rules, Option, None, refl, sym, ap, subst, ◌∙◌}
use Rattle.std.proofs.lemmas.Result.{err_from_is_err_and}
use Rattle.std.specs.FinSet as set
use Rattle.fs_types.specs.declared.fault.Fault.{Fault}
use Rattle.flash_model.specs.declared.geometry.Geometry.{Geometry}
use Rattle.record_format.specs.declared.record.Record.{Record}
use Rattle.anchors.specs.Newest.{IsNewestRecord}
use Rattle.system.proofs.Mounting.{newest_fits, none_committed, mounts, not_none, load_why}
use Rattle.flash_model.specs.Reading.{OnlyReads_on}
use Rattle.system.specs.Mounts.{MountCause}
use Rattle.system.proofs.MountedSystems.{mounted_system}
use Rattle.system.proofs.Costing.{asks_to_mount}
use Rattle.system.proofs.mounts.mount_cached.Goals as goal

pub returns-in_err-prepared-clause-why : goal.returns-in_err-prepared-clause-why
returns-in_err-prepared-clause-why g c =
    let d = g.F.Flash.device c.args.flash.now in
    let p = err_from_is_err_and c.from_residual.result c.from_residual.ensures.1 in
    rw (p.1, p.2) (subst (λ (fault : Fault). MountCause d d fault) (sym c.in_err-prepared.ensures.err) (inl refl))

pub returns-in_err-prepared-clause-asks_at_most : goal.returns-in_err-prepared-clause-asks_at_most
returns-in_err-prepared-clause-asks_at_most g c = rw (err_from_is_err_and c.from_residual.result c.from_residual.ensures.1).1 (inl (omega arith))

pub returns-in_default-clause-why : goal.returns-in_default-clause-why
returns-in_default-clause-why g c =
    let d = g.F.Flash.device c.args.flash.now in
    let none = subst (λ (o : Option Record). IsNewestRecord d o) c.in_default.is c.in_ok-newest.ensures.newest in
    (none, none_committed d none)

pub load-requires-clause-same : goal.load-requires-clause-same
load-requires-clause-same g c =
    let d = g.F.Flash.device c.args.flash.now in
    let newest = subst (λ (o : Option Record). IsNewestRecord d o) c.in-Some.is c.in_ok-newest.ensures.newest in
    (newest_fits d c.in-Some.newest newest).0 ∙ sym c.newest.ensures.only_reads.geometry

pub load-requires-clause-is_lawful : goal.load-requires-clause-is_lawful
load-requires-clause-is_lawful g c =
    let d = g.F.Flash.device c.args.flash.now in
    let newest = subst (λ (o : Option Record). IsNewestRecord d o) c.in-Some.is c.in_ok-newest.ensures.newest in
    (newest_fits d c.in-Some.newest newest).1

pub returns-in_err-state-clause-why : goal.returns-in_err-state-clause-why
returns-in_err-state-clause-why g c =
    let d = g.F.Flash.device c.args.flash.now in
    let newest = subst (λ (o : Option Record). IsNewestRecord d o) c.in-Some.is c.in_ok-newest.ensures.newest in
    let p = err_from_is_err_and c.from_residual-in_err-state.result c.from_residual-in_err-state.ensures.1 in
    rw (p.1, p.2)
    (load_why d (g.F.Flash.device c.newest.new.flash) (g.F.Flash.device c.load.new.flash) c.in-Some.newest c.in_err-state.field-0.0 (search rules) newest
    c.newest.ensures.only_reads c.in_err-state.ensures.why)

mount_of : goal.returns-clause-ok
mount_of g c =
    let d = g.F.Flash.device c.args.flash.now in
    let newest = subst (λ (o : Option Record). IsNewestRecord d o) c.in-Some.is c.in_ok-newest.ensures.newest in
    mounts d (g.F.Flash.device c.newest.new.flash) (g.F.Flash.device c.load.new.flash) c.in-Some.newest (record { state = c.in_ok-state.state; bodies = c.new-bodies.result; anchors = c.newest.new.self; record_roots = c.in_ok-state.record_roots; pass = None; cleaned_to = 0; prepared = c.in_ok-prepared.prepared }) newest
    c.load.ensures.only_reads c.newest.ensures.uncleared (c.in_ok-newest.ensures.ready (not_none c.in_ok-newest.field-0 c.in-Some.newest c.in-Some.is)) c.in_ok-state.ensures.loaded refl refl
    (c.in_ok-prepared.ensures.ok ∙ ap (λ (n : Geometry). record { blocks = n.blocks; members = set.empty }) (c.geometry-2.ensures ∙ sym c.newest.ensures.only_reads.geometry ∙ sym c.load.ensures.only_reads.geometry))

pub returns-clause-system : goal.returns-clause-system
returns-clause-system g c =
    let d = g.F.Flash.device c.args.flash.now in
    mounted_system d (g.F.Flash.device c.load.new.flash) (record { state = c.in_ok-state.state; bodies = c.new-bodies.result; anchors = c.newest.new.self; record_roots = c.in_ok-state.record_roots; pass = None; cleaned_to = 0; prepared = c.in_ok-prepared.prepared })
    (OnlyReads_on d (g.F.Flash.device c.newest.new.flash) (g.F.Flash.device c.load.new.flash) c.newest.ensures.only_reads c.load.ensures.only_reads) (mount_of g c) c.in_ok-state.ensures.roots refl c.new-bodies.ensures

pub returns-clause-ok : goal.returns-clause-ok
returns-clause-ok g c = mount_of g c

pub returns-clause-only_reads : goal.returns-clause-only_reads
returns-clause-only_reads g c =
    let d = g.F.Flash.device c.args.flash.now in
    OnlyReads_on d (g.F.Flash.device c.newest.new.flash) (g.F.Flash.device c.load.new.flash) c.newest.ensures.only_reads c.load.ensures.only_reads

pub returns-in_err-newest-clause-only_reads : goal.returns-in_err-newest-clause-only_reads
returns-in_err-newest-clause-only_reads g c = c.newest.ensures.only_reads

pub returns-in_default-clause-only_reads : goal.returns-in_default-clause-only_reads
returns-in_default-clause-only_reads g c = c.newest.ensures.only_reads

pub returns-in_err-state-clause-only_reads : goal.returns-in_err-state-clause-only_reads
returns-in_err-state-clause-only_reads g c = OnlyReads_on (g.F.Flash.device c.args.flash.now) (g.F.Flash.device c.newest.new.flash) (g.F.Flash.device c.load.new.flash) c.newest.ensures.only_reads c.load.ensures.only_reads

pub returns-clause-asks : goal.returns-clause-asks
returns-clause-asks g c =
    let d = g.F.Flash.device c.args.flash.now in
    let newest = subst (λ (o : Option Record). IsNewestRecord d o) c.in-Some.is c.in_ok-newest.ensures.newest in
    asks_to_mount d (g.F.Flash.device c.newest.new.flash) (g.F.Flash.device c.load.new.flash) c.in-Some.newest (search rules) newest
    c.newest.ensures.only_reads c.newest.ensures.operations c.load.ensures.asks

pub returns-then-not-is_lawful-clause-asks_at_most : goal.returns-then-not-is_lawful-clause-asks_at_most
returns-then-not-is_lawful-clause-asks_at_most g c = inl (omega arith)

pub returns-in_err-newest-clause-asks_at_most : goal.returns-in_err-newest-clause-asks_at_most
returns-in_err-newest-clause-asks_at_most g c = rw (err_from_is_err_and c.from_residual-in_err-newest.result c.from_residual-in_err-newest.ensures.1).1 (inl c.newest.ensures.operations)

pub returns-in_default-clause-asks_at_most : goal.returns-in_default-clause-asks_at_most
returns-in_default-clause-asks_at_most g c = inl c.newest.ensures.operations

pub returns-in_err-state-clause-asks_at_most : goal.returns-in_err-state-clause-asks_at_most
returns-in_err-state-clause-asks_at_most g c =
    let d = g.F.Flash.device c.args.flash.now in
    let newest = subst (λ (o : Option Record). IsNewestRecord d o) c.in-Some.is c.in_ok-newest.ensures.newest in
    rw (err_from_is_err_and c.from_residual-in_err-state.result c.from_residual-in_err-state.ensures.1).1
    (inr (asks_to_mount d (g.F.Flash.device c.newest.new.flash) (g.F.Flash.device c.load.new.flash) c.in-Some.newest (search rules) newest
    c.newest.ensures.only_reads c.newest.ensures.operations c.load.ensures.asks))
