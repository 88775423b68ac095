use Rattle.std.proofs.Common.{List, Option, Some, ◌+◌, ◌*◌, ◌<◌, length, map, inl, refl, sym, subst, vec_items}
use Rattle.std.proofs.lemmas.Result.{IfOk-weaker, IfErr-weaker}
use Rattle.fs_types.specs.declared.event.Event.{Event}
use Rattle.host_interface.specs.Files.{readings_of}
use Rattle.host_interface.specs.Sources.{source_found}
use Rattle.put_lots.specs.Lots.{listed}
use Rattle.put_jobs.specs.Gives.{GivesNext, GivesSources}
use Rattle.put_jobs.proofs.GivesLemmas.{sources_taken, sources_last, source_broken, fewer_sources, fewer_last, if_some}
use Rattle.put_jobs.proofs.source_things.SourceThingsThings.next.Goals as goal

pub returns-in_default-clause-ok : goal.returns-in_default-clause-ok
returns-in_default-clause-ok g c =
    let readings = readings_of (g.F.ImageFiles.held c.args.files.now) (g.F.ImageFiles.reads_source c.args.files.now) in
    let base = c.args.self.now.batch.now.base in
    let left = c.args.self.now.left.now in
    let last = c.args.self.now.last in
    IfOk-weaker c.next_events.result _ _
    (λ next is. subst (λ (x : Option (List Event)). GivesNext (GivesSources readings base (map source_found left) last) (GivesSources readings base (map source_found left) c.take-last.new.self) x) (sym is)
    (sources_last readings base left last c.take-last.result c.take-last.new.self c.in_default.ensures.cases c.take-last.ensures.value c.take-last.ensures.after)) c.next_events.ensures.ok

pub returns-in_default-clause-fewer : goal.returns-in_default-clause-fewer
returns-in_default-clause-fewer g c =
    IfOk-weaker c.next_events.result _ _
    (λ next is. fewer_last vec_items next (length c.args.self.now.left.now) c.args.self.now.last c.take-last.result c.take-last.new.self is c.take-last.ensures.value c.take-last.ensures.after) c.next_events.ensures.ok

pub returns-in_default-clause-err : goal.returns-in_default-clause-err
returns-in_default-clause-err g c = IfErr-weaker c.next_events.result _ _ (λ failure memory. inl memory) c.next_events.ensures.err

pub returns-in-Err-clause-err : goal.returns-in-Err-clause-err
returns-in-Err-clause-err g c =
    source_broken (readings_of (g.F.ImageFiles.held c.args.files.now) (g.F.ImageFiles.reads_source c.args.files.now)) c.args.self.now.batch.now.base c.args.self.now.left.now c.in-Some.left.now c.in-Some.source.now c.args.self.now.last c.in-Err.failure
    c.in-Some.ensures.cases.0 c.in-Err.ensures.err

pub returns-clause-ok : goal.returns-clause-ok
returns-clause-ok g c =
    let readings = readings_of (g.F.ImageFiles.held c.args.files.now) (g.F.ImageFiles.reads_source c.args.files.now) in
    let base = c.args.self.now.batch.now.base in
    let before = c.args.self.now.left.now in
    let left = c.in-Some.left.now in
    let last = c.args.self.now.last in
    IfOk-weaker c.ready_events.result _ _
    (λ next is. subst (λ (x : Option (List Event)). GivesNext (GivesSources readings base (map source_found before) last) (GivesSources readings base (map source_found left) (Some c.in-Ok-take_in.taken.last)) x) (sym is)
    (sources_taken readings base before left c.in-Some.source.now last c.take-last.result c.in-Ok.thing c.in-Ok-take_in.taken.last c.in-Ok-take_in.taken.ready c.in-Some.ensures.cases.0 c.take-last.ensures.value c.in-Ok.ensures.ok c.in-Ok-take_in.ensures))
    c.ready_events.ensures.ok

pub returns-clause-fewer : goal.returns-clause-fewer
returns-clause-fewer g c =
    let n = length c.in-Some.left.now in
    let m = length c.args.self.now.left.now in
    let k = length (listed c.args.self.now.last) in
    IfOk-weaker c.ready_events.result _ _ (λ next is. if_some (2 * n + 1 < 2 * m + k) (fewer_sources n m k c.in-Some.ensures.cases.1) next) c.ready_events.ensures.ok

pub returns-clause-err : goal.returns-clause-err
returns-clause-err g c = IfErr-weaker c.ready_events.result _ _ (λ failure memory. inl memory) c.ready_events.ensures.err

pub returns-in-Err-take_in-clause-err : goal.returns-in-Err-take_in-clause-err
returns-in-Err-take_in-clause-err g c = inl refl
