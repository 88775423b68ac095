use Rattle.std.proofs.Common.{◌∙◌, ◌<◌, ◌≤◌, map, length, ap, sym, subst, arith}
use Rattle.std.proofs.KnownBytes.{Appends-nil}
use Rattle.std.proofs.lemmas.List.{length-map}
use Rattle.std.specs.Io.KnownBytes.{Appends}
use Rattle.fs_types.specs.declared.fault.Fault.{Fault}
use Rattle.history_machine.specs.History.{view_refusal}
use Rattle.history_machine.specs.Machine.{Machine, view_tree}
use Rattle.inquiries.specs.Items.{IsItemOf}
use Rattle.inquiries.specs.Readings.{shown}
use Rattle.inquiries.proofs.Readings.{unchanged-refl, unchanged-trans, meets-later}
use Rattle.archives.specs.Archives.{entry_text}
use Rattle.archives.proofs.Entries.{written_more, written_end, cut_end}
use Rattle.archive_jobs.specs.Entries.{entry_of}
use Rattle.archive_jobs.specs.Interruptions.{EntryStops}
use Rattle.archive_jobs.proofs.EntryLemmas.{entry_placed}
use Rattle.archive_jobs.proofs.WriteLemmas.{stopped}
use Rattle.archive_jobs.proofs.writing.write_items.Goals as goal

pub loop-item-init : goal.loop-item-init
loop-item-init g c = record { same = unchanged-refl c.args.fs.now; written = Appends-nil (g.W.Write.contents c.args.out.now) }

pub write_item-requires-clause-view : goal.write_item-requires-clause-view
write_item-requires-clause-view g c = ap (λ (m : Machine). view_refusal m.history c.args.view.now) c.loop-item.invariant.same.machine ∙ c.requires.view

pub write_item-requires-clause-there : goal.write_item-requires-clause-there
write_item-requires-clause-there g c =
    subst (λ (m : Machine). IsItemOf (view_tree m c.args.view.now) c.item-item.result) (sym c.loop-item.invariant.same.machine)
    (subst (IsItemOf (view_tree (shown c.args.fs.now) c.args.view.now)) (sym c.item-item.is) (c.requires.there c.loop-item.item-index c.item-item.result c.loop-item-test.true))

pub returns-in-Err-clause-same : goal.returns-in-Err-clause-same
returns-in-Err-clause-same g c = unchanged-trans c.args.fs.now c.loop-item.fs c.write_item.new.fs c.loop-item.invariant.same c.write_item.ensures.same

pub returns-in-Err-clause-err : goal.returns-in-Err-clause-err
returns-in-Err-clause-err g c =
    let t = view_tree (shown c.args.fs.now) c.args.view.now in
    let items = c.args.items.now in
    let item = c.item-item.result in
    let start = g.F.Flash.device c.args.fs.now.flash.now in
    let between = g.F.Flash.device c.loop-item.fs.flash.now in
    let end = g.F.Flash.device c.write_item.new.fs.flash.now in
    let within : c.loop-item.item-index < length (map (entry_of t) items) = omega (arith, c.loop-item-test.true, length-map items (entry_of t)) in
    stopped start between end (g.W.Write.contents c.args.out.now) (g.W.Write.contents c.loop-item.out) (g.W.Write.contents c.write_item.new.out)
    (map (entry_of t) items) c.loop-item.item-index (entry_of t item) c.in-Err.why within (entry_placed t items c.loop-item.item-index item c.loop-item-test.true c.item-item.is)
    (λ (fault : Fault). meets-later c.args.fs.now c.loop-item.fs c.write_item.new.fs fault c.loop-item.invariant.same) c.loop-item.invariant.written
    (subst (λ (m : Machine). EntryStops (entry_of (view_tree m c.args.view.now) item) between end (g.W.Write.contents c.loop-item.out) (g.W.Write.contents c.write_item.new.out) c.in-Err.why)
    c.loop-item.invariant.same.machine c.in-Err.ensures.err)

pub loop-item-preserved : goal.loop-item-preserved
loop-item-preserved g c =
    let t = view_tree (shown c.args.fs.now) c.args.view.now in
    let items = c.args.items.now in
    let item = c.item-item.result in
    let between = g.W.Write.contents c.loop-item.out in
    let end = g.W.Write.contents c.write_item.new.out in
    let within : c.loop-item.item-index < length (map (entry_of t) items) = omega (arith, c.loop-item-test.true, length-map items (entry_of t)) in
    record {
      same = unchanged-trans c.args.fs.now c.loop-item.fs c.write_item.new.fs c.loop-item.invariant.same c.write_item.ensures.same;
      written = written_more (g.W.Write.contents c.args.out.now) between end (map (entry_of t) items) c.loop-item.item-index (entry_of t item) within
          (entry_placed t items c.loop-item.item-index item c.loop-item-test.true c.item-item.is) c.loop-item.invariant.written
          (subst (λ (m : Machine). Appends between end (entry_text (entry_of (view_tree m c.args.view.now) item))) c.loop-item.invariant.same.machine c.in-Ok.ensures.ok);
    }

pub returns-in-Ok-write_end-clause-ok : goal.returns-in-Ok-write_end-clause-ok
returns-in-Ok-write_end-clause-ok g c =
    let t = view_tree (shown c.args.fs.now) c.args.view.now in
    let past : length (map (entry_of t) c.args.items.now) ≤ c.loop-item.item-index = omega (arith, c.loop-item-test.false, length-map c.args.items.now (entry_of t)) in
    written_end (g.W.Write.contents c.args.out.now) (g.W.Write.contents c.loop-item.out) (g.W.Write.contents c.write_end.new.out) (map (entry_of t) c.args.items.now) c.loop-item.item-index past
    c.loop-item.invariant.written c.in-Ok-write_end.ensures.ok

pub returns-in-Err-write_end-clause-err : goal.returns-in-Err-write_end-clause-err
returns-in-Err-write_end-clause-err g c =
    let t = view_tree (shown c.args.fs.now) c.args.view.now in
    let past : length (map (entry_of t) c.args.items.now) ≤ c.loop-item.item-index = omega (arith, c.loop-item-test.false, length-map c.args.items.now (entry_of t)) in
    cut_end (g.W.Write.contents c.args.out.now) (g.W.Write.contents c.loop-item.out) (g.W.Write.contents c.write_end.new.out) (map (entry_of t) c.args.items.now) c.loop-item.item-index past
    c.loop-item.invariant.written c.in-Err-write_end.ensures.err
