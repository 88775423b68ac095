use Rattle.std.proofs.Common.{◌∙◌, List, [], ap, refl, sym, subst}
use Rattle.std.specs.Prelude.{All}
use Rattle.std.specs.Io.KnownBytes.{Appends}
use Rattle.fs_types.specs.declared.fault.Fault.{Fault}
use Rattle.fs_types.specs.declared.limits.TheConstants.{MAX_NAMES}
use Rattle.history_machine.specs.History.{view_refusal}
use Rattle.history_machine.specs.Machine.{Machine, view_tree}
use Rattle.inquiries.specs.Items.{IsItemOf}
use Rattle.inquiries.specs.Readings.{shown}
use Rattle.inquiries.proofs.DifferenceLemmas.{items_there}
use Rattle.inquiries.proofs.Readings.{unchanged-trans, meets-later}
use Rattle.archives.specs.Archives.{archive_of}
use Rattle.archives.specs.declared.archive_entry.ArchiveEntry.{ArchiveEntry}
use Rattle.archive_jobs.specs.Entries.{tree_entries}
use Rattle.archive_jobs.specs.Interruptions.{Interrupts}
use Rattle.archive_jobs.proofs.ArchiveLemmas.{archive_there, same_entries}
use Rattle.archive_jobs.proofs.WriteLemmas.{interrupts_later}
use Rattle.archive_jobs.proofs.archiving.write_view.Goals as goal

pub write_items-requires-clause-view : goal.write_items-requires-clause-view
write_items-requires-clause-view g c = ap (λ (m : Machine). view_refusal m.history c.args.view.now) c.find_items.ensures.same.machine ∙ c.in-Ok.ensures.accepted

pub write_items-requires-clause-there : goal.write_items-requires-clause-there
write_items-requires-clause-there g c =
    let t = view_tree (shown c.args.fs.now) c.args.view.now in
    subst (λ (m : Machine). All (IsItemOf (view_tree m c.args.view.now)) c.deref.result.now) (sym c.find_items.ensures.same.machine)
    (subst (All (IsItemOf t)) (sym (c.deref.ensures.value ∙ c.in-Ok.ensures.ok)) (items_there t MAX_NAMES []))

pub returns-in-Err-clause-err : goal.returns-in-Err-clause-err
returns-in-Err-clause-err g c = (c.in-Err.ensures.err, refl)

pub returns-in-Ok-write_items-clause-same : goal.returns-in-Ok-write_items-clause-same
returns-in-Ok-write_items-clause-same g c = unchanged-trans c.args.fs.now c.find_items.new.fs c.write_items.new.fs c.find_items.ensures.same c.write_items.ensures.same

pub returns-in-Ok-write_items-clause-ok : goal.returns-in-Ok-write_items-clause-ok
returns-in-Ok-write_items-clause-ok g c =
    let m = shown c.args.fs.now in
    let view = c.args.view.now in
    let same = same_entries m (shown c.find_items.new.fs) view c.in-Ok.items.items c.deref.result.now c.find_items.ensures.same.machine c.deref.ensures.value c.in-Ok.ensures.ok in (
      archive_of (tree_entries (view_tree m view)),
      archive_there m view c.in-Ok.ensures.accepted c.in-Ok.ensures.small c.in-Ok.ensures.fits,
      subst (λ (entries : List ArchiveEntry). Appends (g.W.Write.contents c.args.out.now) (g.W.Write.contents c.write_items.new.out) (archive_of entries)) same c.in-Ok-write_items.ensures.ok,
    )

pub returns-clause-same : goal.returns-clause-same
returns-clause-same g c = unchanged-trans c.args.fs.now c.find_items.new.fs c.write_items.new.fs c.find_items.ensures.same c.write_items.ensures.same

pub returns-clause-err : goal.returns-clause-err
returns-clause-err g c =
    let m = shown c.args.fs.now in
    let view = c.args.view.now in
    let start = g.F.Flash.device c.args.fs.now.flash.now in
    let between = g.F.Flash.device c.find_items.new.fs.flash.now in
    let end = g.F.Flash.device c.write_items.new.fs.flash.now in
    let old = g.W.Write.contents c.args.out.now in
    let new = g.W.Write.contents c.write_items.new.out in
    let same = same_entries m (shown c.find_items.new.fs) view c.in-Ok.items.items c.deref.result.now c.find_items.ensures.same.machine c.deref.ensures.value c.in-Ok.ensures.ok in (
      archive_there m view c.in-Ok.ensures.accepted c.in-Ok.ensures.small c.in-Ok.ensures.fits,
      interrupts_later start between end (tree_entries (view_tree m view)) old new c.in-Err-write_items.why (λ (fault : Fault). meets-later c.args.fs.now c.find_items.new.fs c.write_items.new.fs fault c.find_items.ensures.same)
          (subst (λ (entries : List ArchiveEntry). Interrupts entries between end old new c.in-Err-write_items.why) same c.in-Err-write_items.ensures.err),
    )
