use Rattle.std.proofs.Common.{rules, ◌≡◌, inr, List, ℕ, subst}
use Rattle.std.proofs.lemmas.Result.{IfOk-weaker, IfErr-weaker}
use Rattle.fs_types.specs.Names.{Path}
use Rattle.fs_types.specs.declared.call.View.{View}
use Rattle.flash_model.specs.Device.{Device}
use Rattle.flash_model.specs.Reading.{OnlyReads}
use Rattle.host_interface.specs.Files.{Held}
use Rattle.working_state.specs.Seen.{machine_on}
use Rattle.system.specs.Mounts.{IsMountOf}
use Rattle.system.specs.declared.systems.System.{System}
use Rattle.image_jobs.specs.declared.failure.Failure.{Failure}
use Rattle.image_words.specs.PathCopies.{CopyFails, CopiesNot}
use Rattle.image_words.proofs.path_copies.copy_out.Goals as goal

-- what the work left of the device is what the flash is left as
not_copied : (d was end left : Device) (view : View) (path : Path) (name : List ℕ) (held saved : Held) (system : System) (failure : Failure) → end ≡ left → IsMountOf d was system → OnlyReads d was
    → CopyFails (machine_on was system.state) view path name held saved was end failure → CopiesNot d view path name held saved left failure
not_copied d was end left view path name held saved system failure same mounted reads why = record {
  device = was;
  system = system;
  mounted = mounted;
  reads = reads;
  why = subst (λ (e : Device). CopyFails (machine_on was system.state) view path name held saved was e failure) same why;
}

pub returns-in-Ok-clause-ok : goal.returns-in-Ok-clause-ok
returns-in-Ok-clause-ok g c =
    IfOk-weaker c.copy-copied.result _ _ (λ copied is. record { device = g.F.Flash.device c.in-Ok.fs.flash.now; system = c.in-Ok.fs.system; mounted = c.in-Ok.ensures.mounted; copy = is }) c.copy-copied.ensures.ok

pub returns-in-Ok-clause-err : goal.returns-in-Ok-clause-err
returns-in-Ok-clause-err g c =
    IfErr-weaker c.copy-copied.result _ _ (λ failure why. inr (not_copied (g.F.Flash.device c.args.flash.now) (g.F.Flash.device c.in-Ok.fs.flash.now) (g.F.Flash.device c.copy-copied.new.fs.flash.now) _
    c.args.view.now c.args.path.now c.args.name.now (g.H.ImageFiles.held c.args.files.now) (g.H.ImageFiles.held c.copy-copied.new.files) c.in-Ok.fs.system failure (search rules) c.in-Ok.ensures.mounted c.in-Ok.ensures.only_reads why))
    c.copy-copied.ensures.err
