use Rattle.std.proofs.Common.{◌≡◌, true, None, take, map}
use Rattle.std.specs.List.{list_all}
use Rattle.fs_types.specs.Names.{is_name}
use Rattle.fs_types.specs.declared.named_file.NamedFile.{NamedFile}
use Rattle.history_machine.specs.Machine.{working_tree}
use Rattle.history_machine.specs.NextFiles.{next_refusals, next_counts}
use Rattle.working_state.specs.Moments.{moment, machine_at}
use Rattle.working_state.specs.Worked.{IsLooked}
use Rattle.working_state.proofs.ChosenFiles.{changes_in}
use Rattle.working_state.proofs.state.State.check_files.Given as goal

-- the first files are not refused
abbrev pub invariant-loop-file : goal.invariant-loop-file
invariant-loop-file g l = record {
  looked : IsLooked (moment (g.F.Flash.device l.fn.flash) l.fn.self) (moment (g.F.Flash.device l.flash) l.self);
  lawful : list_all (λ (file : NamedFile). is_name file.name) (take l.file-index l.files) ≡ true;
  accepted : next_refusals (working_tree (machine_at (moment (g.F.Flash.device l.fn.flash) l.fn.self))) l.fn.self.files l.directory l.target.count (take l.file-index l.files) ≡ None;
  counted : l.count ≡ next_counts (working_tree (machine_at (moment (g.F.Flash.device l.fn.flash) l.fn.self))) l.directory l.target.count (take l.file-index l.files);
  listed : l.changes.items ≡ map (changes_in (working_tree (machine_at (moment (g.F.Flash.device l.fn.flash) l.fn.self))) l.directory) (take l.file-index l.files);
}
