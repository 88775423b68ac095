use Rattle.std.proofs.Common.{List, sym, ap, subst}
use Rattle.std.specs.Prelude.{Result}
use Rattle.fs_types.specs.Names.{Path}
use Rattle.fs_types.specs.declared.fault.Fault.{Fault}
use Rattle.working_state.specs.Moments.{moment}
use Rattle.working_state.specs.declared.state.State.{State}
use Rattle.working_state.proofs.Standing.{looked_at}
use Rattle.working_state.proofs.Views.{view_stands}
use Rattle.system.proofs.HistoryLooks.{looked_history}
use Rattle.system.proofs.DifferingTrees.{finds_differing, paths_cut}
use Rattle.system.specs.DifferingTrees.{FindsDiffering}
use Rattle.system.proofs.systems.System.compare_roots.Goals as goal

pub differing_paths_on-paths-requires-clause-tree : goal.differing_paths_on-paths-requires-clause-tree
differing_paths_on-paths-requires-clause-tree g c =
    (view_stands (moment (g.F.Flash.device c.args.flash.now) c.args.self.now.state) c.args.view.now c.args.root c.requires.system.mounted (record { fine = c.requires.fine; shown = c.requires.shown })).rooted

pub differing_paths_on-paths-requires-clause-other : goal.differing_paths_on-paths-requires-clause-other
differing_paths_on-paths-requires-clause-other g c =
    (view_stands (moment (g.F.Flash.device c.args.flash.now) c.args.self.now.state) c.args.other.now c.args.beside c.requires.system.mounted (record { fine = c.requires.other_fine; shown = c.requires.other_shown })).rooted

pub returns : goal.returns
returns g c =
    let d = g.F.Flash.device c.args.flash.now in
    let e = g.F.Flash.device c.differing_paths_on-paths.new.flash in
    let m = c.args.self.now in
    let found = c.differing_paths_on-paths.ensures in
    let st = c.differing_paths_on-paths.new.storage in
    let u : State = record m.state { storage = st } in
    let r = c.differing_paths_on-paths.result in
    let left = looked_history d e m u r c.requires.system c.requires.is_on (looked_at (moment d m.state) e st found.looked) (paths_cut d e m.state st r found.why)
    c.remember_cut.new.self c.remember_cut.result c.remember_cut.ensures.off c.remember_cut.ensures.same in
    record {
      system = left.0;
      looks = left.1;
      finds = subst (λ (q : Result (List Path) Fault). FindsDiffering d m.state c.args.view.now c.args.root c.args.beside q e c.remember_cut.new.self) (sym c.remember_cut.ensures.same)
          (finds_differing d e m.state c.remember_cut.new.self c.args.view.now c.args.root c.args.beside st r (record { fine = c.requires.fine; shown = c.requires.shown }) found.paths found.why (ap (λ (s : State). s.storage) c.remember_cut.ensures.off));
    }
