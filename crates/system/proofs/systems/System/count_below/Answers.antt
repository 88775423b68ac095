use Rattle.std.proofs.Common.{sym, ap, subst}
use Rattle.fs_types.specs.declared.fault.Fault.{Fault}
use Rattle.std.specs.Prelude.{Result}
use Rattle.tree_counts.specs.declared.tree_size.TreeSize.{TreeSize}
use Rattle.working_state.specs.Moments.{moment}
use Rattle.working_state.specs.declared.state.State.{State}
use Rattle.working_state.proofs.Standing.{looked_at}
use Rattle.working_state.proofs.Views.{view_stands}
use Rattle.system.proofs.HistoryLooks.{looked_history}
use Rattle.system.proofs.TreeSizes.{finds_size, size_cut}
use Rattle.system.specs.TreeSizes.{FindsSize}
use Rattle.system.proofs.systems.System.count_below.Goals as goal

pub tree_size_on-size-requires-clause-tree : goal.tree_size_on-size-requires-clause-tree
tree_size_on-size-requires-clause-tree g c =
    (view_stands (moment (g.F.Flash.device c.args.flash.now) c.args.self.now.state) c.args.view.now c.args.root c.requires.system.mounted (record { fine = c.requires.fine; shown = c.requires.shown })).rooted

pub returns : goal.returns
returns g c =
    let d = g.F.Flash.device c.args.flash.now in
    let e = g.F.Flash.device c.tree_size_on-size.new.flash in
    let m = c.args.self.now in
    let found = c.tree_size_on-size.ensures in
    let st = c.tree_size_on-size.new.storage in
    let u : State = record m.state { storage = st } in
    let r = c.tree_size_on-size.result in
    let left = looked_history d e m u r c.requires.system c.requires.is_on (looked_at (moment d m.state) e st found.looked) (size_cut d e m.state st r found.why)
    c.remember_cut.new.self c.remember_cut.result c.remember_cut.ensures.off c.remember_cut.ensures.same in
    record {
      system = left.0;
      looks = left.1;
      finds = subst (λ (q : Result TreeSize Fault). FindsSize d m.state c.args.view.now q e c.remember_cut.new.self) (sym c.remember_cut.ensures.same)
          (finds_size d e m.state c.remember_cut.new.self c.args.view.now c.args.root st r (record { fine = c.requires.fine; shown = c.requires.shown }) found.size found.why (ap (λ (s : State). s.storage) c.remember_cut.ensures.off));
      asks = found.asks;
    }
