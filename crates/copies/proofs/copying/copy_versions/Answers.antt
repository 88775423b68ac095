use Rattle.std.proofs.Common.{◌∙◌, ◌++◌, List, Some, get_or, map, append-nil, refl, ap, sym, subst, take, ◌∷◌, []}
use Rattle.fs_types.specs.declared.call.View.{View}
use Rattle.history_machine.specs.Machine.{Machine, view_tree}
use Rattle.inquiries.specs.Readings.{shown}
use Rattle.inquiries.proofs.Readings.{unchanged-refl, unchanged-trans}
use Rattle.plain_trees.specs.Trees.{Tree}
use Rattle.copies.specs.Calls.{IsReadyAfter}
use Rattle.copies.specs.Copied.{Holds}
use Rattle.copies.proofs.Keeping.{versions_more}
use Rattle.copies.proofs.copying.copy_versions.Goals as goal

pub loop-serial-init : goal.loop-serial-init
loop-serial-init g c = (refl, unchanged-refl c.args.from.now, record { ready = c.requires.ready; has = tt }, c.requires.kept, λ limit trees holds. subst (λ (ts : List Tree). Holds limit ts (shown c.args.from.now).history.checkpoints (shown c.args.to.now).history) (sym (append-nil trees)) holds)

pub copy_version-requires-clause-ready : goal.copy_version-requires-clause-ready
copy_version-requires-clause-ready g c = subst (λ (m : Machine). IsReadyAfter m c.loop-serial.last (shown c.loop-serial.to)) (sym c.loop-serial.invariant.1.machine) c.loop-serial.invariant.2

pub loop-serial-preserved : goal.loop-serial-preserved
loop-serial-preserved g c =
    let from = shown c.args.from.now in
    let same = c.loop-serial.invariant.1.machine in
    let i = c.loop-serial.serial-index in (
      c.copy_version.ensures.same_flash ∙ c.loop-serial.invariant.0,
      unchanged-trans c.args.from.now c.loop-serial.from c.copy_version.new.from c.loop-serial.invariant.1 c.copy_version.ensures.same,
      subst (λ (m : Machine). IsReadyAfter m (Some (get_or c.args.serials.now i 0)) (shown c.copy_version.new.to)) same c.in_ok-copy_version.ensures.ready,
      c.in_ok-copy_version.ensures.kept ∙ ap (λ (m : Machine). m.history.checkpoints) same,
      λ limit trees holds. versions_more limit trees from.history.checkpoints (λ serial. view_tree from (View.Serial serial)) c.args.serials.now i 0 (shown c.copy_version.new.to).history c.loop-serial-test.true
          (subst (λ (m : Machine). Holds limit ((trees ++ map (λ serial. view_tree from (View.Serial serial)) (take i c.args.serials.now)) ++ view_tree m (View.Serial (get_or c.args.serials.now i 0)) ∷ []) m.history.checkpoints (shown c.copy_version.new.to).history) same
          (c.in_ok-copy_version.ensures.ok limit (trees ++ map (λ serial. view_tree from (View.Serial serial)) (take i c.args.serials.now))
          (subst (λ (m : Machine). Holds limit (trees ++ map (λ serial. view_tree from (View.Serial serial)) (take i c.args.serials.now)) m.history.checkpoints (shown c.loop-serial.to).history) (sym same) (c.loop-serial.invariant.4 limit trees holds)))),
    )

pub returns-clause-ready : goal.returns-clause-ready
returns-clause-ready g c = c.loop-serial.invariant.2.ready
