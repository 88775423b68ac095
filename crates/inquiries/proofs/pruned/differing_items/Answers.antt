use Rattle.std.proofs.Common.{◌≡◌, ◌∙◌, map, sym, ap, subst}
use Rattle.std.proofs.lemmas.Result.{IfOk-weaker, IfErr-weaker}
use Rattle.std.specs.Prelude.{All, IsSome}
use Rattle.std.specs.FinMap.{get}
use Rattle.history_machine.specs.Machine.{Machine, view_tree}
use Rattle.node_store.specs.NodePages.{node_of}
use Rattle.tree_differences.specs.Differing.{differs_at}
use Rattle.inquiries.specs.Items.{item_at}
use Rattle.inquiries.specs.Readings.{shown}
use Rattle.inquiries.proofs.PrunedLemmas.{elsewhere, kept_there, pruned}
use Rattle.inquiries.proofs.Readings.{unchanged-trans, meets-later}
use Rattle.inquiries.proofs.pruned.differing_items.Goals as goal

pub items_at-requires-clause-there : goal.items_at-requires-clause-there
items_at-requires-clause-there g c =
    let m = shown c.args.fs.now in
    let t = view_tree m c.args.view.now in
    let are = c.in_ok-paths.ensures.ok in
    subst (λ (n : Machine). All (λ path. IsSome (get (view_tree n c.args.view.now) path)) c.as_slice.result.now) (sym c.paths_elsewhere.ensures.same.machine)
    (kept_there t (differs_at (node_of (g.F.Flash.device c.args.fs.now.flash.now)) are.root are.beside) c.as_slice.result.now (c.as_slice.ensures ∙ are.are))

pub returns-clause-same : goal.returns-clause-same
returns-clause-same g c = unchanged-trans c.args.fs.now c.paths_elsewhere.new.fs c.items_at.new.fs c.paths_elsewhere.ensures.same c.items_at.ensures.same

-- what is told of each path
listed : goal.returns-clause-elsewhere
listed g c =
    let same = c.paths_elsewhere.ensures.same.machine in
    IfOk-weaker c.items_at.result _ _
    (λ items is. elsewhere (g.F.Flash.device c.args.fs.now.flash.now) c.args.fs.now.system c.args.view.now c.args.other.now c.args.fs.now.mounted c.requires.view c.requires.other c.in_ok-paths.paths items.items c.in_ok-paths.ensures.ok
    (subst (λ (n : Machine). items.items ≡ map (item_at (view_tree n c.args.view.now)) c.as_slice.result.now) same is ∙ ap (map (item_at (view_tree (shown c.args.fs.now) c.args.view.now))) c.as_slice.ensures)) c.items_at.ensures.ok

pub returns-clause-elsewhere : goal.returns-clause-elsewhere
returns-clause-elsewhere g c = listed g c

pub returns-clause-pruned : goal.returns-clause-pruned
returns-clause-pruned g c =
    IfOk-weaker c.items_at.result _ _
    (λ items is. pruned (g.F.Flash.device c.args.fs.now.flash.now) c.args.fs.now.system c.args.view.now c.args.other.now c.args.fs.now.mounted c.requires.view c.requires.other items.items is) (listed g c)

pub returns-clause-err : goal.returns-clause-err
returns-clause-err g c =
    IfErr-weaker c.items_at.result _ _ (λ fault met. meets-later c.args.fs.now c.paths_elsewhere.new.fs c.items_at.new.fs fault c.paths_elsewhere.ensures.same met) c.items_at.ensures.err
