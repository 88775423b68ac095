use Rattle.std.proofs.Common.{◌≡◌, ◌∙◌, None, map, sym, ap, subst, arith}
use Rattle.std.proofs.lemmas.List.{take_all}
use Rattle.std.proofs.lemmas.Result.{err_from_is_err_and}
use Rattle.std.specs.Prelude.{All, IsSome}
use Rattle.std.specs.FinMap.{get}
use Rattle.fs_types.specs.Names.{Path}
use Rattle.history_machine.specs.History.{view_refusal}
use Rattle.history_machine.specs.Machine.{Machine, view_tree}
use Rattle.inquiries.specs.Items.{item_at, IsItemOf}
use Rattle.inquiries.specs.Readings.{shown}
use Rattle.inquiries.proofs.PrunedLemmas.{item_is, item_made, stats_more}
use Rattle.inquiries.proofs.Readings.{unchanged-refl, unchanged-trans, meets-later}
use Rattle.inquiries.proofs.pruned.items_among.Goals as goal

pub loop-path-init : goal.loop-path-init
loop-path-init g c = record { same = unchanged-refl c.args.fs.now; items = c.new-items.ensures.items }

pub stat_known-requires-clause-view : goal.stat_known-requires-clause-view
stat_known-requires-clause-view g c = subst (λ (m : Machine). view_refusal m.history c.args.view.now ≡ None) (sym c.loop-path.invariant.same.machine) c.requires.view

pub stat_known-requires-clause-known : goal.stat_known-requires-clause-known
stat_known-requires-clause-known g c = subst (λ (m : Machine). All (IsItemOf (view_tree m c.args.view.now)) c.args.known.now) (sym c.loop-path.invariant.same.machine) c.requires.known

pub stat_known-requires-clause-there : goal.stat_known-requires-clause-there
stat_known-requires-clause-there g c =
    let m = shown c.args.fs.now in
    subst (λ (n : Machine). IsSome (get (view_tree n c.args.view.now) c.path-item.result)) (sym c.loop-path.invariant.same.machine)
    (subst (λ (x : Path). IsSome (get (view_tree m c.args.view.now) x)) (sym c.path-item.is) (c.requires.there c.loop-path.path-index c.path-item.result c.loop-path-test.true))

pub returns-in_err-stat-clause-same : goal.returns-in_err-stat-clause-same
returns-in_err-stat-clause-same g c = unchanged-trans c.args.fs.now c.loop-path.fs c.stat_known.new.fs c.loop-path.invariant.same c.stat_known.ensures.same

pub returns-in_err-stat-clause-err : goal.returns-in_err-stat-clause-err
returns-in_err-stat-clause-err g c =
    let p = err_from_is_err_and c.from_residual.result c.from_residual.ensures.1 in
    rw (p.1, p.2) (meets-later c.args.fs.now c.loop-path.fs c.stat_known.new.fs c.in_err-stat.field-0.0 c.loop-path.invariant.same c.in_err-stat.ensures.err)

pub loop-path-preserved : goal.loop-path-preserved
loop-path-preserved g c =
    let m = shown c.args.fs.now in
    record {
      same = unchanged-trans c.args.fs.now c.loop-path.fs c.stat_known.new.fs c.loop-path.invariant.same c.stat_known.ensures.same;
      items = stats_more (view_tree m c.args.view.now) c.args.paths.now c.loop-path.path-index c.path-item.result (item_made c.in_ok-clone.field-0 c.in_ok-stat.stat) c.loop-path.items.items c.push.new.self.items c.loop-path-test.true
          c.path-item.is (item_is m (shown c.loop-path.fs) c.args.view.now c.path-item.result c.in_ok-clone.field-0 c.in_ok-stat.stat c.loop-path.invariant.same.machine c.in_ok-clone.ensures c.in_ok-stat.ensures.ok)
          c.loop-path.invariant.items c.in_ok-push.ensures.items;
    }

pub returns-clause-ok : goal.returns-clause-ok
returns-clause-ok g c =
    let past = c.loop-path-test.false in
    c.loop-path.invariant.items ∙ ap (map (item_at (view_tree (shown c.args.fs.now) c.args.view.now))) (take_all c.loop-path.path-index c.args.paths.now (omega (arith, past)))
