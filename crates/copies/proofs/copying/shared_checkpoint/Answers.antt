use Rattle.std.proofs.Common.{◌≡◌, List, ℕ, None, false, refl, sym, subst, take_all}
use Rattle.std.specs.Prelude.{All}
use Rattle.std.proofs.lemmas.List.Elements.{All-nil}
use Rattle.std.proofs.lemmas.Result.{err_from_is_err_and}
use Rattle.fs_types.specs.declared.call.View.{View}
use Rattle.history_machine.specs.History.{name_refusal}
use Rattle.history_machine.specs.Machine.{view_tree}
use Rattle.inquiries.specs.Readings.{shown}
use Rattle.inquiries.proofs.Counted.{roots_refused, roots_same}
use Rattle.inquiries.proofs.VersionLemmas.{name_seen}
use Rattle.system.specs.TreeSizes.{ShowRoots}
use Rattle.copies.proofs.Causing.{met_alone}
use Rattle.copies.proofs.Sharing.{holds_more, shows_other}
use Rattle.copies.proofs.copying.shared_checkpoint.Goals as goal

pub returns-in_err-show_same_root-clause-err : goal.returns-in_err-show_same_root-clause-err
returns-in_err-show_same_root-clause-err g c =
    let p = err_from_is_err_and c.from_residual-in_err-show_same_root.result c.from_residual-in_err-show_same_root.ensures.1 in
    let m = shown c.args.from.now in
    let seen = name_seen m m c.args.from.now.mounted.mounted.machine refl c.args.names.now c.loop-name.name-index c.name-item.result c.requires.names c.loop-name-test.true c.name-item.is in
    let there = subst (λ (n : List ℕ). name_refusal m.history n ≡ None) (sym c.in_ok-clone.ensures) seen in
    rw (p.1, p.2) (met_alone _ _ (g.F.Flash.device c.args.from.now.flash.now) c.in_err-show_same_root.field-0.0 there c.requires.there
    (roots_refused (g.F.Flash.device c.args.from.now.flash.now) c.args.from.now.system (View.Checkpoint c.in_ok-clone.field-0) (View.Serial c.args.serial) c.in_err-show_same_root.field-0.0 c.args.from.now.mounted c.in_err-show_same_root.ensures.err))

pub returns-then-branch-clause-ok : goal.returns-then-branch-clause-ok
returns-then-branch-clause-ok g c =
    let m = shown c.args.from.now in
    record {
      there = name_seen m m c.args.from.now.mounted.mounted.machine refl c.args.names.now c.loop-name.name-index c.name-item.result c.requires.names c.loop-name-test.true c.name-item.is;
      same = subst (λ (n : List ℕ). view_tree m (View.Checkpoint n) ≡ view_tree m (View.Serial c.args.serial)) c.in_ok-clone.ensures
          (roots_same (g.F.Flash.device c.args.from.now.flash.now) c.args.from.now.system (View.Checkpoint c.in_ok-clone.field-0) (View.Serial c.args.serial) c.in_ok-show_same_root.field-0 c.in_ok-show_same_root.ensures.shown c.if-branch.true);
    }

pub loop-name-init : goal.loop-name-init
loop-name-init g c = All-nil (λ (name : List ℕ). ShowRoots c.args.from.now.system.state (View.Checkpoint name) (View.Serial c.args.serial) false)

pub loop-name-preserved : goal.loop-name-preserved
loop-name-preserved g c =
    let s = c.args.from.now.system.state in
    holds_more (λ (name : List ℕ). ShowRoots s (View.Checkpoint name) (View.Serial c.args.serial) false) c.args.names.now c.loop-name.name-index c.name-item.result c.loop-name-test.true c.name-item.is c.loop-name.invariant
    (shows_other s c.args.serial c.name-item.result c.in_ok-clone.field-0 c.in_ok-show_same_root.field-0 c.in_ok-clone.ensures c.if-branch.false c.in_ok-show_same_root.ensures.shown)

pub returns-clause-none : goal.returns-clause-none
returns-clause-none g c =
    subst (All (λ (name : List ℕ). ShowRoots c.args.from.now.system.state (View.Checkpoint name) (View.Serial c.args.serial) false)) (take_all c.loop-name.name-index c.args.names.now c.loop-name-test.false) c.loop-name.invariant
