use Rattle.std.proofs.Common.{◌≡◌, ◌∙◌, ◌<◌, ◌-◌, ◌++◌, [], ◌∷◌, Bool, true, length, inl, inr, refl, sym, ap, subst, append-nil, arith}
use Rattle.std.proofs.lemmas.Bool.{cases_Bool}
use Rattle.std.proofs.lemmas.List.{length-map}
use Rattle.std.proofs.lemmas.Result.{err_from_is_err_and}
use Rattle.std.specs.Prelude.{Contains, if◌then◌else◌}
use Rattle.std.specs.FinMap.{get}
use Rattle.fs_types.specs.Names.{Name, Path, is_path}
use Rattle.fs_types.specs.declared.call.Call.{Call}
use Rattle.history_machine.specs.Machine.{Machine, view_tree, stat_of, with_stat}
use Rattle.plain_trees.specs.Trees.{children}
use Rattle.inquiries.specs.Items.{IsDirectoryOf}
use Rattle.inquiries.specs.Readings.{shown}
use Rattle.inquiries.proofs.Entries.{items_below-none, list_accepted, entry_path, entry_directory, told_at, one_more, all_items}
use Rattle.inquiries.proofs.Readings.{unchanged-refl, unchanged-trans, meets-later, met_only}
use Rattle.inquiries.proofs.items.+add_items.Goals as goal

pub returns-then-levels-eq0-clause-ok : goal.returns-then-levels-eq0-clause-ok
returns-then-levels-eq0-clause-ok g t c =
    sym (ap (λ items. c.args.items.now.items ++ items) (items_below-none (view_tree (shown c.args.fs.now) c.args.view.now) c.args.levels c.args.directory.now c.if-levels-eq0.true) ∙ append-nil c.args.items.now.items)

pub returns-in_err-entries-clause-err : goal.returns-in_err-entries-clause-err
returns-in_err-entries-clause-err g t c =
    let p = err_from_is_err_and c.from_residual.result c.from_residual.ensures.1 in
    let some : 0 < c.args.levels = omega arith in
    let directory = c.requires some in
    rw (p.1, p.2) (met_only c.args.fs.now c.args.fs.now c.entries_at.new.fs (Call.List c.args.view.now c.args.directory.now) c.in_err-entries.field-0.0 (unchanged-refl c.args.fs.now)
    (list_accepted (shown c.args.fs.now) c.args.view.now c.args.fs.now.mounted.mounted.machine directory.accepted c.args.directory.now directory.there) c.in_err-entries.ensures.err)

pub loop-name-init : goal.loop-name-init
loop-name-init g t c = (c.in_ok-entries.ensures.same, sym (append-nil c.args.items.now.items))

pub child_of-requires : goal.child_of-requires
child_of-requires g s c =
    let some : 0 < c.args.levels = omega arith in
    let m = shown c.args.fs.now in
    let t = view_tree m c.args.view.now in
    let told = told_at t c.args.directory.now c.as_slice-name-items.result.now c.loop-name.name-index c.loop-name-item.result (c.as_slice-name-items.ensures ∙ c.in_ok-entries.ensures.ok) c.loop-name-test.true c.loop-name-item.is in
    subst (λ (n : Name). is_path (c.args.directory.now ++ n ∷ []) ≡ true) (sym told.name)
    (entry_path m c.args.view.now c.args.fs.now.mounted.mounted.machine (c.requires some).accepted c.args.directory.now told.child.0 told.child.1 told.listed)

pub add_items-requires : goal.add_items-requires
add_items-requires g s c =
    let some : 0 < c.args.levels = omega arith in
    let m = shown c.args.fs.now in
    let t = view_tree m c.args.view.now in
    let told = told_at t c.args.directory.now c.as_slice-name-items.result.now c.loop-name.name-index c.loop-name-item.result (c.as_slice-name-items.ensures ∙ c.in_ok-entries.ensures.ok) c.loop-name-test.true c.loop-name-item.is in
    let below : c.levels_below-below.result ≡ (if told.child.1 then c.args.levels - 1 else 0) = c.levels_below-below.ensures ∙ told.below c.args.levels in
    let path : c.in_ok-path.path ≡ c.args.directory.now ++ told.child.0 ∷ [] = c.in_ok-path.ensures ∙ ap (λ (n : Name). c.args.directory.now ++ n ∷ []) told.name in
    let same : shown c.loop-name.fs ≡ m = c.loop-name.invariant.0.machine in
    λ κs sub. (
      elim (cases_Bool told.child.1) [
        | inl deep ↦ (let less : c.levels_below-below.result ≡ c.args.levels - 1 = below ∙ ap (λ (b : Bool). if b then c.args.levels - 1 else 0) deep in omega (arith, less, some))
        | inr file ↦ (let none : c.levels_below-below.result ≡ 0 = below ∙ ap (λ (b : Bool). if b then c.args.levels - 1 else 0) file in omega (arith, none, some))
      ],
      (
        sub,
        λ deep. elim (cases_Bool told.child.1) [
          | inl is ↦
              let here : IsDirectoryOf m c.args.view.now (c.args.directory.now ++ told.child.0 ∷ []) =
              entry_directory m c.args.view.now c.args.fs.now.mounted.mounted.machine (c.requires some).accepted c.args.directory.now told.child.0
              (subst (λ (b : Bool). Contains (children t c.args.directory.now) (told.child.0, b)) is told.listed) in
              subst (λ (x : Machine). IsDirectoryOf x c.args.view.now c.in_ok-path.path) (sym same) (subst (λ (p : Path). IsDirectoryOf m c.args.view.now p) (sym path) here)
          | inr file ↦ absurd (let none : c.levels_below-below.result ≡ 0 = below ∙ ap (λ (b : Bool). if b then c.args.levels - 1 else 0) file in omega (arith, none, deep))
        ],
      ),
    )

pub returns-in_err-add_items-clause-same : goal.returns-in_err-add_items-clause-same
returns-in_err-add_items-clause-same g t c = unchanged-trans c.args.fs.now c.loop-name.fs c.add_items.new.fs c.loop-name.invariant.0 c.add_items.ensures.same

pub returns-in_err-add_items-clause-err : goal.returns-in_err-add_items-clause-err
returns-in_err-add_items-clause-err g t c =
    let p = err_from_is_err_and c.from_residual-in_err-add_items.result c.from_residual-in_err-add_items.ensures.1 in
    rw (p.1, p.2) (meets-later c.args.fs.now c.loop-name.fs c.add_items.new.fs c.in_err-add_items.field-0.0 c.loop-name.invariant.0 c.in_err-add_items.ensures.err)

pub loop-name-preserved : goal.loop-name-preserved
loop-name-preserved g s c =
    let m = shown c.args.fs.now in
    let t = view_tree m c.args.view.now in
    let told = told_at t c.args.directory.now c.as_slice-name-items.result.now c.loop-name.name-index c.loop-name-item.result (c.as_slice-name-items.ensures ∙ c.in_ok-entries.ensures.ok) c.loop-name-test.true c.loop-name-item.is in
    let below : c.levels_below-below.result ≡ (if told.child.1 then c.args.levels - 1 else 0) = c.levels_below-below.ensures ∙ told.below c.args.levels in
    let path : c.in_ok-path.path ≡ c.args.directory.now ++ told.child.0 ∷ [] = c.in_ok-path.ensures ∙ ap (λ (n : Name). c.args.directory.now ++ n ∷ []) told.name in
    let stat : c.loop-name-item.result.1 ≡ stat_of t c.in_ok-path.path (get t c.in_ok-path.path) = told.stat ∙ ap (λ (p : Path). stat_of t p (get t p)) (sym path) in (
      unchanged-trans c.args.fs.now c.loop-name.fs c.add_items.new.fs c.loop-name.invariant.0 c.add_items.ensures.same,
      one_more m m (shown c.loop-name.fs) c.args.view.now c.args.levels c.levels_below-below.result c.args.directory.now c.in_ok-path.path c.in_ok-clone.field-0 c.loop-name-item.result.1
          (children t c.args.directory.now) c.loop-name.name-index told.child c.args.items.now.items c.loop-name.items.items c.push.new.self.items c.add_items.new.items.items
          refl c.loop-name.invariant.0.machine path c.in_ok-clone.ensures stat
          told.within told.at below c.loop-name.invariant.1 c.in_ok-push.ensures.items c.in_ok-add_items.ensures.ok,
    )

pub returns-clause-same : goal.returns-clause-same
returns-clause-same g t c = c.loop-name.invariant.0

pub returns-clause-ok : goal.returns-clause-ok
returns-clause-ok g s c =
    let some : 0 < c.args.levels = omega arith in
    let t = view_tree (shown c.args.fs.now) c.args.view.now in
    let past = c.loop-name-test.false in
    let long = ap length (c.as_slice-name-items.ensures ∙ c.in_ok-entries.ensures.ok) ∙ length-map (children t c.args.directory.now) (with_stat t c.args.directory.now) in
    all_items t c.args.levels c.args.directory.now (children t c.args.directory.now) c.loop-name.name-index c.args.items.now.items c.loop-name.items.items
    some refl (omega (arith, past, long)) c.loop-name.invariant.1
