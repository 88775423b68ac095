use Rattle.std.proofs.Common.{◌≡◌, ◌∙◌, ◌+◌, ◌<◌, ◌-◌, ◌++◌, ℕ, Some, None, [], ◌∷◌, Bool, true, length, take, inl, inr, refl, sym, ap, subst, arith}
use Rattle.std.proofs.lemmas.Bool.{cases_Bool}
use Rattle.std.proofs.lemmas.List.{length-map, take_all}
use Rattle.std.proofs.lemmas.Result.{err_from_is_err_and}
use Rattle.std.specs.Prelude.{Contains, sum_by, if◌then◌else◌}
use Rattle.fs_types.specs.Names.{Name, Path, is_path}
use Rattle.fs_types.specs.declared.call.Call.{Call}
use Rattle.fs_types.specs.declared.call.Stat.{Stat}
use Rattle.history_machine.specs.Machine.{Machine, stat_at, view_tree, with_stat}
use Rattle.plain_trees.specs.Trees.{children}
use Rattle.inquiries.specs.Items.{IsDirectoryOf, items_below}
use Rattle.inquiries.specs.Listable.{IsRoomLeft}
use Rattle.inquiries.specs.Owners.{item_owners, stat_owners}
use Rattle.inquiries.specs.PathBytes.{path_bytes, item_bytes}
use Rattle.inquiries.specs.Readings.{shown}
use Rattle.inquiries.proofs.Entries.{list_accepted, entry_path, entry_directory, told_at}
use Rattle.inquiries.proofs.PathRoom.{all_weight, entry_weight, entry_more, entry_within, no_weight, past_below, past_own, taken_more}
use Rattle.inquiries.proofs.Readings.{unchanged-refl, unchanged-trans, meets-later, met_only}
use Rattle.inquiries.proofs.path_room.+room_below.Goals as goal

pub returns-then-levels-eq0-clause-ok : goal.returns-then-levels-eq0-clause-ok
returns-then-levels-eq0-clause-ok g t c =
    let bytes = no_weight item_bytes (view_tree (shown c.args.fs.now) c.args.view.now) c.args.levels c.args.directory.now c.if-levels-eq0.true in
    let owners = no_weight item_owners (view_tree (shown c.args.fs.now) c.args.view.now) c.args.levels c.args.directory.now c.if-levels-eq0.true in
    (omega (arith, bytes), omega (arith, owners))

pub returns-in_err-entries-clause-err : goal.returns-in_err-entries-clause-err
returns-in_err-entries-clause-err g t c =
    let p = err_from_is_err_and c.from_residual.result c.from_residual.ensures.1 in
    let some : 0 < c.args.levels = omega arith in
    let directory = c.requires some in
    rw (p.1, p.2) (met_only c.args.fs.now c.args.fs.now c.entries_at.new.fs (Call.List c.args.view.now c.args.directory.now) c.in_err-entries.field-0.0 (unchanged-refl c.args.fs.now)
    (list_accepted (shown c.args.fs.now) c.args.view.now c.args.fs.now.mounted.mounted.machine directory.accepted c.args.directory.now directory.there) c.in_err-entries.ensures.err)

pub loop-name-init : goal.loop-name-init
loop-name-init g t c = (c.in_ok-entries.ensures.same, (omega arith, omega arith))

pub child_of-requires : goal.child_of-requires
child_of-requires g s c =
    let some : 0 < c.args.levels = omega arith in
    let m = shown c.args.fs.now in
    let t = view_tree m c.args.view.now in
    let told = told_at t c.args.directory.now c.as_slice-name-items.result.now c.loop-name.name-index c.loop-name-item.result (c.as_slice-name-items.ensures ∙ c.in_ok-entries.ensures.ok) c.loop-name-test.true c.loop-name-item.is in
    subst (λ (n : Name). is_path (c.args.directory.now ++ n ∷ []) ≡ true) (sym told.name)
    (entry_path m c.args.view.now c.args.fs.now.mounted.mounted.machine (c.requires some).accepted c.args.directory.now told.child.0 told.child.1 told.listed)

pub room_below-requires : goal.room_below-requires
room_below-requires g s c =
    let some : 0 < c.args.levels = omega arith in
    let m = shown c.args.fs.now in
    let t = view_tree m c.args.view.now in
    let told = told_at t c.args.directory.now c.as_slice-name-items.result.now c.loop-name.name-index c.loop-name-item.result (c.as_slice-name-items.ensures ∙ c.in_ok-entries.ensures.ok) c.loop-name-test.true c.loop-name-item.is in
    let below : c.levels_below-below.result ≡ (if told.child.1 then c.args.levels - 1 else 0) = c.levels_below-below.ensures ∙ told.below c.args.levels in
    let path : c.in_ok-path.path ≡ c.args.directory.now ++ told.child.0 ∷ [] = c.in_ok-path.ensures ∙ ap (λ (n : Name). c.args.directory.now ++ n ∷ []) told.name in
    let same : shown c.loop-name.fs ≡ m = c.loop-name.invariant.0.machine in
    λ κs sub. (
      elim (cases_Bool told.child.1) [
        | inl deep ↦ (let less : c.levels_below-below.result ≡ c.args.levels - 1 = below ∙ ap (λ (b : Bool). if b then c.args.levels - 1 else 0) deep in omega (arith, less, some))
        | inr file ↦ (let none : c.levels_below-below.result ≡ 0 = below ∙ ap (λ (b : Bool). if b then c.args.levels - 1 else 0) file in omega (arith, none, some))
      ],
      (
        sub,
        λ deep. elim (cases_Bool told.child.1) [
          | inl is ↦
              let here : IsDirectoryOf m c.args.view.now (c.args.directory.now ++ told.child.0 ∷ []) =
              entry_directory m c.args.view.now c.args.fs.now.mounted.mounted.machine (c.requires some).accepted c.args.directory.now told.child.0
              (subst (λ (b : Bool). Contains (children t c.args.directory.now) (told.child.0, b)) is told.listed) in
              subst (λ (x : Machine). IsDirectoryOf x c.args.view.now c.in_ok-path.path) (sym same) (subst (λ (p : Path). IsDirectoryOf m c.args.view.now p) (sym path) here)
          | inr file ↦ absurd (let none : c.levels_below-below.result ≡ 0 = below ∙ ap (λ (b : Bool). if b then c.args.levels - 1 else 0) file in omega (arith, none, deep))
        ],
      ),
    )

pub returns-in_err-rest-clause-same : goal.returns-in_err-rest-clause-same
returns-in_err-rest-clause-same g t c = unchanged-trans c.args.fs.now c.loop-name.fs c.room_below.new.fs c.loop-name.invariant.0 c.room_below.ensures.same

pub returns-in_err-rest-clause-err : goal.returns-in_err-rest-clause-err
returns-in_err-rest-clause-err g t c =
    let p = err_from_is_err_and c.from_residual-in_err-rest.result c.from_residual-in_err-rest.ensures.1 in
    rw (p.1, p.2) (meets-later c.args.fs.now c.loop-name.fs c.room_below.new.fs c.in_err-rest.field-0.0 c.loop-name.invariant.0 c.in_err-rest.ensures.err)

pub returns-in_default-clause-ok : goal.returns-in_default-clause-ok
returns-in_default-clause-ok g s c =
    let some : 0 < c.args.levels = omega arith in
    let m = shown c.args.fs.now in
    let t = view_tree m c.args.view.now in
    let told = told_at t c.args.directory.now c.as_slice-name-items.result.now c.loop-name.name-index c.loop-name-item.result (c.as_slice-name-items.ensures ∙ c.in_ok-entries.ensures.ok) c.loop-name-test.true c.loop-name-item.is in
    let here : Path = c.args.directory.now ++ told.child.0 ∷ [] in
    let path : c.in_ok-path.path ≡ here = c.in_ok-path.ensures ∙ ap (λ (n : Name). c.args.directory.now ++ n ∷ []) told.name in
    let bytes = entry_within item_bytes t c.args.levels c.args.directory.now (if told.child.1 then c.args.levels - 1 else 0) c.loop-name.name-index told.child told.within told.at refl some in
    let owners = entry_within item_owners t c.args.levels c.args.directory.now (if told.child.1 then c.args.levels - 1 else 0) c.loop-name.name-index told.child told.within told.at refl some in
    let past : IsRoomLeft c.loop-name.left (path_bytes here) (stat_owners (stat_at t here)) None =
    subst (λ (stat : Stat). IsRoomLeft c.loop-name.left (path_bytes here) (stat_owners stat) None) told.stat
    (subst (λ (p : Path). IsRoomLeft c.loop-name.left (path_bytes p) (stat_owners c.loop-name-item.result.1) None) (c.names.ensures.names ∙ path) (rw c.in_default.is at c.room_beside.ensures)) in
    past_own c.args.room c.loop-name.left _ _ c.loop-name.invariant.1 (path_bytes here) (stat_owners (stat_at t here)) _ _ (omega (arith, bytes)) (omega (arith, owners)) past

pub returns-in_default-rest-clause-same : goal.returns-in_default-rest-clause-same
returns-in_default-rest-clause-same g t c = unchanged-trans c.args.fs.now c.loop-name.fs c.room_below.new.fs c.loop-name.invariant.0 c.room_below.ensures.same

pub returns-in_default-rest-clause-ok : goal.returns-in_default-rest-clause-ok
returns-in_default-rest-clause-ok g s c =
    let some : 0 < c.args.levels = omega arith in
    let m = shown c.args.fs.now in
    let t = view_tree m c.args.view.now in
    let told = told_at t c.args.directory.now c.as_slice-name-items.result.now c.loop-name.name-index c.loop-name-item.result (c.as_slice-name-items.ensures ∙ c.in_ok-entries.ensures.ok) c.loop-name-test.true c.loop-name-item.is in
    let here : Path = c.args.directory.now ++ told.child.0 ∷ [] in
    let path : c.in_ok-path.path ≡ here = c.in_ok-path.ensures ∙ ap (λ (n : Name). c.args.directory.now ++ n ∷ []) told.name in
    let below : c.levels_below-below.result ≡ (if told.child.1 then c.args.levels - 1 else 0) = c.levels_below-below.ensures ∙ told.below c.args.levels in
    let own : IsRoomLeft c.loop-name.left (path_bytes here) (stat_owners (stat_at t here)) (Some c.in-Some.beside) =
    subst (λ (stat : Stat). IsRoomLeft c.loop-name.left (path_bytes here) (stat_owners stat) (Some c.in-Some.beside)) told.stat
    (subst (λ (p : Path). IsRoomLeft c.loop-name.left (path_bytes p) (stat_owners c.loop-name-item.result.1) (Some c.in-Some.beside)) (c.names.ensures.names ∙ path) (rw c.in-Some.is at c.room_beside.ensures)) in
    let bytes = entry_within item_bytes t c.args.levels c.args.directory.now c.levels_below-below.result c.loop-name.name-index told.child told.within told.at below some in
    let owners = entry_within item_owners t c.args.levels c.args.directory.now c.levels_below-below.result c.loop-name.name-index told.child told.within told.at below some in
    let past : IsRoomLeft c.in-Some.beside (sum_by item_bytes (items_below t c.levels_below-below.result here)) (sum_by item_owners (items_below t c.levels_below-below.result here)) None =
    subst (λ (n : Machine). IsRoomLeft c.in-Some.beside (sum_by item_bytes (items_below (view_tree n c.args.view.now) c.levels_below-below.result here)) (sum_by item_owners (items_below (view_tree n c.args.view.now) c.levels_below-below.result here)) None) c.loop-name.invariant.0.machine
    (subst (λ (p : Path). IsRoomLeft c.in-Some.beside (sum_by item_bytes (items_below (view_tree (shown c.loop-name.fs) c.args.view.now) c.levels_below-below.result p)) (sum_by item_owners (items_below (view_tree (shown c.loop-name.fs) c.args.view.now) c.levels_below-below.result p)) None) path
    (rw c.in_default-rest.is at c.in_ok-rest.ensures.ok)) in
    past_below c.args.room c.loop-name.left _ _ c.loop-name.invariant.1 (path_bytes here) (stat_owners (stat_at t here)) c.in-Some.beside own _ _ _ _ bytes owners past

pub loop-name-preserved : goal.loop-name-preserved
loop-name-preserved g s c =
    let m = shown c.args.fs.now in
    let t = view_tree m c.args.view.now in
    let told = told_at t c.args.directory.now c.as_slice-name-items.result.now c.loop-name.name-index c.loop-name-item.result (c.as_slice-name-items.ensures ∙ c.in_ok-entries.ensures.ok) c.loop-name-test.true c.loop-name-item.is in
    let here : Path = c.args.directory.now ++ told.child.0 ∷ [] in
    let path : c.in_ok-path.path ≡ here = c.in_ok-path.ensures ∙ ap (λ (n : Name). c.args.directory.now ++ n ∷ []) told.name in
    let below : c.levels_below-below.result ≡ (if told.child.1 then c.args.levels - 1 else 0) = c.levels_below-below.ensures ∙ told.below c.args.levels in
    let own : IsRoomLeft c.loop-name.left (path_bytes here) (stat_owners (stat_at t here)) (Some c.in-Some.beside) =
    subst (λ (stat : Stat). IsRoomLeft c.loop-name.left (path_bytes here) (stat_owners stat) (Some c.in-Some.beside)) told.stat
    (subst (λ (p : Path). IsRoomLeft c.loop-name.left (path_bytes p) (stat_owners c.loop-name-item.result.1) (Some c.in-Some.beside)) (c.names.ensures.names ∙ path) (rw c.in-Some.is at c.room_beside.ensures)) in
    let bytes = entry_more item_bytes t c.args.levels c.args.directory.now c.levels_below-below.result c.loop-name.name-index told.child told.within told.at below in
    let owners = entry_more item_owners t c.args.levels c.args.directory.now c.levels_below-below.result c.loop-name.name-index told.child told.within told.at below in
    let rest : IsRoomLeft c.in-Some.beside (sum_by item_bytes (items_below t c.levels_below-below.result here)) (sum_by item_owners (items_below t c.levels_below-below.result here)) (Some c.in-Some-rest.rest) =
    subst (λ (n : Machine). IsRoomLeft c.in-Some.beside (sum_by item_bytes (items_below (view_tree n c.args.view.now) c.levels_below-below.result here)) (sum_by item_owners (items_below (view_tree n c.args.view.now) c.levels_below-below.result here)) (Some c.in-Some-rest.rest)) c.loop-name.invariant.0.machine
    (subst (λ (p : Path). IsRoomLeft c.in-Some.beside (sum_by item_bytes (items_below (view_tree (shown c.loop-name.fs) c.args.view.now) c.levels_below-below.result p)) (sum_by item_owners (items_below (view_tree (shown c.loop-name.fs) c.args.view.now) c.levels_below-below.result p)) (Some c.in-Some-rest.rest)) path
    (rw c.in-Some-rest.is at c.in_ok-rest.ensures.ok)) in (
      unchanged-trans c.args.fs.now c.loop-name.fs c.room_below.new.fs c.loop-name.invariant.0 c.room_below.ensures.same,
      taken_more c.args.room c.loop-name.left _ _ c.loop-name.invariant.1 (path_bytes here) (stat_owners (stat_at t here)) c.in-Some.beside own _ _ c.in-Some-rest.rest _ _ bytes owners rest,
    )

pub returns-clause-same : goal.returns-clause-same
returns-clause-same g t c = c.loop-name.invariant.0

pub returns-clause-ok : goal.returns-clause-ok
returns-clause-ok g s c =
    let some : 0 < c.args.levels = omega arith in
    let t = view_tree (shown c.args.fs.now) c.args.view.now in
    let names = children t c.args.directory.now in
    let past = c.loop-name-test.false in
    let long = ap length (c.as_slice-name-items.ensures ∙ c.in_ok-entries.ensures.ok) ∙ length-map names (with_stat t c.args.directory.now) in
    let whole : take c.loop-name.name-index names ≡ names = take_all c.loop-name.name-index names (omega (arith, past, long)) in
    let bytes = ap (sum_by (entry_weight item_bytes t (c.args.levels - 1) c.args.directory.now)) whole ∙ sym (all_weight item_bytes t c.args.levels c.args.directory.now some) in
    let owners = ap (sum_by (entry_weight item_owners t (c.args.levels - 1) c.args.directory.now)) whole ∙ sym (all_weight item_owners t c.args.levels c.args.directory.now some) in
    subst (λ (n : ℕ). IsRoomLeft c.args.room (sum_by item_bytes (items_below t c.args.levels c.args.directory.now)) n (Some c.loop-name.left)) owners
    (subst (λ (n : ℕ). IsRoomLeft c.args.room n (sum_by (entry_weight item_owners t (c.args.levels - 1) c.args.directory.now) (take c.loop-name.name-index names)) (Some c.loop-name.left)) bytes c.loop-name.invariant.1)
