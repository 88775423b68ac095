-- Calls with a path in the tree that a view shows.
use Rattle.std.proofs.Common.{◌≡◌, ℕ, Option, Some, None, List, refl, ap, subst, ◌∙◌, inl}
use Rattle.std.proofs.lemmas.Option.{get_or_from_slice_get, slice_get_within}
use Rattle.std.specs.Prelude.{slice_get, unwrap_or}
use Rattle.std.specs.Option.{is_none, option_or, option_map, option_and_then}
use Rattle.fs_types.specs.Names.{Path}
use Rattle.plain_trees.specs.Contents.{Entry}
use Rattle.plain_trees.specs.Trees.{bare}
use Rattle.history_machine.specs.History.{Past, version_place, view_refusal, seen_root}
use Rattle.history_machine.specs.HistoryMaps.{view_refusal-map, seen_root-map}
use Rattle.history_machine.specs.Machine.{refusal, found_refusal, view_path_refusal, view_tree}
use Rattle.fs_types.specs.declared.call.Call.{Call}
use Rattle.fs_types.specs.declared.call.Group.{Group}
use Rattle.fs_types.specs.declared.call.Version.{Version}
use Rattle.fs_types.specs.declared.call.View.{View}
use Rattle.fs_types.specs.declared.call.View.TheVariants.{Present, Serial, Checkpoint}
use Rattle.fs_types.specs.declared.fault.Fault.{Fault}
use Rattle.plain_trees.proofs.Beneath.{None≢Some, same_Some}
use Rattle.working_state.specs.Moments.{Moment, machine_at, IsMountedAt, IsRefused, version_tree}
use Rattle.working_state.specs.Steps.{begins_work}
use Rattle.working_state.specs.Mounted.{IsStanding}
use Rattle.working_state.specs.declared.state.State.{State}
use Rattle.working_state.proofs.Roots.{AllRoots, of_versions, of_working, of_checkpoint}
use Rattle.working_state.proofs.PathCalls.{LooksUp}

-- the root that a view shows
of_view : (P : ℕ → Type 0) (s : State) (view : View) (root : ℕ) → AllRoots P s → seen_root s.history s.group view ≡ Some root → P root
of_view P s Present root all e = of_working P s root all e
of_view P s (Checkpoint name) root all e = of_checkpoint P s name root all e
of_view P s (Serial serial) root all e = at (version_place s.history serial) e
  where
    versions : List (Version ℕ)
    versions = s.history.versions

    go : (i : ℕ) (o : Option (Version ℕ)) → slice_get versions i ≡ o → option_map (λ v. v.root) o ≡ Some root → P root
    go i None is e = absurd (None≢Some e)
    go i (Some v) is e = subst P (ap (λ w. w.root) (get_or_from_slice_get versions i v v is) ∙ same_Some e) (of_versions P s all i v (slice_get_within versions i v is))

    at : (o : Option ℕ) → option_map (λ v. v.root) (option_and_then (slice_get versions) o) ≡ Some root → P root
    at None e = absurd (None≢Some e)
    at (Some i) e = go i (slice_get versions i) refl e

-- a view that shows a root
pub record Shows (h : Past ℕ) (group : Option (Group ℕ)) (view : View) (root : ℕ) : Type 0 where
  pub fine : view_refusal h view ≡ None
  pub shown : seen_root h group view ≡ Some root

pub view_stands : (a : Moment) (view : View) (root : ℕ) → IsMountedAt a → Shows a.state.history a.state.group view root → IsStanding a.device a.state.storage.ring root
view_stands a view root m shows = of_view (IsStanding a.device a.state.storage.ring) a.state view root m.roots shows.shown

pub view_tree_is : (a : Moment) (view : View) (root : ℕ) → Shows a.state.history a.state.group view root → view_tree (machine_at a) view ≡ version_tree a root
view_tree_is a view root shows = ap (λ o. unwrap_or o bare) (seen_root-map (version_tree a) a.state.history a.state.group view ∙ ap (option_map (version_tree a)) shows.shown)

view_fine : (a : Moment) (view : View) → view_refusal (machine_at a).history view ≡ view_refusal a.state.history view
view_fine a view = view_refusal-map (version_tree a) a.state.history view

module _ (a : Moment) (view : View) (path : Path) (call : Call) (refuse : Entry → Option Fault) (by_view : refusal (machine_at a) call ≡ view_path_refusal (machine_at a) view path refuse) where
  -- a view that shows a root leaves the path to refuse
  pub view_looks : (root : ℕ) → IsMountedAt a → Shows a.state.history a.state.group view root → begins_work (machine_at a) call ≡ is_none (view_refusal (machine_at a).history view) → LooksUp a call root path refuse
  view_looks root m shows by_fine = record {
    rooted = (view_stands a view root m shows).rooted;
    begins = by_fine ∙ ap is_none (view_fine a view ∙ shows.fine);
    by_path = by_view
        ∙ ap (λ o. option_or o (found_refusal (view_tree (machine_at a) view) path refuse)) (view_fine a view ∙ shows.fine)
        ∙ ap (λ t. found_refusal t path refuse) (view_tree_is a view root shows);
  }

  pub view_refuses : (fault : Fault) → view_refusal a.state.history view ≡ Some fault → IsRefused a call fault a
  view_refuses fault e = inl (by_view ∙ ap (λ o. option_or o (found_refusal (view_tree (machine_at a) view) path refuse)) (view_fine a view ∙ e))
