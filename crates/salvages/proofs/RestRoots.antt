-- The root whose tree's rest is told begins a directory.
use Rattle.std.proofs.Common.{◌≡◌, ◌∙◌, ◌⊎◌, ◌<◌, Ok, ℕ, Bool, true, false, cond, Option, Some, None, List, [], ◌∷◌, refl, sym, ap, subst}
use Rattle.std.specs.Prelude.{reverse, slice_get}
use Rattle.std.specs.List.{find}
use Rattle.std.specs.Option.{option_map, option_and_then}
use Rattle.std.proofs.lemmas.Option.{same_Some, none-some}
use Rattle.fs_types.specs.declared.call.Version.{Version}
use Rattle.record_format.specs.declared.record.Record.{Record}
use Rattle.nodes.specs.Bodies.{Blocks}
use Rattle.flash_model.specs.Device.{Device}
use Rattle.plain_trees.specs.Contents.{Contents}
use Rattle.node_store.specs.NodePages.{node_of}
use Rattle.anchors.specs.Newest.{committed_on}
use Rattle.working_state.specs.Seen.{capacity_of}
use Rattle.salvages.specs.Lefts.{rest_bytes}
use Rattle.salvages.specs.Losses.{cost_of, lost_of}
use Rattle.salvages.specs.Overfull.{Unmade}
use Rattle.salvages.specs.Remade.{IsBeside, IsRestAt, Makes, UnmadeCause}
use Rattle.known_nodes.specs.Rests.{rest_in}
use Rattle.salvages.specs.Salvages.{SalvageCause}
use Rattle.salvages.specs.declared.found.TheConstants.{MAX_COST}
use Rattle.salvages.specs.declared.losses.LossFault.{LossFault}
use Rattle.salvages.specs.declared.making.Rest.{Rest}
use Rattle.salvages.specs.declared.making.TheConstants.{MAX_BYTES}
use Rattle.salvages.specs.Told.{begins, begun_or_newest, newest_begun, rest_root}

module _ (f : Blocks) where
  found_begins : (versions : List (Version ℕ)) (v : Version ℕ) → find (λ (w : Version ℕ). begins f w.root) versions ≡ Some v → begins f v.root ≡ true
  found_begins [] v e = absurd (none-some v e)
  found_begins (w ∷ versions) v e = on (begins f w.root) refl e (λ rest. found_begins versions v rest)
    where
      on : (b : Bool) → begins f w.root ≡ b → cond b (Some w) (find (λ (u : Version ℕ). begins f u.root) versions) ≡ Some v → (find (λ (u : Version ℕ). begins f u.root) versions ≡ Some v → begins f v.root ≡ true) → begins f v.root ≡ true
      on true is e again = ap (λ (u : Version ℕ). begins f u.root) (sym (same_Some w v e)) ∙ is
      on false is e again = again e

  newest_begins : (o : Option (Version ℕ)) (root : ℕ) → ((v : Version ℕ) → o ≡ Some v → begins f v.root ≡ true) → option_map (λ (v : Version ℕ). v.root) o ≡ Some root → begins f root ≡ true
  newest_begins None root each e = absurd (none-some root e)
  newest_begins (Some v) root each e = ap (begins f) (sym (same_Some v.root root e)) ∙ each v refl

  chosen_begins : (versions : List (Version ℕ)) (present : Version ℕ) (root : ℕ) → begun_or_newest f versions present ≡ Some root → begins f root ≡ true
  chosen_begins versions present root e = on (begins f present.root) refl e
    where
      on : (b : Bool) → begins f present.root ≡ b → cond b (Some present.root) (option_map (λ (v : Version ℕ). v.root) (newest_begun f versions)) ≡ Some root → begins f root ≡ true
      on true is e = ap (begins f) (sym (same_Some present.root root e)) ∙ is
      on false is e = newest_begins (newest_begun f versions) root (λ v found. found_begins (reverse versions) v found) e

  pub rest_begins : (r : Record) (root : ℕ) → rest_root f r ≡ Some root → begins f root ≡ true
  rest_begins r root e = on (slice_get r.versions r.cursor) e
    where
      on : (o : Option (Version ℕ)) → option_and_then (begun_or_newest f r.versions) o ≡ Some root → begins f root ≡ true
      on None e = absurd (none-some root e)
      on (Some present) e = chosen_begins r.versions present root e

-- what is found of the nodes of a flash
module _ (d : Device) (newest : Record) (root capacity : ℕ) (f : Blocks) (nodes : f ≡ node_of d) (room : capacity ≡ capacity_of d) (is : Some root ≡ rest_root f newest) where
  is_root : rest_root (node_of d) newest ≡ Some root
  is_root = ap (λ (b : Blocks). rest_root b newest) (sym nodes) ∙ sym is

  pub found_rest : (rest : Rest) → Makes (rest_in capacity f root) rest.calls.items → rest.losses.items ≡ lost_of capacity f root → IsBeside newest rest → IsRestAt d newest (rest_root (node_of d) newest) (Some rest)
  found_rest rest makes losses beside = subst (λ (o : Option ℕ). IsRestAt d newest o (Some rest)) (sym is_root) (
    rest,
    refl,
    record {
      makes = subst (λ (c : Contents). Makes c rest.calls.items) (λ i. rest_in (room i) (nodes i) root) makes;
      losses = losses ∙ (λ i. lost_of (room i) (nodes i) root);
      beside = beside;
    },
  )

  pub not_found : (e : Device) (why : LossFault) → committed_on d ≡ Some (Ok newest) → Unmade (cost_of capacity f root) (rest_bytes capacity f root) why → UnmadeCause d e why
  not_found e (LossFault.Refused fault) holds memory = subst (SalvageCause d e) (sym memory) tt
  not_found e LossFault.TooManyLines holds much = record {
    newest = newest;
    holds = holds;
    root = root;
    is_rest = is_root;
    much = let moved : ((MAX_COST < cost_of capacity f root) ⊎ (MAX_BYTES < rest_bytes capacity f root)) ≡ ((MAX_COST < cost_of (capacity_of d) (node_of d) root) ⊎ (MAX_BYTES < rest_bytes (capacity_of d) (node_of d) root)) =
        (λ i. (MAX_COST < cost_of (room i) (nodes i) root) ⊎ (MAX_BYTES < rest_bytes (room i) (nodes i) root)) in subst (λ (A : Type 0). A) moved much;
  }
