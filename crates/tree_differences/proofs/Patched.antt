-- What the calls of an update leave that write of each file only what differs.
use Rattle.std.proofs.Common.{◌≡◌, ◌⊎◌, inl, inr, ℕ, Bool, true, false, Option, Some, None, List, [], refl, sym, ap, ◌∙◌}
use Rattle.std.proofs.lemmas.Bool.{true≢false}
use Rattle.std.specs.Prelude.{if◌then◌else◌}
use Rattle.std.specs.FinMap.{get}
use Rattle.fs_types.specs.Names.{Path}
use Rattle.fs_types.proofs.Orders.{same_name-own}
use Rattle.plain_trees.specs.Contents.{Entry, same_bytes}
use Rattle.plain_trees.specs.Trees.{Tree}
use Rattle.history_machine.specs.Descriptors.{none_open}
use Rattle.history_machine.specs.History.{Past, IsLawful}
use Rattle.history_machine.specs.Machine.{Machine, after, present_tree}
use Rattle.tree_differences.specs.UpdateLaws.{EachAccepted, HasOld, PatchLaw}
use Rattle.tree_differences.specs.Updates.{amending, amending_at, patch_changes, patching, paths_of}
use Rattle.tree_differences.proofs.Assigned.{assigned, set_at}
use Rattle.tree_differences.proofs.Edited.{Kept, keeps, gone_kept, come_kept}
use Rattle.tree_differences.proofs.Leading.{within, Leads, leads-refl, mkdir_leads}
use Rattle.tree_differences.proofs.Patching.{patching_leads}
use Rattle.tree_differences.proofs.Pieces.{writing_leads}
use Rattle.tree_differences.proofs.Updated.{changes_lead, come, come_at, gone_at, group_updates, no_changes}

module _ (old new : Tree) where
  amends : (h : Past Tree) → IsLawful h → (p : Path) (t : Tree) (due : Bool) → Kept old new (get t) → EachAccepted (within h t due none_open) (amending_at old new p)
      → Leads h t due none_open (after (within h t due none_open) (amending_at old new p)) (assigned (come_at old new p) p (get t))
  amends h lawful p t due kept = go (get old p) (get new p) (λ bytes others. kept p bytes others)
    where
      n : Machine
      n = within h t due none_open

      patched : (bytes others : List ℕ) (b : Bool) → (b ≡ false → (get t p ≡ Some (Entry.File bytes)) ⊎ (get t p ≡ Some (Entry.File others))) → EachAccepted n (if b then [] else patching p bytes others)
          → Leads h t due none_open (after n (if b then [] else patching p bytes others)) (assigned (if b then None else Some (Some (Entry.File others))) p (get t))
      patched bytes others true either each = leads-refl h t due none_open
      patched bytes others false either each = put (either refl)
        where
          put : (get t p ≡ Some (Entry.File bytes)) ⊎ (get t p ≡ Some (Entry.File others)) → Leads h t due none_open (after n (patching p bytes others)) (set_at p (Some (Entry.File others)) (get t))
          put (inl was) = patching_leads h t due p bytes others bytes was (inl refl) each
          put (inr now) = patching_leads h t due p bytes others others now (inr refl) each

      go : (o there : Option Entry) → ((bytes others : List ℕ) → o ≡ Some (Entry.File bytes) → there ≡ Some (Entry.File others) → same_bytes bytes others ≡ false → (get t p ≡ Some (Entry.File bytes)) ⊎ (get t p ≡ Some (Entry.File others)))
          → EachAccepted n (amending p o there) → Leads h t due none_open (after n (amending p o there)) (assigned (come old new o there) p (get t))
      go None None either each = leads-refl h t due none_open
      go (Some Entry.Dir) None either each = leads-refl h t due none_open
      go (Some (Entry.File bytes)) None either each = leads-refl h t due none_open
      go (Some Entry.Dir) (Some Entry.Dir) either each = leads-refl h t due none_open
      go (Some Entry.Dir) (Some (Entry.File others)) either each = writing_leads h t due p others lawful each
      go (Some (Entry.File bytes)) (Some (Entry.File others)) either each = patched bytes others (same_bytes bytes others) (either bytes others refl refl) each
      go (Some (Entry.File bytes)) (Some Entry.Dir) either each = mkdir_leads h t due p each.0
      go None (Some Entry.Dir) either each = mkdir_leads h t due p each.0
      go None (Some (Entry.File others)) either each = writing_leads h t due p others lawful each

  patches_none : old ≡ new → patch_changes old new ≡ []
  patches_none = no_changes old new amending (paths_of old) (paths_of new) idle
    where
      idle : (p : Path) (o : Option Entry) → amending p o o ≡ []
      idle p None = refl
      idle p (Some Entry.Dir) = refl
      idle p (Some (Entry.File bytes)) = ap (λ (b : Bool). if b then [] else patching p bytes bytes) (same_name-own bytes)

  -- what a tree has that has the old one's bytes where they are to differ
  kept_by : (t : Tree) → HasOld old new t → Kept old new (get t)
  kept_by t has q bytes others was now differ = inl (has q bytes others was now (λ same. true≢false (sym (same_name-own bytes) ∙ ap (same_bytes bytes) same ∙ differ)))

pub patch_law : PatchLaw
patch_law old new m lawful lawful' is has =
    group_updates old new m lawful lawful' is (patch_changes old new)
    (changes_lead old new (Kept old new) (amending_at old new) (paths_of old) (paths_of new) (keeps old new (gone_at old new) (gone_kept old new)) (keeps old new (come_at old new) (come_kept old new)) m.history (amends old new m.history is.lawful) (present_tree m) false
    (kept_by old new (present_tree m) has))
    (patches_none old new)
