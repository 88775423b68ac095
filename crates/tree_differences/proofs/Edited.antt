-- Changes that keep of each file what they can bring one tree to another.
use Rattle.std.proofs.Common.{◌≡◌, ◌≢◌, ◌∙◌, ◌⊎◌, inl, inr, ℕ, Bool, true, false, cond, Option, Some, None, List, [], ◌∷◌, refl, sym, ap}
use Rattle.std.specs.Prelude.{if◌then◌else◌}
use Rattle.std.specs.Option.{option_map_or}
use Rattle.std.specs.FinMap.{get}
use Rattle.fs_types.specs.Names.{Path, same_path}
use Rattle.fs_types.specs.declared.call.Call.{Call}
use Rattle.fs_types.proofs.Orders.{same_name-own, same_path-is}
use Rattle.plain_trees.specs.Contents.{Entry, Contents, same_bytes}
use Rattle.plain_trees.specs.Trees.{Tree}
use Rattle.plain_trees.proofs.Edits.{same_tree}
use Rattle.history_machine.specs.Descriptors.{none_open}
use Rattle.history_machine.specs.History.{Past, IsLawful}
use Rattle.history_machine.specs.Machine.{Machine, after}
use Rattle.tree_differences.specs.UpdateLaws.{Brings, CoverLaw, Covers, EachAccepted, EditLaw, due_after, grouped}
use Rattle.tree_differences.specs.Updates.{adapting, adapting_at, editing, edit_paths, paths_of}
use Rattle.tree_differences.proofs.Assigned.{assigned, set_at}
use Rattle.tree_differences.proofs.Leading.{within, Leads, leads-refl, mkdir_leads}
use Rattle.tree_differences.proofs.Listed.{listed}
use Rattle.tree_differences.proofs.Editing.{editing_leads}
use Rattle.tree_differences.proofs.Pieces.{writing_leads}
use Rattle.tree_differences.proofs.Updated.{all_covered, at_differing, at_other, changes_lead, come, come_at, gone, gone_at, left, no_changes, same_or_other}

module _ (old new : Tree) where
  -- where both trees have a file, and the two differ, the one's bytes stand there, or the other's
  abbrev pub Kept : Contents → Type 0
  Kept c = (q : Path) (bytes others : List ℕ) → get old q ≡ Some (Entry.File bytes) → get new q ≡ Some (Entry.File others) → same_bytes bytes others ≡ false → (c q ≡ Some (Entry.File bytes)) ⊎ (c q ≡ Some (Entry.File others))

  pub keeps : (x : Path → Option (Option Entry)) → ((q : Path) (bytes others : List ℕ) → get old q ≡ Some (Entry.File bytes) → get new q ≡ Some (Entry.File others) → (x q ≡ None) ⊎ (x q ≡ Some (Some (Entry.File others))))
      → (p : Path) (c : Contents) → Kept c → Kept (assigned (x p) p c)
  keeps x lawful p c kept q bytes others was now differ = go (x p) refl
    where
      go : (o : Option (Option Entry)) → x p ≡ o → (assigned o p c q ≡ Some (Entry.File bytes)) ⊎ (assigned o p c q ≡ Some (Entry.File others))
      go None is = kept q bytes others was now differ
      go (Some y) is = at (same_path q p) refl
        where
          at : (b : Bool) → same_path q p ≡ b → (cond b y (c q) ≡ Some (Entry.File bytes)) ⊎ (cond b y (c q) ≡ Some (Entry.File others))
          at true same = put (lawful q bytes others was now)
            where
              here : x q ≡ Some y
              here = ap x (same_path-is q p same) ∙ is

              put : (x q ≡ None) ⊎ (x q ≡ Some (Some (Entry.File others))) → (y ≡ Some (Entry.File bytes)) ⊎ (y ≡ Some (Entry.File others))
              put (inl none) = absurd (let wrong : None ≡ Some y = sym none ∙ here in cc)
              put (inr some) = inr (let one : Some y ≡ Some (Some (Entry.File others)) = sym here ∙ some in cc)
          at false other = kept q bytes others was now differ

  pub gone_kept : (q : Path) (bytes others : List ℕ) → get old q ≡ Some (Entry.File bytes) → get new q ≡ Some (Entry.File others) → (gone_at old new q ≡ None) ⊎ (gone_at old new q ≡ Some (Some (Entry.File others)))
  gone_kept q bytes others was now = inl (ap (λ (o : Option Entry). gone old new o (get new q)) was ∙ ap (gone old new (Some (Entry.File bytes))) now)

  pub come_kept : (q : Path) (bytes others : List ℕ) → get old q ≡ Some (Entry.File bytes) → get new q ≡ Some (Entry.File others) → (come_at old new q ≡ None) ⊎ (come_at old new q ≡ Some (Some (Entry.File others)))
  come_kept q bytes others was now = go (same_bytes bytes others) (ap (λ (o : Option Entry). come old new o (get new q)) was ∙ ap (come old new (Some (Entry.File bytes))) now)
    where
      go : (b : Bool) → come_at old new q ≡ (if b then None else Some (Some (Entry.File others))) → (come_at old new q ≡ None) ⊎ (come_at old new q ≡ Some (Some (Entry.File others)))
      go true is = inl is
      go false is = inr is

  adapts : (h : Past Tree) → IsLawful h → (p : Path) (t : Tree) (due : Bool) → Kept (get t) → EachAccepted (within h t due none_open) (adapting_at old new p)
      → Leads h t due none_open (after (within h t due none_open) (adapting_at old new p)) (assigned (come_at old new p) p (get t))
  adapts h lawful p t due kept = go (get old p) (get new p) (λ bytes others. kept p bytes others)
    where
      n : Machine
      n = within h t due none_open

      edited : (bytes others : List ℕ) (b : Bool) → (b ≡ false → (get t p ≡ Some (Entry.File bytes)) ⊎ (get t p ≡ Some (Entry.File others))) → EachAccepted n (if b then [] else editing p bytes others)
          → Leads h t due none_open (after n (if b then [] else editing p bytes others)) (assigned (if b then None else Some (Some (Entry.File others))) p (get t))
      edited bytes others true either each = leads-refl h t due none_open
      edited bytes others false either each = put (either refl)
        where
          put : (get t p ≡ Some (Entry.File bytes)) ⊎ (get t p ≡ Some (Entry.File others)) → Leads h t due none_open (after n (editing p bytes others)) (set_at p (Some (Entry.File others)) (get t))
          put (inl was) = editing_leads h t due p bytes others bytes was (inl refl) each
          put (inr now) = editing_leads h t due p bytes others others now (inr refl) each

      go : (o there : Option Entry) → ((bytes others : List ℕ) → o ≡ Some (Entry.File bytes) → there ≡ Some (Entry.File others) → same_bytes bytes others ≡ false → (get t p ≡ Some (Entry.File bytes)) ⊎ (get t p ≡ Some (Entry.File others)))
          → EachAccepted n (adapting p o there) → Leads h t due none_open (after n (adapting p o there)) (assigned (come old new o there) p (get t))
      go None None either each = leads-refl h t due none_open
      go (Some Entry.Dir) None either each = leads-refl h t due none_open
      go (Some (Entry.File bytes)) None either each = leads-refl h t due none_open
      go (Some Entry.Dir) (Some Entry.Dir) either each = leads-refl h t due none_open
      go (Some Entry.Dir) (Some (Entry.File others)) either each = writing_leads h t due p others lawful each
      go (Some (Entry.File bytes)) (Some (Entry.File others)) either each = edited bytes others (same_bytes bytes others) (either bytes others refl refl) each
      go (Some (Entry.File bytes)) (Some Entry.Dir) either each = mkdir_leads h t due p each.0
      go None (Some Entry.Dir) either each = mkdir_leads h t due p each.0
      go None (Some (Entry.File others)) either each = writing_leads h t due p others lawful each

  -- the changes at lists of paths
  module _ (olds news : List Path) where
    edits_none : old ≡ new → edit_paths old new olds news ≡ []
    edits_none = no_changes old new adapting olds news idle
      where
        idle : (p : Path) (o : Option Entry) → adapting p o o ≡ []
        idle p None = refl
        idle p (Some Entry.Dir) = refl
        idle p (Some (Entry.File bytes)) = ap (λ (b : Bool). if b then [] else editing p bytes bytes) (same_name-own bytes)

    module _ (covers : Covers old new olds news) where
      leads : (h : Past Tree) (due : Bool) → IsLawful h → EachAccepted (grouped h old due) (edit_paths old new olds news)
          → Leads h old due none_open (after (grouped h old due) (edit_paths old new olds news)) (left old new olds news (get old))
      leads h due is each = changes_lead old new Kept (adapting_at old new) olds news (keeps (gone_at old new) gone_kept) (keeps (come_at old new) come_kept) h (adapts h is) old due (λ q bytes others was now differ. inl was) each

      there : (t : Tree) → get t ≡ left old new olds news (get old) → t ≡ new
      there t at = same_tree t new (λ q. ap (λ (c : Contents). c q) at ∙ go q (same_or_other (get old q) (get new q)))
        where
          go : (q : Path) → (get old q ≡ get new q) ⊎ (get old q ≢ get new q) → left old new olds news (get old) q ≡ get new q
          go q (inl same) = at_other old new olds news covers (get old) q same ∙ same
          go q (inr other) = at_differing old new olds news covers (get old) q other

      abbrev due_of : Machine → Bool
      due_of m = option_map_or (λ g. g.is_due) m.group false

      is_due : (h : Past Tree) (due : Bool) (calls : List Call) (l : Leads h old due none_open (after (grouped h old due) calls) (left old new olds news (get old)))
          → (old ≡ new → calls ≡ []) → l.is_due ≡ due_after calls due
      is_due h due [] l idle = sym (ap due_of l.is)
      is_due h due (call ∷ calls) l idle = go l.is_due refl
        where
          go : (b : Bool) → l.is_due ≡ b → l.is_due ≡ true
          go true e = e
          go false e =
              let same : old ≡ new = sym (l.undue e).1 ∙ there l.tree l.at in
              absurd (let wrong = idle same in cc)

      pub brings : Brings old new (edit_paths old new olds news)
      brings = record {
        leads = λ h due is each.
            let l = leads h due is each in
            l.is ∙ ap (λ (t : Tree). grouped h t l.is_due) (there l.tree l.at) ∙ ap (grouped h new) (is_due h due (edit_paths old new olds news) l edits_none);
      }

pub cover_law : CoverLaw
cover_law old new olds news covers = brings old new olds news covers

pub edit_law : EditLaw
edit_law old new lawful lawful' = brings old new (paths_of old) (paths_of new) (all_covered old new (paths_of old) (paths_of new) lawful lawful' (listed old lawful) (listed new lawful'))
