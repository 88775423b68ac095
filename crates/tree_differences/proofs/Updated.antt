-- What the calls of an update leave.
use Rattle.std.proofs.lemmas.Bool.{true≢false}
use Rattle.std.proofs.Common.{◌≡◌, ◌≢◌, ◌∙◌, ◌⊎◌, inl, inr, ℕ, Bool, true, false, cond, Option, Some, None, IsSome, List, [], ◌∷◌, ◌++◌, refl, sym, ap, ap₂, subst}
use Rattle.std.specs.Prelude.{reverse, unwrap_or, if◌then◌else◌}
use Rattle.std.specs.List.{flat_map}
use Rattle.std.specs.Option.{option_map_or}
use Rattle.std.specs.FinMap.{get}
use Rattle.fs_types.specs.Names.{Path}
use Rattle.fs_types.specs.declared.call.Call.{Call}
use Rattle.fs_types.specs.declared.fault.Fault.TheVariants.{Busy}
use Rattle.fs_types.proofs.Orders.{same_name-is, same_name-own}
use Rattle.plain_trees.specs.Contents.{Entry, Contents, same_bytes}
use Rattle.plain_trees.specs.Trees.{Tree, bare, IsFileTree}
use Rattle.plain_trees.proofs.Lookups.{some-is}
use Rattle.history_machine.specs.Descriptors.{none_open, any_open}
use Rattle.history_machine.specs.History.{Past, IsLawful, changed, present_root}
use Rattle.history_machine.specs.Machine.{Machine, IsMachine, machine_with, machine_of, mounted, present_tree, next, after}
use Rattle.history_machine.proofs.Groups.{same-free}
use Rattle.history_machine.proofs.Steps.{passes, outside, tree-changed}
use Rattle.tree_differences.specs.UpdateLaws.{Covers, EachAccepted, UpdateLaw, Updates}
use Rattle.tree_differences.specs.Updates.{goes, removal, removal_at, making, making_at, writing, paths_of, update_changes}
use Rattle.tree_differences.proofs.Listed.{IsListing, listed}
use Rattle.tree_differences.proofs.Assigned.{assigned, all_assigned, all_miss, all_have, contains_reversed}
use Rattle.tree_differences.proofs.Leading.{within, Leads, leads-refl, leads-trans, after-append, accepted-parts, mkdir_leads, unlink_leads, rmdir_leads}
use Rattle.tree_differences.proofs.Pieces.{writing_leads}

-- ---- what stands at a path of two trees is the same, or it is not

pub same_or_other : (o there : Option Entry) → (o ≡ there) ⊎ (o ≢ there)
same_or_other None None = inl refl
same_or_other None (Some entry) = inr (λ e. absurd cc)
same_or_other (Some entry) None = inr (λ e. absurd cc)
same_or_other (Some Entry.Dir) (Some Entry.Dir) = inl refl
same_or_other (Some Entry.Dir) (Some (Entry.File bytes)) = inr (λ e. absurd cc)
same_or_other (Some (Entry.File bytes)) (Some Entry.Dir) = inr (λ e. absurd cc)
same_or_other (Some (Entry.File bytes)) (Some (Entry.File others)) = go (same_bytes bytes others) refl
  where
    bytes_in : Option Entry → List ℕ
    bytes_in (Some (Entry.File bs)) = bs
    bytes_in _ = []

    go : (b : Bool) → same_bytes bytes others ≡ b → (Some (Entry.File bytes) ≡ Some (Entry.File others)) ⊎ (Some (Entry.File bytes) ≢ Some (Entry.File others))
    go true same = inl (ap (λ (bs : List ℕ). Some (Entry.File bs)) (same_name-is bytes others same))
    go false other = inr (λ e. true≢false (sym (same_name-own bytes) ∙ ap (same_bytes bytes) (ap bytes_in e) ∙ other))

-- ---- many paths

many_lead : (P : Contents → Type 0) (f : Path → List Call) (x : Path → Option (Option Entry)) (h : Past Tree) → ((p : Path) (c : Contents) → P c → P (assigned (x p) p c))
    → ((p : Path) (t : Tree) (due : Bool) → P (get t) → EachAccepted (within h t due none_open) (f p) → Leads h t due none_open (after (within h t due none_open) (f p)) (assigned (x p) p (get t)))
    → (ps : List Path) (t : Tree) (due : Bool) → P (get t) → EachAccepted (within h t due none_open) (flat_map f ps) → Leads h t due none_open (after (within h t due none_open) (flat_map f ps)) (all_assigned x ps (get t))
many_lead P f x h keeps one [] t due holds each = leads-refl h t due none_open
many_lead P f x h keeps one (p ∷ ps) t due holds each =
    let n = within h t due none_open in
    let parts = accepted-parts n (f p) (flat_map f ps) each in
    let first = one p t due holds parts.0 in
    let still : P (get first.tree) = subst P (sym first.at) (keeps p (get t) holds) in
    let rest = many_lead P f x h keeps one ps first.tree first.is_due still (subst (λ k. EachAccepted k (flat_map f ps)) first.is parts.1) in
    subst (λ k. Leads h t due none_open k (all_assigned x (p ∷ ps) (get t))) (sym (after-append n (f p) (flat_map f ps)))
    (leads-trans h t due none_open none_open (after n (f p)) (flat_map f ps) (assigned (x p) p (get t)) (all_assigned x ps) first rest)

-- it goes on holding for paths in order
many_keep : (P : Contents → Type 0) (x : Path → Option (Option Entry)) → ((p : Path) (c : Contents) → P c → P (assigned (x p) p c)) → (ps : List Path) (c : Contents) → P c → P (all_assigned x ps c)
many_keep P x keeps [] c holds = holds
many_keep P x keeps (p ∷ ps) c holds = many_keep P x keeps ps (assigned (x p) p c) (keeps p c holds)

module _ (old new : Tree) where
  -- ---- what goes

  abbrev pub gone : Option Entry → Option Entry → Option (Option Entry)
  gone o there = if goes o there then Some None else None

  abbrev pub gone_at : Path → Option (Option Entry)
  gone_at p = gone (get old p) (get new p)

  removal_leads : (h : Past Tree) (p : Path) (t : Tree) (due : Bool) → EachAccepted (within h t due none_open) (removal_at old new p) → Leads h t due none_open (after (within h t due none_open) (removal_at old new p)) (assigned (gone_at p) p (get t))
  removal_leads h p t due = go (get old p) (get new p)
    where
      n : Machine
      n = within h t due none_open

      go : (o there : Option Entry) → EachAccepted n (if goes o there then removal p o else []) → Leads h t due none_open (after n (if goes o there then removal p o else [])) (assigned (gone o there) p (get t))
      go None there each = leads-refl h t due none_open
      go (Some Entry.Dir) (Some Entry.Dir) each = leads-refl h t due none_open
      go (Some Entry.Dir) (Some (Entry.File others)) each = rmdir_leads h t due p each.0
      go (Some Entry.Dir) None each = rmdir_leads h t due p each.0
      go (Some (Entry.File bytes)) (Some (Entry.File others)) each = leads-refl h t due none_open
      go (Some (Entry.File bytes)) (Some Entry.Dir) each = unlink_leads h t due p each.0
      go (Some (Entry.File bytes)) None each = unlink_leads h t due p each.0

  -- ---- what comes or changes

  abbrev pub come : Option Entry → Option Entry → Option (Option Entry)
  come there None = None
  come (Some Entry.Dir) (Some Entry.Dir) = None
  come (Some (Entry.File bytes)) (Some (Entry.File others)) = if same_bytes bytes others then None else Some (Some (Entry.File others))
  come there (Some entry) = Some (Some entry)

  abbrev pub come_at : Path → Option (Option Entry)
  come_at p = come (get old p) (get new p)

  pub making_leads : (h : Past Tree) → IsLawful h → (p : Path) (t : Tree) (due : Bool) → EachAccepted (within h t due none_open) (making_at old new p)
      → Leads h t due none_open (after (within h t due none_open) (making_at old new p)) (assigned (come_at p) p (get t))
  making_leads h lawful p t due = go (get old p) (get new p)
    where
      n : Machine
      n = within h t due none_open

      changed_file : (b : Bool) (others : List ℕ) → EachAccepted n (if b then [] else writing p others) → Leads h t due none_open (after n (if b then [] else writing p others)) (assigned (if b then None else Some (Some (Entry.File others))) p (get t))
      changed_file true others each = leads-refl h t due none_open
      changed_file false others each = writing_leads h t due p others lawful each

      go : (o there : Option Entry) → EachAccepted n (making p o there) → Leads h t due none_open (after n (making p o there)) (assigned (come o there) p (get t))
      go None None each = leads-refl h t due none_open
      go (Some entry) None each = leads-refl h t due none_open
      go (Some Entry.Dir) (Some Entry.Dir) each = leads-refl h t due none_open
      go (Some Entry.Dir) (Some (Entry.File others)) each = writing_leads h t due p others lawful each
      go (Some (Entry.File bytes)) (Some (Entry.File others)) each = changed_file (same_bytes bytes others) others each
      go (Some (Entry.File bytes)) (Some Entry.Dir) each = mkdir_leads h t due p each.0
      go None (Some Entry.Dir) each = mkdir_leads h t due p each.0
      go None (Some (Entry.File others)) each = writing_leads h t due p others lawful each

  -- ---- all of it

  abbrev pub left : List Path → List Path → Contents → Contents
  left olds news c = all_assigned come_at news (all_assigned gone_at (reverse olds) c)

  pub changes_lead : (P : Contents → Type 0) (make : Path → List Call) (olds news : List Path) → ((p : Path) (c : Contents) → P c → P (assigned (gone_at p) p c)) → ((p : Path) (c : Contents) → P c → P (assigned (come_at p) p c))
      → (h : Past Tree)
      → ((p : Path) (t : Tree) (due : Bool) → P (get t) → EachAccepted (within h t due none_open) (make p) → Leads h t due none_open (after (within h t due none_open) (make p)) (assigned (come_at p) p (get t)))
      → (t : Tree) (due : Bool) → P (get t) → EachAccepted (within h t due none_open) (flat_map (removal_at old new) (reverse olds) ++ flat_map make news)
      → Leads h t due none_open (after (within h t due none_open) (flat_map (removal_at old new) (reverse olds) ++ flat_map make news)) (left olds news (get t))
  changes_lead P make olds news keeps_gone keeps_come h makes t due holds each =
      let n = within h t due none_open in
      let removals = flat_map (removal_at old new) (reverse olds) in
      let makings = flat_map make news in
      let parts = accepted-parts n removals makings each in
      let first = many_lead P (removal_at old new) gone_at h keeps_gone (λ p u d still. removal_leads h p u d) (reverse olds) t due holds parts.0 in
      let still : P (get first.tree) = subst P (sym first.at) (many_keep P gone_at keeps_gone (reverse olds) (get t) holds) in
      let rest = many_lead P make come_at h keeps_come makes news first.tree first.is_due still (subst (λ k. EachAccepted k makings) first.is parts.1) in
      subst (λ k. Leads h t due none_open k (left olds news (get t))) (sym (after-append n removals makings))
      (leads-trans h t due none_open none_open (after n removals) makings (all_assigned gone_at (reverse olds) (get t)) (all_assigned come_at news) first rest)

  -- ---- at each path

  stays_none : (q : Path) → get old q ≡ get new q → (gone_at q ≡ None) × (come_at q ≡ None)
  stays_none q same = subst (λ (o : Option Entry). (gone (get old q) o ≡ None) × (come (get old q) o ≡ None)) same (go (get old q))
    where
      go : (o : Option Entry) → (gone o o ≡ None) × (come o o ≡ None)
      go None = (refl, refl)
      go (Some Entry.Dir) = (refl, refl)
      go (Some (Entry.File bytes)) = (refl, ap (λ (b : Bool). if b then None else Some (Some (Entry.File bytes))) (same_name-own bytes))

  goes_none : (o : Option Entry) → o ≢ None → gone o None ≡ Some None
  goes_none None differs = absurd (differs refl)
  goes_none (Some Entry.Dir) differs = refl
  goes_none (Some (Entry.File bytes)) differs = refl

  comes : (o : Option Entry) (entry : Entry) → o ≢ Some entry → come o (Some entry) ≡ Some (Some entry)
  comes None Entry.Dir differs = refl
  comes None (Entry.File others) differs = refl
  comes (Some Entry.Dir) Entry.Dir differs = absurd (differs refl)
  comes (Some Entry.Dir) (Entry.File others) differs = refl
  comes (Some (Entry.File bytes)) Entry.Dir differs = refl
  comes (Some (Entry.File bytes)) (Entry.File others) differs = go (same_bytes bytes others) refl
    where
      go : (b : Bool) → same_bytes bytes others ≡ b → (if b then None else Some (Some (Entry.File others))) ≡ Some (Some (Entry.File others))
      go true same = absurd (differs (ap (λ (xs : List ℕ). Some (Entry.File xs)) (same_name-is bytes others same)))
      go false other = refl

  -- lists of all paths of the two trees have each path at which they differ
  pub all_covered : (olds news : List Path) → IsFileTree old → IsFileTree new → IsListing old olds → IsListing new news → Covers old new olds news
  all_covered olds news lawful lawful' all all' = record { from_old = λ q differs there. all q (not_root q differs) there; from_new = λ q differs there. all' q (not_root q differs) there }
    where
      not_root : (q : Path) → get old q ≢ get new q → q ≢ []
      not_root q differs root = differs (ap (get old) root ∙ lawful.shape.root ∙ sym lawful'.shape.root ∙ ap (get new) (sym root))

  module _ (olds news : List Path) (covers : Covers old new olds news) (c : Contents) where
    pub at_other : (q : Path) → get old q ≡ get new q → left olds news c q ≡ c q
    at_other q same =
        let none = stays_none q same in
        all_miss come_at q news (all_assigned gone_at (reverse olds) c) none.1 ∙ all_miss gone_at q (reverse olds) c none.0

    some_listed : (q : Path) (t : Tree) (o : Option Entry) → get t q ≡ o → o ≢ None → IsSome (get t q)
    some_listed q t None is some = absurd (some refl)
    some_listed q t (Some entry) is some = some-is (get t q) entry is

    pub at_differing : (q : Path) → get old q ≢ get new q → left olds news c q ≡ get new q
    at_differing q differs = go (get new q) refl
      where
        go : (o : Option Entry) → get new q ≡ o → left olds news c q ≡ get new q
        go None is =
            let there : get old q ≢ None = λ none. differs (none ∙ sym is) in
            let leaves : gone_at q ≡ Some None = ap (gone (get old q)) is ∙ goes_none (get old q) there in
            let none : come_at q ≡ None = ap (come (get old q)) is ∙ nothing (get old q) in
            all_miss come_at q news (all_assigned gone_at (reverse olds) c) none
            ∙ all_have gone_at q (reverse olds) c None leaves (contains_reversed olds q (covers.from_old q differs (some_listed q old (get old q) refl there))) ∙ sym is
          where
            nothing : (o : Option Entry) → come o None ≡ None
            nothing None = refl
            nothing (Some entry) = refl
        go (Some entry) is =
            let put : come_at q ≡ Some (Some entry) = ap (come (get old q)) is ∙ comes (get old q) entry (λ same. differs (same ∙ sym is)) in
            all_have come_at q news (all_assigned gone_at (reverse olds) c) (Some entry) put (covers.from_new q differs (some-is (get new q) entry is)) ∙ sym is

  -- ---- where the two are one

  pub no_changes : (make : Path → Option Entry → Option Entry → List Call) (olds news : List Path) → ((p : Path) (o : Option Entry) → make p o o ≡ []) → old ≡ new
      → flat_map (removal_at old new) (reverse olds) ++ flat_map (λ p. make p (get old p) (get new p)) news ≡ []
  no_changes make olds news idle same =
      ap₂ (λ (xs ys : List Call). xs ++ ys) (none (removal_at old new) (reverse olds) (λ p. no_removal p)) (none (λ p. make p (get old p) (get new p)) news (λ p. no_making p))
    where
      none : (f : Path → List Call) (ps : List Path) → ((p : Path) → f p ≡ []) → flat_map f ps ≡ []
      none f [] each = refl
      none f (p ∷ ps) each = ap₂ (λ (xs ys : List Call). xs ++ ys) (each p) (none f ps each)

      no_removal : (p : Path) → removal_at old new p ≡ []
      no_removal p = subst (λ (u : Tree). removal_at old u p ≡ []) same (go (get old p))
        where
          go : (o : Option Entry) → (if goes o o then removal p o else []) ≡ []
          go None = refl
          go (Some Entry.Dir) = refl
          go (Some (Entry.File bytes)) = refl

      no_making : (p : Path) → make p (get old p) (get new p) ≡ []
      no_making p = subst (λ (u : Tree). make p (get old p) (get u p) ≡ []) same (idle p (get old p))

  pub same_changes : old ≡ new → update_changes old new ≡ []
  same_changes = no_changes making (paths_of old) (paths_of new) no_making
    where
      no_making : (p : Path) (o : Option Entry) → making p o o ≡ []
      no_making p None = refl
      no_making p (Some Entry.Dir) = refl
      no_making p (Some (Entry.File bytes)) = ap (λ (b : Bool). if b then [] else writing p bytes) (same_name-own bytes)

-- ---- the group ends, and is brought to the flash

ended : (h : Past Tree) (t : Tree) (due : Bool) → after (within h t due none_open) (Call.End ∷ Call.Sync ∷ []) ≡ machine_with (cond due (changed h t) h) None none_open
ended h t true = refl
ended h t false = refl

shown : (h : Past Tree) (t : Tree) (due : Bool) → IsLawful h → (due ≡ false → t ≡ unwrap_or (present_root h) bare) → unwrap_or (present_root (cond due (changed h t) h)) bare ≡ t
shown h t true lawful undue = ap (λ o. unwrap_or o bare) (tree-changed h t lawful)
shown h t false lawful undue = sym (undue refl)

one_version : (h : Past Tree) (t : Tree) (due : Bool) → (cond due (changed h t) h ≡ h) ⊎ ((u : Tree) × (cond due (changed h t) h ≡ changed h u))
one_version h t true = inr (t, refl)
one_version h t false = inl refl

-- a change group of changes that lead to what is to be left, which is brought to the flash
module _ (old new : Tree) (m : Machine) (lawful : IsFileTree old) (lawful' : IsFileTree new) (is : IsMachine m) (calls : List Call)
    (lead : EachAccepted (within m.history (present_tree m) false none_open) calls → Leads m.history (present_tree m) false none_open (after (within m.history (present_tree m) false none_open) calls) (left old new (paths_of old) (paths_of new) (get (present_tree m))))
    (idle : old ≡ new → calls ≡ []) where
  abbrev was : Tree
  was = present_tree m

  abbrev olds : List Path
  olds = paths_of old

  abbrev news : List Path
  news = paths_of new

  covers : Covers old new (paths_of old) (paths_of new)
  covers = all_covered old new (paths_of old) (paths_of new) lawful lawful' (listed old lawful) (listed new lawful')

  abbrev n : Machine
  n = within m.history was false none_open

  abbrev group_calls : List Call
  group_calls = Call.Begin ∷ (calls ++ Call.End ∷ Call.Sync ∷ [])

  pub group_updates : EachAccepted m group_calls → Updates old new m (after m group_calls)
  group_updates each = record {
    tree = record {
      differing = λ q differs. ap (λ (c : Contents). c q) (ap get now ∙ l.at) ∙ at_differing old new olds news covers (get was) q differs;
      others = λ q same. ap (λ (c : Contents). c q) (ap get now ∙ l.at) ∙ at_other old new olds news covers (get was) q same;
    };
    version = subst (λ (h : Past Tree). (h ≡ m.history) ⊎ ((u : Tree) × (h ≡ changed m.history u))) (sym (ap (λ (k : Machine). k.history) end)) (one_version m.history l.tree l.is_due);
    none = λ same. ap (λ (k : Machine). k.history) end ∙ ap (λ (b : Bool). cond b (changed m.history l.tree) m.history) (quiet same);
    rests = end ∙ sym (ap (λ (k : Machine). mounted k.history) end);
  }
    where
      begun : next m Call.Begin ≡ n
      begun =
          let shut : any_open m.descriptors ≡ false = (passes (any_open m.descriptors) Busy None (outside m _ each.0).1).0 in
          ap (machine_of m Call.Begin) each.0 ∙ ap (λ ds. within m.history was false ds) (same-free m.descriptors none_open shut refl is.places)

      parts : EachAccepted n calls × EachAccepted (after n calls) (Call.End ∷ Call.Sync ∷ [])
      parts = accepted-parts n calls (Call.End ∷ Call.Sync ∷ []) (subst (λ k. EachAccepted k (calls ++ Call.End ∷ Call.Sync ∷ [])) begun each.1)

      l : Leads m.history was false none_open (after n calls) (left old new olds news (get was))
      l = lead parts.0

      end : after m group_calls ≡ machine_with (cond l.is_due (changed m.history l.tree) m.history) None none_open
      end =
          ap (λ k. after k (calls ++ Call.End ∷ Call.Sync ∷ [])) begun ∙ after-append n calls (Call.End ∷ Call.Sync ∷ [])
          ∙ ap (λ k. after k (Call.End ∷ Call.Sync ∷ [])) l.is ∙ ended m.history l.tree l.is_due

      now : present_tree (after m group_calls) ≡ l.tree
      now = ap present_tree end ∙ shown m.history l.tree l.is_due is.lawful (λ e. (l.undue e).1)

      due_of : Machine → Bool
      due_of k = option_map_or (λ g. g.is_due) k.group false

      quiet : old ≡ new → l.is_due ≡ false
      quiet same = sym (ap due_of l.is) ∙ ap due_of (ap (after n) (idle same))

pub update_law : UpdateLaw
update_law old new m lawful lawful' is =
    group_updates old new m lawful lawful' is (update_changes old new)
    (changes_lead old new (λ c. Unit {0}) (making_at old new) (paths_of old) (paths_of new) (λ p c still. tt) (λ p c still. tt) m.history (λ p t due still. making_leads old new m.history is.lawful p t due) (present_tree m) false tt)
    (same_changes old new)
