-- The calls for what is left make the rest of a tree.
use Rattle.std.proofs.lemmas.Bool.{true≢false, leb-true, le-leb}
use Rattle.std.proofs.Common.{◌≡◌, ◌∙◌, ℕ, ◌≤◌, Bool, true, false, cond, Option, Some, None, List, [], ◌∷◌, ◌++◌, length, map, refl, sym, ap, subst, arith}
use Rattle.std.specs.Prelude.{Contains, nat_le}
use Rattle.std.specs.FinMap.{get}
use Rattle.std.specs.List.{flat_map}
use Rattle.std.specs.Option.{is_some, option_map, option_map_or, option_and_then}
use Rattle.std.proofs.lemmas.Option.{none-some}
use Rattle.fs_types.specs.Names.{Path}
use Rattle.fs_types.specs.declared.call.Call.{Call}
use Rattle.plain_trees.specs.Contents.{Contents, Entry}
use Rattle.plain_trees.specs.Trees.{Tree, bare, put}
use Rattle.plain_trees.proofs.Edits.{get-bare, get-put, same_tree}
use Rattle.history_machine.specs.Descriptors.{none_open}
use Rattle.history_machine.specs.History.{Past, IsLawful}
use Rattle.history_machine.specs.Machine.{Machine, after}
use Rattle.node_format.specs.Links.{Link}
use Rattle.node_format.specs.declared.place.Place.{Place}
use Rattle.node_format.specs.declared.place.Place.TheVariants.{Dir}
use Rattle.nodes.specs.Bodies.{Blocks}
use Rattle.nodes.specs.Chains.{link_of}
use Rattle.tree_differences.specs.UpdateLaws.{Brings, EachAccepted, due_after, grouped}
use Rattle.tree_differences.proofs.Assigned.{assigned, all_assigned, all_have, all_miss}
use Rattle.tree_differences.proofs.Leading.{within, Leads, leads-refl, leads-trans, accepted-parts, after-append, mkdir_leads, write_leads}
use Rattle.salvages.specs.Lefts.{left, left_of, made_at, made_of, rest_calls}
use Rattle.salvages.specs.Remade.{Makes}
use Rattle.known_nodes.specs.Rests.{entry_left, leads_left, rest_in}
use Rattle.salvages.specs.declared.lefts.Left.{Left}
use Rattle.salvages.proofs.LeftLaws.{in_map, left_all, left_right}
use Rattle.salvages.proofs.LossLaws.{head_in, later_in}

abbrev some_entry : Entry → Option Entry
some_entry entry = Some entry

module _ (capacity : ℕ) (f : Blocks) (root : ℕ) where
  -- what is to be made at a path
  abbrev wanted : Path → Option Entry
  wanted [] = None
  wanted (n ∷ p) = rest_in capacity f root (n ∷ p)

  abbrev want : Path → Option (Option Entry)
  want p = option_map some_entry (wanted p)

  abbrev paths : List Left → List Path
  paths lefts = map (λ (l : Left). l.path) lefts

  -- ---- what is listed is what is left

  own_rest : (l : Left) → Contains (left_of f root) l → rest_in capacity f root l.path ≡ entry_left capacity f l.place
  own_rest l h =
      let own = left_right f root l h in
      ap (λ (b : Bool). cond b (option_and_then (entry_left capacity f) (leads_left f (Dir root) l.path)) None) (le-leb (length l.path) 16 own.1)
      ∙ ap (λ (o : Option Place). option_and_then (entry_left capacity f) o) own.0

  listed : (p : Path) (entry : Entry) → rest_in capacity f root p ≡ Some entry → Contains (paths (left_of f root)) p
  listed p entry e = on (nat_le (length p) 16) refl e
    where
      at : length p ≤ 16 → (o : Option Place) → leads_left f (Dir root) p ≡ o → option_and_then (entry_left capacity f) o ≡ Some entry → Contains (paths (left_of f root)) p
      at most None leads e = absurd (none-some entry e)
      at most (Some place) leads e = in_map (λ (l : Left). l.path) (left_of f root) (left p place) (left_all f root p place most leads)

      on : (b : Bool) → nat_le (length p) 16 ≡ b → cond b (option_and_then (entry_left capacity f) (leads_left f (Dir root) p)) None ≡ Some entry → Contains (paths (left_of f root)) p
      on false long e = absurd (none-some entry e)
      on true short e = at (leb-true (length p) 16 short) (leads_left f (Dir root) p) refl e

  -- ---- what the calls lead to

  one_leads : (h : Past Tree) → IsLawful h → (p : Path) (o : Option Entry) → rest_in capacity f root p ≡ o → (t : Tree) (due : Bool) → EachAccepted (within h t due none_open) (made_at p o)
      → Leads h t due none_open (after (within h t due none_open) (made_at p o)) (assigned (want p) p (get t))
  one_leads h lawful [] o is t due each = leads-refl h t due none_open
  one_leads h lawful (n ∷ p) o is t due each =
      subst (λ (w : Option Entry). Leads h t due none_open (after (within h t due none_open) (made_at (n ∷ p) o)) (assigned (option_map some_entry w) (n ∷ p) (get t))) (sym is) (go o each)
    where
      go : (o : Option Entry) → EachAccepted (within h t due none_open) (made_at (n ∷ p) o) → Leads h t due none_open (after (within h t due none_open) (made_at (n ∷ p) o)) (assigned (option_map some_entry o) (n ∷ p) (get t))
      go None each = leads-refl h t due none_open
      go (Some Entry.Dir) each = mkdir_leads h t due (n ∷ p) each.0
      go (Some (Entry.File bytes)) each = write_leads h t due (n ∷ p) bytes lawful each.0

  all_lead : (h : Past Tree) → IsLawful h → (lefts : List Left) → ((l : Left) → Contains lefts l → rest_in capacity f root l.path ≡ entry_left capacity f l.place) → (t : Tree) (due : Bool)
      → EachAccepted (within h t due none_open) (flat_map (made_of capacity f) lefts)
      → Leads h t due none_open (after (within h t due none_open) (flat_map (made_of capacity f) lefts)) (all_assigned want (paths lefts) (get t))
  all_lead h lawful [] are t due each = leads-refl h t due none_open
  all_lead h lawful (l ∷ lefts) are t due each =
      let n = within h t due none_open in
      let calls = flat_map (made_of capacity f) lefts in
      let parts = accepted-parts n (made_of capacity f l) calls each in
      let first = one_leads h lawful l.path (entry_left capacity f l.place) (are l (head_in l lefts)) t due parts.0 in
      let rest = all_lead h lawful lefts (λ m there. are m (later_in l m lefts there)) first.tree first.is_due (subst (λ k. EachAccepted k calls) first.is parts.1) in
      subst (λ k. Leads h t due none_open k (all_assigned want (paths (l ∷ lefts)) (get t))) (sym (after-append n (made_of capacity f l) calls))
      (leads-trans h t due none_open none_open (after n (made_of capacity f l)) calls (assigned (want l.path) l.path (get t)) (all_assigned want (paths lefts)) first rest)

  -- ---- the tree

  put_wanted : Option Entry → Path → Tree → Tree
  put_wanted None p t = t
  put_wanted (Some entry) p t = put t p entry

  all_put : List Path → Tree → Tree
  all_put [] t = t
  all_put (p ∷ ps) t = all_put ps (put_wanted (wanted p) p t)

  has_put : (o : Option Entry) (p : Path) (t : Tree) → get (put_wanted o p t) ≡ assigned (option_map some_entry o) p (get t)
  unfolding put_wanted
  has_put None p t = refl
  has_put (Some entry) p t = λ i q. get-put t p entry q i

  have_put : (ps : List Path) (t : Tree) → get (all_put ps t) ≡ all_assigned want ps (get t)
  unfolding all_put
  have_put [] t = refl
  have_put (p ∷ ps) t = have_put ps (put_wanted (wanted p) p t) ∙ ap (all_assigned want ps) (has_put (wanted p) p t)

  module _ (link : Link) (begins : link_of (f root) ≡ Some link) where
    ends : (q : Path) → all_assigned want (paths (left_of f root)) (get bare) q ≡ rest_in capacity f root q
    ends [] = all_miss want [] (paths (left_of f root)) (get bare) refl ∙ get-bare [] ∙ sym (ap (option_map (λ (l : Link). Entry.Dir)) begins)
    ends (n ∷ q) = on (rest_in capacity f root (n ∷ q)) refl
      where
        on : (o : Option Entry) → rest_in capacity f root (n ∷ q) ≡ o → all_assigned want (paths (left_of f root)) (get bare) (n ∷ q) ≡ rest_in capacity f root (n ∷ q)
        on None is = all_miss want (n ∷ q) (paths (left_of f root)) (get bare) (ap (option_map some_entry) is) ∙ get-bare (n ∷ q) ∙ sym is
        on (Some entry) is = all_have want (n ∷ q) (paths (left_of f root)) (get bare) (Some entry) (ap (option_map some_entry) is) (listed (n ∷ q) entry is) ∙ sym is

    tree : Tree
    tree = all_put (paths (left_of f root)) bare

    tree_has : get tree ≡ rest_in capacity f root
    unfolding tree
    tree_has = have_put (paths (left_of f root)) bare ∙ (λ i q. ends q i)

    -- ---- where nothing is left there is no call

    idle_at : (p : Path) (o : Option Entry) → get bare ≡ get tree → rest_in capacity f root p ≡ o → made_at p o ≡ []
    idle_at [] o same is = refl
    idle_at (n ∷ p) o same is = go o (sym (sym (get-bare (n ∷ p)) ∙ ap (λ (c : Contents). c (n ∷ p)) same ∙ ap (λ (c : Contents). c (n ∷ p)) tree_has ∙ is))
      where
        go : (o : Option Entry) → o ≡ None → made_at (n ∷ p) o ≡ []
        go None none = refl
        go (Some entry) none = absurd (none-some entry (sym none))

    all_idle : (lefts : List Left) → get bare ≡ get tree → ((l : Left) → Contains lefts l → rest_in capacity f root l.path ≡ entry_left capacity f l.place) → flat_map (made_of capacity f) lefts ≡ []
    all_idle [] same are = refl
    all_idle (l ∷ lefts) same are =
        let first = idle_at l.path (entry_left capacity f l.place) same (are l (head_in l lefts)) in
        let rest = all_idle lefts same (λ m there. are m (later_in l m lefts there)) in
        λ i. first i ++ rest i

    abbrev due_of : Machine → Bool
    due_of m = option_map_or (λ g. g.is_due) m.group false

    is_due : (h : Past Tree) (due : Bool) (calls : List Call) (l : Leads h bare due none_open (after (grouped h bare due) calls) (all_assigned want (paths (left_of f root)) (get bare)))
        → (get bare ≡ get tree → calls ≡ []) → l.tree ≡ tree → l.is_due ≡ due_after calls due
    is_due h due [] l idle same = sym (ap due_of l.is)
    is_due h due (call ∷ calls) l idle same = go l.is_due refl
      where
        go : (b : Bool) → l.is_due ≡ b → l.is_due ≡ true
        go true e = e
        go false e =
            let one : bare ≡ tree = sym (l.undue e).1 ∙ same in
            absurd (let wrong = idle (ap get one) in cc)

    brings : Brings bare tree (rest_calls capacity f root)
    brings = record {
      leads = λ h due is each.
          let l = all_lead h is (left_of f root) own_rest bare due each in
          let same : l.tree ≡ tree = same_tree l.tree tree (λ q. ap (λ (c : Contents). c q) (l.at ∙ (λ i q. ends q i) ∙ sym tree_has)) in
          l.is ∙ ap (λ (t : Tree). grouped h t l.is_due) same ∙ ap (grouped h tree) (is_due h due (rest_calls capacity f root) l (λ e. all_idle (left_of f root) e own_rest) same);
    }

    pub rest_made : Makes (rest_in capacity f root) (rest_calls capacity f root)
    rest_made = record { tree = tree; has = tree_has; brings = brings }

pub begun_made : (capacity : ℕ) (f : Blocks) (root : ℕ) → is_some (link_of (f root)) ≡ true → Makes (rest_in capacity f root) (rest_calls capacity f root)
begun_made capacity f root begins = on (link_of (f root)) refl begins
  where
    on : (o : Option Link) → link_of (f root) ≡ o → is_some o ≡ true → Makes (rest_in capacity f root) (rest_calls capacity f root)
    on None is e = absurd (true≢false (sym e))
    on (Some link) is e = rest_made capacity f root link is
