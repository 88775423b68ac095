-- What is remembered of open files stays so, as long as calls work on the same root.
use Rattle.std.proofs.Common.{◌≡◌, ◌≢◌, ℕ, zero, suc, ◌-◌, ◌<◌, ◌≤◌, Bool, true, false, cond, length, Option, Some, None, Result, Ok, Err, List, [], ◌∷◌, replicate, refl, sym, ap, subst, ◌∙◌, arith}
use Rattle.std.proofs.Math.Nat.{zero-div}
use Rattle.std.specs.Prelude.{is_some, is_none, position, slice_get, slice_set, nat_lt}
use Rattle.std.specs.List.{position_or_len}
use Rattle.std.specs.FinMap.{get}
use Rattle.std.specs.Option.{option_map, option_and_then}
use Rattle.fs_types.specs.Names.{Path}
use Rattle.fs_types.specs.declared.fault.Fault.{Fault}
use Rattle.flash_model.specs.Device.{Device}
use Rattle.history_machine.specs.History.{working_root}
use Rattle.history_machine.specs.Descriptors.{Descriptor, Descriptors, descriptor_at}
use Rattle.plain_trees.proofs.Beneath.{None≢Some}
use Rattle.plain_trees.proofs.Lookups.{some-is}
use Rattle.plain_trees.specs.Contents.{Contents, Entry, lookup_refusal}
use Rattle.node_format.specs.declared.place.Place.{Place}
use Rattle.node_format.specs.declared.place.Place.TheVariants.{Dir, File}
use Rattle.node_store.specs.NodePages.{node_of}
use Rattle.nodes.specs.Bodies.{Blocks, pointer_of, back, head_index, body, IsChain, IsBody}
use Rattle.nodes.specs.Reached.{Reached, IsHeld, Keeps}
use Rattle.nodes.specs.Trees.{leads, tree, entry_at, root_tree, IsRoot}
use Rattle.nodes.proofs.FileTrees.{all_file_trees}
use Rattle.nodes.proofs.Frames.{frame_law, leads_same}
use Rattle.nodes.proofs.Reaching.{reached_own, reached_below, before_named, held_leads}
use Rattle.nodes.proofs.RootMaps.{map_law}
use Rattle.directory.specs.declared.lookups.Found.{Found}
use Rattle.directory.specs.declared.lookups.Found.TheVariants as found
use Rattle.directory.specs.Lookups.{look_up, place_of}
use Rattle.directory.proofs.LookupLaws.{found_leads_file, found_place, refused_is, rooted_leads}
use Rattle.working_state.specs.OpenBodies.{known_at, nothing_known, with_known, without, IsBodyAt, IsKnownOf, KnowsBelow, KnowsBodies}
use Rattle.working_state.specs.Seen.{capacity_of}
use Rattle.working_state.specs.declared.known_bodies.KnownBodies.{KnownBodies}
use Rattle.working_state.specs.declared.known_bodies.KnownBody.{KnownBody}
use Rattle.working_state.specs.declared.state.State.{State}
use Rattle.working_state.proofs.FileReads.{resolves}

-- ---- places by their numbers

-- what is in a place
abbrev pub in_place : {X : Type 0} → List (Option X) → ℕ → Option X
in_place places k = option_and_then (λ x. x) (slice_get places k)

pub set_other : {X : Type 0} (places : List (Option X)) (n k : ℕ) (v : Option X) → k ≢ n → in_place (slice_set places n v) k ≡ in_place places k
set_other [] n k v apart = refl
set_other (x ∷ places) zero zero v apart = absurd (apart refl)
set_other (x ∷ places) zero (suc k) v apart = refl
set_other (x ∷ places) (suc n) zero v apart = refl
set_other (x ∷ places) (suc n) (suc k) v apart = set_other places n k v (λ same. apart (ap suc same))

pub set_own : {X : Type 0} (places : List (Option X)) (n : ℕ) (v : Option X) (x : X) → in_place (slice_set places n v) n ≡ Some x → v ≡ Some x
set_own [] n v x is = absurd (None≢Some is)
set_own (y ∷ places) zero v x is = is
set_own (y ∷ places) (suc n) v x is = set_own places n v x is

pub none_in : {X : Type 0} (n k : ℕ) (x : X) → in_place (replicate n None) k ≡ Some x → ⊥
none_in zero k x is = None≢Some is
none_in (suc n) zero x is = None≢Some is
none_in (suc n) (suc k) x is = none_in n k x is

-- a place that is free has nothing in it
first_empty : {X : Type 0} (places : List (Option X)) → in_place places (position_or_len is_none places) ≡ None
first_empty [] = refl
first_empty (None ∷ places) = refl
first_empty (Some x ∷ places) =
    let next : suc (position_or_len is_none places) ≡ position_or_len is_none (Some x ∷ places) = omega arith in
    subst (λ (k : ℕ). in_place (Some x ∷ places) k ≡ None) next (first_empty places)

pub free_empty : {X : Type 0} (places : List (Option X)) (n : ℕ) → position is_none places ≡ Some n → in_place places n ≡ None
free_empty places n is = by (nat_lt (position_or_len is_none places) (length places)) is
  where
    same_place : (k : ℕ) → Some k ≡ Some n → k ≡ n
    same_place k e = cc

    by : (b : Bool) → cond b (Some (position_or_len is_none places)) None ≡ Some n → in_place places n ≡ None
    by true e = subst (λ (k : ℕ). in_place places k ≡ None) (same_place (position_or_len is_none places) e) (first_empty places)
    by false e = absurd (None≢Some e)

-- two numbers are the same, or they are not
pub by_same : {P : Type 0} (m n : ℕ) → (m ≡ n → P) → (m ≢ n → P) → P
by_same zero zero same apart = same refl
by_same zero (suc n) same apart = apart (λ e. let wrong : zero ≡ suc n = e in absurd (omega arith))
by_same (suc m) zero same apart = apart (λ e. let wrong : suc m ≡ zero = e in absurd (omega arith))
by_same (suc m) (suc n) same apart = by_same m n (λ e. same (ap suc e)) (λ other. apart (λ e. other (let is : suc m ≡ suc n = e in omega arith)))

-- ---- a look-up finds what a path leads to

file_found : (x : Found) (head size : ℕ) → place_of x ≡ Some (File head size) → x ≡ found.File head size
file_found (found.Missing full) head size is = absurd cc
file_found (found.File h s) head size is = cc
file_found (found.Dir block) head size is = absurd cc

pub leads_found : (capacity : ℕ) (f : Blocks) (root : ℕ) (path : Path) (head size : ℕ) → IsRoot capacity f root → leads f (Dir root) path ≡ Some (File head size) → look_up f root path ≡ Ok (found.File head size)
leads_found capacity f root path head size is led = by (look_up f root path) refl
  where
    there : get (root_tree capacity f root) path ≡ Some (Entry.File (body capacity f head size))
    there = ap (λ (t : Contents). t path) (map_law capacity f root is).same ∙ ap (λ (o : Option Place). option_map (entry_at capacity f) o) led

    passes : lookup_refusal (tree capacity f root) path ≡ None
    passes =
        ap (λ (t : Contents). lookup_refusal t path) (sym (map_law capacity f root is).same)
        ∙ resolves (get (root_tree capacity f root)) (all_file_trees capacity f root is).shape path (some-is (get (root_tree capacity f root) path) (Entry.File (body capacity f head size)) there)

    by : (r : Result Found Fault) → look_up f root path ≡ r → look_up f root path ≡ Ok (found.File head size)
    by (Ok x) e = e ∙ ap (λ (y : Found). Ok y) (file_found x head size (sym (found_place f root path x (rooted_leads capacity f root is) e) ∙ led))
    by (Err fault) e = absurd (None≢Some (sym passes ∙ refused_is capacity f root path fault is e))

-- ---- what is kept

-- nodes before another, of a chain whose blocks keep their nodes
back_kept : (f g : Blocks) (capacity i n block : ℕ) → n ≤ i → IsChain capacity f i block → ((b : ℕ) → Reached f (block ∷ []) b → g b ≡ f b) → back g block n ≡ back f block n
back_kept f g capacity i zero block le chain same = refl
back_kept f g capacity zero (suc n) block le chain same = absurd (omega arith)
back_kept f g capacity (suc i) (suc n) block le chain same =
    ap (λ (node : Option (List ℕ)). back g (pointer_of node 0) n) (same block (reached_own f block))
    ∙ back_kept f g capacity i n (pointer_of (f block) 0) (omega arith) chain.2 (λ b reached. same b (reached_below f block (pointer_of (f block) 0) (before_named f i block chain.0) reached))

back_body : (f g : Blocks) (capacity head size n : ℕ) → n ≤ head_index capacity size → IsBody capacity f head size → (0 < size → (b : ℕ) → Reached f (head ∷ []) b → g b ≡ f b) → back g head n ≡ back f head n
back_body f g capacity head zero zero le is same = refl
back_body f g capacity head zero (suc n) le is same = absurd (omega (arith, le, zero-div capacity))
back_body f g capacity head (suc size) n le is same = back_kept f g capacity (head_index capacity (suc size)) n head le is.0 (same (omega arith))

module _ (f g : Blocks) (kept kept' : ℕ → Bool) (keeps : Keeps kept f kept' g) (capacity root : ℕ) (held : IsHeld f kept (Dir root)) (rooted : IsRoot capacity f root) where
  -- the body of a file, and its known node
  pub kept_body : (path : Path) (known : KnownBody) → IsBodyAt capacity f root path known → IsBodyAt capacity g root path known
  kept_body path known at =
      let head = known.body.head in
      let size = known.body.length in
      let led = found_leads_file f root path head size (rooted_leads capacity f root rooted) at.found in
      let below = held_leads f kept path (Dir root) (File head size) led held in
      let same : (n : ℕ) → n ≤ head_index capacity size → back g head n ≡ back f head n =
      λ n le. back_body f g capacity head size n le (rooted path (File head size) led).0 (λ some b reached. keeps.same b (below head (some, refl) b reached)) in
      record {
        found = leads_found capacity g root path head size ((frame_law f g kept kept' keeps).shape capacity 16 (Dir root) held rooted) (leads_same f g kept kept' keeps path (Dir root) held ∙ led);
        node = λ node is.
            let was = at.node node is in
            record { within = was.within; there = was.there ∙ sym (same (head_index capacity size - node.index) (omega arith)) };
      }

-- all that is known of open files
pub kept_known : (d e : Device) (kept kept' : ℕ → Bool) (root : ℕ) (files : Descriptors) (bodies : KnownBodies) → Keeps kept (node_of d) kept' (node_of e) → capacity_of e ≡ capacity_of d
    → IsHeld (node_of d) kept (Dir root) → IsRoot (capacity_of d) (node_of d) root → KnowsBelow d root files bodies → KnowsBelow e root files bodies
kept_known d e kept kept' root files bodies keeps same held rooted knows descriptor known is =
    let so = knows descriptor known is in
    record {
      is_open = so.is_open;
      body = λ file there. subst (λ (capacity : ℕ). IsBodyAt capacity (node_of e) root file.path known) (sym same)
          (kept_body (node_of d) (node_of e) kept kept' keeps (capacity_of d) root held rooted file.path known (so.body file there));
    }

-- where neither the sizes nor the nodes are others, and calls work on the same root
pub same_knows : (d e : Device) (s t : State) (bodies : KnownBodies) → node_of e ≡ node_of d → capacity_of e ≡ capacity_of d → t.history ≡ s.history → t.group ≡ s.group → t.files ≡ s.files
    → KnowsBodies d s bodies → KnowsBodies e t bodies
same_knows d e s t bodies nodes same history group opened knows root is descriptor known has =
    let so = knows root ((λ i. working_root (sym history i) (sym group i)) ∙ is) descriptor known has in
    subst (λ (files : Descriptors). IsKnownOf e root (descriptor_at files descriptor) known) (sym opened)
    (record {
      is_open = so.is_open;
      body = λ file there.
          subst (λ (f : Blocks). IsBodyAt (capacity_of e) f root file.path known) (sym nodes)
          (subst (λ (capacity : ℕ). IsBodyAt capacity (node_of d) root file.path known) (sym same) (so.body file there));
    })

-- ---- what is remembered and forgotten

pub knows_nothing : (d : Device) (root : ℕ) (files : Descriptors) → KnowsBelow d root files nothing_known
knows_nothing d root files descriptor known is = absurd (none_in 16 descriptor known is)

pub knows_more : (d : Device) (root : ℕ) (files : Descriptors) (bodies : KnownBodies) (n : ℕ) (file : Descriptor) (known : KnownBody) → descriptor_at files n ≡ Some file
    → IsBodyAt (capacity_of d) (node_of d) root file.path known → KnowsBelow d root files bodies → KnowsBelow d root files (with_known bodies n known)
knows_more d root files bodies n file known there at knows k x is = by_same k n
    (λ same. subst (λ (m : ℕ). IsKnownOf d root (descriptor_at files m) x) (sym same) (own (set_own bodies.places n (Some known) x (subst (λ (m : ℕ). known_at (with_known bodies n known) m ≡ Some x) same is))))
    (λ apart. knows k x (sym (set_other bodies.places n k (Some known) apart) ∙ is))
  where
    same_file : (a b : Descriptor) → Some a ≡ Some b → a ≡ b
    same_file a b e = cc

    same_body : (a b : KnownBody) → Some a ≡ Some b → a ≡ b
    same_body a b e = cc

    own : Some known ≡ Some x → IsKnownOf d root (descriptor_at files n) x
    own e = record {
      is_open = ap is_some there;
      body = λ opened is.
          subst (λ (y : KnownBody). IsBodyAt (capacity_of d) (node_of d) root opened.path y) (same_body known x e)
          (subst (λ (y : Descriptor). IsBodyAt (capacity_of d) (node_of d) root y.path known) (same_file file opened (sym there ∙ is)) at);
    }

-- what is left is known
pub knows_less : (bodies : KnownBodies) (n k : ℕ) (known : KnownBody) → known_at (without bodies n) k ≡ Some known → (k ≢ n) × (known_at bodies k ≡ Some known)
knows_less bodies n k known is = by_same k n
    (λ same. absurd (None≢Some (set_own bodies.places n None known (subst (λ (m : ℕ). known_at (without bodies n) m ≡ Some known) same is))))
    (λ apart. (apart, sym (set_other bodies.places n k None apart) ∙ is))
