-- Many files of one directory put at once: their bodies, the directory with their places, and the way to it.
use Rattle.std.proofs.Common.{◌≡◌, ◌≢◌, ◌⊎◌, ℕ, zero, suc, ◌+◌, ◌-◌, ◌<◌, ◌≤◌, Bool, true, false, cond, Option, Some, None, Result, Ok, List, [], ◌∷◌, ◌++◌, length, take, drop, get_or, append-nil, length-append, length-take, refl, sym, ap, subst, ◌∙◌, inl, inr, arith}
use Rattle.std.proofs.lemmas.Bool.{cases_Bool}
use Rattle.std.proofs.lemmas.List.{take_more, take-append-drop}
use Rattle.std.proofs.lemmas.List.Elements.{All-nil, All-cons, All-head, All-tail}
use Rattle.std.proofs.lemmas.List.Sums.{sum_by-append, sum_by-cons}
use Rattle.std.specs.Prelude.{All, Contains, is_none, IsSome, IfOk, Err, slice_index}
use Rattle.std.specs.Option.{is_some, option_map, option_and_then}
use Rattle.fs_types.specs.Names.{Name, Path, same_name}
use Rattle.fs_types.specs.declared.fault.Fault.{Fault}
use Rattle.fs_types.specs.NamedFiles.{path_in}
use Rattle.fs_types.specs.declared.named_file.NamedFile.{NamedFile}
use Rattle.plain_trees.specs.Contents.{Entry, body_need}
use Rattle.plain_trees.specs.Files.{files_put, bodies_need}
use Rattle.plain_trees.specs.Trees.{Tree, put, nodes_for}
use Rattle.plain_trees.proofs.Needs.{sum_below-le}
use Rattle.node_format.specs.Items.{Item, named_place, is_place}
use Rattle.node_format.specs.declared.place.Place.{Place}
use Rattle.node_format.specs.declared.place.Place.TheVariants.{Dir, File}
use Rattle.nodes.specs.Bodies.{Blocks}
use Rattle.nodes.specs.Chains.{is_chained}
use Rattle.nodes.specs.Puts.{placed, IsPutInto, put_places, IsWholeFile, IsGrafted}
use Rattle.nodes.specs.Reached.{IsHeld, Keeps, PlaceNames, Reached}
use Rattle.nodes.specs.Rewritten.{IsFreshNode, IsFreshChain, IsRewritten}
use Rattle.nodes.specs.Trees.{items_in, child, leads, entry_at, tree, IsRoot, root_tree}
use Rattle.nodes.proofs.Chains.{chain_frame}
use Rattle.nodes.proofs.EditedTrees.{edit_law}
use Rattle.nodes.proofs.FilePuts.{puts_held, puts_reached, put_files_law, grafted_root}
use Rattle.nodes.proofs.Entries.{place_is}
use Rattle.nodes.proofs.Frames.{frame_law}
use Rattle.nodes.proofs.Reaching.{held_leads}
use Rattle.nodes.proofs.RootMaps.{leads-append}
use Rattle.directory.specs.Counts.{edit_nodes, path_nodes}
use Rattle.directory.specs.Puts.{place_after, count_missing, HasRoomFor, IsDirectoryPut}
use Rattle.directory.specs.declared.directory_puts.NamedPlace.{NamedPlace}
use Rattle.directory.specs.Trails.{IsTrail}
use Rattle.directory.proofs.Held.{same_held}
use Rattle.directory.proofs.LookupLaws.{found_leads, rooted_leads}
use Rattle.directory.proofs.NewDirectories.{child_is, fresh_before, rewritten_before}
use Rattle.directory.proofs.TrailEdits.{edit_nodes-there, level_child, leads_last}
use Rattle.tree_edits.specs.declared.file_body.Body.{Body}
use Rattle.tree_edits.specs.Edits.{chosen, count_new, IsNoDirectory, AreWritable}
use Rattle.tree_edits.specs.Roots.{IsNewRoot, IsWrittenNode, IsNewFile, AreNewFiles, IsLinked}
use Rattle.tree_edits.proofs.NewBytes.{StaysBody, stays_body, reached_leads}

-- ---- the files that change

pub chosen-append : (xs ys : List NamedFile) (bs cs : List Bool) → length bs ≡ length xs → chosen (xs ++ ys) (bs ++ cs) ≡ chosen xs bs ++ chosen ys cs
chosen-append [] ys [] cs same = refl
chosen-append [] ys (b ∷ bs) cs same = absurd (omega arith)
chosen-append (x ∷ xs) ys [] cs same = absurd (omega arith)
chosen-append (x ∷ xs) ys (true ∷ bs) cs same = ap (λ (rest : List NamedFile). x ∷ rest) (chosen-append xs ys bs cs (omega arith))
chosen-append (x ∷ xs) ys (false ∷ bs) cs same = chosen-append xs ys bs cs (omega arith)

pub chosen-all : (P : NamedFile → Type 0) (files : List NamedFile) (changes : List Bool) → All P files → All P (chosen files changes)
chosen-all P [] changes all = All-nil P
chosen-all P (file ∷ files) [] all = All-nil P
chosen-all P (file ∷ files) (true ∷ changes) all = All-cons P file (chosen files changes) (All-head P file files all) (chosen-all P files changes (All-tail P file files all))
chosen-all P (file ∷ files) (false ∷ changes) all = chosen-all P files changes (All-tail P file files all)

same_taken : (files : List NamedFile) (changes : List Bool) (i : ℕ) → length changes ≡ length files → length (take i changes) ≡ length (take i files)
same_taken files changes i counted = omega (arith, length-take i changes, length-take i files)

-- ---- a new file

pub new_held : (capacity : ℕ) (kept : ℕ → Bool) (f : Blocks) (kept' : ℕ → Bool) (bytes : List ℕ) (place : Place) → IsNewFile capacity kept f kept' bytes place → IsHeld f kept' place
new_held capacity kept f kept' bytes (Dir block) is = absurd is
new_held capacity kept f kept' bytes (File head size) is = is.1.held

pub new_fresh : (capacity : ℕ) (kept : ℕ → Bool) (f : Blocks) (kept' : ℕ → Bool) (bytes : List ℕ) (place : Place) → IsNewFile capacity kept f kept' bytes place → (root b : ℕ) → PlaceNames place root → Reached f (root ∷ []) b
    → (kept b ≡ false) × IsWrittenNode (f b)
new_fresh capacity kept f kept' bytes (Dir block) is root b names reached = absurd is
new_fresh capacity kept f kept' bytes (File head size) is root b names reached = is.2 root b names reached

pub new_whole : (capacity : ℕ) (kept : ℕ → Bool) (f : Blocks) (kept' : ℕ → Bool) (bytes : List ℕ) (place : Place) → IsNewFile capacity kept f kept' bytes place → IsWholeFile capacity f place
new_whole capacity kept f kept' bytes (Dir block) is = absurd is
new_whole capacity kept f kept' bytes (File head size) is = is.1.whole

pub new_entry : (capacity : ℕ) (kept : ℕ → Bool) (f : Blocks) (kept' : ℕ → Bool) (bytes : List ℕ) (place : Place) → IsNewFile capacity kept f kept' bytes place → entry_at capacity f place ≡ Entry.File bytes
new_entry capacity kept f kept' bytes (Dir block) is = absurd is
new_entry capacity kept f kept' bytes (File head size) is = ap (λ (bs : List ℕ). Entry.File bs) is.1.shown

-- it stays where other nodes are written
pub new_later : (capacity : ℕ) (kept : ℕ → Bool) (f g : Blocks) (k l : ℕ → Bool) (bytes : List ℕ) (place : Place) → Keeps k f l g → IsNewFile capacity kept f k bytes place → IsNewFile capacity kept g l bytes place
new_later capacity kept f g k l bytes (Dir block) keeps is = absurd is
new_later capacity kept f g k l bytes (File head size) keeps is = (
  is.0,
  record { whole = stays.whole; shown = stays.shown; held = stays.held; counted = is.1.counted },
  λ root b names reached.
      let own : IsHeld f k (Dir root) = λ other same. is.1.held other (subst (λ (r : ℕ). PlaceNames (File head size) r) same names) in
      let before = (frame_law f g k l keeps).reached root b own reached in
      let there = is.2 root b names before in
      (there.0, subst IsWrittenNode (sym (keeps.same b (own root refl b before))) there.1),
)
  where
    x : Body
    x = record { head = head; length = size }

    stays : StaysBody capacity g l head size bytes
    stays = stays_body capacity f g k l x bytes keeps is.1

-- it is one of more blocks that were not kept
pub new_before : (capacity : ℕ) (k0 k1 : ℕ → Bool) (f : Blocks) (kept' : ℕ → Bool) (bytes : List ℕ) (place : Place) → ((b : ℕ) → k1 b ≡ false → k0 b ≡ false) → IsNewFile capacity k1 f kept' bytes place → IsNewFile capacity k0 f kept' bytes place
new_before capacity k0 k1 f kept' bytes (Dir block) was is = absurd is
new_before capacity k0 k1 f kept' bytes (File head size) was is = (is.0, is.1, λ root b names reached. let there = is.2 root b names reached in (was b there.0, there.1))

-- ---- new files

news_append : (capacity : ℕ) (kept : ℕ → Bool) (f : Blocks) (kept' : ℕ → Bool) (files : List NamedFile) (puts : List NamedPlace) (file : NamedFile) (one : NamedPlace) → AreNewFiles capacity kept f kept' files puts → one.name.now ≡ file.name
    → IsNewFile capacity kept f kept' file.bytes one.place → AreNewFiles capacity kept f kept' (files ++ file ∷ []) (puts ++ one ∷ [])
news_append capacity kept f kept' [] [] file one all name is = (name, is, tt)
news_append capacity kept f kept' [] (p ∷ puts) file one all name is = absurd all
news_append capacity kept f kept' (x ∷ files) [] file one all name is = absurd all
news_append capacity kept f kept' (x ∷ files) (p ∷ puts) file one all name is = (all.0, all.1, news_append capacity kept f kept' files puts file one all.2 name is)

pub news_push : (capacity : ℕ) (kept : ℕ → Bool) (f : Blocks) (kept' : ℕ → Bool) (files more : List NamedFile) (file : NamedFile) (puts all : List NamedPlace) (one : NamedPlace) → all ≡ puts ++ one ∷ [] → more ≡ files ++ file ∷ [] → AreNewFiles capacity kept f kept' files puts
    → one.name.now ≡ file.name → IsNewFile capacity kept f kept' file.bytes one.place → AreNewFiles capacity kept f kept' more all
news_push capacity kept f kept' files more file puts all one pushed grown news name is =
    subst (λ (ps : List NamedPlace). AreNewFiles capacity kept f kept' more ps) (sym pushed)
    (subst (λ (fs : List NamedFile). AreNewFiles capacity kept f kept' fs (puts ++ one ∷ [])) (sym grown) (news_append capacity kept f kept' files puts file one news name is))

pub news_later : (capacity : ℕ) (kept : ℕ → Bool) (f g : Blocks) (k l : ℕ → Bool) (files : List NamedFile) (puts : List NamedPlace) → Keeps k f l g → AreNewFiles capacity kept f k files puts → AreNewFiles capacity kept g l files puts
news_later capacity kept f g k l [] [] keeps all = tt
news_later capacity kept f g k l [] (p ∷ puts) keeps all = absurd all
news_later capacity kept f g k l (x ∷ files) [] keeps all = absurd all
news_later capacity kept f g k l (x ∷ files) (p ∷ puts) keeps all = (all.0, new_later capacity kept f g k l x.bytes p.place keeps all.1, news_later capacity kept f g k l files puts keeps all.2)

pub news_counted : (capacity : ℕ) (kept : ℕ → Bool) (f : Blocks) (kept' : ℕ → Bool) (files : List NamedFile) (puts : List NamedPlace) → AreNewFiles capacity kept f kept' files puts → length puts ≡ length files
news_counted capacity kept f kept' [] [] all = refl
news_counted capacity kept f kept' [] (p ∷ puts) all = absurd all
news_counted capacity kept f kept' (x ∷ files) [] all = absurd all
news_counted capacity kept f kept' (x ∷ files) (p ∷ puts) all = let rest = news_counted capacity kept f kept' files puts all.2 in omega arith

-- as many of their names are missing
pub news_missing : (capacity : ℕ) (kept : ℕ → Bool) (f : Blocks) (kept' : ℕ → Bool) (items : List Item) (files : List NamedFile) (puts : List NamedPlace) → AreNewFiles capacity kept f kept' files puts → count_missing items puts ≡ count_new items files
news_missing capacity kept f kept' items [] [] all = refl
news_missing capacity kept f kept' items [] (p ∷ puts) all = absurd all
news_missing capacity kept f kept' items (x ∷ files) [] all = absurd all
news_missing capacity kept f kept' items (x ∷ files) (p ∷ puts) all =
    let here : cond (is_none (named_place items p.name.now)) 1 0 ≡ cond (is_none (named_place items x.name)) 1 0 = ap (λ (n : Name). cond (is_none (named_place items n)) 1 0) all.0 in
    let rest = news_missing capacity kept f kept' items files puts all.2 in
    sum_by-cons (λ (q : NamedPlace). cond (is_none (named_place items q.name.now)) 1 0) p puts ∙ (λ i. here i + rest i)
    ∙ sym (sum_by-cons (λ (file : NamedFile). cond (is_none (named_place items file.name)) 1 0) x files)

new_place : (capacity : ℕ) (kept : ℕ → Bool) (f : Blocks) (kept' : ℕ → Bool) (bytes : List ℕ) (place : Place) → IsNewFile capacity kept f kept' bytes place → is_place place ≡ true
new_place capacity kept f kept' bytes (Dir block) is = absurd is
new_place capacity kept f kept' bytes (File head size) is = is.0

news_places : (capacity : ℕ) (kept : ℕ → Bool) (f : Blocks) (kept' : ℕ → Bool) (files : List NamedFile) (puts : List NamedPlace) → AreNewFiles capacity kept f kept' files puts → All (λ (p : NamedPlace). is_place p.place ≡ true) puts
news_places capacity kept f kept' [] [] all = All-nil (λ (p : NamedPlace). is_place p.place ≡ true)
news_places capacity kept f kept' [] (p ∷ puts) all = absurd all
news_places capacity kept f kept' (x ∷ files) [] all = absurd all
news_places capacity kept f kept' (x ∷ files) (p ∷ puts) all =
    All-cons (λ (q : NamedPlace). is_place q.place ≡ true) p puts (new_place capacity kept f kept' x.bytes p.place all.1) (news_places capacity kept f kept' files puts all.2)

-- there is room for them
pub news_room : (capacity : ℕ) (kept : ℕ → Bool) (f : Blocks) (kept' : ℕ → Bool) (items : List Item) (files : List NamedFile) (puts : List NamedPlace) → AreNewFiles capacity kept f kept' files puts → length items + count_new items files ≤ 1024 → HasRoomFor items puts
news_room capacity kept f kept' items files puts all room = record {
  room = let same = news_missing capacity kept f kept' items files puts all in omega (arith, same);
  places = news_places capacity kept f kept' files puts all;
}

-- ---- their names and places

abbrev pub pairs_of : List NamedPlace → List (Name × Place)
pairs_of [] = []
pairs_of (p ∷ puts) = (p.name.now, p.place) ∷ pairs_of puts

placed_same : (puts : List NamedPlace) (n : Name) (was : Option Place) → place_after puts n was ≡ placed (pairs_of puts) n was
placed_same [] n was = refl
placed_same (p ∷ puts) n was = placed_same puts n (cond (same_name p.name.now n) (Some p.place) was)

split_of : (x : Name × Place) (xs : List (Name × Place)) (y : Name × Place) → Contains (x ∷ xs) y → (x ≡ y) ⊎ Contains xs y
split_of x xs y (zero, below, is) = inl is
split_of x xs y (suc k, below, is) = inr (k, omega arith, is)

-- a pair is one of a file
record IsOne (capacity : ℕ) (kept : ℕ → Bool) (f : Blocks) (kept' : ℕ → Bool) (P : NamedFile → Type 0) (one : Name × Place) : Type 0 where
  file : NamedFile
  holds : P file
  named : one.0 ≡ file.name
  new : IsNewFile capacity kept f kept' file.bytes one.1

one_of : (capacity : ℕ) (kept : ℕ → Bool) (f : Blocks) (kept' : ℕ → Bool) (P : NamedFile → Type 0) (files : List NamedFile) (puts : List NamedPlace) → All P files → AreNewFiles capacity kept f kept' files puts → (one : Name × Place) → Contains (pairs_of puts) one
    → IsOne capacity kept f kept' P one
one_of capacity kept f kept' P [] [] holds all one (k, below, is) = absurd (omega arith)
one_of capacity kept f kept' P [] (p ∷ puts) holds all one inside = absurd all
one_of capacity kept f kept' P (x ∷ files) [] holds all one inside = absurd all
one_of capacity kept f kept' P (x ∷ files) (p ∷ puts) holds all one inside = elim (split_of (p.name.now, p.place) (pairs_of puts) one inside) [
  | inl same ↦ subst (IsOne capacity kept f kept' P) same (record { file = x; holds = All-head P x files holds; named = all.0; new = all.1 })
  | inr later ↦ one_of capacity kept f kept' P files puts (All-tail P x files holds) all.2 one later
]

-- the tree with them put in turn is the one with the files put
put_same : (capacity : ℕ) (kept : ℕ → Bool) (f : Blocks) (kept' : ℕ → Bool) (t : Tree) (directory : Path) (files : List NamedFile) (puts : List NamedPlace) → AreNewFiles capacity kept f kept' files puts → put_places capacity f t directory (pairs_of puts) ≡ files_put t directory files
put_same capacity kept f kept' t directory [] [] all = refl
put_same capacity kept f kept' t directory [] (p ∷ puts) all = absurd all
put_same capacity kept f kept' t directory (x ∷ files) [] all = absurd all
put_same capacity kept f kept' t directory (x ∷ files) (p ∷ puts) all =
    let entry = new_entry capacity kept f kept' x.bytes p.place all.1 in
    (λ i. put_places capacity f (put t (directory ++ all.0 i ∷ []) (entry i)) directory (pairs_of puts))
    ∙ put_same capacity kept f kept' (put t (path_in directory x) (Entry.File x.bytes)) directory files puts all.2

-- ---- the way up

was_free : (f g : Blocks) (k l : ℕ → Bool) → Keeps k f l g → (b : ℕ) → l b ≡ false → k b ≡ false
was_free f g k l keeps b free = elim (cases_Bool (k b)) [
  | inl is ↦ absurd (let both = sym (keeps.stays b is) ∙ free in cc)
  | inr is ↦ is
]

pub keeps_on : (f g h : Blocks) (k l m : ℕ → Bool) → Keeps k f l g → Keeps l g m h → Keeps k f m h
keeps_on f g h k l m first second = record { same = λ b is. second.same b (first.stays b is) ∙ first.same b is; stays = λ b is. second.stays b (first.stays b is) }

-- a root above the directory in a block
record IsAbove (capacity : ℕ) (old new : Blocks) (kept kept' : ℕ → Bool) (from to : ℕ) (directory : Path) (block : ℕ) : Type 0 where
  grafted : IsGrafted capacity old new from to directory block
  held : IsHeld new kept' (Dir block) → IsHeld new kept' (Dir to)
  reached : (b : ℕ) → Reached new (to ∷ []) b → Reached old (from ∷ []) b ⊎ (IsFreshNode kept new b ⊎ Reached new (block ∷ []) b)

linked_above : (capacity : ℕ) (old mid new : Blocks) (kept held_mid kept' : ℕ → Bool) (from to : ℕ) (directory : Path) (block : ℕ) → Keeps kept old held_mid mid → Keeps held_mid mid kept' new → IsHeld old kept (Dir from) → IsRoot capacity old from
    → length directory ≤ 16 → IsLinked mid new held_mid kept' from to directory block → IsAbove capacity old new kept kept' from to directory block
linked_above capacity old mid new kept held_mid kept' from to [] block first second held rooted deep is =
    subst (λ (b : ℕ). IsAbove capacity old new kept kept' from b [] block) (sym is) (record { grafted = grafted_root capacity old new from block; held = λ h. h; reached = λ b r. inr (inr r) })
linked_above capacity old mid new kept held_mid kept' from to (n ∷ path) block first second held rooted deep is =
    let both = keeps_on old mid new kept held_mid kept' first second in
    let whole = rewritten_before old mid new kept held_mid kept' first (was_free old mid kept held_mid first) (n ∷ path) from to (Some (Dir block)) held is in
    let edit = edit_law old new kept kept' from to (n ∷ path) (Some (Dir block)) both held whole in
    record {
      grafted = record { grafted = edit.grafted capacity 16 rooted; shape = λ below. edit.shape capacity 16 rooted deep below };
      held = λ h. edit.held h;
      reached = λ b r. elim (edit.reached b r) [
        | inl before ↦ inl before
        | inr later ↦ elim later [
          | inl fresh ↦ inr (inl fresh)
          | inr below ↦ inr (inr (under b below))
        ]
      ];
    }
  where
    under : (b : ℕ) → (root : ℕ) × (place : Place) × (let at : Option Place = Some (Dir block) in at ≡ Some place) × PlaceNames place root × Reached new (root ∷ []) b → Reached new (block ∷ []) b
    under b (root, place, at, names, reached) =
        let named : PlaceNames (Dir block) root = subst (λ (q : Place). PlaceNames q root) (sym (place_is (Dir block) place at)) names in
        subst (λ (r : ℕ). Reached new (r ∷ []) b) (sym named) reached

-- ---- the directory

-- a fresh directory stays
fresh_after : (old mid new : Blocks) (kept held_mid kept' : ℕ → Bool) (from to : ℕ) → Keeps held_mid mid kept' new → IsFreshChain old mid kept held_mid from to → IsFreshChain old new kept kept' from to
fresh_after old mid new kept held_mid kept' from to keeps fresh b inside =
    let there = fresh b (subst (λ (blocks : List ℕ). Contains blocks b) (chain_frame mid new to (λ c here. keeps.same c (fresh c here).0)).1 inside) in
    (keeps.stays b there.0, elim there.1 [ inl free ↦ inl (free.0, ap is_chained (keeps.same b there.0) ∙ free.1) | inr old ↦ inr old ])

-- ---- the new root: bodies from the first nodes (0) to the next (1), the directory to (2), the way to (3)

pub files_root : (capacity : ℕ) (f0 f1 f2 f3 : Blocks) (k0 k1 k2 k3 : ℕ → Bool) (root to : ℕ) (directory : Path) (trail : List ℕ) (was block : ℕ) (files : List NamedFile) (changes : List Bool) (puts : List NamedPlace)
    → Keeps k0 f0 k1 f1 → Keeps k1 f1 k2 f2 → Keeps k2 f2 k3 f3 → IsHeld f0 k0 (Dir root) → IsRoot capacity f0 root → AreWritable f0 root directory trail was files changes
    → AreNewFiles capacity k0 f1 k1 (chosen files changes) puts → IsDirectoryPut f1 f2 was block puts → IsFreshChain f1 f2 k1 k2 was block → IsLinked f2 f3 k2 k3 root to directory block
    → IsNewRoot capacity f0 k0 f3 k3 root to (files_put (root_tree capacity f0 root) directory (chosen files changes))
files_root capacity f0 f1 f2 f3 k0 k1 k2 k3 root to directory trail was block files changes puts first second third held rooted writable news directory_put fresh linked = record {
  rooted = law.0;
  held = above.held (puts_held f0 f3 k0 k3 all was block pairs held_was into fresh_all (λ one inside. let o = each one inside in new_held capacity k0 f3 k3 o.file.bytes one.1 o.new));
  shows = law.1 ∙ put_same capacity k0 f3 k3 (root_tree capacity f0 root) directory (chosen files changes) puts news_there;
  reached = λ b r. elim (above.reached b r) [
    | inl before ↦ inl before
    | inr later ↦ elim later [
      | inl node ↦ inr (node.0, inl node.1)
      | inr below ↦ elim (puts_reached f0 f3 k0 k3 all was block pairs held_was into fresh_all b below) [
        | inl stood ↦ inl (reached_leads f0 directory root was b (Dir was) led refl stood)
        | inr made ↦ elim made [
          | inl node ↦ inr (node.0, inl node.1)
          | inr one ↦ inr (let o = each one.0 one.1 in new_fresh capacity k0 f3 k3 o.file.bytes one.0.1 o.new one.2 b one.3 one.4)
        ]
      ]
    ]
  ];
}
  where
    pairs : List (Name × Place)
    pairs = pairs_of puts

    begun : Keeps k0 f0 k2 f2
    begun = keeps_on f0 f1 f2 k0 k1 k2 first second

    all : Keeps k0 f0 k3 f3
    all = keeps_on f0 f2 f3 k0 k2 k3 begun third

    led : leads f0 (Dir root) directory ≡ Some (Dir was)
    led = found_leads f0 root directory was (rooted_leads capacity f0 root rooted) writable.led

    held_was : IsHeld f0 k0 (Dir was)
    held_was = held_leads f0 k0 directory (Dir root) (Dir was) led held

    fresh_all : IsFreshChain f0 f3 k0 k3 was block
    fresh_all = fresh_after f0 f2 f3 k0 k2 k3 was block third (fresh_before f0 f1 f2 k0 k1 k2 first (was_free f0 f1 k0 k1 first) was block held_was fresh)

    into : IsPutInto f0 f3 was block (pairs_of puts)
    into = (
      directory_put.0,
      (chain_frame f2 f3 block (λ b inside. third.same b (fresh b inside).0)).0 ∙ directory_put.1,
      λ n. directory_put.2 n ∙ placed_same puts n (child f1 (Dir was) n) ∙ ap (placed (pairs_of puts) n) (child_is f0 f1 was n (same_held f0 f1 k0 k1 first was held_was).0),
    )

    news_there : AreNewFiles capacity k0 f3 k3 (chosen files changes) puts
    news_there = news_later capacity k0 f1 f3 k1 k3 (chosen files changes) puts (keeps_on f1 f2 f3 k1 k2 k3 second third) news

    free : NamedFile → Type 0
    free file = IsNoDirectory (child f0 (Dir was) file.name)

    each : (one : Name × Place) → Contains (pairs_of puts) one → IsOne capacity k0 f3 k3 (λ file. IsNoDirectory (child f0 (Dir was) file.name)) one
    each one inside = one_of capacity k0 f3 k3 (λ file. IsNoDirectory (child f0 (Dir was) file.name)) (chosen files changes) puts (chosen-all (λ file. IsNoDirectory (child f0 (Dir was) file.name)) files changes writable.free) news_there one inside

    above : IsAbove capacity f0 f3 k0 k3 root to directory block
    above = linked_above capacity f0 f2 f3 k0 k2 k3 root to directory block begun third held rooted (let deep = writable.above in omega arith) linked

    no_directory : (n : Name) → IsNoDirectory (child f0 (Dir was) n) → tree capacity f0 root (directory ++ n ∷ []) ≢ Some Entry.Dir
    no_directory n none is = on (child f0 (Dir was) n) none (sym (ap (option_map (entry_at capacity f0)) (leads-append f0 (Dir root) directory (n ∷ []) ∙ ap (option_and_then (λ next. leads f0 next (n ∷ []))) led)) ∙ is)
      where
        on : (o : Option Place) → IsNoDirectory o → option_map (entry_at capacity f0) (option_and_then (λ next. leads f0 next []) o) ≡ Some Entry.Dir → ⊥
        on None none is = cc
        on (Some (File head size)) none is = cc
        on (Some (Dir below)) none is = none

    law : IsRoot capacity f3 to × (root_tree capacity f3 to ≡ put_places capacity f3 (root_tree capacity f0 root) directory (pairs_of puts))
    law = put_files_law capacity f0 f3 k0 k3 root to was block directory (pairs_of puts) all held rooted led writable.above
        (record {
          whole = λ one inside. let o = each one inside in new_whole capacity k0 f3 k3 o.file.bytes one.1 o.new;
          free = λ one inside. let o = each one inside in no_directory one.0 (subst (λ (n : Name). IsNoDirectory (child f0 (Dir was) n)) (sym o.named) o.holds);
        })
        into above.grafted

pub files_result : (capacity : ℕ) (f0 f1 f2 f3 : Blocks) (k0 k1 k2 k3 : ℕ → Bool) (root : ℕ) (directory : Path) (trail : List ℕ) (was block : ℕ) (files : List NamedFile) (changes : List Bool) (puts : List NamedPlace) (result : Result ℕ Fault)
    → Keeps k0 f0 k1 f1 → Keeps k1 f1 k2 f2 → Keeps k2 f2 k3 f3 → IsHeld f0 k0 (Dir root) → IsRoot capacity f0 root → AreWritable f0 root directory trail was files changes
    → AreNewFiles capacity k0 f1 k1 (chosen files changes) puts → IsDirectoryPut f1 f2 was block puts → IsFreshChain f1 f2 k1 k2 was block → IfOk result (λ to. IsLinked f2 f3 k2 k3 root to directory block)
    → IfOk result (λ to. IsNewRoot capacity f0 k0 f3 k3 root to (files_put (root_tree capacity f0 root) directory (chosen files changes)))
files_result capacity f0 f1 f2 f3 k0 k1 k2 k3 root directory trail was block files changes puts (Ok to) first second third held rooted writable news directory_put fresh linked =
    files_root capacity f0 f1 f2 f3 k0 k1 k2 k3 root to directory trail was block files changes puts first second third held rooted writable news directory_put fresh linked
files_result capacity f0 f1 f2 f3 k0 k1 k2 k3 root directory trail was block files changes puts (Err fault) first second third held rooted writable news directory_put fresh linked = tt

-- ---- how many nodes

-- a path to something that stands asks no more where it is put
pub path_nodes-stands : (f : Blocks) (root : ℕ) (path : Path) (trail : List ℕ) → IsTrail f root path trail → IsSome (leads f (Dir root) path) → path_nodes f trail path true 0 ≤ path_nodes f trail path false 0
path_nodes-stands f root path trail way stands =
    sum_below-le (λ i. edit_nodes (items_in f (slice_index trail i)) (get_or path i []) true) (λ i. edit_nodes (items_in f (slice_index trail i)) (get_or path i []) false) 0 (length path - 0)
    (λ i low high. same i (omega arith))
  where
    there : (i : ℕ) → i < length path → (i + 1 < length path) ⊎ (i + 1 ≡ length path) → IsSome (named_place (items_in f (slice_index trail i)) (get_or path i []))
    there i less (inl more) = ap is_some (level_child f root path trail i way more)
    there i less (inr last) = subst (λ (o : Option Place). IsSome o) (leads_last f root path trail i way last) stands

    either : (i : ℕ) → i < length path → (i + 1 < length path) ⊎ (i + 1 ≡ length path)
    either i less = grind arith

    same : (i : ℕ) → i < length path → edit_nodes (items_in f (slice_index trail i)) (get_or path i []) true ≤ edit_nodes (items_in f (slice_index trail i)) (get_or path i []) false
    same i less =
        let some = there i less (either i less) in
        omega (arith, edit_nodes-there (items_in f (slice_index trail i)) (get_or path i []) true some, edit_nodes-there (items_in f (slice_index trail i)) (get_or path i []) false some)

-- ---- the steps

-- the first files that change, one file more of which does, or does not
pub chosen-more : (files : List NamedFile) (changes : List Bool) (i : ℕ) (file : NamedFile) → length changes ≡ length files → i < length files → file ≡ get_or files i file → get_or changes i false ≡ true
    → chosen (take (i + 1) files) (take (i + 1) changes) ≡ chosen (take i files) (take i changes) ++ file ∷ []
chosen-more files changes i file counted below is change =
    (λ j. chosen (step_files j) (step_changes j)) ∙ chosen-append (take i files) (file ∷ []) (take i changes) (true ∷ []) (same_taken files changes i counted)
  where
    step_files : take (i + 1) files ≡ take i files ++ file ∷ []
    step_files = take_more files i file below ∙ ap (λ (x : NamedFile). take i files ++ x ∷ []) (sym is)

    step_changes : take (i + 1) changes ≡ take i changes ++ true ∷ []
    step_changes = take_more changes i false (omega arith) ∙ ap (λ (b : Bool). take i changes ++ b ∷ []) change

pub chosen-same : (files : List NamedFile) (changes : List Bool) (i : ℕ) (file : NamedFile) → length changes ≡ length files → i < length files → get_or changes i false ≡ false
    → chosen (take (i + 1) files) (take (i + 1) changes) ≡ chosen (take i files) (take i changes)
chosen-same files changes i file counted below change =
    (λ j. chosen (take_more files i file below j) (step_changes j)) ∙ chosen-append (take i files) (get_or files i file ∷ []) (take i changes) (false ∷ []) (same_taken files changes i counted)
    ∙ append-nil (chosen (take i files) (take i changes))
  where
    step_changes : take (i + 1) changes ≡ take i changes ++ false ∷ []
    step_changes = take_more changes i false (omega arith) ∙ ap (λ (b : Bool). take i changes ++ b ∷ []) change

-- they are a part of all
pub chosen-split : (files : List NamedFile) (changes : List Bool) (i : ℕ) → length changes ≡ length files → chosen files changes ≡ chosen (take i files) (take i changes) ++ chosen (drop i files) (drop i changes)
chosen-split files changes i counted =
    (λ j. chosen (sym (take-append-drop i files) j) (sym (take-append-drop i changes) j)) ∙ chosen-append (take i files) (drop i files) (take i changes) (drop i changes) (same_taken files changes i counted)

pub some-are : (files : List NamedFile) (changes : List Bool) (i : ℕ) → length changes ≡ length files → length (chosen (take i files) (take i changes)) ≤ length (chosen files changes)
some-are files changes i counted =
    omega (arith, ap length (chosen-split files changes i counted), length-append (chosen (take i files) (take i changes)) (chosen (drop i files) (drop i changes)))

pub some-need : (capacity : ℕ) (files : List NamedFile) (changes : List Bool) (i : ℕ) → length changes ≡ length files → bodies_need capacity (chosen (take i files) (take i changes)) ≤ bodies_need capacity (chosen files changes)
some-need capacity files changes i counted =
    omega (arith, ap (bodies_need capacity) (chosen-split files changes i counted), sum_by-append (λ (file : NamedFile). body_need capacity (length file.bytes)) (chosen (take i files) (take i changes)) (chosen (drop i files) (drop i changes)))

pub length-more : (files : List NamedFile) (file : NamedFile) → length (files ++ file ∷ []) ≡ length files + 1
length-more files file = length-append files (file ∷ [])

pub need-more : (capacity : ℕ) (files : List NamedFile) (file : NamedFile) → bodies_need capacity (files ++ file ∷ []) ≡ bodies_need capacity files + body_need capacity (length file.bytes)
need-more capacity files file =
    let one : bodies_need capacity (file ∷ []) ≡ body_need capacity (length file.bytes) + bodies_need capacity [] = sum_by-cons (λ (x : NamedFile). body_need capacity (length x.bytes)) file [] in
    let none : bodies_need capacity [] ≡ 0 = refl in
    omega (arith, sum_by-append (λ (x : NamedFile). body_need capacity (length x.bytes)) files (file ∷ []), one, none)

-- with one file more, there are no more than in all
pub more-are : (files : List NamedFile) (changes : List Bool) (i : ℕ) (file : NamedFile) → length changes ≡ length files → i < length files → file ≡ get_or files i file → get_or changes i false ≡ true → length (chosen (take i files) (take i changes)) + 1 ≤ length (chosen files changes)
more-are files changes i file counted below is change =
    omega (arith, ap length (chosen-more files changes i file counted below is change), length-append (chosen (take i files) (take i changes)) (file ∷ []), some-are files changes (i + 1) counted)

pub more-need : (capacity : ℕ) (files : List NamedFile) (changes : List Bool) (i : ℕ) (file : NamedFile) → length changes ≡ length files → i < length files → file ≡ get_or files i file → get_or changes i false ≡ true
    → bodies_need capacity (chosen (take i files) (take i changes)) + body_need capacity (length file.bytes) ≤ bodies_need capacity (chosen files changes)
more-need capacity files changes i file counted below is change =
    omega (arith, ap (bodies_need capacity) (chosen-more files changes i file counted below is change), need-more capacity (chosen (take i files) (take i changes)) file, some-need capacity files changes (i + 1) counted)

-- ---- the way

pub linked_root : (old new : Blocks) (kept kept' : ℕ → Bool) (from block : ℕ) (directory : Path) → length directory ≡ 0 → IsLinked old new kept kept' from block directory block
linked_root old new kept kept' from block [] none = refl
linked_root old new kept kept' from block (n ∷ path) none = absurd (omega arith)

pub linked_below : (old new : Blocks) (kept kept' : ℕ → Bool) (from block : ℕ) (directory : Path) (result : Result ℕ Fault) → 0 < length directory → IfOk result (λ to. IsRewritten old new kept kept' from to directory (Some (Dir block)))
    → IfOk result (λ to. IsLinked old new kept kept' from to directory block)
linked_below old new kept kept' from block [] result some done = absurd (omega arith)
linked_below old new kept kept' from block (n ∷ path) (Ok to) some done = done
linked_below old new kept kept' from block (n ∷ path) (Err fault) some done = tt

-- the directory with the new files has as many nodes, by its entries before the bodies were written
pub list_nodes : (capacity : ℕ) (kept : ℕ → Bool) (f : Blocks) (kept' : ℕ → Bool) (before items : List Item) (files : List NamedFile) (puts all : List NamedPlace) → AreNewFiles capacity kept f kept' files puts → items ≡ before → all ≡ puts
    → nodes_for (length items + count_missing items all) ≡ nodes_for (length before + count_new before files)
list_nodes capacity kept f kept' before items files puts all news same listed =
    (λ i. nodes_for (length (same i) + count_missing (same i) (listed i))) ∙ ap (λ (n : ℕ). nodes_for (length before + n)) (news_missing capacity kept f kept' before files puts news)
