-- The root of a tree with a file of other bytes: its body is written first, and then the path to it.
use Rattle.std.proofs.Common.{◌≡◌, ◌⊎◌, ℕ, suc, ◌+◌, ◌-◌, ◌*◌, ◌/◌, ◌<◌, ◌≤◌, Bool, true, false, cond, min, max, Option, Some, None, Result, Ok, List, [], ◌∷◌, ◌++◌, length, append-nil, refl, sym, ap, subst, ◌∙◌, inl, inr, arith, length-take}
use Rattle.std.proofs.lemmas.Bool.{cases_Bool, lt-ltb, le-ltb}
use Rattle.std.specs.Prelude.{zero, Err, IfOk}
use Rattle.std.specs.Option.{option_and_then}
use Rattle.fs_types.specs.Names.{Path, is_path}
use Rattle.plain_trees.specs.Contents.{Contents, Entry, read_from, overwritten, pwrite_need, body_need, nodes_from}
use Rattle.plain_trees.specs.Trees.{put, bytes_of, bytes_of_file}
use Rattle.fs_types.specs.declared.fault.Fault.{Fault}
use Rattle.fs_types.specs.declared.fault.Fault.TheVariants.{FlashFull, ReadOnly, ReadFailed, PowerCut, NoMemory}
use Rattle.node_format.specs.declared.place.Place.{Place}
use Rattle.node_format.specs.declared.place.Place.TheVariants.{Dir, File}
use Rattle.nodes.specs.Bodies.{Blocks, body, data_to, head_index, IsBody}
use Rattle.nodes.specs.Reached.{Reached, IsHeld, Keeps, PlaceNames}
use Rattle.nodes.specs.Rewritten.{IsFreshNode, IsRewritten}
use Rattle.nodes.specs.Trees.{child, leads, HasTree, IsWholePlace, IsRoot, root_tree}
use Rattle.nodes.proofs.EditedMaps.{put_file_law}
use Rattle.nodes.proofs.EditedTrees.{edit_law}
use Rattle.nodes.proofs.Entries.{place_is}
use Rattle.nodes.proofs.Frames.{frame_law}
use Rattle.nodes.proofs.Chained.{child_names}
use Rattle.nodes.proofs.Reaching.{held_leads, reached_via}
use Rattle.nodes.proofs.RootMaps.{map_law}
use Rattle.directory.specs.declared.lookups.Found.{Found}
use Rattle.directory.specs.declared.lookups.Found.TheVariants as found
use Rattle.directory.specs.Edits as directories
use Rattle.directory.specs.Lookups.{look_up, LeadsToDirectories}
use Rattle.directory.specs.Trails.{IsChangeFault}
use Rattle.directory.proofs.LookupLaws.{found_is, found_leads_file, rooted_leads}
use Rattle.directory.proofs.NewDirectories.{rewritten_before}
use native.Mathlib.Nat.{zero-div}
use lib.Seq.{drop-nil}
use Rattle.tree_edits.specs.Reading.{HasDigits, nodes_between}
use Rattle.tree_edits.specs.Writing as bodies
use Rattle.tree_edits.specs.Writing.{IsWritten, IsWritingFault}
use Rattle.tree_edits.specs.declared.file_body.Body.{Body}
use Rattle.tree_edits.specs.Edits.{TakesFile}
use Rattle.tree_edits.specs.Roots.{IsNewRoot, IsWrittenNode, IsFreshBody}
use Rattle.tree_edits.proofs.Lookups.{path_within, no_directory}

pub body_fault : (fault : Fault) → IsWritingFault fault → IsChangeFault fault
body_fault FlashFull is = refl
body_fault ReadOnly is = refl
body_fault ReadFailed is = refl
body_fault PowerCut is = refl
body_fault NoMemory is = refl
body_fault _ is = absurd is

-- ---- a body stays where nothing of it changes

file_shape : (capacity : ℕ) (f : Blocks) (head size : ℕ) → IsBody capacity f head size → HasTree capacity f (File head size) 0
file_shape capacity f head size is [] there e = (subst (IsWholePlace capacity f) (place_is (File head size) there e) is, omega arith)
file_shape capacity f head size is (n ∷ q) there e = absurd cc

pub record StaysBody (capacity : ℕ) (new : Blocks) (kept : ℕ → Bool) (head size : ℕ) (bytes : List ℕ) : Type 0 where
  pub whole : IsBody capacity new head size
  pub shown : body capacity new head size ≡ bytes
  pub held : IsHeld new kept (File head size)

pub stays_body : (capacity : ℕ) (old new : Blocks) (kept kept' : ℕ → Bool) (x : Body) (bytes : List ℕ) → Keeps kept old kept' new → IsWritten capacity old kept x bytes → StaysBody capacity new kept' x.head x.length bytes
stays_body capacity old new kept kept' x bytes keeps written =
    let law = frame_law old new kept kept' keeps in
    let at = File x.head x.length in
    let has = file_shape capacity old x.head x.length written.whole in
    record {
      whole = (law.shape capacity 0 at written.held has [] at refl).0;
      shown = ap (λ (t : Contents). bytes_of (t [])) (law.same capacity 0 at written.held has) ∙ written.shown;
      held = law.held at written.held;
    }

-- ---- what is reached

-- what a path leads to reaches nothing that the root does not
pub reached_leads : (f : Blocks) (path : Path) (from root b : ℕ) (place : Place) → leads f (Dir from) path ≡ Some place → PlaceNames place root → Reached f (root ∷ []) b → Reached f (from ∷ []) b
reached_leads f [] from root b place led names reached =
    let same : from ≡ root = subst (λ (p : Place). PlaceNames p root) (sym (place_is (Dir from) place led)) names in
    subst (λ (r : ℕ). Reached f (r ∷ []) b) (sym same) reached
reached_leads f (n ∷ path) from root b place led names reached = on (child f (Dir from) n) refl led (λ below. reached_leads f path below root b place)
  where
    on : (o : Option Place) → child f (Dir from) n ≡ o → option_and_then (λ next. leads f next path) o ≡ Some place
        → ((below : ℕ) → leads f (Dir below) path ≡ Some place → PlaceNames place root → Reached f (root ∷ []) b → Reached f (below ∷ []) b) → Reached f (from ∷ []) b
    on None is e again = absurd cc
    on (Some (Dir below)) is e again = reached_via f (from ∷ []) below (child_names f from n (Dir below) below is refl) (again below e names reached)
    on (Some (File head size)) is e again = at_file path e
      where
        at_file : (p : Path) → leads f (File head size) p ≡ Some place → Reached f (from ∷ []) b
        at_file [] e =
            let named = subst (λ (q : Place). PlaceNames q root) (sym (place_is (File head size) place e)) names in
            reached_via f (from ∷ []) root (child_names f from n (File head size) root is named) reached
        at_file (m ∷ p) e = absurd cc

-- the blocks that a new body reaches, of those before it: the root reached them, or they were written in ones that were not kept
abbrev pub IsFrom : Blocks → (ℕ → Bool) → ℕ → Blocks → Body → Type 0
IsFrom old kept from mid x = (root block : ℕ) → PlaceNames (File x.head x.length) root → Reached mid (root ∷ []) block → Reached old (from ∷ []) block ⊎ ((kept block ≡ false) × IsWrittenNode (mid block))

-- a body made of that of a file of the tree
pub from_file : (capacity : ℕ) (old mid : Blocks) (kept : ℕ → Bool) (from : ℕ) (path : Path) (x y : Body) → LeadsToDirectories old from → look_up old from path ≡ Ok (found.File x.head x.length) → bodies.BodyOnlyReaches capacity old mid kept x y → IsFrom old kept from mid y
from_file capacity old mid kept from path x y whole led only root block names reached = elim (only root block names reached) [
  | inl before ↦ inl (reached_leads old path from before.0 block (File x.head x.length) (found_leads_file old from path x.head x.length whole led) before.1 before.2)
  | inr fresh ↦ inr (fresh.0, inr (fresh.1.0, read_from (body capacity mid y.head y.length) (fresh.1.0 * capacity) capacity, fresh.1.1))
]

-- ---- the new root

-- the body was written from `old` to `mid`, and the path to it from there to `new`
pub file_root : (capacity : ℕ) (old mid new : Blocks) (kept held_mid kept' : ℕ → Bool) (from to : ℕ) (path : Path) (found_there : Found) (x : Body) (bytes : List ℕ) → Keeps kept old held_mid mid → Keeps held_mid mid kept' new
    → IsHeld old kept (Dir from) → IsRoot capacity old from → is_path path ≡ true → look_up old from path ≡ Ok found_there → TakesFile found_there
    → IsWritten capacity mid held_mid x bytes → IsFrom old kept from mid x → IsRewritten mid new held_mid kept' from to path (Some (File x.head x.length)) → directories.OnlyReaches mid new held_mid from to (Some (File x.head x.length))
    → IsNewRoot capacity old kept new kept' from to (put (root_tree capacity old from) path (Entry.File bytes))
file_root capacity old mid new kept held_mid kept' from to path found_there x bytes first second held rooted lawful led takes written is_from rewritten reaches =
    let both : Keeps kept old kept' new = record { same = λ b k. second.same b (first.stays b k) ∙ first.same b k; stays = λ b k. second.stays b (first.stays b k) } in
    let stays = stays_body capacity mid new held_mid kept' x bytes second written in
    let whole = rewritten_before old mid new kept held_mid kept' first was_fresh path from to (Some (File x.head x.length)) held rewritten in
    let edit = edit_law old new kept kept' from to path (Some (File x.head x.length)) both held whole in
    let law = put_file_law capacity old new kept kept' from to x.head x.length path both held rooted (no_directory capacity old from path found_there (rooted_leads capacity old from rooted) led takes) (path_within path lawful) stays.whole whole in
    record {
      rooted = law.0;
      held = edit.held stays.held;
      shows = law.1 ∙ ap (λ (bs : List ℕ). put (root_tree capacity old from) path (Entry.File bs)) stays.shown;
      reached = λ block r. on block (reaches block r);
    }
  where
    was_fresh : (block : ℕ) → held_mid block ≡ false → kept block ≡ false
    was_fresh block free = elim (cases_Bool (kept block)) [
      | inl is ↦ absurd (let both = sym (first.stays block is) ∙ free in cc)
      | inr is ↦ is
    ]

    on : (block : ℕ) → Reached mid (from ∷ []) block ⊎ IsFreshNode held_mid new block ⊎ ((root : ℕ) × (place : Place) × (let at : Option Place = Some (File x.head x.length) in at ≡ Some place) × PlaceNames place root × Reached new (root ∷ []) block)
        → Reached old (from ∷ []) block ⊎ ((kept block ≡ false) × IsWrittenNode (new block))
    on block (inl before) = inl ((frame_law old mid kept held_mid first).reached from block held before)
    on block (inr (inl fresh)) = inr (was_fresh block fresh.0, inl fresh.1)
    on block (inr (inr (root, place, is, names, below))) =
        let named : PlaceNames (File x.head x.length) root = subst (λ (p : Place). PlaceNames p root) (sym (place_is (File x.head x.length) place is)) names in
        let own : IsHeld mid held_mid (Dir root) = λ other same. written.held other (subst (λ (r : ℕ). PlaceNames (File x.head x.length) r) same named) in
        let reached = (frame_law mid new held_mid kept' second).reached root block own below in
        elim (is_from root block named reached) [
          | inl before ↦ inl before
          | inr written_there ↦ inr (written_there.0, subst IsWrittenNode (sym (second.same block (own root refl block reached))) written_there.1)
        ]

pub file_result : (capacity : ℕ) (old mid new : Blocks) (kept held_mid kept' : ℕ → Bool) (from : ℕ) (path : Path) (found_there : Found) (x : Body) (bytes : List ℕ) (result : Result ℕ Fault) → Keeps kept old held_mid mid → Keeps held_mid mid kept' new
    → IsHeld old kept (Dir from) → IsRoot capacity old from → is_path path ≡ true → look_up old from path ≡ Ok found_there → TakesFile found_there
    → IsWritten capacity mid held_mid x bytes → IsFrom old kept from mid x → IfOk result (λ to. IsRewritten mid new held_mid kept' from to path (Some (File x.head x.length)))
    → IfOk result (λ to. directories.OnlyReaches mid new held_mid from to (Some (File x.head x.length)))
    → IfOk result (λ to. IsNewRoot capacity old kept new kept' from to (put (root_tree capacity old from) path (Entry.File bytes)))
file_result capacity old mid new kept held_mid kept' from path found_there x bytes (Ok to) first second held rooted lawful led takes written is_from rewritten reaches =
    file_root capacity old mid new kept held_mid kept' from to path found_there x bytes first second held rooted lawful led takes written is_from rewritten reaches
file_result capacity old mid new kept held_mid kept' from path found_there x bytes (Err fault) first second held rooted lawful led takes written is_from rewritten reaches = tt

pub keeps_itself : (kept : ℕ → Bool) (f : Blocks) → Keeps kept f kept f
keeps_itself kept f = record { same = λ b k. refl; stays = λ b k. k }

-- an empty file has no body
pub empty_written : (capacity : ℕ) (f : Blocks) (kept : ℕ → Bool) (x : Body) → x.head ≡ 0 → x.length ≡ 0 → IsWritten capacity f kept x []
empty_written capacity f kept x none short = record {
  whole = subst (λ (n : ℕ). IsBody capacity f x.head n) (sym short) none;
  shown = ap (body capacity f x.head) short;
  held = λ root names block reached. let some = names.0 in absurd (omega arith);
  counted = short;
}

pub empty_from : (old : Blocks) (kept : ℕ → Bool) (from : ℕ) (mid : Blocks) (x : Body) → x.length ≡ 0 → IsFrom old kept from mid x
empty_from old kept from mid x short root block names reached = let some = names.0 in absurd (omega arith)

-- bytes written over none
pub written_whole : (bytes : List ℕ) → overwritten [] 0 bytes ≡ bytes
written_whole bytes = ap (λ (rest : List ℕ). bytes ++ rest) (drop-nil (0 + length bytes)) ∙ append-nil bytes

pub whole_need : (capacity n : ℕ) → 0 < n → pwrite_need capacity 0 0 n ≡ body_need capacity n
whole_need capacity n some =
    let lo : min 0 0 ≡ 0 = omega arith in
    let hi : max 0 (0 + n) ≡ n = omega arith in
    (λ i. nodes_from capacity (lo i) (hi i)) ∙ sym (ap (λ b. cond b (nodes_from capacity 0 n) 0) (lt-ltb 0 n some))

-- the head of an empty file has no binary digits, and no node holds bytes of it
pub empty_digits : (capacity : ℕ) → HasDigits (head_index capacity 0) 0
empty_digits capacity = let none : (0 - 1) / capacity ≡ 0 = zero-div capacity in (omega arith, omega (arith, none))

pub empty_between : (capacity from : ℕ) → nodes_between capacity from 0 ≡ 0
empty_between capacity from = ap (λ b. cond b ((0 - 1) / capacity + 1 - from / capacity) 0) (le-ltb from 0 (omega arith))

-- a body that is written over none is new
pub fresh_body : (capacity : ℕ) (old new : Blocks) (kept : ℕ → Bool) (x : Body) → bodies.BodyOnlyReaches capacity old new kept (record { head = 0; length = 0 }) x → IsFreshBody kept new x
fresh_body capacity old new kept x only root block names reached = elim (only root block names reached) [
  | inl before ↦ absurd (let some = before.1.0 in omega arith)
  | inr fresh ↦ (fresh.0, inr (fresh.1.0, read_from (body capacity new x.head x.length) (fresh.1.0 * capacity) capacity, fresh.1.1))
]

-- ---- the file that is there

-- a body is as long as its file
body_length : (capacity : ℕ) (f : Blocks) (head size : ℕ) → IsBody capacity f head size → length (body capacity f head size) ≡ size
body_length capacity f head zero is = refl
body_length capacity f head (suc n) is =
    let enough : suc n ≤ length (data_to f (head_index capacity (suc n)) head) = is.1 in
    omega (arith, length-take (suc n) (data_to f (head_index capacity (suc n)) head))

pub file_whole : (capacity : ℕ) (f : Blocks) (root : ℕ) (path : Path) (head size : ℕ) → IsRoot capacity f root → look_up f root path ≡ Ok (found.File head size) → IsBody capacity f head size
file_whole capacity f root path head size rooted led = (rooted path (File head size) (found_leads_file f root path head size (rooted_leads capacity f root rooted) led)).0

pub file_held : (f : Blocks) (kept : ℕ → Bool) (root : ℕ) (path : Path) (head size : ℕ) → LeadsToDirectories f root → IsHeld f kept (Dir root) → look_up f root path ≡ Ok (found.File head size) → IsHeld f kept (File head size)
file_held f kept root path head size whole held led = held_leads f kept path (Dir root) (File head size) (found_leads_file f root path head size whole led) held

pub file_bytes : (capacity : ℕ) (f : Blocks) (root : ℕ) (path : Path) (head size : ℕ) → IsRoot capacity f root → look_up f root path ≡ Ok (found.File head size) → body capacity f head size ≡ bytes_of_file (root_tree capacity f root) path
file_bytes capacity f root path head size rooted led =
    sym (ap bytes_of (ap (λ (t : Contents). t path) (map_law capacity f root rooted).same ∙ (found_is capacity f root path (found.File head size) (rooted_leads capacity f root rooted) led).1))
