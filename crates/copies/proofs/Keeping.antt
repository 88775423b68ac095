-- Versions and checkpoints that are made in the copy.
use Rattle.std.proofs.Common.{◌≡◌, ◌∙◌, ℕ, zero, suc, ◌+◌, ◌-◌, ◌<◌, ◌≤◌, Option, Some, None, List, [], ◌∷◌, ◌++◌, get_or, length, map, take, drop, refl, sym, ap, subst, arith, append_assoc}
use Rattle.std.proofs.lemmas.List.{take_more, map-append, length-map}
use Rattle.std.proofs.lemmas.List.Elements.{All-append, All-drop, All-take}
use Rattle.std.specs.Prelude.{All, is_none, min, max, slice_get, unwrap_or, if◌then◌else◌}
use Rattle.std.specs.BTreeMap.{insert_entry, is_at}
use Rattle.std.specs.Map.{lookup}
use Rattle.std.specs.Option.{option_map, option_map_or, option_and_then}
use Rattle.fs_types.specs.Names.{Name, name_cmp}
use Rattle.fs_types.specs.declared.call.Call.{Call}
use Rattle.fs_types.specs.declared.call.Version.{Version}
use Rattle.fs_types.specs.declared.call.View.{View}
use Rattle.fs_types.specs.declared.fault.Fault.{Fault}
use Rattle.plain_trees.specs.Trees.{Tree, bare}
use Rattle.history_machine.specs.History.{Past, IsLawful, changed, checkpoint_root, forgotten, fresh, gone_to, group_with, view_refusal, with_checkpoint}
use Rattle.history_machine.specs.Machine.{Machine, IsMachine, machine_with, mounted, view_tree}
use Rattle.history_machine.specs.Descriptors.{none_open}
use Rattle.history_machine.proofs.Checkpoints.{all-inserted}
use Rattle.history_machine.proofs.Steps.{tree-changed}
use Rattle.history_machine.proofs.Versions.{checkpoints-changed}
use Rattle.history_copies.specs.Copies.{IsCopy, first_kept, others_kept, kept_versions, roots_in}
use Rattle.history_copies.proofs.Built.{build_law}
use Rattle.history_copies.proofs.Ended.{enough, few_kept, kept_serials_of, left_place, left_trees, place_within}
use Rattle.history_copies.proofs.Seen.{found_all, insert_next, kept_trees, name_found}
use Rattle.inquiries.specs.Folders.{IsSmall}
use Rattle.inquiries.proofs.VersionLemmas.{serial_seen}
use Rattle.copies.specs.Calls.{Does, IsReady}
use Rattle.copies.specs.Copied.{Holds, HasTrees, IsShared}
use Rattle.copies.proofs.Doing.{moved}
use Rattle.copies.proofs.Fresh.{fresh_holds}

-- ---- a version more

pub version_held : (limit : ℕ) (trees : List Tree) (checkpoints : List (Name × Tree)) (m n : Machine) (new : Tree) → IsMachine m → n ≡ mounted (changed m.history new)
    → Holds limit trees checkpoints m.history → Holds limit (trees ++ new ∷ []) checkpoints n.history
version_held limit trees checkpoints m n new is made holds = subst (λ (h : Past Tree). Holds limit (trees ++ new ∷ []) checkpoints h) (sym (ap (λ (k : Machine). k.history) made)) (record {
  built = build_law.adds limit trees m.history new is.lawful holds.built;
  kept = checkpoints-changed m.history new ∙ holds.kept;
})

-- ---- a checkpoint of it

module _ (m n k : Machine) (new : Tree) (name : Name) (is : IsMachine m) (made : n ≡ mounted (changed m.history new)) (done : Does n (Call.Checkpoint name ∷ []) k) where
  kept_as : k ≡ mounted (with_checkpoint (changed m.history new) name)
  kept_as = moved n k (changed m.history new) (Call.Checkpoint name) made done

  with_entry : with_checkpoint (changed m.history new) name ≡ record (changed m.history new) { checkpoints = insert_entry name_cmp (changed m.history new).checkpoints name new }
  with_entry = ap (λ (o : Option Tree). unwrap_or (option_map (λ (root : Tree). record (changed m.history new) { checkpoints = insert_entry name_cmp (changed m.history new).checkpoints name root }) o) (changed m.history new)) (tree-changed m.history new is.lawful)

  pub checkpoint_held : (limit : ℕ) (trees : List Tree) (checkpoints : List (Name × Tree)) → Holds limit trees checkpoints m.history → Holds limit (trees ++ new ∷ []) (insert_entry name_cmp checkpoints name new) k.history
  checkpoint_held limit trees checkpoints holds = subst (λ (h : Past Tree). Holds limit (trees ++ new ∷ []) (insert_entry name_cmp checkpoints name new) h) (sym (ap (λ (x : Machine). x.history) kept_as)) (record {
    built = build_law.keeps limit (trees ++ new ∷ []) (changed m.history new) name (build_law.adds limit trees m.history new is.lawful holds.built);
    kept = ap (λ (h : Past Tree). h.checkpoints) with_entry ∙ ap (λ (es : List (Name × Tree)). insert_entry name_cmp es name new) (checkpoints-changed m.history new ∙ holds.kept);
  })

  pub checkpoint_ready : IsReady m → IsSmall new → IsReady k
  checkpoint_ready ready small = subst IsReady (sym (kept_as ∙ ap mounted with_entry)) (record {
    rests = refl;
    small = subst IsSmall (sym (ap (λ (o : Option Tree). unwrap_or o bare) (tree-changed m.history new is.lawful))) small;
    kept = all-inserted IsSmall (changed m.history new).checkpoints name new small (subst (All (λ e. IsSmall e.1)) (sym (checkpoints-changed m.history new)) ready.kept);
  })

-- ---- a version that shares the tree of a checkpoint

found_root : (m : Machine) (name : Name) → view_refusal m.history (View.Checkpoint name) ≡ None → checkpoint_root m.history name ≡ Some (view_tree m (View.Checkpoint name))
found_root m name there = go (checkpoint_root m.history name) there
  where
    go : (o : Option Tree) → (if is_none o then Some Fault.NoSuchVersion else None) ≡ None → o ≡ Some (unwrap_or o bare)
    go None e = absurd cc
    go (Some t) e = refl

module _ (from m n : Machine) (serial : ℕ) (name : Name) (ready : IsReady m) (shared : IsShared from serial name) (same : m.history.checkpoints ≡ from.history.checkpoints) (done : Does m (Call.Rollback name ∷ []) n) where
  there : checkpoint_root m.history name ≡ Some (view_tree from (View.Serial serial))
  there = ap (λ (es : List (Name × Tree)). lookup (is_at (name_cmp name)) es) same ∙ found_root from name shared.there ∙ ap (λ (t : Tree). Some t) shared.same

  pub rolled : n ≡ mounted (changed m.history (view_tree from (View.Serial serial)))
  rolled = moved m n m.history (Call.Rollback name) ready.rests done ∙ ap (λ (o : Option Tree). machine_with (option_map_or (changed m.history) (option_and_then (λ (t : Tree). Some t) o) m.history) (option_map_or (group_with None) o None) none_open) there

  pub rolled_small : IsSmall (view_tree from (View.Serial serial))
  rolled_small = found_all IsSmall m.history.checkpoints name (view_tree from (View.Serial serial)) ready.kept there

-- ---- one after the other

pub checkpoints_more : (limit : ℕ) (trees : List Tree) (from : Machine) (i : ℕ) (d : Name × Tree) (h : Past Tree) → IsMachine from → i < length from.history.checkpoints
    → Holds limit ((trees ++ map (λ e. e.1) (take i from.history.checkpoints)) ++ view_tree from (View.Checkpoint (get_or from.history.checkpoints i d).0) ∷ [])
    (insert_entry name_cmp (take i from.history.checkpoints) (get_or from.history.checkpoints i d).0 (view_tree from (View.Checkpoint (get_or from.history.checkpoints i d).0))) h
    → Holds limit (trees ++ map (λ e. e.1) (take (i + 1) from.history.checkpoints)) (take (i + 1) from.history.checkpoints) h
checkpoints_more limit trees from i d h is within holds =
    let es : List (Name × Tree) = from.history.checkpoints in
    let tree : view_tree from (View.Checkpoint (get_or es i d).0) ≡ (get_or es i d).1 = ap (λ (o : Option Tree). unwrap_or o bare) (name_found es i d is.named within) in
    let more : (trees ++ map (λ e. e.1) (take i es)) ++ (get_or es i d).1 ∷ [] ≡ trees ++ map (λ e. e.1) (take (i + 1) es) =
    append_assoc trees (map (λ e. e.1) (take i es)) ((get_or es i d).1 ∷ []) ∙ ap (λ (ts : List Tree). trees ++ ts) (sym (ap (map (λ e. e.1)) (take_more es i d within) ∙ map-append (λ (e : Name × Tree). e.1) (take i es) (get_or es i d ∷ []))) in
    let held = subst (λ (t : Tree). Holds limit ((trees ++ map (λ e. e.1) (take i es)) ++ t ∷ []) (insert_entry name_cmp (take i es) (get_or es i d).0 t) h) tree holds in
    subst (λ (ts : List Tree). Holds limit ts (take (i + 1) es) h) more (subst (λ (xs : List (Name × Tree)). Holds limit ((trees ++ map (λ e. e.1) (take i es)) ++ (get_or es i d).1 ∷ []) xs h) (insert_next es i d is.named within) held)

pub versions_more : (limit : ℕ) (trees : List Tree) (checkpoints : List (Name × Tree)) (f : ℕ → Tree) (serials : List ℕ) (i d : ℕ) (h : Past Tree) → i < length serials
    → Holds limit ((trees ++ map f (take i serials)) ++ f (get_or serials i d) ∷ []) checkpoints h → Holds limit (trees ++ map f (take (i + 1) serials)) checkpoints h
versions_more limit trees checkpoints f serials i d h within holds =
    let more : (trees ++ map f (take i serials)) ++ f (get_or serials i d) ∷ [] ≡ trees ++ map f (take (i + 1) serials) =
    append_assoc trees (map f (take i serials)) (f (get_or serials i d) ∷ []) ∙ ap (λ (ts : List Tree). trees ++ ts) (sym (ap (map f) (take_more serials i d within) ∙ map-append f (take i serials) (get_or serials i d ∷ []))) in
    subst (λ (ts : List Tree). Holds limit ts checkpoints h) more holds

-- ---- the whole

pub copied : (limit : ℕ) (from : Machine) (h : Past Tree) → IsMachine from → HasTrees limit (roots_in (kept_versions limit from.history)) (from.history.cursor - first_kept limit from.history) from.history.checkpoints h → IsCopy from.history h
copied limit from h is has = record {
  trees = has.trees ∙ ap (λ (n : ℕ). roots_in (kept_versions n from.history)) (sym has.limit);
  cursor = has.cursor ∙ ap (λ (n : ℕ). from.history.cursor - first_kept n from.history) (sym has.limit);
  checkpoints = has.kept;
}

-- ---- one after the other, as the names and the serials are read

name_at : (names : List Name) (es : List (Name × Tree)) (i : ℕ) (name : Name) (d : Name × Tree) → names ≡ map (λ e. e.0) es → i < length names → name ≡ get_or names i name → (name ≡ (get_or es i d).0) × (i < length es)
name_at names es i name d are within at =
    let inside : i < length es = omega (arith, ap length are, length-map es (λ (e : Name × Tree). e.0), within) in
    (at ∙ ap (λ (ns : List Name). get_or ns i name) are ∙ in_map es i inside, inside)
  where
    in_map : (xs : List (Name × Tree)) (k : ℕ) → k < length xs → get_or (map (λ e. e.0) xs) k name ≡ (get_or xs k d).0
    in_map [] k inside = absurd (omega arith)
    in_map (x ∷ xs) zero inside = refl
    in_map (x ∷ xs) (suc k) inside = in_map xs k (omega arith)

-- the next checkpoint is copied
pub checkpoint_next : (limit : ℕ) (trees : List Tree) (from was : Machine) (names : List Name) (i : ℕ) (name : Name) (h : Past Tree) → IsMachine from → was ≡ from → names ≡ map (λ e. e.0) from.history.checkpoints
    → i < length names → name ≡ get_or names i name
    → Holds limit ((trees ++ map (λ e. e.1) (take i from.history.checkpoints)) ++ view_tree was (View.Checkpoint name) ∷ []) (insert_entry name_cmp (take i from.history.checkpoints) name (view_tree was (View.Checkpoint name))) h
    → Holds limit (trees ++ map (λ e. e.1) (take (i + 1) from.history.checkpoints)) (take (i + 1) from.history.checkpoints) h
checkpoint_next limit trees from was names i name h is same are within at holds =
    let es : List (Name × Tree) = from.history.checkpoints in
    let d : Name × Tree = (name, bare) in
    let found = name_at names es i name d are within at in
    let there = subst (λ (m : Machine). Holds limit ((trees ++ map (λ e. e.1) (take i es)) ++ view_tree m (View.Checkpoint name) ∷ []) (insert_entry name_cmp (take i es) name (view_tree m (View.Checkpoint name))) h) same holds in
    checkpoints_more limit trees from i d h is found.1
    (subst (λ (n : Name). Holds limit ((trees ++ map (λ e. e.1) (take i es)) ++ view_tree from (View.Checkpoint n) ∷ []) (insert_entry name_cmp (take i es) n (view_tree from (View.Checkpoint n))) h) found.0 there)

-- ---- the end

pub got_serial : (vs : List (Version Tree)) (k : ℕ) (d : Version Tree) → k < length vs → slice_get (map (λ v. v.serial) vs) k ≡ Some (get_or vs k d).serial
got_serial [] k d within = absurd (omega arith)
got_serial (v ∷ vs) zero d within = refl
got_serial (v ∷ vs) (suc k) d within = got_serial vs k d (omega arith)

-- the others are forgotten, and the present version is chosen
pub ended : (limit : ℕ) (before trees : List Tree) (checkpoints : List (Name × Tree)) (m f n s : Machine) (serials : List ℕ) (others c : ℕ) → IsMachine m → IsMachine f → m ≡ mounted m.history
    → Holds limit (before ++ trees) checkpoints m.history → c < length trees → length trees ≤ limit → serials ≡ map (λ v. v.serial) m.history.versions → others ≡ length serials - length trees
    → Does m (Call.Forget others ∷ []) f → ((serial : ℕ) → slice_get serials (others + c) ≡ Some serial → Does f (Call.Goto serial ∷ []) n) → Does n (Call.Sync ∷ []) s
    → HasTrees limit trees c checkpoints s.history
ended limit before trees checkpoints m f n s serials others c is is' rests holds within few are count forgot goes synced =
    subst (λ (h : Past Tree). HasTrees limit trees c checkpoints h) (sym (ap (λ (k : Machine). k.history) last)) (record {
      limit = holds.built.limit;
      trees = left_trees limit before trees m.history is.lawful holds.built few (omega (arith, within));
      cursor = left_place limit before trees m.history is.lawful holds.built few c d within still;
      kept = holds.kept;
    })
  where
    d : Version Tree
    d = record { serial = 0; root = bare }

    h : Past Tree
    h = m.history

    k : ℕ
    k = length h.versions - length trees

    same : others ≡ k
    same = count ∙ ap (λ (xs : List ℕ). length xs - length trees) are ∙ ap (λ (j : ℕ). j - length trees) (length-map h.versions (λ (v : Version Tree). v.serial))

    first : f ≡ mounted (forgotten h k)
    first = moved m f h (Call.Forget others) rests forgot ∙ ap (λ (j : ℕ). mounted (forgotten h j)) same

    still : IsLawful (forgotten h k)
    still = ap-lawful first is'
      where
        ap-lawful : f ≡ mounted (forgotten h k) → IsMachine f → IsLawful (forgotten h k)
        ap-lawful e x = (subst IsMachine e x).lawful

    inside : k + c < length h.versions
    inside = let enough' = enough limit before trees h is.lawful holds.built few in omega (arith, enough', within)

    serial : ℕ
    serial = (get_or h.versions (k + c) d).serial

    stands : slice_get serials (others + c) ≡ Some serial
    stands = ap (λ (xs : List ℕ). slice_get xs (others + c)) are ∙ ap (λ (j : ℕ). slice_get (map (λ v. v.serial) h.versions) (j + c)) same ∙ got_serial h.versions (k + c) d inside

    chosen : n ≡ mounted (gone_to (forgotten h k) serial)
    chosen = moved f n (forgotten h k) (Call.Goto serial) first (goes serial stands)

    last : s ≡ mounted (gone_to (forgotten h k) serial)
    last = moved n s (gone_to (forgotten h k) serial) Call.Sync chosen synced

-- ---- what stands at a place of serials

pub same_serial : (xs : List ℕ) (place x serial : ℕ) → place < length xs → get_or xs place x ≡ x → slice_get xs place ≡ Some serial → x ≡ serial
same_serial [] place x serial within at stands = absurd (omega arith)
same_serial (y ∷ ys) zero x serial within at stands = let is : y ≡ serial = cc in sym at ∙ is
same_serial (y ∷ ys) (suc place) x serial within at stands = same_serial ys place x serial (omega arith) at stands

pub no_serial : (xs : List ℕ) (place serial : ℕ) → length xs ≤ place → slice_get xs place ≡ Some serial → ⊥
no_serial [] place serial past stands = absurd cc
no_serial (y ∷ ys) zero serial past stands = absurd (omega arith)
no_serial (y ∷ ys) (suc place) serial past stands = no_serial ys place serial (omega arith) stands

-- ---- all of it

-- what is chosen can be seen
pub serials_seen : (limit : ℕ) (from was : Machine) (serials : List ℕ) → IsMachine from → was ≡ from → serials ≡ map (λ v. v.serial) (kept_versions limit from.history)
    → All (λ serial. view_refusal was.history (View.Serial serial) ≡ None) serials
serials_seen limit from was serials is same are =
    let versions : List ℕ = map (λ v. v.serial) from.history.versions in
    let all : All (λ serial. view_refusal was.history (View.Serial serial) ≡ None) versions = λ i d within. serial_seen from was is same versions i d refl within in
    subst (All (λ serial. view_refusal was.history (View.Serial serial) ≡ None)) (kept_serials_of limit from.history ∙ sym are)
    (All-append (λ serial. view_refusal was.history (View.Serial serial) ≡ None) (take 1 (drop (first_kept limit from.history) versions)) (drop (others_kept limit from.history) versions)
    (All-take (λ serial. view_refusal was.history (View.Serial serial) ≡ None) 1 (drop (first_kept limit from.history) versions)
    (All-drop (λ serial. view_refusal was.history (View.Serial serial) ≡ None) (first_kept limit from.history) versions all))
    (All-drop (λ serial. view_refusal was.history (View.Serial serial) ≡ None) (others_kept limit from.history) versions all))

-- the present version is among them
pub within_chosen : (limit : ℕ) (from : Machine) (serials : List ℕ) (place : ℕ) → IsMachine from → 2 ≤ limit → serials ≡ map (λ v. v.serial) (kept_versions limit from.history)
    → place ≡ from.history.cursor - first_kept limit from.history → place < length serials
within_chosen limit from serials place is some are at =
    let count : length serials ≡ length (kept_versions limit from.history) = ap length are ∙ length-map (kept_versions limit from.history) (λ (v : Version Tree). v.serial) in
    subst (λ (n : ℕ). n < length serials) (sym at) (subst (λ (n : ℕ). from.history.cursor - first_kept limit from.history < n) (sym count) (place_within limit from.history some is.lawful))

pub whole : (limit : ℕ) (from was start : Machine) (first second third : Past Tree) (serials : List ℕ) (cursor : ℕ) → IsMachine from → 2 ≤ limit → start ≡ mounted (fresh limit bare) → was ≡ from
    → serials ≡ map (λ v. v.serial) (kept_versions limit from.history)
    → ((n : ℕ) (trees : List Tree) → Holds n trees [] start.history → Holds n (trees ++ map (λ e. e.1) from.history.checkpoints) from.history.checkpoints first)
    → ((n : ℕ) (trees : List Tree) → Holds n trees was.history.checkpoints first → Holds n (trees ++ map (λ serial. view_tree was (View.Serial serial)) serials) was.history.checkpoints second)
    → ((n : ℕ) (before trees : List Tree) (checkpoints : List (Name × Tree)) → Holds n (before ++ trees) checkpoints second → length trees ≡ length serials → length serials ≤ n → HasTrees n trees cursor checkpoints third)
    → cursor ≡ from.history.cursor - first_kept limit from.history
    → HasTrees limit (roots_in (kept_versions limit from.history)) (from.history.cursor - first_kept limit from.history) from.history.checkpoints third
whole limit from was start first second third serials cursor is some begins same read named copied_all ended_as place =
    let es : List (Name × Tree) = from.history.checkpoints in
    let begun = fresh_holds start limit some begins in
    let h1 : Holds limit ((bare ∷ []) ++ map (λ e. e.1) es) es first = named limit (bare ∷ []) begun in
    let h1' = subst (λ (m : Machine). Holds limit ((bare ∷ []) ++ map (λ e. e.1) es) m.history.checkpoints first) (sym same) h1 in
    let h2 = copied_all limit ((bare ∷ []) ++ map (λ e. e.1) es) h1' in
    let trees : map (λ serial. view_tree was (View.Serial serial)) serials ≡ roots_in (kept_versions limit from.history) =
    ap (λ (m : Machine). map (λ serial. view_tree m (View.Serial serial)) serials) same ∙ ap (map (λ serial. view_tree from (View.Serial serial))) read ∙ kept_trees from is.lawful limit in
    let count : length serials ≡ length (kept_versions limit from.history) = ap length read ∙ length-map (kept_versions limit from.history) (λ (v : Version Tree). v.serial) in
    let few = few_kept limit from.history some in
    let last = ended_as limit ((bare ∷ []) ++ map (λ e. e.1) es) (map (λ serial. view_tree was (View.Serial serial)) serials) was.history.checkpoints h2 (length-map serials (λ serial. view_tree was (View.Serial serial))) (omega (arith, count, few)) in
    subst (λ (ts : List Tree). HasTrees limit ts (from.history.cursor - first_kept limit from.history) es third) trees
    (subst (λ (n : ℕ). HasTrees limit (map (λ serial. view_tree was (View.Serial serial)) serials) n es third) place (subst (λ (m : Machine). HasTrees limit (map (λ serial. view_tree was (View.Serial serial)) serials) cursor m.history.checkpoints third) same last))

-- ---- as the log tells it

module _ (from : Machine) (limit : ℕ) (versions : List ℕ) where
  first_read : (told : List ℕ) (cursor first : ℕ) → versions ≡ map (λ v. v.serial) from.history.versions → cursor ≡ from.history.cursor → told ≡ versions → first ≡ min cursor (length told - limit) → first ≡ first_kept limit from.history
  first_read told cursor first are at same is =
      is ∙ (λ i. min (at i) (length (same i) - limit)) ∙ ap (λ (n : ℕ). min from.history.cursor (n - limit)) (ap length are ∙ length-map from.history.versions (λ (v : Version Tree). v.serial))

  pub chosen_read : (told serials : List ℕ) (cursor first : ℕ) → versions ≡ map (λ v. v.serial) from.history.versions → cursor ≡ from.history.cursor → told ≡ versions → first ≡ min cursor (length told - limit)
      → serials ≡ take 1 (drop first told) ++ drop (max (first + 1) (length told - (limit - 1))) told → serials ≡ map (λ v. v.serial) (kept_versions limit from.history)
  chosen_read told serials cursor first are at same is kept =
      let oldest : first ≡ first_kept limit from.history = first_read told cursor first are at same is in
      let all : told ≡ map (λ v. v.serial) from.history.versions = same ∙ are in
      let count : length told ≡ length from.history.versions = ap length all ∙ length-map from.history.versions (λ (v : Version Tree). v.serial) in
      kept ∙ (λ i. take 1 (drop (oldest i) (all i)) ++ drop (max (oldest i + 1) (count i - (limit - 1))) (all i)) ∙ kept_serials_of limit from.history

  -- the oldest one that is copied is one of them
  pub first_within : (told : List ℕ) (cursor first : ℕ) → IsMachine from → versions ≡ map (λ v. v.serial) from.history.versions → cursor ≡ from.history.cursor → told ≡ versions → first ≡ min cursor (length told - limit) → first < length told
  first_within told cursor first lawful are at same is =
      let within : from.history.cursor < length from.history.versions = lawful.lawful.cursor_in in
      let count : length told ≡ length from.history.versions = ap length (same ∙ are) ∙ length-map from.history.versions (λ (v : Version Tree). v.serial) in
      omega (arith, within, count, at, is)

  pub place_read : (told : List ℕ) (cursor first : ℕ) → versions ≡ map (λ v. v.serial) from.history.versions → cursor ≡ from.history.cursor → told ≡ versions → first ≡ min cursor (length told - limit)
      → cursor - first ≡ from.history.cursor - first_kept limit from.history
  place_read told cursor first are at same is = (λ i. at i - first_read told cursor first are at same is i)
