-- What trees have once many files of a directory are put.
use Rattle.std.proofs.Common.{◌≡◌, ◌≢◌, ℕ, zero, suc, ◌+◌, ◌≤◌, Bool, true, false, cond, Option, Some, List, [], ◌∷◌, ◌++◌, length, take, sym, ap, refl, ◌∙◌, arith, inl, inr, ◌⊎◌}
use Rattle.std.proofs.lemmas.List.{length-append, take-append-le}
use Rattle.std.proofs.lemmas.List.Sums.{sum_by-cons}
use Rattle.std.proofs.Math.Seq.{take-append_seam}
use Rattle.std.specs.Prelude.{Contains, sum_by}
use Rattle.std.specs.List.{range_with_len}
use Rattle.std.specs.FinMap.{get}
use Rattle.fs_types.specs.Names.{Name, Path, same_path}
use Rattle.fs_types.specs.NamedFiles.{path_in, ascend_from}
use Rattle.fs_types.specs.declared.named_file.NamedFile.{NamedFile}
use Rattle.fs_types.proofs.Orders.{same_path-is}
use Rattle.fs_types.proofs.NamedFiles.{HaveOther, contains-first, ascend-other, ascend-rest, apart-in}
use Rattle.plain_trees.specs.Contents.{Entry}
use Rattle.plain_trees.specs.Trees.{Tree, put, directory_need, path_need}
use Rattle.plain_trees.specs.Files.{file_put, files_put}
use Rattle.plain_trees.proofs.Edits.{get-put, put_law, same_tree}
use Rattle.plain_trees.proofs.Needs.{sum_below-le}

-- what stands there already, put again
pub put-own : (t : Tree) (path : Path) (x : Entry) → get t path ≡ Some x → put t path x ≡ t
put-own t path x there = same_tree (put t path x) t (λ q. get-put t path x q ∙ go q (same_path q path) refl)
  where
    go : (q : Path) (b : Bool) → same_path q path ≡ b → cond b (Some x) (get t q) ≡ get t q
    go q true e = sym there ∙ ap (get t) (sym (same_path-is q path e))
    go q false e = refl

-- no file stands at the path
abbrev pub AreElsewhere : Path → List NamedFile → Path → Type 0
AreElsewhere directory [] path = Unit {0}
AreElsewhere directory (file ∷ files) path = (path ≢ path_in directory file) × AreElsewhere directory files path

pub elsewhere : (directory : Path) (files : List NamedFile) (path : Path) → ((file : NamedFile) → Contains files file → path ≢ path_in directory file) → AreElsewhere directory files path
elsewhere directory [] path other = tt
elsewhere directory (file ∷ files) path other = (other file (0, omega arith, refl), elsewhere directory files path (λ one among. other one (suc among.0, omega arith, among.2)))

-- files of other names do not stand at the path of one
pub names-elsewhere : (directory : Path) (file : NamedFile) (files : List NamedFile) → HaveOther file.name files → AreElsewhere directory files (path_in directory file)
names-elsewhere directory file [] other = tt
names-elsewhere directory file (one ∷ files) other = (apart-in directory file one (λ same. other.0 (sym same)), names-elsewhere directory file files other.1)

-- each other path has what it had
pub files_put-others : (t : Tree) (directory : Path) (files : List NamedFile) (path : Path) → AreElsewhere directory files path → get (files_put t directory files) path ≡ get t path
files_put-others t directory [] path other = refl
files_put-others t directory (file ∷ files) path other =
    files_put-others (file_put t (path_in directory file) file.bytes) directory files path other.1
    ∙ put_law.others t (path_in directory file) path (Entry.File file.bytes) other.0

-- and each file stands
pub files_put-stands : (t : Tree) (directory : Path) (last : Option Name) (files : List NamedFile) (file : NamedFile) → ascend_from last files ≡ true → Contains files file
    → get (files_put t directory files) (path_in directory file) ≡ Some (Entry.File file.bytes)
files_put-stands t directory last [] file ascend (k, within, is) = absurd (omega arith)
files_put-stands t directory last (first ∷ files) file ascend among =
    go (contains-first first files file among) (files_put-stands (file_put t (path_in directory first) first.bytes) directory (Some first.name) files file (ascend-rest last first files ascend))
  where
    rest : ascend_from (Some first.name) files ≡ true
    rest = ascend-rest last first files ascend

    u : Tree
    u = file_put t (path_in directory first) first.bytes

    here : get (files_put u directory files) (path_in directory first) ≡ Some (Entry.File first.bytes)
    here =
        files_put-others u directory files (path_in directory first) (names-elsewhere directory first files (ascend-other first.name files rest))
        ∙ put_law.here t (path_in directory first) (Entry.File first.bytes)

    Stands : Type 0
    Stands = get (files_put u directory files) (path_in directory file) ≡ Some (Entry.File file.bytes)

    go : (first ≡ file) ⊎ Contains files file → (Contains files file → Stands) → Stands
    go (inl is) others = ap (λ f. get (files_put u directory files) (path_in directory f)) (sym is) ∙ here ∙ ap (λ (f : NamedFile). Some (Entry.File f.bytes)) is
    go (inr later) others = others later

-- How many nodes a change of directories may write.

-- in two steps no fewer than in one
sum-steps : (f g h : ℕ → ℕ) (a n : ℕ) → ((i : ℕ) → f i ≤ g i + h i) → sum_by f (range_with_len a n) ≤ sum_by g (range_with_len a n) + sum_by h (range_with_len a n)
sum-steps f g h a zero each = omega arith
sum-steps f g h a (suc n) each =
    let here : f a ≤ g a + h a = each a in
    let rest : sum_by f (range_with_len (a + 1) n) ≤ sum_by g (range_with_len (a + 1) n) + sum_by h (range_with_len (a + 1) n) = sum-steps f g h (a + 1) n each in
    omega (arith, sum_by-cons f a (range_with_len (a + 1) n), sum_by-cons g a (range_with_len (a + 1) n), sum_by-cons h a (range_with_len (a + 1) n))

directory_need-steps : (t s u : Tree) (p : Path) → directory_need t u p ≤ directory_need t s p + directory_need s u p
directory_need-steps t s u p = omega arith

-- the directories on the way to a directory, and it
abbrev pub list_way : Tree → Tree → Path → ℕ
list_way t u directory = path_need t u directory + directory_need t u directory

pub list_way-steps : (t s u : Tree) (directory : Path) → list_way t u directory ≤ list_way t s directory + list_way s u directory
list_way-steps t s u directory =
    let one : directory_need t u directory ≤ directory_need t s directory + directory_need s u directory = directory_need-steps t s u directory in
    let way : path_need t u directory ≤ path_need t s directory + path_need s u directory =
    sum-steps (λ i. directory_need t u (take i directory)) (λ i. directory_need t s (take i directory)) (λ i. directory_need s u (take i directory)) 0 (length directory) (λ i. directory_need-steps t s u (take i directory)) in
    omega arith

range-push : (h : ℕ → ℕ) (a n : ℕ) → sum_by h (range_with_len a (suc n)) ≡ sum_by h (range_with_len a n) + h (a + n)
range-push h a zero = let e : h (a + 0) ≡ h a = ap h (omega arith) in omega (arith, sum_by-cons h a (range_with_len (a + 1) 0))
range-push h a (suc n) =
    let rest : sum_by h (range_with_len (a + 1) (suc n)) ≡ sum_by h (range_with_len (a + 1) n) + h (a + 1 + n) = range-push h (a + 1) n in
    let e : h (a + 1 + n) ≡ h (a + suc n) = ap h (omega arith) in
    omega (arith, sum_by-cons h a (range_with_len (a + 1) (suc n)), sum_by-cons h a (range_with_len (a + 1) n))

-- they are the way of each path in the directory
pub list_way-path : (t u : Tree) (directory : Path) (name : Name) → list_way t u directory ≤ path_need t u (directory ++ name ∷ [])
list_way-path t u directory name =
    let long : length (directory ++ name ∷ []) ≡ suc (length directory) = omega (arith, length-append directory (name ∷ [])) in
    let whole : path_need t u (directory ++ name ∷ []) ≡ sum_by each (range_with_len 0 (suc (length directory))) = ap (λ n. sum_by each (range_with_len 0 n)) long in
    let last : each (0 + length directory) ≡ directory_need t u directory = ap (directory_need t u) (ap (λ n. take n (directory ++ name ∷ [])) (let e : 0 + length directory ≡ length directory = omega arith in e) ∙ take-append_seam directory (name ∷ [])) in
    let way : path_need t u directory ≤ sum_by each (range_with_len 0 (length directory)) =
    sum_below-le (λ i. directory_need t u (take i directory)) each 0 (length directory)
    (λ i low high. let e : directory_need t u (take i (directory ++ name ∷ [])) ≡ directory_need t u (take i directory) = ap (directory_need t u) (take-append-le i directory (name ∷ []) (omega arith)) in omega arith) in
    let push : sum_by each (range_with_len 0 (suc (length directory))) ≡ sum_by each (range_with_len 0 (length directory)) + each (0 + length directory) = range-push each 0 (length directory) in
    omega arith
  where
    each : ℕ → ℕ
    each i = directory_need t u (take i (directory ++ name ∷ []))
