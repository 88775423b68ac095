-- Files of one directory in turn: what refuses each in the tree that those before it leave, by the tree before all of them.
use Rattle.std.proofs.Common.{◌≡◌, ◌≢◌, ◌⊎◌, ℕ, ◌+◌, ◌<◌, ◌≤◌, Bool, true, false, cond, Option, Some, None, List, [], ◌∷◌, ◌++◌, length, take, drop, get_or, length-append, refl, sym, ap, subst, ◌∙◌, inl, inr, arith}
use Rattle.std.proofs.lemmas.Bool.{leb-false, ltb-false}
use Rattle.std.proofs.lemmas.List.{take_more, take-append-drop, same_from_push}
use Rattle.std.proofs.lemmas.List.Elements.{All-nil, All-cons}
use Rattle.std.specs.Prelude.{All, IsSome, is_none, nat_le, nat_lt}
use Rattle.std.specs.Option.{is_some, option_or}
use Rattle.std.specs.FinMap.{get}
use Rattle.fs_types.specs.Names.{Name, Path}
use Rattle.fs_types.specs.NamedFiles.{path_in, ascend_from}
use Rattle.fs_types.specs.declared.named_file.NamedFile.{NamedFile}
use Rattle.fs_types.specs.declared.fault.Fault.{Fault}
use Rattle.fs_types.specs.declared.fault.Fault.TheVariants.{DirectoryFull, TooBig}
use Rattle.fs_types.proofs.NamedFiles.{HaveOther, ascend-other, ascend-rest, apart-in}
use Rattle.plain_trees.specs.Contents.{Contents, Entry, under, way_refusal, lookup_refusal}
use Rattle.plain_trees.specs.Files.{file_put, files_put}
use Rattle.plain_trees.specs.Trees.{Tree, put, is_full, entry_count}
use Rattle.plain_trees.proofs.Beneath.{None≢Some}
use Rattle.plain_trees.proofs.Counts.{Has, count-le, count-more}
use Rattle.plain_trees.proofs.Edits.{put_law}
use Rattle.plain_trees.proofs.FileTrees.{by_put}
use Rattle.plain_trees.proofs.Lookups.{parent-push}
use Rattle.plain_trees.proofs.Needs.{put-grows}
use Rattle.history_machine.specs.Descriptors.{Descriptors}
use Rattle.history_machine.specs.Machine.{size_refusal, write_place_refusal, write_file_refusal, each_refusal}
use Rattle.history_machine.specs.NextFiles.{next_entry_refusal, next_refusal, next_count, next_refusals, next_counts}

-- A file that is put leaves the way to the others as it was.

passes-on : (t u : Contents) (d : Path) (n : Name) → ((p q : Path) → p ++ q ≡ d → u p ≡ t p) → lookup_refusal u (d ++ n ∷ []) ≡ lookup_refusal t (d ++ n ∷ [])
passes-on t u [] n same = refl
passes-on t u (m ∷ []) n same = ap (λ (o : Option Entry). option_or (way_refusal o) None) (same (m ∷ []) [] refl)
passes-on t u (m ∷ k ∷ d) n same =
    (λ i. option_or (way_refusal (same (m ∷ []) (k ∷ d) refl i)) (passes-on (under t (m ∷ [])) (under u (m ∷ [])) (k ∷ d) n (λ p q is. same (m ∷ p) q (ap (λ (r : Path). m ∷ r) is)) i))

put-passes : (s : Tree) (d : Path) (k : Name) (x : Entry) (n : Name) → lookup_refusal (get (put s (d ++ k ∷ []) x)) (d ++ n ∷ []) ≡ lookup_refusal (get s) (d ++ n ∷ [])
put-passes s d k x n = passes-on (get s) (get (put s (d ++ k ∷ []) x)) d n (λ p q is. put_law.others s (d ++ k ∷ []) p x (shorter p q is))
  where
    shorter : (p q : Path) → p ++ q ≡ d → p ≢ d ++ k ∷ []
    shorter p q is same = absurd (omega (arith, ap length same, length-append d (k ∷ []), ap length is, length-append p q))

-- the directory has one entry more where nothing stood
abbrev added : Option Entry → ℕ
added o = cond (is_none o) 1 0

put-count : (s : Tree) (d : Path) (k : Name) (x : Entry) → entry_count (put s (d ++ k ∷ []) x) d ≡ entry_count s d + cond (is_none (get s (d ++ k ∷ []))) 1 0
put-count s d k x = on (get s (d ++ k ∷ [])) refl
  where
    here : Path
    here = d ++ k ∷ []

    on : (o : Option Entry) → get s here ≡ o → entry_count (put s here x) d ≡ entry_count s d + added (get s here)
    on None is =
        let more = put-grows s d k is x in
        let few = count-more (put s here x) s d d k (λ m. by_put s here x (d ++ m ∷ []) (λ o. IsSome o → (m ≡ k) ⊎ Has s d m) (λ same _. inl (sym (same_from_push d d k m same).1)) (λ _ h. inr h)) in
        let one : added (get s here) ≡ 1 = ap added is in
        omega (arith, more, few, one)
    on (Some e) is =
        let few = count-le (put s here x) s d d (λ m. by_put s here x (d ++ m ∷ []) (λ o. IsSome o → Has s d m) (λ same _. subst (λ (r : Path). IsSome (get s r)) same (ap is_some is)) (λ _ h. h)) in
        let more = count-le s (put s here x) d d (λ m has. by_put s here x (d ++ m ∷ []) (λ o. IsSome o) (λ _. refl) (λ _. has)) in
        let none : added (get s here) ≡ 0 = ap added is in
        omega (arith, more, few, none)

-- What stands at the others' paths is what stood there before all.

abbrev pub AreSame : Tree → Tree → Path → List NamedFile → Type 0
AreSame t s d [] = Unit {0}
AreSame t s d (file ∷ files) = (get s (path_in d file) ≡ get t (path_in d file)) × AreSame t s d files

pub same-itself : (t : Tree) (d : Path) (files : List NamedFile) → AreSame t t d files
same-itself t d [] = tt
same-itself t d (file ∷ files) = (refl, same-itself t d files)

same-put : (t s : Tree) (d : Path) (first : NamedFile) (files : List NamedFile) → HaveOther first.name files → AreSame t s d files → AreSame t (file_put s (path_in d first) first.bytes) d files
same-put t s d first [] other same = tt
same-put t s d first (file ∷ files) other same = (
  put_law.others s (path_in d first) (path_in d file) (Entry.File first.bytes) (apart-in d file first other.0) ∙ same.0,
  same-put t s d first files other.1 same.1,
)

-- the refusals are told by the tree before all of them
pub next_is : (t : Tree) (opened : Descriptors) (d : Path) (files : List NamedFile) (s : Tree) (count : ℕ) (last : Option Name) → ascend_from last files ≡ true → AreSame t s d files → entry_count s d ≡ count
    → ((n : Name) → lookup_refusal (get s) (d ++ n ∷ []) ≡ None) → each_refusal s opened d files ≡ next_refusals t opened d count files
next_is t opened d [] s count last ascend same counted passes = refl
next_is t opened d (file ∷ files) s count last ascend same counted passes =
    let after = ascend-rest last file files ascend in
    let rest = next_is t opened d files (file_put s (path_in d file) file.bytes) (next_count t d count file) (Some file.name) after (same-put t s d file files (ascend-other file.name files after) same.1)
    (put-count s d file.name (Entry.File file.bytes) ∙ (λ i. counted i + cond (is_none (same.0 i)) 1 0))
    (λ n. put-passes s d file.name (Entry.File file.bytes) n ∙ passes n) in
    λ i. option_or (here i) (rest i)
  where
    path : Path
    path = path_in d file

    entry : (o : Option Entry) → write_place_refusal s opened path o ≡ next_entry_refusal opened path count o
    entry None = ap (λ b. cond b (Some DirectoryFull) None) (ap (is_full s) (parent-push d file.name) ∙ ap (nat_le 1024) counted)
    entry (Some e) = refl

    here : write_file_refusal s opened path file.bytes ≡ next_refusal t opened d count file
    here =
        ap (λ o. option_or o (option_or (write_place_refusal s opened path (get s path)) (size_refusal file.bytes))) (passes file.name)
        ∙ ap (λ o. option_or (write_place_refusal s opened path o) (size_refusal file.bytes)) same.0
        ∙ ap (λ o. option_or o (size_refusal file.bytes)) (entry (get t path))

-- so many entries the directory has after them
pub counted_is : (t : Tree) (d : Path) (files : List NamedFile) (s : Tree) (count : ℕ) (last : Option Name) → ascend_from last files ≡ true → AreSame t s d files → entry_count s d ≡ count → entry_count (files_put s d files) d ≡ next_counts t d count files
counted_is t d [] s count last ascend same counted = counted
counted_is t d (file ∷ files) s count last ascend same counted =
    let after = ascend-rest last file files ascend in
    counted_is t d files (file_put s (path_in d file) file.bytes) (next_count t d count file) (Some file.name) after (same-put t s d file files (ascend-other file.name files after) same.1)
    (put-count s d file.name (Entry.File file.bytes) ∙ (λ i. counted i + cond (is_none (same.0 i)) 1 0))

-- In parts.

or-or : (a b c : Option Fault) → option_or (option_or a b) c ≡ option_or a (option_or b c)
or-or None b c = refl
or-or (Some x) b c = refl

pub refusals-append : (t : Tree) (opened : Descriptors) (d : Path) (count : ℕ) (xs ys : List NamedFile) → next_refusals t opened d count (xs ++ ys) ≡ option_or (next_refusals t opened d count xs) (next_refusals t opened d (next_counts t d count xs) ys)
refusals-append t opened d count [] ys = refl
refusals-append t opened d count (x ∷ xs) ys =
    ap (option_or (next_refusal t opened d count x)) (refusals-append t opened d (next_count t d count x) xs ys)
    ∙ sym (or-or (next_refusal t opened d count x) (next_refusals t opened d (next_count t d count x) xs) (next_refusals t opened d (next_counts t d (next_count t d count x) xs) ys))

pub counts-append : (t : Tree) (d : Path) (count : ℕ) (xs ys : List NamedFile) → next_counts t d count (xs ++ ys) ≡ next_counts t d (next_counts t d count xs) ys
counts-append t d count [] ys = refl
counts-append t d count (x ∷ xs) ys = counts-append t d (next_count t d count x) xs ys

pub counts-grow : (t : Tree) (d : Path) (count : ℕ) (xs : List NamedFile) → count ≤ next_counts t d count xs
counts-grow t d count [] = omega arith
counts-grow t d count (x ∷ xs) = let rest = counts-grow t d (next_count t d count x) xs in omega arith

-- one file more
pub refusals-more : (t : Tree) (opened : Descriptors) (d : Path) (count : ℕ) (files : List NamedFile) (k : ℕ) (file : NamedFile) → k < length files → file ≡ get_or files k file → next_refusals t opened d count (take k files) ≡ None
    → next_refusals t opened d count (take (k + 1) files) ≡ next_refusal t opened d (next_counts t d count (take k files)) file
refusals-more t opened d count files k file below is fine =
    ap (next_refusals t opened d count) (take_more files k file below ∙ ap (λ (x : NamedFile). take k files ++ x ∷ []) (sym is)) ∙ refusals-append t opened d count (take k files) (file ∷ [])
    ∙ ap (λ o. option_or o (option_or (next_refusal t opened d (next_counts t d count (take k files)) file) None)) fine
    ∙ or-none (next_refusal t opened d (next_counts t d count (take k files)) file)
  where
    or-none : (o : Option Fault) → option_or o None ≡ o
    or-none None = refl
    or-none (Some x) = refl

pub counts-more : (t : Tree) (d : Path) (count : ℕ) (files : List NamedFile) (k : ℕ) (file : NamedFile) → k < length files → file ≡ get_or files k file → next_counts t d count (take (k + 1) files) ≡ next_count t d (next_counts t d count (take k files)) file
counts-more t d count files k file below is =
    ap (next_counts t d count) (take_more files k file below ∙ ap (λ (x : NamedFile). take k files ++ x ∷ []) (sym is)) ∙ counts-append t d count (take k files) (file ∷ [])

-- the refusal of a part is that of all
pub refusals-part : (t : Tree) (opened : Descriptors) (d : Path) (count : ℕ) (files : List NamedFile) (k : ℕ) (fault : Fault) → next_refusals t opened d count (take k files) ≡ Some fault → next_refusals t opened d count files ≡ Some fault
refusals-part t opened d count files k fault refused =
    ap (next_refusals t opened d count) (sym (take-append-drop k files)) ∙ refusals-append t opened d count (take k files) (drop k files)
    ∙ ap (λ o. option_or o (next_refusals t opened d (next_counts t d count (take k files)) (drop k files))) refused

-- What is accepted.

or-none-first : (a b : Option Fault) → option_or a b ≡ None → (a ≡ None) × (b ≡ None)
or-none-first None b e = (refl, e)
or-none-first (Some x) b e = absurd (None≢Some (sym e))

-- no directory stands at the path of a file, and it has not too many bytes
pub record IsWritable (t : Tree) (d : Path) (file : NamedFile) : Type 0 where
  pub free : get t (path_in d file) ≢ Some Entry.Dir
  pub short : length file.bytes ≤ 16777216

pub all-writable : (t : Tree) (opened : Descriptors) (d : Path) (count : ℕ) (files : List NamedFile) → next_refusals t opened d count files ≡ None → All (IsWritable t d) files
all-writable t opened d count [] fine = All-nil (IsWritable t d)
all-writable t opened d count (file ∷ files) fine =
    let parts = or-none-first (next_refusal t opened d count file) (next_refusals t opened d (next_count t d count file) files) fine in
    let here = or-none-first (next_entry_refusal opened (path_in d file) count (get t (path_in d file))) (size_refusal file.bytes) parts.0 in
    All-cons (IsWritable t d) file files (record { free = λ is. none_there (sym (ap (next_entry_refusal opened (path_in d file) count) is) ∙ here.0); short = not_long file.bytes here.1 })
    (all-writable t opened d (next_count t d count file) files parts.1)
  where
    none_there : next_entry_refusal opened (path_in d file) count (Some Entry.Dir) ≡ None → ⊥
    none_there e = None≢Some (sym e)

    not_long : (bytes : List ℕ) → size_refusal bytes ≡ None → length bytes ≤ 16777216
    not_long bytes e = ltb-false 16777216 (length bytes) (on (nat_lt 16777216 (length bytes)) e)
      where
        on : (b : Bool) → cond b (Some TooBig) None ≡ None → b ≡ false
        on true e = absurd (None≢Some (sym e))
        on false e = refl

-- there is room for all that are missing
pub counts-room : (t : Tree) (opened : Descriptors) (d : Path) (count : ℕ) (files : List NamedFile) → count ≤ 1024 → next_refusals t opened d count files ≡ None → next_counts t d count files ≤ 1024
counts-room t opened d count [] within fine = within
counts-room t opened d count (file ∷ files) within fine =
    let parts = or-none-first (next_refusal t opened d count file) (next_refusals t opened d (next_count t d count file) files) fine in
    let here = or-none-first (next_entry_refusal opened (path_in d file) count (get t (path_in d file))) (size_refusal file.bytes) parts.0 in
    counts-room t opened d (next_count t d count file) files (on (get t (path_in d file)) here.0) parts.1
  where
    not_full : (b : Bool) → cond b (Some DirectoryFull) None ≡ None → b ≡ false
    not_full true e = absurd (None≢Some (sym e))
    not_full false e = refl

    on : (o : Option Entry) → next_entry_refusal opened (path_in d file) count o ≡ None → count + cond (is_none o) 1 0 ≤ 1024
    on None e = let less : count < 1024 = leb-false 1024 count (not_full (nat_le 1024 count) e) in omega arith
    on (Some x) e = omega arith
