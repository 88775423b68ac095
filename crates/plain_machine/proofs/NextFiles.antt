-- Files in turn: what refuses them, and whether any changes.
use Rattle.std.proofs.Common.{◌≡◌, ℕ, ◌+◌, ◌<◌, Bool, true, false, cond, not, ◌||◌, Option, Some, None, List, [], ◌∷◌, ◌++◌, length, drop, get_or, sym, ap, refl, ◌∙◌, arith}
use Rattle.std.proofs.lemmas.Bool.{true≢false, not-false, ne_eqb}
use Rattle.std.proofs.lemmas.List.{drop_more}
use Rattle.std.specs.Prelude.{◌==◌, is_none, filter}
use Rattle.std.specs.Option.{option_or, option_map, is_some}
use Rattle.std.specs.List.{list_any}
use Rattle.std.specs.FinMap.{get}
use Rattle.fs_types.specs.Names.{Name, Path}
use Rattle.fs_types.specs.NamedFiles.{path_in, ascend_from, files_refusal}
use Rattle.fs_types.specs.declared.named_file.NamedFile.{NamedFile}
use Rattle.fs_types.specs.declared.fault.Fault.{Fault}
use Rattle.fs_types.specs.declared.fault.Fault.TheVariants.{Invalid}
use Rattle.plain_trees.specs.Contents.{Entry, lookup_refusal}
use Rattle.plain_trees.specs.Files.{file_put}
use Rattle.plain_trees.specs.Trees.{Tree, entry_count}
use Rattle.history_machine.specs.Descriptors.{Descriptors}
use Rattle.history_machine.specs.Machine.{write_place_refusal, size_refusal, each_refusal, write_files_refusal}
use Rattle.history_machine.specs.NextFiles.{next_entry_refusal, next_refusal, next_refusals}
use Rattle.history_machine.proofs.Steps.{passes}
use Rattle.history_machine.proofs.NextFiles.{same-itself, next_is}

-- one more that is not refused
pub one-more : (t : Tree) (opened : Descriptors) (directory : Path) (list : List NamedFile) (i count after : ℕ) (file : NamedFile) (known : Option Entry) (whole : Option Fault) → i < length list → file ≡ get_or list i file
    → known ≡ get t (path_in directory file) → option_or (next_entry_refusal opened (path_in directory file) count known) (size_refusal file.bytes) ≡ None → after ≡ count + cond (is_none known) 1 0
    → next_refusals t opened directory count (drop i list) ≡ whole → next_refusals t opened directory after (drop (i + 1) list) ≡ whole
one-more t opened directory list i count after file known whole within is there fine counted so-far =
    let rest = drop (i + 1) list in
    let more : drop i list ≡ file ∷ rest = drop_more list i file within ∙ ap (λ (f : NamedFile). f ∷ rest) (sym is) in
    let none : next_refusal t opened directory count file ≡ None = ap (λ o. option_or (next_entry_refusal opened (path_in directory file) count o) (size_refusal file.bytes)) (sym there) ∙ fine in
    let next : next_refusals t opened directory count (drop i list) ≡ next_refusals t opened directory (count + cond (is_none (get t (path_in directory file))) 1 0) rest =
    ap (next_refusals t opened directory count) more ∙ ap (λ r. option_or r (next_refusals t opened directory (count + cond (is_none (get t (path_in directory file))) 1 0) rest)) none in
    ap (λ n. next_refusals t opened directory n rest) (counted ∙ ap (λ o. count + cond (is_none o) 1 0) there) ∙ sym next ∙ so-far

-- what is in the way to each of them refuses the first one
pub stopped : (t : Tree) (opened : Descriptors) (directory : Path) (list : List NamedFile) (fault : Fault) → length list == 0 ≡ false → files_refusal directory list ≡ None
    → ((name : Name) → Some fault ≡ lookup_refusal (get t) (directory ++ name ∷ [])) → Some fault ≡ write_files_refusal t opened directory list
stopped t opened directory [] fault some fine way = absurd (true≢false some)
stopped t opened directory (file ∷ files) fault some fine way =
    let path = path_in directory file in
    let rest = each_refusal (file_put t path file.bytes) opened directory files in
    sym
    (ap (λ r. option_or r (each_refusal t opened directory (file ∷ files))) fine
    ∙ ap (λ r. option_or (option_or r (option_or (write_place_refusal t opened path (get t path)) (size_refusal file.bytes))) rest) (sym (way file.name)))

-- where nothing is in the way, they are refused in turn
pub in-turn : (t : Tree) (opened : Descriptors) (directory : Path) (list : List NamedFile) → files_refusal directory list ≡ None
    → ((name : Name) → lookup_refusal (get t) (directory ++ name ∷ []) ≡ None) → next_refusals t opened directory (entry_count t directory) list ≡ write_files_refusal t opened directory list
in-turn t opened directory list fine way =
    let ascend : ascend_from None list ≡ true = not-false (ascend_from None list) (passes (not (ascend_from None list)) Invalid _ fine).0 in
    sym (ap (λ r. option_or r (each_refusal t opened directory list)) fine ∙ next_is t opened directory list t (entry_count t directory) None ascend (same-itself t directory list) refl way)

-- any passes where not none is left
pub any-left : (test : NamedFile → Bool) (list : List NamedFile) → list_any test list ≡ not (length (filter test list) == 0)
any-left test [] = refl
any-left test (file ∷ files) = go (test file) (any-left test files)
  where
    go : (b : Bool) → list_any test files ≡ not (length (filter test files) == 0) → (b || list_any test files) ≡ not (length (cond b (file ∷ filter test files) (filter test files)) == 0)
    go true rest = sym (ap not (ne_eqb (length (file ∷ filter test files)) 0 (λ e. absurd (omega arith))))
    go false rest = rest

-- an entry more where none is known
pub counted : {A B : Type 0} (f : A → B) (o : Option A) (b : Bool) → is_some o ≡ not b → cond (is_none (option_map f o)) 1 0 ≡ cond {A = ℕ} b 1 0
counted f None true e = refl
counted f None false e = absurd (true≢false (sym e))
counted f (Some x) true e = absurd (true≢false e)
counted f (Some x) false e = refl
