-- The files of a list that change, by a list of which they are.
use Rattle.std.proofs.Common.{◌≡◌, ℕ, ◌+◌, Bool, true, false, cond, not, ◌||◌, List, [], ◌∷◌, length, refl, sym, ap, ◌∙◌, arith}
use Rattle.std.proofs.lemmas.Bool.{true≢false, ne_eqb}
use Rattle.std.proofs.lemmas.List.Sums.{sum_by-cons}
use Rattle.std.specs.Prelude.{is_none, map, filter, count_by, ◌==◌}
use Rattle.std.specs.List.{list_any}
use Rattle.std.specs.FinMap.{get}
use Rattle.fs_types.specs.Names.{Path}
use Rattle.fs_types.specs.NamedFiles.{path_in}
use Rattle.fs_types.specs.declared.named_file.NamedFile.{NamedFile}
use Rattle.plain_trees.specs.Contents.{same_bytes}
use Rattle.plain_trees.specs.Trees.{Tree, bytes_of_file}
use Rattle.history_machine.specs.Machine.{write_file_changes, changed_files}
use Rattle.history_machine.specs.NextFiles.{next_count, next_counts}
use Rattle.tree_edits.specs.Edits.{chosen}

-- whether a file does
abbrev pub changes_in : Tree → Path → NamedFile → Bool
changes_in t d file = write_file_changes t (path_in d file) file.bytes

pub chosen-filter : (p : NamedFile → Bool) (files : List NamedFile) → chosen files (map p files) ≡ filter p files
chosen-filter p [] = refl
chosen-filter p (file ∷ files) = ap (λ (rest : List NamedFile). cond (p file) (file ∷ rest) rest) (chosen-filter p files)

pub any-filter : (p : NamedFile → Bool) (files : List NamedFile) → list_any (λ changes. changes) (map p files) ≡ not (length (filter p files) == 0)
any-filter p [] = refl
any-filter p (file ∷ files) = on (p file) (any-filter p files)
  where
    on : (b : Bool) → list_any (λ changes. changes) (map p files) ≡ not (length (filter p files) == 0) → (b || list_any (λ changes. changes) (map p files)) ≡ not (length (cond b (file ∷ filter p files) (filter p files)) == 0)
    on true rest = sym (ap not (ne_eqb (length (file ∷ filter p files)) 0 (λ e. absurd (omega arith))))
    on false rest = rest

-- one for what is so
abbrev one_if : Bool → ℕ
one_if b = cond b 1 0

-- the missing ones among them are all that are missing
pub missing-changed : (t : Tree) (d : Path) (count : ℕ) (files : List NamedFile) → next_counts t d count files ≡ count + count_by (λ file. is_none (get t (path_in d file))) (changed_files t d files)
missing-changed t d count [] = omega arith
missing-changed t d count (file ∷ files) = missing-changed t d (next_count t d count file) files ∙ on (write_file_changes t (path_in d file) file.bytes) refl
  where
    or-false : (a b : Bool) → (a || b) ≡ false → a ≡ false
    or-false true b e = absurd (true≢false e)
    or-false false b e = refl

    on : (b : Bool) → write_file_changes t (path_in d file) file.bytes ≡ b
        → next_count t d count file + count_by (λ one. is_none (get t (path_in d one))) (changed_files t d files)
        ≡ count + count_by (λ one. is_none (get t (path_in d one))) (cond b (file ∷ changed_files t d files) (changed_files t d files))
    on true is = omega (arith, sum_by-cons (λ (one : NamedFile). cond (is_none (get t (path_in d one))) 1 0) file (changed_files t d files))
    on false is =
        let there : is_none (get t (path_in d file)) ≡ false = or-false (is_none (get t (path_in d file))) (not (same_bytes (bytes_of_file t (path_in d file)) file.bytes)) is in
        let none : one_if (is_none (get t (path_in d file))) ≡ one_if false = ap one_if there in
        omega (arith, none)
