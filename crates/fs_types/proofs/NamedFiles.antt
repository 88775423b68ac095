-- Names that ascend: none stands twice among them.
use Rattle.std.proofs.Common.{◌≡◌, ◌≢◌, zero, suc, true, Option, Some, List, [], ◌∷◌, sym, ap, refl, ◌∙◌, arith, inl, inr, ◌⊎◌}
use Rattle.std.proofs.lemmas.Bool.{true≢false, and_parts, and_from}
use Rattle.std.proofs.lemmas.List.{same_from_push}
use Rattle.std.specs.Prelude.{Contains}
use Rattle.std.specs.Cmp.{tied_itself}
use Rattle.std.specs.Ordering.{is_lt}
use Rattle.std.specs.declared.cmp.Ordering.{Ordering}
use Rattle.std.specs.declared.cmp.Ordering.TheVariants.{Less, Equal, Greater}
use Rattle.fs_types.specs.Names.{Name, Path, name_cmp, is_after}
use Rattle.fs_types.specs.NamedFiles.{path_in, ascend_from}
use Rattle.fs_types.specs.declared.named_file.NamedFile.{NamedFile}
use Rattle.fs_types.proofs.Orders.{names_total}

-- the first of a list, or one of the others
pub contains-first : {A : Type 0} (x : A) (xs : List A) (y : A) → Contains (x ∷ xs) y → (x ≡ y) ⊎ Contains xs y
contains-first x xs y (zero, within, is) = inl is
contains-first x xs y (suc k, within, is) = inr (k, omega arith, is)

-- each file has another name
abbrev pub HaveOther : Name → List NamedFile → Type 0
HaveOther name [] = Unit {0}
HaveOther name (file ∷ files) = (file.name ≢ name) × HaveOther name files

pub other-name : (name : Name) (files : List NamedFile) (file : NamedFile) → HaveOther name files → Contains files file → file.name ≢ name
other-name name [] file other (k, within, is) = absurd (omega arith)
other-name name (first ∷ files) file other among = go (contains-first first files file among) (other-name name files file other.1)
  where
    go : (first ≡ file) ⊎ Contains files file → (Contains files file → file.name ≢ name) → file.name ≢ name
    go (inl is) rest = λ same. other.0 (ap (λ f. f.name) is ∙ same)
    go (inr later) rest = rest later

less-of : (o : Ordering) → is_lt o ≡ true → o ≡ Less
less-of Less e = refl
less-of Equal e = absurd (true≢false (sym e))
less-of Greater e = absurd (true≢false (sym e))

after-itself : (n m : Name) → is_after (Some n) m ≡ true → m ≢ n
after-itself n m e same = true≢false (sym e ∙ ap (λ k. is_lt (name_cmp n k)) same ∙ ap is_lt (tied_itself names_total n))

after-both : (n m k : Name) → is_after (Some n) m ≡ true → is_after (Some m) k ≡ true → is_after (Some n) k ≡ true
after-both n m k e f = ap is_lt (names_total.trans n m k (less-of (name_cmp n m) e) (less-of (name_cmp m k) f))

-- names that ascend from one on ascend from what comes before it
pub ascend-before : (n m : Name) (files : List NamedFile) → is_after (Some n) m ≡ true → ascend_from (Some m) files ≡ true → ascend_from (Some n) files ≡ true
ascend-before n m [] e h = refl
ascend-before n m (file ∷ files) e h =
    let parts = and_parts (is_after (Some m) file.name) (ascend_from (Some file.name) files) h in
    and_from (is_after (Some n) file.name) (ascend_from (Some file.name) files) (after-both n m file.name e parts.0) parts.1

pub ascend-other : (n : Name) (files : List NamedFile) → ascend_from (Some n) files ≡ true → HaveOther n files
ascend-other n [] h = tt
ascend-other n (file ∷ files) h =
    let parts = and_parts (is_after (Some n) file.name) (ascend_from (Some file.name) files) h in
    (after-itself n file.name parts.0, ascend-other n files (ascend-before n file.name files parts.0 parts.1))

-- those after the first one
pub ascend-rest : (last : Option Name) (file : NamedFile) (files : List NamedFile) → ascend_from last (file ∷ files) ≡ true → ascend_from (Some file.name) files ≡ true
ascend-rest last file files h = (and_parts (is_after last file.name) (ascend_from (Some file.name) files) h).1

-- files of other names stand at other paths
pub apart-in : (directory : Path) (file other : NamedFile) → file.name ≢ other.name → path_in directory file ≢ path_in directory other
apart-in directory file other apart same = apart (same_from_push directory directory file.name other.name same).1
