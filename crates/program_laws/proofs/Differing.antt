-- What differs between two trees is told, and nothing else.
use Rattle.std.proofs.Common.{◌≡◌, ◌≢◌, ◌∙◌, inl, inr, ◌<◌, ℕ, Bool, true, false, Option, Some, None, IsSome, List, [], ◌∷◌, ◌++◌, length, get_or, append-nil, refl, sym, ap, ap₂, subst, arith}
use Rattle.std.proofs.lemmas.Bool.{true≢false}
use Rattle.std.proofs.lemmas.List.{length-append}
use Rattle.std.proofs.lemmas.List.Concat.{flat_map-append}
use Rattle.std.proofs.lemmas.List.Elements.{All-nil, All-cons, All-contains, Contains-append_left, Contains-append_right, Contains-append_cases}
use Rattle.std.proofs.lemmas.List.Kept.{AllPairs-cons}
use Rattle.std.proofs.lemmas.Slice.Eq.{bytes_eq-Decides}
use Rattle.std.specs.Prelude.{All, AllPairs, Contains, codes, if◌then◌else◌}
use Rattle.std.specs.FinMap.{get}
use Rattle.std.specs.List.{flat_map}
use Rattle.std.specs.Option.{option_map}
use Rattle.std.specs.Str.{bytes_eq}
use Rattle.std.specs.declared.cmp.Ordering.TheVariants.{Less}
use Rattle.fs_types.specs.Names.{Path, path_cmp}
use Rattle.fs_types.specs.declared.call.Stat.{Stat}
use Rattle.fs_types.specs.declared.limits.TheConstants.{MAX_NAMES}
use Rattle.plain_trees.specs.Contents.{Entry, is_dir}
use Rattle.plain_trees.specs.Trees.{Tree, IsFileTree}
use Rattle.plain_trees.proofs.Beneath.{None≢Some, same_Some}
use Rattle.plain_trees.proofs.Edits.{same_tree}
use Rattle.plain_trees.proofs.Lookups.{some-is}
use Rattle.inquiries.specs.Differences.{changed_line, difference_lines}
use Rattle.inquiries.specs.Items.{item_at, items_of, IsItemOf}
use Rattle.inquiries.specs.Printed.{path_text, item_line}
use Rattle.inquiries.specs.declared.items.Item.{Item}
use Rattle.program_laws.specs.DifferenceLaw.{Sign, kind_at, StandsAlone, Differ, sign_line, Precedes, TellsDifferences, DifferenceLaw, NoDifferenceLaw}
use Rattle.inquiries.proofs.DifferenceLemmas.{items_there}
use Rattle.program_laws.proofs.Pairs.{AllPairs-nil, AllPairs-append, AllPairs-weaker, AllPairs-flat_map, All-flat_map, Contains-flat_map, Contains-first, flat_map-flat_map, flat_map-agree}
use Rattle.program_laws.proofs.Trees.{Ascends, items_ordered, told, less_other}

-- ---- the sign of what stands at a path

-- what is told of the old tree, by what stands there in it and in the new one
abbrev old_sign : Option Entry → Option Entry → Option Sign
old_sign None there = None
old_sign (Some Entry.Dir) (Some Entry.Dir) = None
old_sign (Some (Entry.File bytes)) (Some (Entry.File others)) = if bytes_eq bytes others then None else Some Sign.Changed
old_sign (Some x) there = Some Sign.Went

-- and of the new one, by what stands there in it and in the old one
abbrev new_sign : Option Entry → Option Entry → Option Sign
new_sign None there = None
new_sign (Some Entry.Dir) (Some Entry.Dir) = None
new_sign (Some (Entry.File bytes)) (Some (Entry.File others)) = None
new_sign (Some x) there = Some Sign.Came

abbrev marked : Path → Option Sign → List (Sign × Path)
marked path None = []
marked path (Some sign) = (sign, path) ∷ []

abbrev told_of : (Option Entry → Option Entry → Option Sign) → Tree → Tree → Item → List (Sign × Path)
told_of sign_of t other item = marked item.path (sign_of (get t item.path) (get other item.path))

abbrev told_beside : (Option Entry → Option Entry → Option Sign) → Tree → Tree → List (Sign × Path)
told_beside sign_of t other = flat_map (told_of sign_of t other) (items_of t)

is_marked : (path : Path) (o : Option Sign) (P : Sign × Path → Type 0) → ((sign : Sign) → o ≡ Some sign → P (sign, path)) → All P (marked path o)
is_marked path None P holds = All-nil P
is_marked path (Some sign) P holds = All-cons P (sign, path) [] (holds sign refl) (All-nil P)

-- ---- its meaning

no_entry : {A : Type 0} → IsSome {T = Entry} None → A
no_entry some = absurd (true≢false (sym some))

changed_sign : (bytes others : List ℕ) → bytes ≢ others → (if bytes_eq bytes others then None else Some Sign.Changed) ≡ Some Sign.Changed
changed_sign bytes others differ = go (bytes_eq bytes others) refl
  where
    go : (b : Bool) → bytes_eq bytes others ≡ b → (if b then None else Some Sign.Changed) ≡ Some Sign.Changed
    go true same = absurd (differ ((bytes_eq-Decides bytes others).0 same))
    go false other = refl

went_sign : (o n : Option Entry) → IsSome o → option_map is_dir o ≢ option_map is_dir n → old_sign o n ≡ Some Sign.Went
went_sign None n some kinds = no_entry some
went_sign (Some Entry.Dir) None some kinds = refl
went_sign (Some Entry.Dir) (Some Entry.Dir) some kinds = absurd (kinds refl)
went_sign (Some Entry.Dir) (Some (Entry.File others)) some kinds = refl
went_sign (Some (Entry.File bytes)) None some kinds = refl
went_sign (Some (Entry.File bytes)) (Some Entry.Dir) some kinds = refl
went_sign (Some (Entry.File bytes)) (Some (Entry.File others)) some kinds = absurd (kinds refl)

came_sign : (o n : Option Entry) → IsSome o → option_map is_dir o ≢ option_map is_dir n → new_sign o n ≡ Some Sign.Came
came_sign None n some kinds = no_entry some
came_sign (Some Entry.Dir) None some kinds = refl
came_sign (Some Entry.Dir) (Some Entry.Dir) some kinds = absurd (kinds refl)
came_sign (Some Entry.Dir) (Some (Entry.File others)) some kinds = refl
came_sign (Some (Entry.File bytes)) None some kinds = refl
came_sign (Some (Entry.File bytes)) (Some Entry.Dir) some kinds = refl
came_sign (Some (Entry.File bytes)) (Some (Entry.File others)) some kinds = absurd (kinds refl)

file_sign : (o n : Option Entry) → option_map is_dir o ≡ Some false → option_map is_dir n ≡ Some false → o ≢ n → old_sign o n ≡ Some Sign.Changed
file_sign None n was is differ = absurd (None≢Some was)
file_sign (Some Entry.Dir) n was is differ = absurd (true≢false (same_Some was))
file_sign (Some (Entry.File bytes)) None was is differ = absurd (None≢Some is)
file_sign (Some (Entry.File bytes)) (Some Entry.Dir) was is differ = absurd (true≢false (same_Some is))
file_sign (Some (Entry.File bytes)) (Some (Entry.File others)) was is differ = changed_sign bytes others (λ same. differ (ap (λ (text : List ℕ). Some (Entry.File text)) same))

dir≢file : Some true ≢ Some false
dir≢file e = true≢false (same_Some e)

module _ (old new : Tree) (p : Path) where
  alone : (t u : Tree) (x : Entry) (n : Option Entry) → get t p ≡ Some x → get u p ≡ n → Some (is_dir x) ≢ option_map is_dir n → StandsAlone t u p
  alone t u x n here there kinds = record {
    here = some-is (get t p) x here;
    kinds = λ same. kinds (sym (ap (option_map is_dir) here) ∙ same ∙ ap (option_map is_dir) there);
  }

  went : (x : Entry) (n : Option Entry) (sign : Sign) → get old p ≡ Some x → get new p ≡ n → Some (is_dir x) ≢ option_map is_dir n → Some Sign.Went ≡ Some sign → Differ old new sign p
  went x n sign here there kinds e = subst (λ s. Differ old new s p) (same_Some e) (alone old new x n here there kinds)

  came : (x : Entry) (o : Option Entry) (sign : Sign) → get new p ≡ Some x → get old p ≡ o → Some (is_dir x) ≢ option_map is_dir o → Some Sign.Came ≡ Some sign → Differ old new sign p
  came x o sign here there kinds e = subst (λ s. Differ old new s p) (same_Some e) (alone new old x o here there kinds)

  changed : (bytes others : List ℕ) (sign : Sign) → get old p ≡ Some (Entry.File bytes) → get new p ≡ Some (Entry.File others) → (if bytes_eq bytes others then None else Some Sign.Changed) ≡ Some sign → Differ old new sign p
  changed bytes others sign was is e = go (bytes_eq bytes others) refl e
    where
      go : (b : Bool) → bytes_eq bytes others ≡ b → (if b then None else Some Sign.Changed) ≡ Some sign → Differ old new sign p
      go true same e = absurd (None≢Some e)
      go false other e = subst (λ s. Differ old new s p) (same_Some e) (record {
        was_file = ap (option_map is_dir) was;
        is_file = ap (option_map is_dir) is;
        bytes = λ same. absurd (let wrong : bytes ≡ others = same_bytes (same_Some (sym was ∙ same ∙ is)) in true≢false (sym ((bytes_eq-Decides bytes others).1 wrong) ∙ other));
      })
        where
          same_bytes : Entry.File bytes ≡ Entry.File others → bytes ≡ others
          same_bytes same = cc

  -- what is told of the old tree
  old_differs : (sign : Sign) (o n : Option Entry) → get old p ≡ o → get new p ≡ n → old_sign o n ≡ Some sign → Differ old new sign p
  old_differs sign None n was is e = absurd (None≢Some e)
  old_differs sign (Some Entry.Dir) None was is e = went Entry.Dir None sign was is (λ same. None≢Some (sym same)) e
  old_differs sign (Some Entry.Dir) (Some Entry.Dir) was is e = absurd (None≢Some e)
  old_differs sign (Some Entry.Dir) (Some (Entry.File others)) was is e = went Entry.Dir (Some (Entry.File others)) sign was is dir≢file e
  old_differs sign (Some (Entry.File bytes)) None was is e = went (Entry.File bytes) None sign was is (λ same. None≢Some (sym same)) e
  old_differs sign (Some (Entry.File bytes)) (Some Entry.Dir) was is e = went (Entry.File bytes) (Some Entry.Dir) sign was is (λ same. dir≢file (sym same)) e
  old_differs sign (Some (Entry.File bytes)) (Some (Entry.File others)) was is e = changed bytes others sign was is e

  -- and of the new one
  new_differs : (sign : Sign) (n o : Option Entry) → get new p ≡ n → get old p ≡ o → new_sign n o ≡ Some sign → Differ old new sign p
  new_differs sign None o is was e = absurd (None≢Some e)
  new_differs sign (Some Entry.Dir) None is was e = came Entry.Dir None sign is was (λ same. None≢Some (sym same)) e
  new_differs sign (Some Entry.Dir) (Some Entry.Dir) is was e = absurd (None≢Some e)
  new_differs sign (Some Entry.Dir) (Some (Entry.File others)) is was e = came Entry.Dir (Some (Entry.File others)) sign is was dir≢file e
  new_differs sign (Some (Entry.File bytes)) None is was e = came (Entry.File bytes) None sign is was (λ same. None≢Some (sym same)) e
  new_differs sign (Some (Entry.File bytes)) (Some Entry.Dir) is was e = came (Entry.File bytes) (Some Entry.Dir) sign is was (λ same. dir≢file (sym same)) e
  new_differs sign (Some (Entry.File bytes)) (Some (Entry.File others)) is was e = absurd (None≢Some e)

  -- where the two differ so, they differ
  apart : (sign : Sign) → Differ old new sign p → get old p ≢ get new p
  apart Sign.Went differ same = differ.kinds (ap (option_map is_dir) same)
  apart Sign.Changed differ same = differ.bytes same
  apart Sign.Came differ same = differ.kinds (ap (option_map is_dir) (sym same))

  -- and where they differ, they do so by a sign
  some_sign : (o n : Option Entry) → get old p ≡ o → get new p ≡ n → o ≢ n → (sign : Sign) × Differ old new sign p
  some_sign None None was is differ = absurd (differ refl)
  some_sign None (Some x) was is differ = (Sign.Came, alone new old x None is was (λ same. None≢Some (sym same)))
  some_sign (Some x) None was is differ = (Sign.Went, alone old new x None was is (λ same. None≢Some (sym same)))
  some_sign (Some Entry.Dir) (Some Entry.Dir) was is differ = absurd (differ refl)
  some_sign (Some Entry.Dir) (Some (Entry.File others)) was is differ = (Sign.Went, alone old new Entry.Dir (Some (Entry.File others)) was is dir≢file)
  some_sign (Some (Entry.File bytes)) (Some Entry.Dir) was is differ = (Sign.Went, alone old new (Entry.File bytes) (Some Entry.Dir) was is (λ same. dir≢file (sym same)))
  some_sign (Some (Entry.File bytes)) (Some (Entry.File others)) was is differ = (
    Sign.Changed,
    record {
      was_file = ap (option_map is_dir) was;
      is_file = ap (option_map is_dir) is;
      bytes = λ same. differ (sym was ∙ same ∙ is);
    },
  )

-- ---- what stands at a path in one tree and in the other, where something does in the first

data Known (o n : Option Entry) : Type 0 where
  Dir : o ≡ Some Entry.Dir → n ≡ None → Known o n
  Dirs : o ≡ Some Entry.Dir → n ≡ Some Entry.Dir → Known o n
  DirFile : (others : List ℕ) → o ≡ Some Entry.Dir → n ≡ Some (Entry.File others) → Known o n
  File : (bytes : List ℕ) → o ≡ Some (Entry.File bytes) → n ≡ None → Known o n
  FileDir : (bytes : List ℕ) → o ≡ Some (Entry.File bytes) → n ≡ Some Entry.Dir → Known o n
  Files : (bytes others : List ℕ) → o ≡ Some (Entry.File bytes) → n ≡ Some (Entry.File others) → Known o n

known : (o n : Option Entry) → IsSome o → Known o n
known None n some = no_entry some
known (Some Entry.Dir) None some = Known.Dir refl refl
known (Some Entry.Dir) (Some Entry.Dir) some = Known.Dirs refl refl
known (Some Entry.Dir) (Some (Entry.File others)) some = Known.DirFile others refl refl
known (Some (Entry.File bytes)) None some = Known.File bytes refl refl
known (Some (Entry.File bytes)) (Some Entry.Dir) some = Known.FileDir bytes refl refl
known (Some (Entry.File bytes)) (Some (Entry.File others)) some = Known.Files bytes others refl refl

-- ---- the lines

module _ (old new : Tree) where
  abbrev line : Sign × Path → List ℕ
  line = sign_line old new

  went_line : (item : Item) → item_line item ≡ item_line (item_at old item.path) → codes "- " ++ item_line item ≡ flat_map line ((Sign.Went, item.path) ∷ [])
  went_line item same = ap (λ (text : List ℕ). codes "- " ++ text) same ∙ sym (append-nil (line (Sign.Went, item.path)))

  came_line : (item : Item) → item_line item ≡ item_line (item_at new item.path) → codes "+ " ++ item_line item ≡ flat_map line ((Sign.Came, item.path) ∷ [])
  came_line item same = ap (λ (text : List ℕ). codes "+ " ++ text) same ∙ sym (append-nil (line (Sign.Came, item.path)))

  file_line : (p : Path) (b : Bool) → (if b then [] else changed_line p) ≡ flat_map line (marked p (if b then None else Some Sign.Changed))
  file_line p true = refl
  file_line p false = sym (append-nil (changed_line p))

  item_same : (t : Tree) (item : Item) → IsItemOf t item → item_line item ≡ item_line (item_at t item.path)
  item_same t item is = ap (λ (s : Stat). item_line (record { path = item.path; stat = s })) is.stat

  abbrev left : List (Sign × Path)
  left = told_beside old_sign old new

  abbrev right : List (Sign × Path)
  right = told_beside new_sign new old

  both_lines : (f g : Item → List ℕ) → ((item : Item) → IsItemOf old item → f item ≡ flat_map line (told_of old_sign old new item)) → ((item : Item) → IsItemOf new item → g item ≡ flat_map line (told_of new_sign new old item))
      → flat_map f (items_of old) ++ flat_map g (items_of new) ≡ flat_map line (left ++ right)
  both_lines f g first second =
      ap₂ (λ (xs ys : List ℕ). xs ++ ys)
      (flat_map-agree (IsItemOf old) f (λ item. flat_map line (told_of old_sign old new item)) first (items_of old) (items_there old MAX_NAMES []) ∙ sym (flat_map-flat_map line (told_of old_sign old new) (items_of old)))
      (flat_map-agree (IsItemOf new) g (λ item. flat_map line (told_of new_sign new old item)) second (items_of new) (items_there new MAX_NAMES []) ∙ sym (flat_map-flat_map line (told_of new_sign new old) (items_of new)))
      ∙ sym (flat_map-append line left right)

  all_lines : difference_lines old new ≡ flat_map line (left ++ right)
  all_lines =
      both_lines _ _
      (λ item is. let same = went_line item (item_same old item is) in elim (known (get old item.path) (get new item.path) is.there) [
        | Known.Dir was now ↦ rw was (rw now same)
        | Known.Dirs was now ↦ rw was (rw now refl)
        | Known.DirFile others was now ↦ rw was (rw now same)
        | Known.File bytes was now ↦ rw was (rw now same)
        | Known.FileDir bytes was now ↦ rw was (rw now same)
        | Known.Files bytes others was now ↦ rw was (rw now (file_line item.path (bytes_eq bytes others)))
      ])
      (λ item is. let same = came_line item (item_same new item is) in elim (known (get new item.path) (get old item.path) is.there) [
        | Known.Dir now was ↦ rw now (rw was same)
        | Known.Dirs now was ↦ rw now (rw was refl)
        | Known.DirFile others now was ↦ rw now (rw was same)
        | Known.File bytes now was ↦ rw now (rw was same)
        | Known.FileDir bytes now was ↦ rw now (rw was same)
        | Known.Files bytes others now was ↦ rw now (rw was refl)
      ])

  -- ---- what they tell

  every_item : (P : Item → Type 0) → ((item : Item) → P item) → (items : List Item) → All P items
  every_item P each items k d within = each (get_or items k d)

  abbrev IsOldSign : Sign × Path → Type 0
  IsOldSign mark = old_sign (get old mark.1) (get new mark.1) ≡ Some mark.0

  abbrev IsNewSign : Sign × Path → Type 0
  IsNewSign mark = new_sign (get new mark.1) (get old mark.1) ≡ Some mark.0

  left_signs : All IsOldSign left
  left_signs =
      All-flat_map IsOldSign (told_of old_sign old new) (items_of old)
      (every_item (λ item. All IsOldSign (told_of old_sign old new item)) (λ item. is_marked item.path (old_sign (get old item.path) (get new item.path)) IsOldSign (λ sign is. is)) (items_of old))

  right_signs : All IsNewSign right
  right_signs =
      All-flat_map IsNewSign (told_of new_sign new old) (items_of new)
      (every_item (λ item. All IsNewSign (told_of new_sign new old item)) (λ item. is_marked item.path (new_sign (get new item.path) (get old item.path)) IsNewSign (λ sign is. is)) (items_of new))

  told_differs : (sign : Sign) (p : Path) → Contains (left ++ right) (sign, p) → Differ old new sign p
  told_differs sign p has = elim (Contains-append_cases left right (sign, p) has) [
    | inl first ↦ old_differs old new p sign (get old p) (get new p) refl refl (All-contains IsOldSign left (sign, p) left_signs first)
    | inr second ↦ new_differs old new p sign (get new p) (get old p) refl refl (All-contains IsNewSign right (sign, p) right_signs second)
  ]

  -- ---- in which order

  abbrev IsFirst : Sign → Type 0
  IsFirst Sign.Came = ⊥
  IsFirst _ = Unit {0}

  abbrev IsLast : Sign → Type 0
  IsLast Sign.Came = Unit {0}
  IsLast _ = ⊥

  old_first : (o n : Option Entry) (sign : Sign) → old_sign o n ≡ Some sign → IsFirst sign
  old_first None n sign e = absurd (None≢Some e)
  old_first (Some Entry.Dir) None sign e = subst IsFirst (same_Some e) tt
  old_first (Some Entry.Dir) (Some Entry.Dir) sign e = absurd (None≢Some e)
  old_first (Some Entry.Dir) (Some (Entry.File others)) sign e = subst IsFirst (same_Some e) tt
  old_first (Some (Entry.File bytes)) None sign e = subst IsFirst (same_Some e) tt
  old_first (Some (Entry.File bytes)) (Some Entry.Dir) sign e = subst IsFirst (same_Some e) tt
  old_first (Some (Entry.File bytes)) (Some (Entry.File others)) sign e = go (bytes_eq bytes others) e
    where
      go : (b : Bool) → (if b then None else Some Sign.Changed) ≡ Some sign → IsFirst sign
      go true e = absurd (None≢Some e)
      go false e = subst IsFirst (same_Some e) tt

  new_last : (n o : Option Entry) (sign : Sign) → new_sign n o ≡ Some sign → IsLast sign
  new_last None o sign e = absurd (None≢Some e)
  new_last (Some Entry.Dir) None sign e = subst IsLast (same_Some e) tt
  new_last (Some Entry.Dir) (Some Entry.Dir) sign e = absurd (None≢Some e)
  new_last (Some Entry.Dir) (Some (Entry.File others)) sign e = subst IsLast (same_Some e) tt
  new_last (Some (Entry.File bytes)) None sign e = subst IsLast (same_Some e) tt
  new_last (Some (Entry.File bytes)) (Some Entry.Dir) sign e = subst IsLast (same_Some e) tt
  new_last (Some (Entry.File bytes)) (Some (Entry.File others)) sign e = absurd (None≢Some e)

  abbrev PathsAscend : Sign × Path → Sign × Path → Type 0
  PathsAscend x y = path_cmp x.1 y.1 ≡ Less

  first_precedes : (x y : Sign × Path) → IsFirst x.0 → IsFirst y.0 → PathsAscend x y → Precedes x y
  first_precedes (Sign.Went, p) (Sign.Went, q) first second less = less
  first_precedes (Sign.Went, p) (Sign.Changed, q) first second less = less
  first_precedes (Sign.Went, p) (Sign.Came, q) first second less = absurd second
  first_precedes (Sign.Changed, p) (Sign.Went, q) first second less = less
  first_precedes (Sign.Changed, p) (Sign.Changed, q) first second less = less
  first_precedes (Sign.Changed, p) (Sign.Came, q) first second less = absurd second
  first_precedes (Sign.Came, p) y first second less = absurd first

  last_precedes : (x y : Sign × Path) → IsLast x.0 → IsLast y.0 → PathsAscend x y → Precedes x y
  last_precedes (Sign.Came, p) (Sign.Came, q) first second less = less
  last_precedes (Sign.Came, p) (Sign.Went, q) first second less = absurd second
  last_precedes (Sign.Came, p) (Sign.Changed, q) first second less = absurd second
  last_precedes (Sign.Went, p) y first second less = absurd first
  last_precedes (Sign.Changed, p) y first second less = absurd first

  mixed_precedes : (x y : Sign × Path) → IsFirst x.0 → IsLast y.0 → Precedes x y
  mixed_precedes (Sign.Went, p) (Sign.Came, q) first second = tt
  mixed_precedes (Sign.Changed, p) (Sign.Came, q) first second = tt
  mixed_precedes (Sign.Came, p) y first second = absurd first
  mixed_precedes x (Sign.Went, q) first second = absurd second
  mixed_precedes x (Sign.Changed, q) first second = absurd second

  one_marked : (p : Path) (o : Option Sign) → AllPairs PathsAscend (marked p o)
  one_marked p None = AllPairs-nil PathsAscend
  one_marked p (Some sign) = AllPairs-cons PathsAscend (sign, p) [] (All-nil (PathsAscend (sign, p))) (AllPairs-nil PathsAscend)

  two_marked : (p q : Path) (o n : Option Sign) → path_cmp p q ≡ Less → All (λ x. All (PathsAscend x) (marked q n)) (marked p o)
  two_marked p q o n less = is_marked p o (λ x. All (PathsAscend x) (marked q n)) (λ sign is. is_marked q n (PathsAscend (sign, p)) (λ other at. less))

  side_ordered : (sign_of : Option Entry → Option Entry → Option Sign) (t other : Tree) → AllPairs PathsAscend (told_beside sign_of t other)
  side_ordered sign_of t other =
      AllPairs-flat_map Ascends PathsAscend (told_of sign_of t other) (λ item. one_marked item.path (sign_of (get t item.path) (get other item.path)))
      (λ x y less. two_marked x.path y.path (sign_of (get t x.path) (get other x.path)) (sign_of (get t y.path) (get other y.path)) less)
      (items_of t) (items_ordered t MAX_NAMES [])

  left_first : (k : ℕ) (d : Sign × Path) → k < length left → IsFirst (get_or left k d).0
  left_first k d within = let mark : Sign × Path = get_or left k d in old_first (get old mark.1) (get new mark.1) mark.0 (left_signs k d within)

  right_last : (k : ℕ) (d : Sign × Path) → k < length right → IsLast (get_or right k d).0
  right_last k d within = let mark : Sign × Path = get_or right k d in new_last (get new mark.1) (get old mark.1) mark.0 (right_signs k d within)

  ordered : AllPairs Precedes (left ++ right)
  ordered =
      AllPairs-append Precedes left right
      (λ i j d less within. first_precedes (get_or left i d) (get_or left j d) (left_first i d (omega (arith, less, within))) (left_first j d within) (side_ordered old_sign old new i j d less within))
      (λ i j d less within. last_precedes (get_or right i d) (get_or right j d) (right_last i d (omega (arith, less, within))) (right_last j d within) (side_ordered new_sign new old i j d less within))
      (λ i d within j e inside. mixed_precedes (get_or left i d) (get_or right j e) (left_first i d within) (right_last j e inside))

  itself : (x : Sign × Path) → Precedes x x → ⊥
  itself (Sign.Went, p) less = less_other p p less refl
  itself (Sign.Changed, p) less = less_other p p less refl
  itself (Sign.Came, p) less = less_other p p less refl

  not_same : (x y : Sign × Path) → Precedes x y → x ≢ y
  not_same x y before same = itself x (subst (λ (z : Sign × Path). Precedes x z) (sym same) before)

  -- ---- all of it

  module _ (lawful : IsFileTree old) (lawful' : IsFileTree new) where
    not_root : (p : Path) → get old p ≢ get new p → p ≢ []
    not_root p differ root = differ (ap (get old) root ∙ lawful.shape.root ∙ sym lawful'.shape.root ∙ ap (get new) (sym root))

    there : (o : Option Entry) → IsSome o → (x : Entry) × (o ≡ Some x)
    there None some = no_entry some
    there (Some x) some = (x, refl)

    told_at : (sign_of : Option Entry → Option Entry → Option Sign) (t other : Tree) → IsFileTree t → (sign : Sign) (p : Path) → p ≢ [] → IsSome (get t p) → sign_of (get t p) (get other p) ≡ Some sign → Contains (told_beside sign_of t other) (sign, p)
    told_at sign_of t other good sign p below some is =
        let x = there (get t p) some in
        Contains-flat_map (told_of sign_of t other) (items_of t) (item_at t p) (sign, p) (told t good p x.0 below x.1)
        (subst (λ (o : Option Sign). Contains (marked p o) (sign, p)) (sym is) (Contains-first (sign, p) []))

    file_there : (p : Path) → kind_at old p ≡ Some false → IsSome (get old p)
    file_there p is = go (get old p) is
      where
        go : (o : Option Entry) → option_map is_dir o ≡ Some false → IsSome o
        go None e = absurd (None≢Some e)
        go (Some x) e = refl

    differs_told : (sign : Sign) (p : Path) → Differ old new sign p → Contains (left ++ right) (sign, p)
    differs_told Sign.Went p differ =
        Contains-append_left left right (Sign.Went, p)
        (told_at old_sign old new lawful Sign.Went p (not_root p (apart old new p Sign.Went differ)) differ.here (went_sign (get old p) (get new p) differ.here differ.kinds))
    differs_told Sign.Changed p differ =
        Contains-append_left left right (Sign.Changed, p)
        (told_at old_sign old new lawful Sign.Changed p (not_root p differ.bytes) (file_there p differ.was_file) (file_sign (get old p) (get new p) differ.was_file differ.is_file differ.bytes))
    differs_told Sign.Came p differ =
        Contains-append_right left right (Sign.Came, p)
        (told_at new_sign new old lawful' Sign.Came p (not_root p (apart old new p Sign.Came differ)) differ.here (came_sign (get new p) (get old p) differ.here differ.kinds))

    all_told : (p : Path) → get old p ≢ get new p → (sign : Sign) × Contains (left ++ right) (sign, p)
    all_told p differ = let sign = some_sign old new p (get old p) (get new p) refl refl differ in (sign.0, differs_told sign.0 p sign.1)

    same_untold : (p : Path) → get old p ≡ get new p → (sign : Sign) → Contains (left ++ right) (sign, p) → ⊥
    same_untold p same sign has = apart old new p sign (told_differs sign p has) same

    tells : TellsDifferences old new (difference_lines old new)
    tells = record {
      told = left ++ right;
      lines = all_lines;
      exact = λ sign p. (told_differs sign p, differs_told sign p);
      all = all_told;
      others = same_untold;
      once = AllPairs-weaker Precedes (λ first second. first ≢ second) not_same (left ++ right) ordered;
      order = ordered;
    }

    -- ---- nothing is told

    line_some : (sign : Sign) (p : Path) → 0 < length (line (sign, p))
    line_some Sign.Went p = let long = length-append (codes "- ") (item_line (item_at old p)) in let two : length (codes "- ") ≡ 2 = refl in omega (arith, long, two)
    line_some Sign.Changed p = let long = length-append (codes "~ ") (path_text p ++ codes "\n") in let two : length (codes "~ ") ≡ 2 = refl in omega (arith, long, two)
    line_some Sign.Came p = let long = length-append (codes "+ ") (item_line (item_at new p)) in let two : length (codes "+ ") ≡ 2 = refl in omega (arith, long, two)

    none_told : (marks : List (Sign × Path)) (mark : Sign × Path) → flat_map line marks ≡ [] → Contains marks mark → ⊥
    none_told [] mark none (k, within, is) = absurd (omega arith)
    none_told ((sign, p) ∷ marks) mark none has =
        let some = line_some sign p in
        let long = length-append (line (sign, p)) (flat_map line marks) in
        let empty : length (line (sign, p) ++ flat_map line marks) ≡ 0 = ap length none in
        absurd (omega (arith, some, long, empty))

    same_or_not : (o n : Option Entry) → (o ≢ n → ⊥) → o ≡ n
    same_or_not None None not = refl
    same_or_not None (Some x) not = absurd (not None≢Some)
    same_or_not (Some x) None not = absurd (not (λ same. None≢Some (sym same)))
    same_or_not (Some Entry.Dir) (Some Entry.Dir) not = refl
    same_or_not (Some Entry.Dir) (Some (Entry.File others)) not = absurd (not (λ same. dir≢file (ap (option_map is_dir) same)))
    same_or_not (Some (Entry.File bytes)) (Some Entry.Dir) not = absurd (not (λ same. dir≢file (sym (ap (option_map is_dir) same))))
    same_or_not (Some (Entry.File bytes)) (Some (Entry.File others)) not = go (bytes_eq bytes others) refl
      where
        go : (b : Bool) → bytes_eq bytes others ≡ b → Some (Entry.File bytes) ≡ Some (Entry.File others)
        go true same = ap (λ (text : List ℕ). Some (Entry.File text)) ((bytes_eq-Decides bytes others).0 same)
        go false other = absurd (not (λ same. let wrong : bytes ≡ others = cc in true≢false (sym ((bytes_eq-Decides bytes others).1 wrong) ∙ other)))

    none_one : difference_lines old new ≡ [] → old ≡ new
    none_one none = same_tree old new (λ p. same_or_not (get old p) (get new p) (λ differ. let told = all_told p differ in none_told (left ++ right) (told.0, p) (sym all_lines ∙ none) told.1))

    one_none : old ≡ new → difference_lines old new ≡ []
    one_none same = all_lines ∙ ap (flat_map line) (nothing (left ++ right) (λ sign p. same_untold p (ap (λ (t : Tree). get t p) same) sign))
      where
        nothing : (marks : List (Sign × Path)) → ((sign : Sign) (p : Path) → Contains marks (sign, p) → ⊥) → marks ≡ []
        nothing [] untold = refl
        nothing ((sign, p) ∷ marks) untold = absurd (untold sign p (Contains-first (sign, p) marks))

pub difference_law : DifferenceLaw
difference_law old new lawful lawful' = tells old new lawful lawful'

pub no_difference_law : NoDifferenceLaw
no_difference_law old new lawful lawful' = (none_one old new lawful lawful', one_none old new lawful lawful')
