-- Names put into a list of entries, one after the other.
use Rattle.std.proofs.Common.{◌≡◌, ℕ, ◌+◌, ◌<◌, ◌≤◌, Bool, true, false, cond, Option, Some, None, Result, Ok, Err, List, [], ◌∷◌, ◌++◌, length, take, get_or, append-nil, unwrap_or, sym, ap, refl, ◌∙◌, subst, arith, IfOk}
use Rattle.std.proofs.lemmas.Bool.{true≢false}
use Rattle.std.proofs.lemmas.List.{take_more}
use Rattle.std.proofs.lemmas.List.Sums.{sum_by-append, sum_by-cons, sum_by-take-le}
use Rattle.std.specs.List.{sum_by}
use Rattle.std.specs.Option.{is_some, is_none}
use Rattle.fs_types.specs.Names.{Name, same_name}
use Rattle.fs_types.specs.declared.fault.Fault.{Fault}
use Rattle.node_format.specs.Items.{Item, named_place}
use Rattle.node_format.specs.Edits.{IsEdited, edited_count}
use Rattle.node_format.specs.declared.place.Place.{Place}
use Rattle.nodes.specs.Bodies.{Blocks}
use Rattle.nodes.specs.Trees.{entries_in, items_in}
use Rattle.nodes.specs.Rewritten.{IsFreshChain}
use Rattle.directory.specs.Puts.{place_after, count_missing, HasRoomFor, IsPutEach, IsDirectoryPut}
use Rattle.directory.specs.Reads.{IsReadTo}
use Rattle.directory.specs.Written.{PutsDirectory}
use Rattle.directory.specs.declared.directory_puts.NamedPlace.{NamedPlace}
use Rattle.directory.proofs.ReadLists.{all_read}
use Rattle.directory.proofs.ListEdits.{put_all}

-- one name more
place_more : (puts : List NamedPlace) (put : NamedPlace) (name : Name) (was : Option Place) → place_after (puts ++ put ∷ []) name was ≡ cond (same_name put.name.now name) (Some put.place) (place_after puts name was)
place_more [] put name was = refl
place_more (first ∷ puts) put name was = place_more puts put name (cond (same_name first.name.now name) (Some first.place) was)

-- what led somewhere does then
still_there : (puts : List NamedPlace) (name : Name) (was : Option Place) → is_some was ≡ true → is_some (place_after puts name was) ≡ true
still_there [] name was there = there
still_there (put ∷ puts) name was there = still_there puts name (cond (same_name put.name.now name) (Some put.place) was) (go (same_name put.name.now name))
  where
    go : (b : Bool) → is_some (cond b (Some put.place) was) ≡ true
    go true = refl
    go false = there

missing_before : (puts : List NamedPlace) (name : Name) (was : Option Place) → place_after puts name was ≡ None → was ≡ None
missing_before puts name None none = refl
missing_before puts name (Some was) none = absurd (true≢false (sym (still_there puts name (Some was) refl) ∙ ap is_some none))

-- one for a name that is missing
abbrev one_missing : Option Place → ℕ
one_missing o = cond (is_none o) 1 0

count_more : (old : List Item) (puts : List NamedPlace) (put : NamedPlace) → count_missing old (puts ++ put ∷ []) ≡ count_missing old puts + one_missing (named_place old put.name.now)
count_more old puts put =
    let f : NamedPlace → ℕ = λ p. one_missing (named_place old p.name.now) in
    let parts : sum_by f (puts ++ put ∷ []) ≡ sum_by f puts + sum_by f (put ∷ []) = sum_by-append f puts (put ∷ []) in
    let alone : sum_by f (put ∷ []) ≡ f put + sum_by f [] = sum_by-cons f put [] in
    omega (arith, parts, alone)

count_first : (old : List Item) (put : NamedPlace) (puts : List NamedPlace) → count_missing old (put ∷ puts) ≡ one_missing (named_place old put.name.now) + count_missing old puts
count_first old put puts = sum_by-cons (λ p. one_missing (named_place old p.name.now)) put puts

pub first_put : (old new : List Item) (put : NamedPlace) → IsEdited old put.name.now (Some put.place) new → IsPutEach old (put ∷ []) new
first_put old new put e = record { lawful = e.lawful; counted = go (named_place old put.name.now) refl; leads = λ name. e.leads name }
  where
    go : (o : Option Place) → named_place old put.name.now ≡ o → length new ≤ length old + count_missing old (put ∷ [])
    go None is =
        let n : length new ≡ length old + 1 = e.counted ∙ ap (λ (o : Option Place). edited_count o (Some put.place) (length old)) is in
        let c = count_first old put [] in
        let m : one_missing (named_place old put.name.now) ≡ one_missing None = ap one_missing is in
        omega (arith, n, c, m)
    go (Some was) is = let n : length new ≡ length old = e.counted ∙ ap (λ (o : Option Place). edited_count o (Some put.place) (length old)) is in omega (arith, n)

pub next_put : (old mid new : List Item) (puts : List NamedPlace) (put : NamedPlace) → IsPutEach old puts mid → IsEdited mid put.name.now (Some put.place) new → IsPutEach old (puts ++ put ∷ []) new
next_put old mid new puts put h e = record {
  lawful = e.lawful;
  counted = go (named_place mid put.name.now) refl;
  leads = λ name. e.leads name ∙ ap (λ (o : Option Place). cond (same_name put.name.now name) (Some put.place) o) (h.leads name) ∙ sym (place_more puts put name (named_place old name));
}
  where
    more : count_missing old (puts ++ put ∷ []) ≡ count_missing old puts + one_missing (named_place old put.name.now)
    more = count_more old puts put

    go : (o : Option Place) → named_place mid put.name.now ≡ o → length new ≤ length old + count_missing old (puts ++ put ∷ [])
    go None is =
        let n : length new ≡ length mid + 1 = e.counted ∙ ap (λ (o : Option Place). edited_count o (Some put.place) (length mid)) is in
        let was : named_place old put.name.now ≡ None = missing_before puts put.name.now (named_place old put.name.now) (sym (h.leads put.name.now) ∙ is) in
        let one : one_missing (named_place old put.name.now) ≡ one_missing None = ap one_missing was in
        let few = h.counted in
        omega (arith, more, n, one, few)
    go (Some was) is =
        let n : length new ≡ length mid = e.counted ∙ ap (λ (o : Option Place). edited_count o (Some put.place) (length mid)) is in
        let few = h.counted in
        omega (arith, more, n, few)

-- there is room for a name that is missing
pub room_first : (old : List Item) (puts : List NamedPlace) (put : NamedPlace) → 0 < length puts → put ≡ get_or puts 0 put → HasRoomFor old puts → named_place old put.name.now ≡ None → length old < 1024
room_first old [] put some is h none = absurd (omega arith)
room_first old (first ∷ puts) put some is h none =
    let one : one_missing (named_place old first.name.now) ≡ one_missing None = ap (λ (p : NamedPlace). one_missing (named_place old p.name.now)) (sym is) ∙ ap one_missing none in
    let parts = count_first old first puts in
    let all = h.room in
    omega (arith, one, all, parts)

pub room_next : (old mid : List Item) (puts : List NamedPlace) (i : ℕ) (put : NamedPlace) → i < length puts → put ≡ get_or puts i put → HasRoomFor old puts → IsPutEach old (take i puts) mid → named_place mid put.name.now ≡ None → length mid < 1024
room_next old mid puts i put below is h e none =
    let was : named_place old put.name.now ≡ None = missing_before (take i puts) put.name.now (named_place old put.name.now) (sym (e.leads put.name.now) ∙ none) in
    let one : one_missing (named_place old put.name.now) ≡ one_missing None = ap one_missing was in
    let parts : take (i + 1) puts ≡ take i puts ++ put ∷ [] = take_more puts i put below ∙ ap (λ (p : NamedPlace). take i puts ++ p ∷ []) (sym is) in
    let more : count_missing old (take (i + 1) puts) ≡ count_missing old (take i puts) + one_missing (named_place old put.name.now) = ap (count_missing old) parts ∙ count_more old (take i puts) put in
    let within : count_missing old (take (i + 1) puts) ≤ count_missing old puts = sum_by-take-le (λ p. one_missing (named_place old p.name.now)) puts (i + 1) in
    let few = e.counted in
    let all = h.room in
    omega (arith, one, more, within, few, all)

-- the new directory
pub items_are : (f : Blocks) (block : ℕ) (items : List Item) → entries_in f block ≡ Some items → items_in f block ≡ items
items_are f block items is = ap (λ (o : Option (List Item)). unwrap_or o []) is

pub each_written : (old new : Blocks) (kept kept' : ℕ → Bool) (block left : ℕ) (items changed : List Item) (tail to : ℕ) (puts : List NamedPlace) → IsReadTo old block left items tail → tail ≡ 0 → IsPutEach items puts changed
    → PutsDirectory old kept new kept' tail to changed → IsDirectoryPut old new block to puts × IsFreshChain old new kept kept' block to
each_written old new kept kept' block left items changed tail to puts r last edited done =
    let p = put_all old new kept kept' block left items changed tail to r last edited.lawful done in
    let same : items_in old block ≡ items = items_are old block items (all_read old block left items tail r last) in (
      (
        changed ++ p.more,
        p.now,
        λ m. ap (λ (xs : List Item). named_place (changed ++ xs) m) (nothing p.more p.was) ∙ ap (λ (xs : List Item). named_place xs m) (append-nil changed) ∙ edited.leads m
            ∙ ap (λ (xs : List Item). place_after puts m (named_place xs m)) (sym same),
      ),
      p.nodes,
    )
  where
    some_is : (xs ys : List Item) → (let o : Option (List Item) = Some xs in o ≡ Some ys) → xs ≡ ys
    some_is xs ys e = cc

    same_rest : (xs ys : List Item) → xs ++ ys ≡ xs → ys ≡ []
    same_rest [] ys e = e
    same_rest (x ∷ xs) ys e = same_rest xs ys (let tails : xs ++ ys ≡ xs = cc in tails)

    nothing : (more : List Item) → entries_in old block ≡ Some (items ++ more) → more ≡ []
    nothing more was = same_rest items more (some_is (items ++ more) items (sym was ∙ all_read old block left items tail r last))

-- the state at first (0), with the entries read (1), and with the new directory written (2)
pub each_done : (f0 f1 f2 : Blocks) (k0 k1 k2 : ℕ → Bool) (block left : ℕ) (items changed listed : List Item) (tail : ℕ) (puts : List NamedPlace) (r : Result ℕ Fault) → f1 ≡ f0 → k1 ≡ k0 → listed ≡ changed
    → IsReadTo f0 block left items tail → tail ≡ 0 → IsPutEach items puts changed → IfOk r (λ to. PutsDirectory f1 k1 f2 k2 tail to listed) → IfOk r (λ to. IsDirectoryPut f0 f2 block to puts × IsFreshChain f0 f2 k0 k2 block to)
each_done f0 f1 f2 k0 k1 k2 block left items changed listed tail puts (Err fault) same_nodes same_kept same read last edited done = tt
each_done f0 f1 f2 k0 k1 k2 block left items changed listed tail puts (Ok to) same_nodes same_kept same read last edited done =
    each_written f0 f2 k0 k2 block left items changed tail to puts read last edited
    (subst (λ (f : Blocks). PutsDirectory f k0 f2 k2 tail to changed) same_nodes (subst (λ (k : ℕ → Bool). PutsDirectory f1 k f2 k2 tail to changed) same_kept (subst (PutsDirectory f1 k1 f2 k2 tail to) same done)))
