-- A file that gets other bytes, and keeps what it can.
use Rattle.std.proofs.Common.{◌≡◌, ◌∙◌, ◌⊎◌, inl, inr, ◌+◌, ◌≤◌, ◌-◌, ℕ, suc, Bool, true, false, cond, not, Option, Some, None, List, [], ◌∷◌, ◌++◌, length, take, drop, refl, sym, ap, ap₂, subst, append-nil, arith, length-drop}
use Rattle.std.proofs.lemmas.Bool.{eqb-true}
use Rattle.std.proofs.lemmas.List.{length-take-le, take_all, drop_all, take-append-drop, take-take}
use Rattle.std.specs.Prelude.{◌==◌, ◌&&◌, ◌||◌, min, nat_lt, replicate}
use Rattle.std.specs.Option.{is_none}
use Rattle.std.specs.FinMap.{get}
use Rattle.fs_types.specs.Names.{Path}
use Rattle.fs_types.specs.declared.call.Call.{Call}
use Rattle.plain_trees.specs.Contents.{Entry, Contents, overwritten, resized}
use Rattle.plain_trees.specs.Files.{file_put}
use Rattle.plain_trees.specs.Trees.{Tree, bytes_of, bytes_of_file}
use Rattle.plain_trees.proofs.Edits.{get-put}
use Rattle.history_machine.specs.Descriptors.{Descriptor, Descriptors, none_open, opened_at_least, truncates}
use Rattle.history_machine.specs.History.{Past}
use Rattle.history_machine.specs.Machine.{open_changes, refusal, machine_of, next, after}
use Rattle.tree_differences.specs.UpdateLaws.{EachAccepted}
use Rattle.tree_differences.specs.Updates.{common_length, editing, for_writing}
use Rattle.tree_differences.proofs.Assigned.{set_at}
use Rattle.tree_differences.proofs.Leading.{within, Leads, leads-trans, maybe_made, set_there, undue_made}
use Rattle.tree_differences.proofs.Pieces.{close_leads, either_made, set_twice, stands_then}

-- ---- what two files have in common

pub common_within : (bytes others : List ℕ) → (common_length bytes others ≤ length bytes) × (common_length bytes others ≤ length others)
common_within [] others = (omega arith, omega arith)
common_within (b ∷ bytes) [] = (omega arith, omega arith)
common_within (b ∷ bytes) (c ∷ others) = go (b == c) (common_within bytes others)
  where
    go : (same : Bool) → (common_length bytes others ≤ length bytes) × (common_length bytes others ≤ length others)
        → (cond same (suc (common_length bytes others)) 0 ≤ suc (length bytes)) × (cond same (suc (common_length bytes others)) 0 ≤ suc (length others))
    go true rest = (omega (arith, rest.0), omega (arith, rest.1))
    go false rest = (omega arith, omega arith)

pub common_taken : (bytes others : List ℕ) → take (common_length bytes others) bytes ≡ take (common_length bytes others) others
common_taken [] others = refl
common_taken (b ∷ bytes) [] = refl
common_taken (b ∷ bytes) (c ∷ others) = go (b == c) refl (common_taken bytes others)
  where
    go : (same : Bool) → (b == c) ≡ same → take (common_length bytes others) bytes ≡ take (common_length bytes others) others
        → take (cond same (suc (common_length bytes others)) 0) (b ∷ bytes) ≡ take (cond same (suc (common_length bytes others)) 0) (c ∷ others)
    go true is rest = ap₂ (λ (x : ℕ) (xs : List ℕ). x ∷ xs) (eqb-true b c is) rest
    go false is rest = refl

-- ---- the calls, one by one

abbrev pub opened_for : Path → Descriptor
opened_for p = record { path = p; flags = for_writing }

abbrev pub writes : Path → Descriptors
writes p = opened_at_least none_open (opened_for p)

module _ (h : Past Tree) (t : Tree) (due : Bool) (p : Path) (content : List ℕ) (there : get t p ≡ Some (Entry.File content)) where
  pub opens : refusal (within h t due none_open) (Call.Open p for_writing) ≡ None → Leads h t due (writes p) (next (within h t due none_open) (Call.Open p for_writing)) (get t)
  opens ok = record {
    tree = t;
    is_due = due;
    is = ap (machine_of (within h t due none_open) (Call.Open p for_writing)) ok ∙ maybe_made h t (file_put t p []) due (open_changes t p for_writing) (writes p)
        ∙ ap (λ (b : Bool). within h (cond b (file_put t p []) t) (cond b true due) (writes p)) stays;
    at = refl;
    undue = λ e. (e, refl);
  }
    where
      stays : open_changes t p for_writing ≡ false
      stays = ap (λ (o : Option Entry). is_none o || (truncates for_writing && nat_lt 0 (length (bytes_of o)))) there

  -- a call on the open file that leaves it these bytes, or nothing to do
  pub sets : (call : Call) (b : Bool) (now : List ℕ) (u : Tree) → next (within h t due (writes p)) call ≡ within h (cond (not b) u t) (cond (not b) true due) (writes p)
      → u ≡ file_put t p now → (b ≡ true → now ≡ content) → Leads h t due (writes p) (next (within h t due (writes p)) call) (set_at p (Some (Entry.File now)) (get t))
  sets call b now u made is idle = record {
    tree = cond (not b) u t;
    is_due = cond (not b) true due;
    is = made;
    at = at b idle;
    undue = undue_made t u due (not b);
  }
    where
      at : (b' : Bool) → (b' ≡ true → now ≡ content) → get (cond (not b') u t) ≡ set_at p (Some (Entry.File now)) (get t)
      at true same = set_there (get t) p (Some (Entry.File now)) (there ∙ ap (λ (xs : List ℕ). Some (Entry.File xs)) (sym (same refl)))
      at false same = ap get is ∙ (λ i q. get-put t p (Entry.File now) q i)

  pub holds : bytes_of_file t p ≡ content
  holds = ap bytes_of there

  pub cuts : (n : ℕ) → n ≤ length content → refusal (within h t due (writes p)) (Call.Ftruncate 0 n) ≡ None
      → Leads h t due (writes p) (next (within h t due (writes p)) (Call.Ftruncate 0 n)) (set_at p (Some (Entry.File (take n content))) (get t))
  cuts n within' ok = sets (Call.Ftruncate 0 n) (length (bytes_of_file t p) == n) (take n content) (file_put t p (resized (bytes_of_file t p) n))
      (ap (machine_of (within h t due (writes p)) (Call.Ftruncate 0 n)) ok ∙ either_made h t (file_put t p (resized (bytes_of_file t p) n)) due (length (bytes_of_file t p) == n) (writes p))
      (ap (file_put t p) cut) same
    where
      cut : resized (bytes_of_file t p) n ≡ take n content
      cut =
          let none : n - length content ≡ 0 = omega arith in
          ap (λ (xs : List ℕ). resized xs n) holds ∙ ap (λ (k : ℕ). take n content ++ replicate k 0) none ∙ append-nil (take n content)

      same : (length (bytes_of_file t p) == n) ≡ true → take n content ≡ content
      same e =
          let size : length content ≡ n = sym (ap length holds) ∙ eqb-true (length (bytes_of_file t p)) n e in
          take_all n content (omega (arith, size))

  puts : (k : ℕ) (bytes : List ℕ) → k ≤ length content → length content ≤ k + length bytes → refusal (within h t due (writes p)) (Call.Pwrite 0 k bytes) ≡ None
      → Leads h t due (writes p) (next (within h t due (writes p)) (Call.Pwrite 0 k bytes)) (set_at p (Some (Entry.File (take k content ++ bytes))) (get t))
  puts k bytes within' past ok = sets (Call.Pwrite 0 k bytes) (length bytes == 0) (take k content ++ bytes) (file_put t p (overwritten (bytes_of_file t p) k bytes))
      (ap (machine_of (within h t due (writes p)) (Call.Pwrite 0 k bytes)) ok ∙ either_made h t (file_put t p (overwritten (bytes_of_file t p) k bytes)) due (length bytes == 0) (writes p))
      (ap (file_put t p) over) same
    where
      over : overwritten (bytes_of_file t p) k bytes ≡ take k content ++ bytes
      over =
          let none : k - length content ≡ 0 = omega arith in
          let cut : resized content k ≡ take k content = ap (λ (j : ℕ). take k content ++ replicate j 0) none ∙ append-nil (take k content) in
          ap (λ (xs : List ℕ). overwritten xs k bytes) holds ∙ ap₂ (λ (xs ys : List ℕ). xs ++ bytes ++ ys) cut (drop_all (k + length bytes) content past) ∙ append-nil (take k content ++ bytes)

      nothing : (bs : List ℕ) → (length bs == 0) ≡ true → bs ≡ []
      nothing [] e = refl
      nothing (b ∷ bs) e = absurd (let l : length (b ∷ bs) ≡ 0 = eqb-true (length (b ∷ bs)) 0 e in omega arith)

      same : (length bytes == 0) ≡ true → take k content ++ bytes ≡ content
      same e =
          let none : bytes ≡ [] = nothing bytes e in
          let short : length content ≤ k = let l = ap length none in omega (arith, past, l) in
          ap (λ (xs : List ℕ). take k content ++ xs) none ∙ append-nil (take k content) ∙ take_all k content short

-- ---- all of them

-- what a file has that has the one's bytes or the other's, once it is cut and written
module _ (bytes others content : List ℕ) (either : (content ≡ bytes) ⊎ (content ≡ others)) where
  abbrev pub shared : ℕ
  shared = common_length bytes others

  abbrev pub least : ℕ
  least = min (length bytes) (length others)

  pub long : least ≤ length content
  long = go either
    where
      go : (content ≡ bytes) ⊎ (content ≡ others) → least ≤ length content
      go (inl is) = let l = ap length is in omega (arith, l)
      go (inr is) = let l = ap length is in omega (arith, l)

  pub shared_within : shared ≤ least
  shared_within = let both = common_within bytes others in let first = both.0 in let second = both.1 in omega (arith, first, second)

  pub shared_taken : take shared content ≡ take shared others
  shared_taken = go either
    where
      go : (content ≡ bytes) ⊎ (content ≡ others) → take shared content ≡ take shared others
      go (inl is) = ap (take shared) is ∙ common_taken bytes others
      go (inr is) = ap (take shared) is

  written : take shared (take least content) ++ drop shared others ≡ others
  written =
      ap (λ (xs : List ℕ). xs ++ drop shared others) (take-take shared least content shared_within ∙ shared_taken) ∙ take-append-drop shared others

pub editing_leads : (h : Past Tree) (t : Tree) (due : Bool) (p : Path) (bytes others content : List ℕ) → get t p ≡ Some (Entry.File content) → (content ≡ bytes) ⊎ (content ≡ others)
    → EachAccepted (within h t due none_open) (editing p bytes others) → Leads h t due none_open (after (within h t due none_open) (editing p bytes others)) (set_at p (Some (Entry.File others)) (get t))
editing_leads h t due p bytes others content there either each =
    let k : ℕ = common_length bytes others in
    let n : ℕ = min (length bytes) (length others) in
    let more : List ℕ = drop k others in
    let cut : List ℕ = take n content in
    let first = opens h t due p content there each.0 in
    let opened : get first.tree p ≡ Some (Entry.File content) = ap (λ (c : Contents). c p) first.at ∙ there in
    let second = cuts h first.tree first.is_due p content opened n (long bytes others content either) (subst (λ m. refusal m (Call.Ftruncate 0 n) ≡ None) first.is each.1.0) in
    let size : length cut ≡ n = length-take-le n content (long bytes others content either) in
    let here : get second.tree p ≡ Some (Entry.File cut) = ap (λ (c : Contents). c p) second.at ∙ stands_then (get first.tree) p (Some (Entry.File cut)) in
    let cut_next : next (next (within h t due none_open) (Call.Open p for_writing)) (Call.Ftruncate 0 n) ≡ within h second.tree second.is_due (writes p) = ap (λ m. next m (Call.Ftruncate 0 n)) first.is ∙ second.is in
    let inside = shared_within bytes others content either in
    let bound = common_within bytes others in
    let low = bound.1 in
    let third = puts h second.tree second.is_due p cut here k more (omega (arith, size, inside)) (omega (arith, size, length-drop k others, low)) (subst (λ m. refusal m (Call.Pwrite 0 k more) ≡ None) cut_next each.1.1.0) in
    let last = close_leads h third.tree third.is_due (opened_for p) in
    let x : Option Entry = Some (Entry.File (take k cut ++ more)) in
    let ends = leads-trans h second.tree second.is_due (writes p) none_open _ (Call.Close 0 ∷ []) (set_at p x (get second.tree)) (λ c. c) third last in
    let middle = leads-trans h first.tree first.is_due (writes p) none_open _ (Call.Pwrite 0 k more ∷ Call.Close 0 ∷ []) (set_at p (Some (Entry.File cut)) (get first.tree)) (set_at p x) second ends in
    let all = leads-trans h t due (writes p) none_open _ (Call.Ftruncate 0 n ∷ Call.Pwrite 0 k more ∷ Call.Close 0 ∷ []) (get t) (λ c. set_at p x (set_at p (Some (Entry.File cut)) c)) first middle in
    subst (Leads h t due none_open _) (set_twice (get t) p (Some (Entry.File cut)) x ∙ ap (λ (xs : List ℕ). set_at p (Some (Entry.File xs)) (get t)) (written bytes others content either)) all
