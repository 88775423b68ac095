-- A file that is written piece by piece.
use Rattle.std.proofs.Common.{◌≡◌, ◌∙◌, ◌⊎◌, inl, inr, ◌+◌, ◌*◌, ◌<◌, ◌≤◌, ◌-◌, ℕ, zero, suc, Bool, true, false, cond, not, Option, Some, None, List, [], ◌∷◌, ◌++◌, length, take, drop, map, refl, sym, ap, ap₂, subst, append-nil, arith}
use Rattle.std.proofs.lemmas.Bool.{ltb-false, eqb-true}
use Rattle.std.proofs.lemmas.List.{length-take-le, take_all, drop_all}
use Rattle.std.proofs.lemmas.Grind.{div_ceil_times}
use Rattle.std.proofs.Math.Seq.{take-add}
use Rattle.std.specs.Prelude.{◌==◌, ◌&&◌, ◌||◌, nat_le, nat_lt, replicate}
use Rattle.std.specs.Int.{div_ceil}
use Rattle.std.specs.List.{range_with_len}
use Rattle.std.specs.Option.{is_none, option_map_or, option_and_then}
use Rattle.std.specs.FinMap.{get}
use Rattle.fs_types.specs.Names.{Path, same_path}
use Rattle.fs_types.specs.declared.call.Call.{Call}
use Rattle.fs_types.specs.declared.open_flags.OpenFlags.{OpenFlags}
use Rattle.fs_types.proofs.Orders.{same_path-own}
use Rattle.plain_trees.specs.Contents.{Entry, Contents, overwritten, resized}
use Rattle.plain_trees.specs.Trees.{Tree, bytes_of, bytes_of_file}
use Rattle.plain_trees.proofs.Edits.{get-put}
use Rattle.plain_trees.proofs.Beneath.{None≢Some}
use Rattle.history_machine.specs.Descriptors.{Descriptor, Descriptors, none_open, opened_at_least, truncates}
use Rattle.history_machine.specs.History.{Past, IsLawful, changed, group_with}
use Rattle.history_machine.specs.Laws.{anew}
use Rattle.history_machine.specs.Machine.{Machine, machine_with, open_changes, refusal, machine_of, next, after}
use Rattle.plain_trees.specs.Files.{file_put}
use Rattle.history_machine.proofs.Accepted.{open-accepted}
use Rattle.tree_differences.specs.UpdateLaws.{EachAccepted}
use Rattle.tree_differences.specs.Updates.{piece, writing}
use Rattle.tree_differences.specs.declared.laws_of_updates.TheConstants.{PIECE_BYTES}
use Rattle.tree_differences.proofs.Assigned.{set_at}
use Rattle.tree_differences.proofs.Leading.{group_of, within, opened_anew, opened_with, Leads, leads-refl, leads-trans, after-append, accepted-parts, never, set_there, maybe_made, undue_made, write_leads}

-- what was put at a path is put over
pub set_twice : (c : Contents) (p : Path) (x y : Option Entry) → set_at p y (set_at p x c) ≡ set_at p y c
set_twice c p x y i q = go (same_path q p) i
  where
    go : (b : Bool) → cond b y (cond b x (c q)) ≡ cond b y (c q)
    go true = refl
    go false = refl

-- ---- the file is opened

-- an open that changes nothing found an empty file
empty_there : (t : Tree) (p : Path) (o : Option Entry) → get t p ≡ o → (o ≡ None) ⊎ ((bytes : List ℕ) × (o ≡ Some (Entry.File bytes))) → is_none o || (truncates anew && nat_lt 0 (length (bytes_of o))) ≡ false
    → o ≡ Some (Entry.File [])
empty_there t p None is what e = never e
empty_there t p (Some Entry.Dir) is (inl none) e = absurd (None≢Some (sym none))
empty_there t p (Some Entry.Dir) is (inr (bytes, file)) e = absurd (let wrong : Some Entry.Dir ≡ Some (Entry.File bytes) = file in cc)
empty_there t p (Some (Entry.File [])) is what e = refl
empty_there t p (Some (Entry.File (b ∷ bytes))) is what e = absurd (let l : length (b ∷ bytes) ≤ 0 = ltb-false 0 (length (b ∷ bytes)) e in omega arith)

either_there : (t : Tree) (p : Path) (full : Type 0) → (get t p ≡ None) × full ⊎ ((bytes : List ℕ) × (get t p ≡ Some (Entry.File bytes))) → (get t p ≡ None) ⊎ ((bytes : List ℕ) × (get t p ≡ Some (Entry.File bytes)))
either_there t p full (inl new) = inl new.0
either_there t p full (inr file) = inr file

open_leads : (h : Past Tree) (t : Tree) (due : Bool) (p : Path) → refusal (within h t due none_open) (Call.Open p anew) ≡ None
    → Leads h t due (opened_anew p) (next (within h t due none_open) (Call.Open p anew)) (set_at p (Some (Entry.File [])) (get t))
open_leads h t due p ok = record {
  tree = cond b u t;
  is_due = cond b true due;
  is = ap (machine_of n (Call.Open p anew)) ok ∙ maybe_made h t u due b (opened_anew p);
  at = at b refl;
  undue = undue_made t u due b;
}
  where
    n : Machine
    n = within h t due none_open

    u : Tree
    u = file_put t p []

    b : Bool
    b = open_changes t p anew

    at : (b' : Bool) → b ≡ b' → get (cond b u t) ≡ set_at p (Some (Entry.File [])) (get t)
    at true e = ap (λ (x : Bool). get (cond x u t)) e ∙ (λ i q. get-put t p (Entry.File []) q i)
    at false e =
        let there : get t p ≡ Some (Entry.File []) = empty_there t p (get t p) refl (either_there t p _ (open-accepted n p anew ok).what) e in
        ap (λ (x : Bool). get (cond x u t)) e ∙ set_there (get t) p (Some (Entry.File [])) there

-- ---- a piece

over_end : (old bytes : List ℕ) (offset : ℕ) → offset ≡ length old → overwritten old offset bytes ≡ old ++ bytes
over_end old bytes offset is =
    let cut : resized old offset ≡ old =
    ap₂ (λ (xs ys : List ℕ). xs ++ ys) (take_all offset old (omega (arith, is))) (ap (λ (k : ℕ). replicate k 0) (let none : offset - length old ≡ 0 = omega (arith, is) in none)) ∙ append-nil old in
    ap₂ (λ (xs ys : List ℕ). xs ++ bytes ++ ys) cut (drop_all (offset + length bytes) old (omega (arith, is))) ∙ append-nil (old ++ bytes)

no_bytes : (bytes : List ℕ) → (length bytes == 0) ≡ true → bytes ≡ []
no_bytes [] e = refl
no_bytes (b ∷ bytes) e = absurd (let l : length (b ∷ bytes) ≡ 0 = eqb-true (length (b ∷ bytes)) 0 e in omega arith)

-- the machine after a call that makes none where a test holds
pub either_made : (h : Past Tree) (t u : Tree) (due b : Bool) (ds : Descriptors)
    → machine_with (option_map_or (changed h) (option_and_then (λ (v : Tree). let r : Option Tree = None in r) (cond b None (Some u))) h) (option_map_or (group_with (Some (group_of t due))) (cond b None (Some u)) (Some (group_of t due))) ds
    ≡ within h (cond (not b) u t) (cond (not b) true due) ds
either_made h t u due true ds = refl
either_made h t u due false ds = refl

piece_leads : (f : OpenFlags) (h : Past Tree) (t : Tree) (due : Bool) (p : Path) (old bytes : List ℕ) (offset : ℕ) → get t p ≡ Some (Entry.File old) → offset ≡ length old
    → refusal (within h t due (opened_with f p)) (Call.Pwrite 0 offset bytes) ≡ None
    → Leads h t due (opened_with f p) (next (within h t due (opened_with f p)) (Call.Pwrite 0 offset bytes)) (set_at p (Some (Entry.File (old ++ bytes))) (get t))
piece_leads f h t due p old bytes offset there is ok = record {
  tree = cond (not b) u t;
  is_due = cond (not b) true due;
  is = ap (machine_of n (Call.Pwrite 0 offset bytes)) ok ∙ either_made h t u due b (opened_with f p);
  at = at b refl;
  undue = undue_made t u due (not b);
}
  where
    n : Machine
    n = within h t due (opened_with f p)

    u : Tree
    u = file_put t p (overwritten (bytes_of_file t p) offset bytes)

    b : Bool
    b = length bytes == 0

    all : overwritten (bytes_of_file t p) offset bytes ≡ old ++ bytes
    all = ap (λ (o : Option Entry). overwritten (bytes_of o) offset bytes) there ∙ over_end old bytes offset is

    at : (b' : Bool) → b ≡ b' → get (cond (not b) u t) ≡ set_at p (Some (Entry.File (old ++ bytes))) (get t)
    at true e =
        let same : get t p ≡ Some (Entry.File (old ++ bytes)) = there ∙ ap (λ (xs : List ℕ). Some (Entry.File xs)) (sym (append-nil old) ∙ ap (λ (xs : List ℕ). old ++ xs) (sym (no_bytes bytes e))) in
        ap (λ (x : Bool). get (cond (not x) u t)) e ∙ set_there (get t) p (Some (Entry.File (old ++ bytes))) same
    at false e =
        ap (λ (x : Bool). get (cond (not x) u t)) e ∙ (λ i q. get-put t p (Entry.File (overwritten (bytes_of_file t p) offset bytes)) q i)
        ∙ ap (λ (xs : List ℕ). set_at p (Some (Entry.File xs)) (get t)) all

-- ---- all pieces

pub stands_then : (c : Contents) (p : Path) (x : Option Entry) → set_at p x c p ≡ x
stands_then c p x = ap (λ b. cond b x (c p)) (same_path-own p)

-- pieces from one place on, of which each begins within the bytes
pub pieces_lead : (f : OpenFlags) (h : Past Tree) (t : Tree) (due : Bool) (p : Path) (bytes : List ℕ) (i k : ℕ) → get t p ≡ Some (Entry.File (take (i * PIECE_BYTES) bytes)) → ((j : ℕ) → j < i + k → j * PIECE_BYTES ≤ length bytes)
    → EachAccepted (within h t due (opened_with f p)) (map (piece bytes) (range_with_len i k))
    → Leads h t due (opened_with f p) (after (within h t due (opened_with f p)) (map (piece bytes) (range_with_len i k))) (set_at p (Some (Entry.File (take ((i + k) * PIECE_BYTES) bytes))) (get t))
pieces_lead f h t due p bytes i zero there starts each =
    let none : i + 0 ≡ i = omega arith in
    let same : get t p ≡ Some (Entry.File (take ((i + 0) * PIECE_BYTES) bytes)) = there ∙ ap (λ (n : ℕ). Some (Entry.File (take (n * PIECE_BYTES) bytes))) (sym none) in
    subst (Leads h t due (opened_with f p) (within h t due (opened_with f p))) (set_there (get t) p (Some (Entry.File (take ((i + 0) * PIECE_BYTES) bytes))) same) (leads-refl h t due (opened_with f p))
pieces_lead f h t due p bytes i (suc k) there starts each =
    let old : List ℕ = take (i * PIECE_BYTES) bytes in
    let more : List ℕ = take PIECE_BYTES (drop (i * PIECE_BYTES) bytes) in
    let begins : i * PIECE_BYTES ≤ length bytes = starts i (omega arith) in
    let first = piece_leads f h t due p old more (i * PIECE_BYTES) there (sym (length-take-le (i * PIECE_BYTES) bytes begins)) each.0 in
    let joined : old ++ more ≡ take ((i + 1) * PIECE_BYTES) bytes =
    sym (take-add (i * PIECE_BYTES) PIECE_BYTES bytes) ∙ ap (λ (n : ℕ). take n bytes) (let e : i * 30000 + 30000 ≡ (i + 1) * 30000 = omega arith in e) in
    let here : get first.tree p ≡ Some (Entry.File (take ((i + 1) * PIECE_BYTES) bytes)) =
    ap (λ (c : Contents). c p) first.at ∙ stands_then (get t) p (Some (Entry.File (old ++ more))) ∙ ap (λ (xs : List ℕ). Some (Entry.File xs)) joined in
    let rest = pieces_lead f h first.tree first.is_due p bytes (i + 1) k here (λ j below. starts j (omega arith)) (subst (λ n. EachAccepted n (map (piece bytes) (range_with_len (i + 1) k))) first.is each.1) in
    let x : Option Entry = Some (Entry.File (take ((i + 1 + k) * PIECE_BYTES) bytes)) in
    let all = leads-trans h t due (opened_with f p) (opened_with f p) _ (map (piece bytes) (range_with_len (i + 1) k)) (set_at p (Some (Entry.File (old ++ more))) (get t)) (set_at p x) first rest in
    let sum : i + 1 + k ≡ i + suc k = omega arith in
    subst (Leads h t due (opened_with f p) _) (set_twice (get t) p (Some (Entry.File (old ++ more))) x ∙ ap (λ (n : ℕ). set_at p (Some (Entry.File (take (n * PIECE_BYTES) bytes))) (get t)) sum) all

pub close_leads : (h : Past Tree) (t : Tree) (due : Bool) (d : Descriptor) → Leads h t due none_open (next (within h t due (opened_at_least none_open d)) (Call.Close 0)) (get t)
close_leads h t due d = record { tree = t; is_due = due; is = refl; at = refl; undue = λ e. (e, refl) }

-- a file gets bytes
pub writing_leads : (h : Past Tree) (t : Tree) (due : Bool) (p : Path) (bytes : List ℕ) → IsLawful h → EachAccepted (within h t due none_open) (writing p bytes)
    → Leads h t due none_open (after (within h t due none_open) (writing p bytes)) (set_at p (Some (Entry.File bytes)) (get t))
writing_leads h t due p bytes lawful = go (nat_le (length bytes) PIECE_BYTES)
  where
    n : Machine
    n = within h t due none_open

    count : ℕ
    count = div_ceil (length bytes) PIECE_BYTES

    pieces : List Call
    pieces = map (piece bytes) (range_with_len 0 count)

    go : (b : Bool) → EachAccepted n (cond b (Call.WriteFile p bytes ∷ []) (Call.Open p anew ∷ (map (piece bytes) (range_with_len 0 (div_ceil (length bytes) PIECE_BYTES)) ++ Call.Close 0 ∷ [])))
        → Leads h t due none_open (after n (cond b (Call.WriteFile p bytes ∷ []) (Call.Open p anew ∷ (map (piece bytes) (range_with_len 0 (div_ceil (length bytes) PIECE_BYTES)) ++ Call.Close 0 ∷ [])))) (set_at p (Some (Entry.File bytes)) (get t))
    go true each = write_leads h t due p bytes lawful each.0
    go false each =
        let first = open_leads h t due p each.0 in
        let bounds = div_ceil_times (length bytes) PIECE_BYTES (omega arith) in
        let parts = accepted-parts (within h first.tree first.is_due (opened_anew p)) pieces (Call.Close 0 ∷ []) (subst (λ k. EachAccepted k (pieces ++ Call.Close 0 ∷ [])) first.is each.1) in
        let here : get first.tree p ≡ Some (Entry.File (take (0 * PIECE_BYTES) bytes)) = ap (λ (c : Contents). c p) first.at ∙ stands_then (get t) p (Some (Entry.File [])) in
        let middle = pieces_lead anew h first.tree first.is_due p bytes 0 count here (λ j below. (let low : j < count = omega arith in omega (arith, bounds, low))) parts.0 in
        let last = close_leads h middle.tree middle.is_due (record { path = p; flags = anew }) in
        let whole : take ((0 + count) * PIECE_BYTES) bytes ≡ bytes = take_all ((0 + count) * PIECE_BYTES) bytes (omega (arith, bounds)) in
        let x : Option Entry = Some (Entry.File (take ((0 + count) * PIECE_BYTES) bytes)) in
        let later = leads-trans h first.tree first.is_due (opened_anew p) none_open _ (Call.Close 0 ∷ []) (set_at p x (get first.tree)) (λ c. c) middle last in
        let joined = subst (λ k. Leads h first.tree first.is_due none_open k (set_at p x (get first.tree))) (sym (after-append (within h first.tree first.is_due (opened_anew p)) pieces (Call.Close 0 ∷ []))) later in
        let all = leads-trans h t due (opened_anew p) none_open _ (pieces ++ Call.Close 0 ∷ []) (set_at p (Some (Entry.File [])) (get t)) (set_at p x) first joined in
        subst (Leads h t due none_open _) (set_twice (get t) p (Some (Entry.File [])) x ∙ ap (λ (xs : List ℕ). set_at p (Some (Entry.File xs)) (get t)) whole) all
