-- A file that gets other bytes, of which only what differs is written.
use Rattle.std.proofs.Common.{◌≡◌, ◌∙◌, ◌⊎◌, inl, inr, ◌+◌, ◌*◌, ◌/◌, ◌<◌, ◌≤◌, ◌-◌, ℕ, zero, suc, Bool, true, false, cond, Option, Some, None, List, [], ◌∷◌, ◌++◌, length, length-append, take, drop, map, refl, sym, ap, ap₂, subst, append-nil, arith, length-drop}
use Rattle.std.proofs.lemmas.Bool.{eqb-true, ltb-true, ltb-false}
use Rattle.std.proofs.lemmas.Grind.{div_ceil_times}
use Rattle.std.proofs.lemmas.List.{length-take-le, take_all, drop_all, drop-drop, take-append-drop, take-take}
use Rattle.std.proofs.Math.Nat.{div-mul-le_self}
use Rattle.std.proofs.Math.Seq.{take-append_seam}
use Rattle.std.specs.Int.{div_ceil}
use Rattle.std.specs.List.{range_with_len}
use Rattle.std.specs.Prelude.{◌==◌, nat_le, nat_lt, replicate}
use Rattle.std.specs.FinMap.{get}
use Rattle.fs_types.specs.Names.{Path}
use Rattle.fs_types.specs.declared.call.Call.{Call}
use Rattle.plain_trees.specs.Contents.{Entry, Contents, overwritten, resized}
use Rattle.plain_trees.specs.Files.{file_put}
use Rattle.plain_trees.specs.Trees.{Tree, bytes_of_file}
use Rattle.history_machine.specs.Descriptors.{none_open}
use Rattle.history_machine.specs.History.{Past}
use Rattle.history_machine.specs.Machine.{Machine, refusal, machine_of, next, after}
use Rattle.tree_differences.specs.UpdateLaws.{EachAccepted}
use Rattle.tree_differences.specs.Updates.{changed_bytes, changed_end, common_length, end_before, for_writing, patching, piece, rewriting}
use Rattle.tree_differences.specs.declared.laws_of_updates.TheConstants.{PIECE_BYTES}
use Rattle.tree_differences.proofs.Assigned.{set_at}
use Rattle.tree_differences.proofs.Editing.{common_within, cuts, holds, long, opened_for, opens, sets, shared_taken, shared_within, writes}
use Rattle.tree_differences.proofs.Leading.{within, Leads, leads-trans, after-append, accepted-parts}
use Rattle.tree_differences.proofs.Pieces.{close_leads, either_made, pieces_lead, set_twice, stands_then}

-- ---- what differs

-- behind the last place at which two files of one length differ they have the same
end_same : (bytes others : List ℕ) → length bytes ≡ length others → drop (changed_end bytes others) bytes ≡ drop (changed_end bytes others) others
end_same [] [] same = refl
end_same [] (c ∷ others) same = absurd (let l : 0 ≡ suc (length others) = same in omega (arith, l))
end_same (b ∷ bytes) [] same = absurd (let l : suc (length bytes) ≡ 0 = same in omega (arith, l))
end_same (b ∷ bytes) (c ∷ others) same = go (b == c) refl (changed_end bytes others) (end_same bytes others (omega (arith, same)))
  where
    go : (e : Bool) → (b == c) ≡ e → (n : ℕ) → drop n bytes ≡ drop n others → drop (end_before e n) (b ∷ bytes) ≡ drop (end_before e n) (c ∷ others)
    go true is zero rest = ap₂ (λ (x : ℕ) (xs : List ℕ). x ∷ xs) (eqb-true b c is) rest
    go true is (suc n) rest = rest
    go false is n rest = rest

pub end_within : (bytes others : List ℕ) → changed_end bytes others ≤ length others
end_within [] others = omega arith
end_within (b ∷ bytes) [] = omega arith
end_within (b ∷ bytes) (c ∷ others) = go (b == c) (changed_end bytes others) (end_within bytes others)
  where
    go : (e : Bool) (n : ℕ) → n ≤ length others → end_before e n ≤ suc (length others)
    go true zero rest = omega arith
    go true (suc n) rest = omega (arith, rest)
    go false n rest = omega (arith, rest)

-- what a file has that has the one's bytes or the other's, once what differs is put over it
module _ (bytes others content : List ℕ) (either : (content ≡ bytes) ⊎ (content ≡ others)) where
  abbrev shared : ℕ
  shared = common_length bytes others

  abbrev last : ℕ
  last = changed_end bytes others

  short : shared ≤ length content
  short = let inside = shared_within bytes others content either in let l = long bytes others content either in omega (arith, inside, l)

  -- what stands before it
  before : resized content shared ≡ take shared others
  before =
      let none : shared - length content ≡ 0 = omega (arith, short) in
      ap (λ (j : ℕ). take shared content ++ replicate j 0) none ∙ append-nil (take shared content) ∙ shared_taken bytes others content either

  -- and behind it
  behind : length bytes ≡ length others → drop last content ≡ drop last others
  behind size = go either
    where
      go : (content ≡ bytes) ⊎ (content ≡ others) → drop last content ≡ drop last others
      go (inl is) = ap (drop last) is ∙ end_same bytes others size
      go (inr is) = ap (drop last) is

  abbrev over : List ℕ → List ℕ
  over = overwritten content shared

  joined : (more rest : List ℕ) → over more ≡ resized content shared ++ more ++ rest → over more ≡ take shared others ++ more ++ rest
  joined more rest is = is ∙ ap (λ (xs : List ℕ). xs ++ more ++ rest) before

  to_the_end : over (drop shared others) ≡ others ++ drop (shared + length (drop shared others)) content
  to_the_end =
      let rest = drop (shared + length (drop shared others)) content in
      joined (drop shared others) rest refl ∙ ap (λ (xs : List ℕ). xs ++ rest) (take-append-drop shared others)

  abbrev up_to : List ℕ
  up_to = take last others

  to_the_last : length bytes ≡ length others → over (drop shared up_to) ≡ others
  to_the_last size = go (nat_lt last shared) refl
    where
      more : List ℕ
      more = drop shared up_to

      rest : List ℕ
      rest = drop (shared + length more) content

      inside : last ≤ length others
      inside = end_within bytes others

      taken : length up_to ≡ last
      taken = length-take-le last others inside

      go : (b : Bool) → nat_lt last shared ≡ b → over more ≡ others
      go true is =
          let below : last < shared = ltb-true last shared is in
          let none : more ≡ [] = drop_all shared up_to (omega (arith, taken, below)) in
          let at : shared + length more ≡ last + (shared - last) = let l = ap length none in omega (arith, l, below) in
          let split : last + (shared - last) ≡ shared = omega (arith, below) in
          let same : rest ≡ drop shared others =
          ap (λ (n : ℕ). drop n content) at ∙ sym (drop-drop (shared - last) last content) ∙ ap (drop (shared - last)) (behind size)
          ∙ drop-drop (shared - last) last others ∙ ap (λ (n : ℕ). drop n others) split in
          joined more rest refl ∙ ap₂ (λ (xs ys : List ℕ). take shared others ++ xs ++ ys) none same
          ∙ ap (λ (xs : List ℕ). xs ++ drop shared others) (append-nil (take shared others)) ∙ take-append-drop shared others
      go false is =
          let above : shared ≤ last = ltb-false last shared is in
          let at : shared + length more ≡ last = let l = length-drop shared up_to in omega (arith, l, taken, above) in
          let same : rest ≡ drop last others = ap (λ (n : ℕ). drop n content) at ∙ behind size in
          joined more rest refl ∙ ap₂ (λ (xs ys : List ℕ). xs ++ more ++ ys) (sym (take-take shared last others above)) same
          ∙ ap (λ (xs : List ℕ). xs ++ drop last others) (take-append-drop shared up_to)
          ∙ take-append-drop last others

  -- what has the bytes, and perhaps more
  begins : (now rest : List ℕ) → now ≡ others ++ rest → (length others ≤ length now) × (take (length others) now ≡ others)
  begins now rest is =
      let l : length now ≡ length others + length rest = ap length is ∙ length-append others rest in
      (omega (arith, l), ap (take (length others)) is ∙ take-append_seam others rest)

  pub written : (length others ≤ length (over (changed_bytes bytes others))) × (take (length others) (over (changed_bytes bytes others)) ≡ others)
  written = go (length bytes == length others) refl
    where
      go : (b : Bool) → (length bytes == length others) ≡ b → (length others ≤ length (over (drop shared (cond b up_to others)))) × (take (length others) (over (drop shared (cond b up_to others))) ≡ others)
      go true is = begins (over (drop shared up_to)) [] (to_the_last (eqb-true (length bytes) (length others) is) ∙ sym (append-nil others))
      go false is = begins (over (drop shared others)) (drop (shared + length (drop shared others)) content) to_the_end

-- ---- the calls

module _ (h : Past Tree) (t : Tree) (due : Bool) (p : Path) (content : List ℕ) (there : get t p ≡ Some (Entry.File content)) where
  overwrites : (k : ℕ) (bytes : List ℕ) → k ≤ length content → refusal (within h t due (writes p)) (Call.Pwrite 0 k bytes) ≡ None
      → Leads h t due (writes p) (next (within h t due (writes p)) (Call.Pwrite 0 k bytes)) (set_at p (Some (Entry.File (overwritten content k bytes))) (get t))
  overwrites k bytes inside ok = sets h t due p content there (Call.Pwrite 0 k bytes) (length bytes == 0) (overwritten content k bytes) (file_put t p (overwritten (bytes_of_file t p) k bytes))
      (ap (machine_of (within h t due (writes p)) (Call.Pwrite 0 k bytes)) ok ∙ either_made h t (file_put t p (overwritten (bytes_of_file t p) k bytes)) due (length bytes == 0) (writes p))
      (ap (λ (xs : List ℕ). file_put t p (overwritten xs k bytes)) (holds h t due p content there)) (λ e. idle bytes (eqb-true (length bytes) 0 e))
    where
      idle : (bs : List ℕ) → length bs ≡ 0 → overwritten content k bs ≡ content
      idle [] e =
          let none : k - length content ≡ 0 = omega (arith, inside) in
          let same : k + 0 ≡ k = omega arith in
          ap₂ (λ (xs ys : List ℕ). xs ++ [] ++ ys) (ap (λ (j : ℕ). take k content ++ replicate j 0) none ∙ append-nil (take k content)) (ap (λ (n : ℕ). drop n content) same)
          ∙ ap (λ (xs : List ℕ). xs ++ drop k content) (append-nil (take k content)) ∙ take-append-drop k content
      idle (b ∷ bs) e = absurd (omega (arith, e))

module _ (h : Past Tree) (t : Tree) (due : Bool) (p : Path) (bytes others content : List ℕ) (there : get t p ≡ Some (Entry.File content)) (either : (content ≡ bytes) ⊎ (content ≡ others)) where
  abbrev n : Machine
  n = within h t due none_open

  short_leads : EachAccepted n (Call.Open p for_writing ∷ Call.Pwrite 0 (common_length bytes others) (changed_bytes bytes others) ∷ Call.Ftruncate 0 (length others) ∷ Call.Close 0 ∷ [])
      → Leads h t due none_open (after n (Call.Open p for_writing ∷ Call.Pwrite 0 (common_length bytes others) (changed_bytes bytes others) ∷ Call.Ftruncate 0 (length others) ∷ Call.Close 0 ∷ []))
      (set_at p (Some (Entry.File others)) (get t))
  short_leads each =
      let k : ℕ = common_length bytes others in
      let more : List ℕ = changed_bytes bytes others in
      let now : List ℕ = overwritten content k more in
      let first = opens h t due p content there each.0 in
      let opened : get first.tree p ≡ Some (Entry.File content) = ap (λ (c : Contents). c p) first.at ∙ there in
      let second = overwrites h first.tree first.is_due p content opened k more (short bytes others content either) (subst (λ m. refusal m (Call.Pwrite 0 k more) ≡ None) first.is each.1.0) in
      let here : get second.tree p ≡ Some (Entry.File now) = ap (λ (c : Contents). c p) second.at ∙ stands_then (get first.tree) p (Some (Entry.File now)) in
      let put_next : next (next n (Call.Open p for_writing)) (Call.Pwrite 0 k more) ≡ within h second.tree second.is_due (writes p) = ap (λ m. next m (Call.Pwrite 0 k more)) first.is ∙ second.is in
      let whole = written bytes others content either in
      let third = cuts h second.tree second.is_due p now here (length others) whole.0 (subst (λ m. refusal m (Call.Ftruncate 0 (length others)) ≡ None) put_next each.1.1.0) in
      let last = close_leads h third.tree third.is_due (opened_for p) in
      let x : Option Entry = Some (Entry.File (take (length others) now)) in
      let ends = leads-trans h second.tree second.is_due (writes p) none_open _ (Call.Close 0 ∷ []) (set_at p x (get second.tree)) (λ c. c) third last in
      let middle = leads-trans h first.tree first.is_due (writes p) none_open _ (Call.Ftruncate 0 (length others) ∷ Call.Close 0 ∷ []) (set_at p (Some (Entry.File now)) (get first.tree)) (set_at p x) second ends in
      let all = leads-trans h t due (writes p) none_open _ (Call.Pwrite 0 k more ∷ Call.Ftruncate 0 (length others) ∷ Call.Close 0 ∷ []) (get t) (λ c. set_at p x (set_at p (Some (Entry.File now)) c)) first middle in
      subst (Leads h t due none_open _) (set_twice (get t) p (Some (Entry.File now)) x ∙ ap (λ (xs : List ℕ). set_at p (Some (Entry.File xs)) (get t)) whole.1) all

  -- the pieces before the first byte that differs
  abbrev kept : ℕ
  kept = common_length bytes others / PIECE_BYTES

  kept_within : kept * PIECE_BYTES ≤ common_length bytes others
  kept_within = div-mul-le_self (common_length bytes others) PIECE_BYTES

  kept_taken : take (kept * PIECE_BYTES) content ≡ take (kept * PIECE_BYTES) others
  kept_taken =
      sym (take-take (kept * PIECE_BYTES) (common_length bytes others) content kept_within) ∙ ap (take (kept * PIECE_BYTES)) (shared_taken bytes others content either)
      ∙ take-take (kept * PIECE_BYTES) (common_length bytes others) others kept_within

  long_leads : EachAccepted n (rewriting p kept others) → Leads h t due none_open (after n (rewriting p kept others)) (set_at p (Some (Entry.File others)) (get t))
  long_leads each =
      let size : ℕ = kept * PIECE_BYTES in
      let count : ℕ = div_ceil (length others) PIECE_BYTES in
      let pieces : List Call = map (piece others) (range_with_len kept (count - kept)) in
      let inside = kept_within in
      let room = short bytes others content either in
      let both = common_within bytes others in
      let low = both.1 in
      let bounds = div_ceil_times (length others) PIECE_BYTES (omega arith) in
      let first = opens h t due p content there each.0 in
      let opened : get first.tree p ≡ Some (Entry.File content) = ap (λ (c : Contents). c p) first.at ∙ there in
      let second = cuts h first.tree first.is_due p content opened size (omega (arith, inside, room)) (subst (λ m. refusal m (Call.Ftruncate 0 size) ≡ None) first.is each.1.0) in
      let cut : Option Entry = Some (Entry.File (take size content)) in
      let here : get second.tree p ≡ Some (Entry.File (take size others)) =
      ap (λ (c : Contents). c p) second.at ∙ stands_then (get first.tree) p cut ∙ ap (λ (xs : List ℕ). Some (Entry.File xs)) kept_taken in
      let cut_next : next (next n (Call.Open p for_writing)) (Call.Ftruncate 0 size) ≡ within h second.tree second.is_due (writes p) = ap (λ m. next m (Call.Ftruncate 0 size)) first.is ∙ second.is in
      let parts = accepted-parts (within h second.tree second.is_due (writes p)) pieces (Call.Close 0 ∷ []) (subst (λ m. EachAccepted m (pieces ++ Call.Close 0 ∷ [])) cut_next each.1.1) in
      let third = pieces_lead for_writing h second.tree second.is_due p others kept (count - kept) here (λ i below. omega (arith, below, bounds, inside, low)) parts.0 in
      let last = close_leads h third.tree third.is_due (opened_for p) in
      let x : Option Entry = Some (Entry.File (take ((kept + (count - kept)) * PIECE_BYTES) others)) in
      let whole : take ((kept + (count - kept)) * PIECE_BYTES) others ≡ others = take_all ((kept + (count - kept)) * PIECE_BYTES) others (omega (arith, bounds)) in
      let ends = leads-trans h second.tree second.is_due (writes p) none_open _ (Call.Close 0 ∷ []) (set_at p x (get second.tree)) (λ c. c) third last in
      let closed = subst (λ k. Leads h second.tree second.is_due none_open k (set_at p x (get second.tree))) (sym (after-append (within h second.tree second.is_due (writes p)) pieces (Call.Close 0 ∷ []))) ends in
      let middle = leads-trans h first.tree first.is_due (writes p) none_open _ (pieces ++ Call.Close 0 ∷ []) (set_at p cut (get first.tree)) (set_at p x) second closed in
      let all = leads-trans h t due (writes p) none_open _ (Call.Ftruncate 0 size ∷ (pieces ++ Call.Close 0 ∷ [])) (get t) (λ c. set_at p x (set_at p cut c)) first middle in
      subst (Leads h t due none_open _) (set_twice (get t) p cut x ∙ ap (λ (xs : List ℕ). set_at p (Some (Entry.File xs)) (get t)) whole) all

  pub patching_leads : EachAccepted n (patching p bytes others) → Leads h t due none_open (after n (patching p bytes others)) (set_at p (Some (Entry.File others)) (get t))
  patching_leads = go (nat_le (length (changed_bytes bytes others)) PIECE_BYTES)
    where
      go : (b : Bool) → EachAccepted n (cond b (Call.Open p for_writing ∷ Call.Pwrite 0 (common_length bytes others) (changed_bytes bytes others) ∷ Call.Ftruncate 0 (length others) ∷ Call.Close 0 ∷ []) (rewriting p kept others))
          → Leads h t due none_open (after n (cond b (Call.Open p for_writing ∷ Call.Pwrite 0 (common_length bytes others) (changed_bytes bytes others) ∷ Call.Ftruncate 0 (length others) ∷ Call.Close 0 ∷ []) (rewriting p kept others))) (set_at p (Some (Entry.File others)) (get t))
      go true each = short_leads each
      go false each = long_leads each
