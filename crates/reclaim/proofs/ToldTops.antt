-- What the nodes that were read told of last slots.
use Rattle.std.proofs.Common.{◌≡◌, inl, inr, ℕ, zero, suc, ◌+◌, ◌<◌, ◌≤◌, Bool, true, false, cond, Option, Some, None, List, [], ◌∷◌, ◌++◌, length, take, refl, sym, ap, subst, ◌∙◌, arith}
use Rattle.std.specs.Prelude.{Contains, slice_index}
use Rattle.std.specs.FinSet as set
use Rattle.std.specs.Ordering.{nat_cmp}
use Rattle.std.specs.List.{flat_map}
use Rattle.std.proofs.lemmas.Bool.{true≢false}
use Rattle.std.proofs.lemmas.List.{flat_map_more}
use Rattle.std.proofs.lemmas.List.Elements.{Contains-append_cases}
use Rattle.node_format.specs.BodyNodes.{HasSlot}
use Rattle.node_format.specs.declared.headers.TheConstants.{SLOTS}
use Rattle.nodes.specs.Bodies.{Blocks, index_of, pointer_of}
use Rattle.nodes.specs.Reached.{Reached}
use Rattle.reclaim.specs.Looks.{Says}
use Rattle.reclaim.specs.Naming.{has_slot}
use Rattle.reclaim.specs.Passes.{Pass, IsPass, Advances}
use Rattle.reclaim.specs.Tables.{HasSeen}
use Rattle.reclaim.specs.Tops.{top_below, top_by, top_of, steps_below, steps_by, steps_of, FitTops, KeepsTops, steps_read, TopsAreTold}
use Rattle.reclaim.specs.Verified.{AreRoots}
use Rattle.reclaim.specs.declared.looks.Parts.{Parts}
use Rattle.reclaim.specs.declared.tops.Tops.{Tops}
use Rattle.reclaim.proofs.BodyChains.{tree_step}
use Rattle.reclaim.proofs.HeadLengths.{entry_in, entry_of, seen_taken, taken_listed, taken_on}
use Rattle.reclaim.proofs.NamedLaws.{divides-has_slot}
use Rattle.reclaim.proofs.Steps.{steps_from}

-- ---- what parts tell

tops_same : (p q : ℕ → ℕ) (index n : ℕ) → ((x : ℕ) → x < n → p x ≡ q x) → top_below p index n ≡ top_below q index n
unfolding top_below
tops_same p q index zero same = refl
tops_same p q index (suc x) same = on (has_slot index x) (tops_same p q index x (λ y less. same y (omega (arith, less))))
  where
    on : (t : Bool) → top_below p index x ≡ top_below q index x → cond t (p x) (top_below p index x) ≡ cond t (q x) (top_below q index x)
    on true before = same x (omega arith)
    on false before = before

steps_same : (p q : ℕ → ℕ) (index n : ℕ) → ((x : ℕ) → x ≤ n → p x ≡ q x) → steps_below p index n ≡ steps_below q index n
unfolding steps_below
steps_same p q index zero same = refl
steps_same p q index (suc x) same = on (has_slot index (suc x)) (steps_same p q index x (λ y less. same y (omega (arith, less))))
  where
    on : (t : Bool) → steps_below p index x ≡ steps_below q index x → cond t (steps_below p index x ++ (p x, p (suc x)) ∷ []) (steps_below p index x) ≡ cond t (steps_below q index x ++ (q x, q (suc x)) ∷ []) (steps_below q index x)
    on true before =
        ap (λ (l : List (ℕ × ℕ)). l ++ (p x, p (suc x)) ∷ []) before ∙ ap (λ (b : ℕ). steps_below q index x ++ (b, p (suc x)) ∷ []) (same x (omega arith))
        ∙ ap (λ (b : ℕ). steps_below q index x ++ (q x, b) ∷ []) (same (suc x) (omega arith))
    on false before = before

pub top_said : (node : Option (List ℕ)) (parts : Parts) → Says node parts → top_by (slice_index parts.pointers.items) parts.index ≡ top_of node
top_said node parts says = ap (top_by (slice_index parts.pointers.items)) says.named.index_is ∙ on (index_of node)
  where
    on : (o : Option ℕ) → top_by (slice_index parts.pointers.items) o ≡ top_by (pointer_of node) o
    on None = refl
    on (Some i) = tops_same (slice_index parts.pointers.items) (pointer_of node) i SLOTS says.named.pointers_are

pub steps_said : (node : Option (List ℕ)) (parts : Parts) → Says node parts → steps_by (slice_index parts.pointers.items) parts.index ≡ steps_of node
steps_said node parts says = ap (steps_by (slice_index parts.pointers.items)) says.named.index_is ∙ on (index_of node)
  where
    on : (o : Option ℕ) → steps_by (slice_index parts.pointers.items) o ≡ steps_by (pointer_of node) o
    on None = refl
    on (Some i) = steps_same (slice_index parts.pointers.items) (pointer_of node) i 15 (λ x less. says.named.pointers_are x (omega (arith, less)))

-- ---- where all was read

-- the node that a slot names has at its last slot what the next slot names
pub told_top : (f : Blocks) (p : Pass) (t : Tops) → IsPass f p → TopsAreTold f p t → (b i x : ℕ) → HasSeen p b → index_of (f b) ≡ Some i → HasSlot i (suc x) → HasSeen p (pointer_of (f b) x)
    → top_of (f (pointer_of (f b) x)) ≡ pointer_of (f b) (suc x)
told_top f p t pass tops b i x seen is has there =
    let one : ℕ × ℕ = (pointer_of (f b) x, pointer_of (f b) (suc x)) in
    let own : Contains (steps_of (f b)) one =
    subst (λ (o : Option ℕ). Contains (steps_by (pointer_of (f b)) o) one) (sym is) (steps_from (pointer_of (f b)) i x 15 (omega (arith, has.0)) (divides-has_slot i (suc x) has.1 has.2)) in
    sym (tops.read (pointer_of (f b) x) (tops.all (pointer_of (f b) x) (seen_taken f p (pointer_of (f b) x) pass there)))
    ∙ (tops.kept one (entry_in (λ c. steps_of (f c)) (take p.next p.order) b one (seen_taken f p b pass seen) own)).1

-- ---- where roots have trees

-- all that was told is so, and what a block tells that is read next
pub tree_tops : (limit : ℕ) (f : Blocks) (roots : List ℕ) → AreRoots limit f roots → f 0 ≡ None → (p : Pass) (block : ℕ) (steps : List (ℕ × ℕ)) → p.roots ≡ roots → IsPass f p → Reached f roots block → steps ≡ steps_of (f block)
    → FitTops (λ c. top_of (f c)) (steps_read f p ++ steps)
tree_tops limit f roots trees none p block steps same pass reached are one has = elim (Contains-append_cases (steps_read f p) steps one has) [
  | inl before ↦
      let own = entry_of (λ c. steps_of (f c)) (take p.next p.order) one before in
      tree_step limit f roots trees none own.0 (subst (λ (l : List ℕ). Reached f l own.0) same (pass.reached own.0 (taken_listed p own.0 own.1))) one own.2
  | inr here ↦ tree_step limit f roots trees none block reached one (subst (λ (l : List (ℕ × ℕ)). Contains l one) are here)
]

-- ---- one block more

pub tops_on : (f : Blocks) (p q : Pass) (block : ℕ) → Advances p q → p.next < length p.order → block ≡ slice_index p.order p.next → q.next ≡ p.next + 1 → (steps : List (ℕ × ℕ)) (t : Tops) → steps ≡ steps_of (f block)
    → KeepsTops (λ b. top_of (f b)) (take p.next p.order ++ block ∷ []) (steps_read f p ++ steps) t → TopsAreTold f q t
tops_on f p q block on left at next steps t are keeps =
    let taken = taken_on f p q block on left at next in
    let more : steps_read f q ≡ steps_read f p ++ steps_of (f block) = ap (flat_map (λ b. steps_of (f b))) taken ∙ sym (flat_map_more (λ b. steps_of (f b)) [] (take p.next p.order) block) in
    subst (λ (l : List ℕ). KeepsTops (λ b. top_of (f b)) l (steps_read f q) t) (sym taken)
    (subst (λ (l : List (ℕ × ℕ)). KeepsTops (λ b. top_of (f b)) (take p.next p.order ++ block ∷ []) l t) (ap (λ (l : List (ℕ × ℕ)). steps_read f p ++ l) are ∙ sym more) keeps)

-- nothing was read
pub tops_none : (f : Blocks) (p : Pass) (t : Tops) → p.next ≡ 0 → ((b : ℕ) → length t.words ≤ b → f b ≡ None) → t.read.members ≡ set.empty → ((b : ℕ) → slice_index t.words b ≡ 0) → TopsAreTold f p t
tops_none f p t none high read words = record {
  beyond = λ b past. ap top_of (high b past);
  all = λ b has. absurd (omega (arith, (subst (λ (n : ℕ). Contains (take n p.order) b) none has).1));
  read = λ b has. absurd (true≢false (sym has ∙ ap (λ s. set.contains s b) read ∙ set.contains-empty nat_cmp b));
  kept = λ one has. absurd (omega (arith, (subst (λ (n : ℕ). Contains (flat_map (λ b. steps_of (f b)) (take n p.order)) one) none has).1));
  from = λ b unread word. absurd (word (words b));
}
