-- Markings of a directory of a tree, and lists of blocks.
use Rattle.std.proofs.Common.{◌≡◌, ◌≢◌, ◌⊎◌, inl, inr, ◌↔◌, ℕ, ◌+◌, ◌-◌, ◌<◌, ◌≤◌, None, List, [], ◌∷◌, ◌++◌, length, refl, sym, ap, subst, ◌∙◌, arith}
use Rattle.std.proofs.lemmas.Bool.{cases_lt}
use Rattle.std.proofs.lemmas.List.{length-append, get_or_append_left, get_or-append-add}
use Rattle.std.specs.Prelude.{slice_index, Contains}
use Rattle.fs_types.specs.declared.fault.Fault.{Fault}
use Rattle.fs_types.specs.declared.fault.Fault.TheVariants.{Damaged}
use Rattle.fs_types.specs.declared.limits.TheConstants.{ANCHORS}
use Rattle.block_ring.specs.Ring.{IsDataBlock}
use Rattle.node_format.specs.Headers.{body_header}
use Rattle.nodes.specs.Faults.{IsReadFault, IsLookFault}
use Rattle.nodes.specs.Bodies.{Blocks, back}
use Rattle.nodes.specs.Reached.{Reached, IsFirst}
use Rattle.nodes.specs.Trees.{IsRoot}
use Rattle.reclaim.specs.Passes.{Pass, IsFinished, IsPass}
use Rattle.reclaim.proofs.Marking.{only_one, pass_marks}
use Rattle.reclaim.proofs.Soundness.{trees_hold_nodes}
use Rattle.block_usage.specs.Usages.{AreAllReached}

-- a root with a tree is the only one of its list, and a data block
pub only_root : (capacity : ℕ) (f : Blocks) (block : ℕ) → IsRoot capacity f block → (root : ℕ) → Contains (block ∷ []) root → IsRoot capacity f root
only_root capacity f block is root has = subst (IsRoot capacity f) (only_one block root has) is

pub root_is_data : (capacity : ℕ) (f : Blocks) (block blocks : ℕ) → ((b : ℕ) → b < ANCHORS → f b ≡ None) → ((b : ℕ) → blocks ≤ b → f b ≡ None) → IsRoot capacity f block
    → (root : ℕ) → Contains (block ∷ []) root → IsDataBlock blocks root
root_is_data capacity f block blocks low high tree root has =
    let some = trees_hold_nodes capacity f (block ∷ []) (only_root capacity f block tree) root (IsFirst has) in
    (from_low (cases_lt root ANCHORS) some, from_high (cases_lt root blocks) some)
  where
    from_low : (root < ANCHORS) ⊎ (ANCHORS ≤ root) → f root ≢ None → ANCHORS ≤ root
    from_low (inl below) some = absurd (some (low root below))
    from_low (inr is) some = is

    from_high : (root < blocks) ⊎ (blocks ≤ root) → f root ≢ None → root < blocks
    from_high (inl is) some = is
    from_high (inr beyond) some = absurd (some (high root beyond))

-- no node that such a marking reads is damaged
pub look_of_marks : (limit : ℕ) (f : Blocks) (p : Pass) (block : ℕ) (fault : Fault) → p.roots ≡ block ∷ [] → IsRoot (limit - body_header) f block → IsReadFault fault
    → (fault ≡ Damaged → (b : ℕ) × Reached f p.roots b × (f b ≡ None)) → IsLookFault fault
look_of_marks limit f p block fault roots tree is damaged = by fault is (λ e. let (b, reached, none) = damaged e in trees_hold_nodes (limit - body_header) f (block ∷ []) (only_root (limit - body_header) f block tree) b (subst (λ (l : List ℕ). Reached f l b) roots reached) none)
  where
    by : (fault : Fault) → IsReadFault fault → (fault ≡ Damaged → ⊥) → IsLookFault fault
    by Damaged is none = absurd (none refl)
    by _ is none = is

-- a read that is refused, but not as damaged
pub look_of_read : (fault : Fault) → IsReadFault fault → (fault ≡ Damaged → ⊥) → IsLookFault fault
look_of_read Damaged is none = absurd (none refl)
look_of_read _ is none = is

-- a finished marking has all that is reached, each once
pub all_marked : (f : Blocks) (p : Pass) (block : ℕ) (blocks : List ℕ) → IsPass f p → IsFinished p → p.roots ≡ block ∷ [] → blocks ≡ p.order → AreAllReached f (block ∷ []) blocks
all_marked f p block blocks pass ended roots is =
    subst (AreAllReached f (block ∷ [])) (sym is)
    (record {
      distinct = pass.distinct;
      all = λ b. subst (λ (l : List ℕ). Contains p.order b ↔ Reached f l b) roots (pass_marks f p pass ended b);
    })

-- one block more of a body
pub more_listed : (f : Blocks) (head block step : ℕ) (blocks new : List ℕ) → new ≡ blocks ++ block ∷ [] → length blocks ≡ step → block ≡ back f head step
    → ((k : ℕ) → k < length blocks → slice_index blocks k ≡ back f head k) → (k : ℕ) → k < length new → slice_index new k ≡ back f head k
more_listed f head block step blocks new pushed size is listed k lt = ap (λ (l : List ℕ). slice_index l k) pushed ∙ on (cases_lt k (length blocks))
  where
    longer : length new ≡ length blocks + 1
    longer = ap length pushed ∙ length-append blocks (block ∷ [])

    on : (k < length blocks) ⊎ (length blocks ≤ k) → slice_index (blocks ++ block ∷ []) k ≡ back f head k
    on (inl before) = get_or_append_left blocks (block ∷ []) 0 k before ∙ listed k before
    on (inr past) =
        let same : k ≡ length blocks + 0 = omega (arith, lt, longer, past) in
        let here : step ≡ k = omega (arith, size, same) in
        ap (slice_index (blocks ++ block ∷ [])) same ∙ get_or-append-add blocks (block ∷ []) 0 0 ∙ is ∙ ap (back f head) here
