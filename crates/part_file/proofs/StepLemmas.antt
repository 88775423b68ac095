-- Steps one after the other.
use Rattle.std.proofs.Common.{◌≡◌, ℕ, Bool, true, false, List, [], ◌∷◌, ◌++◌, None, Some, Result, Ok, Err, refl, sym, ap, ◌∙◌, append_assoc, append-nil, if◌then◌else◌}
use Rattle.std.specs.Prelude.{Option, OnOk}
use Rattle.part_file.specs.Layout.{is_anchor, barrier_at}
use Rattle.host_interface.specs.Steps.{Step, barrier, Does, Becomes, bytes_after, all_after}

pub Does-none : (a : Option (List Step)) → Does a [] a
Does-none None = tt
Does-none (Some x) = sym (append-nil x)

pub Does-then : (a b c : Option (List Step)) (first next : List Step) → Does a first b → Does b next c → Does a (first ++ next) c
Does-then None b c first next p q = tt
Does-then (Some x) None c first next p q = absurd p
Does-then (Some x) (Some y) None first next p q = absurd q
Does-then (Some x) (Some y) (Some z) first next p q = q ∙ ap (λ l. l ++ next) p ∙ append_assoc x first next

-- what follows where it is done
pub on_ok : {T E : Type 0} (r : Result T E) (P Q : Type 0) → (P → Q) → OnOk r P → OnOk r Q
on_ok (Ok x) P Q next p = next p
on_ok (Err e) P Q next p = tt

pub all_after-append : (first next : List Step) (bytes : List ℕ) → all_after (first ++ next) bytes ≡ all_after next (all_after first bytes)
all_after-append [] next bytes = refl
all_after-append (step ∷ more) next bytes = all_after-append more next (bytes_after step bytes)

after-if : (b : Bool) (bytes : List ℕ) → all_after (if b then barrier ∷ [] else []) bytes ≡ bytes
after-if true bytes = refl
after-if false bytes = refl

pub after-barrier : (block : ℕ) (bytes : List ℕ) → all_after (barrier_at block) bytes ≡ bytes
after-barrier block bytes = after-if (is_anchor block) bytes

pub Becomes-then : (a b c : Option (List ℕ)) (first next : List Step) → Becomes a first b → Becomes b next c → Becomes a (first ++ next) c
Becomes-then None None c first next p q = q
Becomes-then None (Some y) c first next p q = absurd cc
Becomes-then (Some x) None c first next p q = absurd p
Becomes-then (Some x) (Some y) None first next p q = absurd q
Becomes-then (Some x) (Some y) (Some z) first next p q = q ∙ ap (all_after next) p ∙ sym (all_after-append first next x)

-- a barrier changes no byte
pub Becomes-barrier : (a b : Option (List ℕ)) (block : ℕ) → b ≡ a → Becomes a (barrier_at block) b
Becomes-barrier None b block same = same
Becomes-barrier (Some x) None block same = absurd cc
Becomes-barrier (Some x) (Some y) block same = let is : y ≡ x = cc in is ∙ sym (after-barrier block x)

-- what holds in any case
pub on_ok_always : {T E : Type 0} (r : Result T E) (P : Type 0) → P → OnOk r P
on_ok_always (Ok x) P p = p
on_ok_always (Err e) P p = tt
