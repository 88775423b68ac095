-- What calls of nodes leave beside the laws of the store: looks that memory or marking refuses, looks at a cost, and markings that went on.
use Rattle.std.specs.Prelude.{◌≡◌, ◌≢◌, ℕ, List, Result, Ok, Err, IfErr}
use Rattle.std.proofs.Common.{inl, inr, refl, sym, subst, ◌∙◌, arith}
use Rattle.std.proofs.lemmas.Result.{IfErr-weaker}
use Rattle.fs_types.specs.declared.fault.Fault.{Fault}
use Rattle.fs_types.specs.declared.fault.Fault.TheVariants.{NoMemory, Damaged}
use Rattle.nodes.specs.Bodies.{Blocks}
use Rattle.nodes.specs.Faults.{IsLookFault, IsReadFault}
use Rattle.nodes.specs.Words.{Looks, LooksWithin}
use Rattle.nodes.specs.declared.nodes.Nodes.{Ghosts}
use Rattle.reclaim.specs.Calls.{LooksAtCost, MarksOn}
use Rattle.reclaim.specs.Kinds.{Knows, HasAsked}
use Rattle.reclaim.specs.Passes.{Pass, Advances, IsMarkFault}
use Rattle.reclaim.proofs.Looking.{look_other, read_look}
use Rattle.reclaim.proofs.Marking.{begins_itself, begins_on}

-- one advance after another
pub advances_itself : (p : Pass) → Advances p p
advances_itself p = record { blocks = refl; roots = refl; begins = begins_itself p.order }

pub advances_on : (p q r : Pass) → Advances p q → Advances q r → Advances p r
advances_on p q r first then = record { blocks = then.blocks ∙ first.blocks; roots = then.roots ∙ first.roots; begins = begins_on p.order q.order r.order first.begins then.begins }

-- no call
pub looks_itself : {S : Type 0} (N : Ghosts S) (follows_itself : (s : S) → N.follows s s) (s : S) → N.is_sound s → Looks N s s
looks_itself N follows_itself s sound = record { same_nodes = refl; same_kept = refl; same_writes = refl; came = follows_itself s; sound = sound; same_limit = refl; same_blocks = refl }

module _ {S : Type 0} {N : Ghosts S} where
  -- no more is read, and memory may be wanted
  pub looks_memory : {T U : Type 0} {IsOwn IsOther : Fault → Type 0} {r : ℕ} {x : Result T Fault} {y : Result U Fault} (may_want : (s t : S) → N.causes s t NoMemory) (s t : S)
      → IsOwn NoMemory → LooksWithin N IsOther r s x t → IfErr y (λ fault. fault ≡ NoMemory) → LooksWithin N IsOwn r s y t
  looks_memory {y = Ok _} may_want s t own within none = record { looks = within.looks; reads = within.reads; why = tt; faults = tt }
  looks_memory {IsOwn = IsOwn} {y = Err fault} may_want s t own within memory = record {
    looks = within.looks;
    reads = within.reads;
    why = λ look. subst (N.causes s t) (sym memory) (may_want s t);
    faults = subst IsOwn (sym memory) own;
  }

  -- marking is refused
  pub looks_marked : {T U : Type 0} {IsOther : Fault → Type 0} {r : ℕ} {x : Result T Fault} (may_want : (s t : S) → N.causes s t NoMemory) (s t : S) (blocks : ℕ) (names : List ℕ) (fault : Fault)
      → IsMarkFault blocks names fault → LooksWithin N IsOther r s x t → LooksWithin {T = U} N IsReadFault r s (Err fault) t
  looks_marked may_want s t blocks names fault (inl memory) within = record {
    looks = within.looks;
    reads = within.reads;
    why = λ look. subst (N.causes s t) (sym memory) (may_want s t);
    faults = subst IsReadFault (sym memory) refl;
  }
  looks_marked may_want s t blocks names fault (inr (damaged, more)) within = record {
    looks = within.looks;
    reads = within.reads;
    why = λ look. absurd (look_other fault look damaged);
    faults = subst IsReadFault (sym damaged) refl;
  }

  -- a refusal, and its cause
  pub refused_why : {T : Type 0} {r : ℕ} {s t : S} {x : Result T Fault} → LooksWithin N IsReadFault r s x t → IfErr x (λ fault. IsReadFault fault × (fault ≢ Damaged → N.causes s t fault))
  refused_why {x = Ok _} within = tt
  refused_why {x = Err fault} within = (within.faults, λ other. within.why (read_look fault within.faults other))

  -- ---- at a cost

  pub at_cost : {T : Type 0} {IsOwn : Fault → Type 0} {HasReads : ℕ → ℕ → Type 0} {r : ℕ} {s t : S} {x : Result T Fault} → LooksWithin N IsOwn r s x t → HasReads (N.reads s) (N.reads t) → LooksAtCost N IsOwn HasReads s x t
  at_cost within reads = record { looks = within.looks; reads = reads; why = within.why; faults = within.faults }

  -- after a call that only reads
  pub cost_after : {T : Type 0} {IsThen IsOwn : Fault → Type 0} {HasThen HasReads : ℕ → ℕ → Type 0} {y : Result T Fault}
      (looks_on : (s t u : S) → Looks N s t → Looks N t u → Looks N s u) (causes_on : (s t u : S) (fault : Fault) → N.follows s t → N.causes t u fault → N.causes s u fault)
      (s t u : S) → ((fault : Fault) → IsThen fault → IsOwn fault) → Looks N s t → LooksAtCost N IsThen HasThen t y u → HasReads (N.reads s) (N.reads u) → LooksAtCost N IsOwn HasReads s y u
  cost_after looks_on causes_on s t u own first then reads = record {
    looks = looks_on s t u first then.looks;
    reads = reads;
    why = IfErr-weaker _ (λ (fault : Fault). IsLookFault fault → N.causes t u fault) (λ (fault : Fault). IsLookFault fault → N.causes s u fault) (λ fault why look. causes_on s t u fault first.came (why look)) then.why;
    faults = IfErr-weaker _ _ _ own then.faults;
  }

  pub cost_answered : {T : Type 0} {IsOwn : Fault → Type 0} {HasReads : ℕ → ℕ → Type 0} {s t : S} {x : T} → Looks N s t → HasReads (N.reads s) (N.reads t) → LooksAtCost N IsOwn HasReads s (Ok x) t
  cost_answered looks reads = record { looks = looks; reads = reads; why = tt; faults = tt }

  pub cost_damaged : {T : Type 0} {HasReads : ℕ → ℕ → Type 0} {s t : S} → Looks N s t → HasReads (N.reads s) (N.reads t) → LooksAtCost {T = T} N IsReadFault HasReads s (Err Damaged) t
  cost_damaged looks reads = record { looks = looks; reads = reads; why = λ look. absurd (look_other Damaged look refl); faults = refl }

  pub cost_memory : {T : Type 0} {HasReads : ℕ → ℕ → Type 0} (may_want : (s t : S) → N.causes s t NoMemory) {s t : S} {fault : Fault} → fault ≡ NoMemory → Looks N s t → HasReads (N.reads s) (N.reads t)
      → LooksAtCost {T = T} N IsReadFault HasReads s (Err fault) t
  cost_memory may_want {s} {t} memory looks reads = record {
    looks = looks;
    reads = reads;
    why = λ look. subst (N.causes s t) (sym memory) (may_want s t);
    faults = subst IsReadFault (sym memory) refl;
  }

  pub cost_refused : {T U : Type 0} {IsOwn : Fault → Type 0} {HasOther HasReads : ℕ → ℕ → Type 0} {s t : S} {fault : Fault} → LooksAtCost {T = T} N IsOwn HasOther s (Err fault) t → HasReads (N.reads s) (N.reads t)
      → LooksAtCost {T = U} N IsOwn HasReads s (Err fault) t
  cost_refused within reads = record { looks = within.looks; reads = reads; why = within.why; faults = within.faults }

  -- ---- markings

  pub marks_itself : (s : S) (p : Pass) → Knows (N.limit s) (N.node s) p → MarksOn N s s p p
  marks_itself s p known = record { pass = λ marking. marking; known = known; reads = refl; asked = omega arith }

  -- one after the other
  pub marks_on : (same_page : (s t : S) → N.follows s t → N.page t ≡ N.page s) (s t u : S) (p q r : Pass) → Looks N s t → MarksOn N s t p q → MarksOn N t u q r → MarksOn N s u p r
  marks_on same_page s t u p q r looks first then =
      let asked : HasAsked (N.page s) (N.node s) q r (N.asked t) (N.asked u) =
      subst (λ (n : ℕ). HasAsked n (N.node s) q r (N.asked t) (N.asked u)) (same_page s t looks.came) (subst (λ (f : Blocks). HasAsked (N.page t) f q r (N.asked t) (N.asked u)) looks.same_nodes then.asked) in
      record {
        pass = λ marking. then.pass (first.pass marking);
        known = then.known;
        reads = omega (arith, first.reads, then.reads);
        asked = omega (arith, first.asked, asked);
      }
