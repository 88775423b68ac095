-- Calls keep what was kept, and follow one another within the sum of their bounds.
use Rattle.std.specs.Prelude.{◌≡◌, ℕ, true, ◌+◌, ◌≤◌, Result, Ok, Err, IfErr}
use Rattle.std.proofs.Common.{refl, arith}
use Rattle.std.proofs.lemmas.Result.{IfErr-weaker}
use Rattle.fs_types.specs.declared.fault.Fault.{Fault}
use Rattle.nodes.specs.Faults.{IsLookFault}
use Rattle.nodes.specs.declared.nodes.Nodes.{Ghosts}
use Rattle.nodes.specs.Words.{Looks, Works, Keeps, LooksWithin, WorksWithin}

-- by the two laws of the trait
pub keeps_nodes : {S : Type 0} (N : Ghosts S) (same_node : (s t : S) (b : ℕ) → N.is_sound s → N.follows s t → N.kept s b ≡ true → N.node t b ≡ N.node s b)
    (stays_kept : (s t : S) (b : ℕ) → N.follows s t → N.kept s b ≡ true → N.kept t b ≡ true) (s t : S) → N.is_sound s → N.follows s t → Keeps N s t
keeps_nodes N same_node stays_kept s t sound came = record {
  same = λ b kept. same_node s t b sound came kept;
  stays = λ b kept. stays_kept s t b came kept;
}

module _ {S : Type 0} {N : Ghosts S} where
  -- a call after another that only reads, both within these bounds: the refusals of the second are among those of both
  pub looks_after : {T U : Type 0} {IsFirst IsThen IsOwn : Fault → Type 0} {r r' reads : ℕ} {x : Result T Fault} {y : Result U Fault}
      (looks_on : (s t u : S) → Looks N s t → Looks N t u → Looks N s u) (causes_on : (s t u : S) (fault : Fault) → N.follows s t → N.causes t u fault → N.causes s u fault)
      (s t u : S) → ((fault : Fault) → IsThen fault → IsOwn fault) → LooksWithin N IsFirst r s x t → LooksWithin N IsThen r' t y u → r + r' ≤ reads → LooksWithin N IsOwn reads s y u
  looks_after looks_on causes_on s t u own first then few = record {
    looks = looks_on s t u first.looks then.looks;
    reads = omega (arith, first.reads, then.reads, few);
    why = IfErr-weaker _ (λ (fault : Fault). IsLookFault fault → N.causes t u fault) (λ (fault : Fault). IsLookFault fault → N.causes s u fault) (λ fault why look. causes_on s t u fault first.looks.came (why look)) then.why;
    faults = IfErr-weaker _ _ _ own then.faults;
  }

  pub looks_both : {T U : Type 0} {IsFirst IsThen : Fault → Type 0} {r r' : ℕ} {x : Result T Fault} {y : Result U Fault}
      (looks_on : (s t u : S) → Looks N s t → Looks N t u → Looks N s u) (causes_on : (s t u : S) (fault : Fault) → N.follows s t → N.causes t u fault → N.causes s u fault)
      (s t u : S) → LooksWithin N IsFirst r s x t → LooksWithin N IsThen r' t y u → LooksWithin N IsThen (r + r') s y u
  looks_both looks_on causes_on s t u first then = looks_after looks_on causes_on s t u (λ fault is. is) first then (omega arith)

  -- within a wider bound
  pub looks_wider : {T : Type 0} {IsOwn : Fault → Type 0} {r reads : ℕ} {s t : S} {x : Result T Fault} → LooksWithin N IsOwn r s x t → r ≤ reads → LooksWithin N IsOwn reads s x t
  looks_wider within few = record { looks = within.looks; reads = omega (arith, within.reads, few); why = within.why; faults = within.faults }

  -- another answer that is no refusal
  pub looks_answered : {T U : Type 0} {IsOwn IsOther : Fault → Type 0} {r : ℕ} {s t : S} {x : T} {y : U} → LooksWithin N IsOwn r s (Ok x) t → LooksWithin N IsOther r s (Ok y) t
  looks_answered within = record { looks = within.looks; reads = within.reads; why = tt; faults = tt }

  -- a refusal that is handed on
  pub looks_refused : {T U : Type 0} {IsOwn : Fault → Type 0} {r : ℕ} {s t : S} {fault : Fault} → LooksWithin {T = T} N IsOwn r s (Err fault) t → LooksWithin {T = U} N IsOwn r s (Err fault) t
  looks_refused within = record { looks = within.looks; reads = within.reads; why = within.why; faults = within.faults }

  -- no call
  pub looks_idle : {T : Type 0} {IsOwn : Fault → Type 0} {x : T} (follows_itself : (s : S) → N.follows s s) (s : S) → N.is_sound s → LooksWithin N IsOwn 0 s (Ok x) s
  looks_idle follows_itself s sound = record {
    looks = record { same_nodes = refl; same_kept = refl; same_writes = refl; came = follows_itself s; sound = sound; same_limit = refl; same_blocks = refl };
    reads = omega arith;
    why = tt;
    faults = tt;
  }

  -- where each refusal is one that nodes give, each has its cause
  pub looks_causes : {T : Type 0} {IsOwn : Fault → Type 0} {r : ℕ} {s t : S} {x : Result T Fault} → ((fault : Fault) → IsOwn fault → IsLookFault fault) → LooksWithin N IsOwn r s x t → IfErr x (λ fault. N.causes s t fault)
  looks_causes {x = Ok _} own within = tt
  looks_causes {x = Err fault} own within = within.why (own fault within.faults)

  -- a call after another, both within these bounds: the refusals of the second are among those of both
  pub works_after : {T U : Type 0} {IsFirst IsThen IsOwn : Fault → Type 0} {r w r' w' reads writes : ℕ} {x : Result T Fault} {y : Result U Fault}
      (works_on : (s t u : S) → Works N s t → Works N t u → Works N s u) (causes_on : (s t u : S) (fault : Fault) → N.follows s t → N.causes t u fault → N.causes s u fault)
      (s t u : S) → ((fault : Fault) → IsThen fault → IsOwn fault) → WorksWithin N IsFirst r w s x t → WorksWithin N IsThen r' w' t y u → r + r' ≤ reads → w + w' ≤ writes → WorksWithin N IsOwn reads writes s y u
  works_after works_on causes_on s t u own first then few_reads few_writes = record {
    works = works_on s t u first.works then.works;
    reads = omega (arith, first.reads, then.reads, few_reads);
    writes = omega (arith, first.writes, then.writes, few_writes);
    why = IfErr-weaker _ (λ (fault : Fault). N.causes t u fault) (λ (fault : Fault). N.causes s u fault) (λ fault why. causes_on s t u fault first.works.came why) then.why;
    faults = IfErr-weaker _ _ _ own then.faults;
  }

  pub works_both : {T U : Type 0} {IsFirst IsThen : Fault → Type 0} {r w r' w' : ℕ} {x : Result T Fault} {y : Result U Fault}
      (works_on : (s t u : S) → Works N s t → Works N t u → Works N s u) (causes_on : (s t u : S) (fault : Fault) → N.follows s t → N.causes t u fault → N.causes s u fault)
      (s t u : S) → WorksWithin N IsFirst r w s x t → WorksWithin N IsThen r' w' t y u → WorksWithin N IsThen (r + r') (w + w') s y u
  works_both works_on causes_on s t u first then = works_after works_on causes_on s t u (λ fault is. is) first then (omega arith) (omega arith)

  -- within wider bounds
  pub works_wider : {T : Type 0} {IsOwn : Fault → Type 0} {r w reads writes : ℕ} {s t : S} {x : Result T Fault} → WorksWithin N IsOwn r w s x t → r ≤ reads → w ≤ writes → WorksWithin N IsOwn reads writes s x t
  works_wider within few_reads few_writes = record {
    works = within.works;
    reads = omega (arith, within.reads, few_reads);
    writes = omega (arith, within.writes, few_writes);
    why = within.why;
    faults = within.faults;
  }

  -- another answer that is no refusal
  pub works_answered : {T U : Type 0} {IsOwn IsOther : Fault → Type 0} {r w : ℕ} {s t : S} {x : T} {y : U} → WorksWithin N IsOwn r w s (Ok x) t → WorksWithin N IsOther r w s (Ok y) t
  works_answered within = record { works = within.works; reads = within.reads; writes = within.writes; why = tt; faults = tt }

  -- a refusal that is handed on
  pub works_refused : {T U : Type 0} {IsOwn : Fault → Type 0} {r w : ℕ} {s t : S} {fault : Fault} → WorksWithin {T = T} N IsOwn r w s (Err fault) t → WorksWithin {T = U} N IsOwn r w s (Err fault) t
  works_refused within = record { works = within.works; reads = within.reads; writes = within.writes; why = within.why; faults = within.faults }

  -- no call
  pub works_idle : {T : Type 0} {IsOwn : Fault → Type 0} {x : T} (follows_itself : (s : S) → N.follows s s) (s : S) → N.is_sound s → WorksWithin N IsOwn 0 0 s (Ok x) s
  works_idle follows_itself s sound = record {
    works = record { came = follows_itself s; sound = sound; same_limit = refl; same_blocks = refl };
    reads = omega arith;
    writes = omega arith;
    why = tt;
    faults = tt;
  }

  -- a call that only reads is one that writes nothing: each of its refusals is one that nodes give
  pub works_looking : {T : Type 0} {IsOwn IsOther : Fault → Type 0} {r : ℕ} (looks_works : (s t : S) → Looks N s t → Works N s t) (s t : S) {x : Result T Fault}
      → ((fault : Fault) → IsOwn fault → IsLookFault fault) → ((fault : Fault) → IsOwn fault → IsOther fault) → LooksWithin N IsOwn r s x t → WorksWithin N IsOther r 0 s x t
  works_looking looks_works s t own other within = record {
    works = looks_works s t within.looks;
    reads = within.reads;
    writes = omega (arith, within.looks.same_writes);
    why = looks_causes own within;
    faults = IfErr-weaker _ _ _ other within.faults;
  }
