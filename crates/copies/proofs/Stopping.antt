-- Calls that stop among others.
use Rattle.std.proofs.Common.{◌≡◌, ◌∙◌, inl, inr, ℕ, ◌+◌, ◌<◌, ◌≤◌, List, [], ◌∷◌, ◌++◌, length, take, drop, get_or, sym, ap, subst, append_assoc, take-append-drop, arith}
use Rattle.std.proofs.lemmas.List.{drop_more}
use Rattle.fs_types.specs.Names.{Path}
use Rattle.fs_types.specs.declared.call.Call.{Call}
use Rattle.fs_types.specs.declared.fault.Fault.{Fault}
use Rattle.flash_model.specs.Device.{Device}
use Rattle.history_copies.specs.Laws.{bringing, changes_or}
use Rattle.history_machine.specs.Machine.{Machine}
use Rattle.working_state.specs.Seen.{machine_on}
use Rattle.copies.specs.Calls.{Does, Stops}
use Rattle.copies.proofs.Doing.{does_both, does_none}

-- calls stop between those that were made before and those that were not made
pub stops_among : (m k : Machine) (first inner rest : List Call) (left : Device) (fault : Fault) → Does m first k → Stops k inner left fault → Stops m (first ++ (inner ++ rest)) left fault
stops_among m k first inner rest left fault done (inl memory) = inl memory
stops_among m k first inner rest left fault done (inr r) = inr (record {
  made = first ++ r.made;
  call = r.call;
  rest = r.rest ++ rest;
  device = r.device;
  system = r.system;
  later = r.later;
  are = ap (λ (x : List Call). first ++ (x ++ rest)) r.are ∙ ap (λ (x : List Call). first ++ x) (append_assoc r.made (r.call ∷ r.rest) rest) ∙ sym (append_assoc first r.made (r.call ∷ (r.rest ++ rest)));
  done = does_both m k (machine_on r.device r.system.state) first r.made done r.done;
  step = r.step;
})

-- the next of some calls stops
pub stops_next : (m k : Machine) (calls : List Call) (i : ℕ) (call : Call) (left : Device) (fault : Fault) → i < length calls → call ≡ get_or calls i call → Does m (take i calls) k → Stops k (call ∷ []) left fault
    → Stops m calls left fault
stops_next m k calls i call left fault within at done stops =
    let all : take i calls ++ call ∷ drop (i + 1) calls ≡ calls =
    ap (λ (x : List Call). take i calls ++ x) (ap (λ (c : Call). c ∷ drop (i + 1) calls) at ∙ sym (drop_more calls i call within)) ∙ take-append-drop i calls in
    subst (λ (x : List Call). Stops m x left fault) all (stops_among m k (take i calls) (call ∷ []) (drop (i + 1) calls) left fault done stops)

-- calls that are not none are all that is made
pub stops_or : (m : Machine) (changes : List Call) (left : Device) (fault : Fault) → 1 ≤ length changes → Stops m changes left fault → (path : Path) × Stops m (changes_or changes path) left fault
stops_or m [] left fault some stops = absurd (omega arith)
stops_or m (call ∷ calls) left fault some stops = ([], stops)

-- ---- the calls that make a version

module _ (m : Machine) (changes : List Call) (left : Device) (fault : Fault) where
  pub unbegun : Stops m (Call.Begin ∷ []) left fault → (path : Path) × Stops m (bringing changes path) left fault
  unbegun stops = ([], stops_among m m [] (Call.Begin ∷ []) (changes_or changes [] ++ Call.End ∷ Call.Sync ∷ []) left fault (does_none m) stops)

  pub unmade : (k : Machine) → Does m (Call.Begin ∷ []) k → (path : Path) × Stops k (changes_or changes path) left fault → (path : Path) × Stops m (bringing changes path) left fault
  unmade k begun (path, stops) = (path, stops_among m k (Call.Begin ∷ []) (changes_or changes path) (Call.End ∷ Call.Sync ∷ []) left fault begun stops)

  pub unended : (k l : Machine) (path : Path) → Does m (Call.Begin ∷ []) k → Does k (changes_or changes path) l → Stops l (Call.End ∷ []) left fault → (path : Path) × Stops m (bringing changes path) left fault
  unended k l path begun made stops =
      (path, stops_among m l (Call.Begin ∷ changes_or changes path) (Call.End ∷ []) (Call.Sync ∷ []) left fault (does_both m k l (Call.Begin ∷ []) (changes_or changes path) begun made) stops)

  pub unsynced : (k l e : Machine) (path : Path) → Does m (Call.Begin ∷ []) k → Does k (changes_or changes path) l → Does l (Call.End ∷ []) e → Stops e (Call.Sync ∷ []) left fault
      → (path : Path) × Stops m (bringing changes path) left fault
  unsynced k l e path begun made ended stops =
      let done : Does m (Call.Begin ∷ (changes_or changes path ++ Call.End ∷ [])) e =
      does_both m k e (Call.Begin ∷ []) (changes_or changes path ++ Call.End ∷ []) begun (does_both k l e (changes_or changes path) (Call.End ∷ []) made ended) in
      let all : (Call.Begin ∷ (changes_or changes path ++ Call.End ∷ [])) ++ Call.Sync ∷ [] ≡ bringing changes path = ap (λ (x : List Call). Call.Begin ∷ x) (append_assoc (changes_or changes path) (Call.End ∷ []) (Call.Sync ∷ [])) in
      (path, subst (λ (x : List Call). Stops m x left fault) all (stops_among m e (Call.Begin ∷ (changes_or changes path ++ Call.End ∷ [])) (Call.Sync ∷ []) [] left fault done stops))

-- ---- a directory that is made and removed

pub untouched : (m : Machine) (left : Device) (fault : Fault) (path : Path) (was : Machine) → was ≡ m → Stops was (Call.Mkdir path ∷ []) left fault → (p : Path) × Stops m (Call.Mkdir p ∷ Call.Rmdir p ∷ []) left fault
untouched m left fault path was same stops =
    (path, stops_among m m [] (Call.Mkdir path ∷ []) (Call.Rmdir path ∷ []) left fault (does_none m) (subst (λ (x : Machine). Stops x (Call.Mkdir path ∷ []) left fault) same stops))

pub unremoved : (m : Machine) (left : Device) (fault : Fault) (path : Path) (was made : Machine) → was ≡ m → Does was (Call.Mkdir path ∷ []) made → Stops made (Call.Rmdir path ∷ []) left fault
    → (p : Path) × Stops m (Call.Mkdir p ∷ Call.Rmdir p ∷ []) left fault
unremoved m left fault path was made same done stops =
    (path, stops_among m made (Call.Mkdir path ∷ []) (Call.Rmdir path ∷ []) [] left fault (subst (λ (x : Machine). Does x (Call.Mkdir path ∷ []) made) same done) stops)
