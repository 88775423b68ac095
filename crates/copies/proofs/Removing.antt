-- The removal of a directory is never refused because something stands at its path.
use Rattle.std.proofs.Common.{◌≡◌, ◌≢◌, ◌==◌, inl, inr, Bool, true, false, cond, not, Option, Some, None, Result, Ok, Err, List, [], ◌∷◌, length, subst, ℕ}
use Rattle.std.specs.Prelude.{IfErr, nat_lt}
use Rattle.std.specs.Option.{option_or, option_map_or}
use Rattle.fs_types.specs.Names.{Path}
use Rattle.fs_types.specs.declared.call.Call.{Call}
use Rattle.fs_types.specs.declared.call.Reply.{Reply}
use Rattle.fs_types.specs.declared.fault.Fault.{Fault}
use Rattle.fs_types.specs.declared.fault.Fault.TheVariants.{Exists, NoEntry, NotDirectory, NotEmpty, Busy}
use Rattle.flash_model.specs.declared.flash.Flash.{Ghosts}
use Rattle.plain_trees.specs.Contents.{Contents, Entry, is_dir, under, way_refusal, lookup_refusal}
use Rattle.plain_trees.specs.Trees.{Tree, entry_count}
use Rattle.history_machine.specs.Machine.{Machine, refusal, found_refusal, rmdir_refusal, working_tree}
use Rattle.working_state.specs.Seen.{Shown, shown_on}
use Rattle.working_state.specs.Steps.{replied, empty}
use Rattle.system.specs.Steps.{SystemRefuses, TriesTwice}
use Rattle.undofs.specs.Systems.{StepsBetween}
use Rattle.undofs.specs.declared.fs.Fs.{Fs}

-- nothing is refused for what stands there
abbrev Misses : Option Fault → Type 0
Misses refused = refused ≢ Some Exists

misses_or : (x y : Option Fault) → Misses x → Misses y → Misses (option_or x y)
misses_or None y first second is = second is
misses_or (Some fault) y first second is = first is

misses_if : (b : Bool) (x y : Option Fault) → Misses x → Misses y → Misses (cond b x y)
misses_if true x y first second is = first is
misses_if false x y first second is = second is

misses_way : (there : Option Entry) → Misses (way_refusal there)
misses_way None is = cc
misses_way (Some (Entry.File bytes)) is = cc
misses_way (Some Entry.Dir) is = cc

misses_lookup : (t : Contents) (path : Path) → Misses (lookup_refusal t path)
misses_lookup t [] is = cc
misses_lookup t (name ∷ []) is = cc
misses_lookup t (name ∷ next ∷ path) is =
    misses_or (way_refusal (t (name ∷ []))) (lookup_refusal (under t (name ∷ [])) (next ∷ path)) (misses_way (t (name ∷ []))) (misses_lookup (under t (name ∷ [])) (next ∷ path)) is

misses_there : (refuse : Entry → Option Fault) → ((entry : Entry) → Misses (refuse entry)) → (there : Option Entry) → Misses (option_map_or refuse there (Some NoEntry))
misses_there refuse misses None is = cc
misses_there refuse misses (Some entry) is = misses entry is

misses_entry : (t : Tree) (path : Path) (entry : Entry) → Misses (rmdir_refusal t path entry)
misses_entry t path entry =
    misses_if (not (is_dir entry)) (Some NotDirectory) (cond (nat_lt 0 (entry_count t path)) (Some NotEmpty) None) (λ is. cc)
    (misses_if (nat_lt 0 (entry_count t path)) (Some NotEmpty) None (λ is. cc) (λ is. cc))

removal_misses : (m : Machine) (path : Path) → Misses (refusal m (Call.Rmdir path))
removal_misses m path =
    misses_if (length path == 0) (Some Busy) (found_refusal (working_tree m) path (rmdir_refusal (working_tree m) path)) (λ is. cc)
    (misses_or _ _ (misses_lookup _ path) (misses_there (rmdir_refusal (working_tree m) path) (misses_entry (working_tree m) path) _))

unanswered : (twice : Type 0) (off : Bool) (old : Shown) (call : Call) (new : Shown) → Misses (refusal old.machine call) → SystemRefuses twice off old call Exists new → ⊥
unanswered twice true old call new misses answered = let clash = answered.0 in cc
unanswered twice false old call new misses answered = elim answered.0 [
  | inl refuses ↦ elim refuses [ inl is ↦ misses is | inr further ↦ further ]
  | inr second ↦ second.1
]

module _ {G : Type 0} {flash : Ghosts G} where
  -- a removal has no such answer
  pub removes : (before : Fs G flash) (path : Path) (result : Result (Unit {0}) Fault) (left : Fs G flash) → StepsBetween before (Call.Rmdir path) (replied empty result) left → IfErr result (λ fault. fault ≢ Exists)
  removes before path (Ok done) left step = tt
  removes before path (Err fault) left step = λ is.
      let twice = TriesTwice (flash.device before.flash.now) before.system (Call.Rmdir path) (Err fault) (flash.device left.flash.now) left.system in
      let old = shown_on (flash.device before.flash.now) before.system.state in
      let new = shown_on (flash.device left.flash.now) left.system.state in
      unanswered twice old.is_off old (Call.Rmdir path) new (removal_misses old.machine path)
      (subst (λ (f : Fault). SystemRefuses twice old.is_off old (Call.Rmdir path) f new) is step.step.answers)
