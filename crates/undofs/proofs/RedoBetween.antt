-- Redo after an undo, with calls between that leave the history as it is.
use Rattle.std.specs.Prelude.{◌≡◌, ◌≢◌, ◌+◌, ◌-◌, ◌<◌, ◌==◌, nat_lt, true, false, None, List, [], ◌∷◌, length, refl}
use Rattle.std.proofs.Common.{◌∙◌, ap, arith}
use Rattle.std.proofs.lemmas.Bool.{eqb-false, lt-ltb}
use Rattle.fs_types.specs.declared.call.Call.{Call}
use Rattle.plain_trees.specs.Trees.{Tree}
use Rattle.history_machine.specs.Descriptors.{any_open}
use Rattle.history_machine.specs.History.{Past, IsLawful, undone, redone, undo_refusal, redo_refusal}
use Rattle.history_machine.specs.Laws.{EachKeeps}
use Rattle.history_machine.specs.Machine.{Machine, refusal, next, after, travel_refusal}
use Rattle.history_machine.proofs.Steps.{passes, outside}
use Rattle.history_machine.proofs.Versions.{redone-undone}

-- after an accepted undo, and then any calls that leave the history as it is, redo with no open file and no open group is accepted
-- and gives the history that stood before the undo
abbrev pub RedoBetween : Type 0
RedoBetween = (m : Machine) (calls : List Call) → IsLawful m.history → refusal m Call.Undo ≡ None → EachKeeps (next m Call.Undo) calls
    → any_open (after (next m Call.Undo) calls).descriptors ≡ false → (after (next m Call.Undo) calls).group ≡ None
    → (refusal (after (next m Call.Undo) calls) Call.Redo ≡ None) × ((next (after (next m Call.Undo) calls) Call.Redo).history ≡ m.history)

keeps_all : (m : Machine) (calls : List Call) → EachKeeps m calls → (after m calls).history ≡ m.history
keeps_all m [] keeps = refl
keeps_all m (call ∷ calls) keeps = keeps_all (next m call) calls keeps.1 ∙ keeps.0

undo_history : (m : Machine) → refusal m Call.Undo ≡ None → (next m Call.Undo).history ≡ undone m.history
undo_history m none = rw none refl

redo_history : (m : Machine) → refusal m Call.Redo ≡ None → (next m Call.Redo).history ≡ redone m.history
redo_history m none = rw none refl

-- a later version is there after an undo
redo_there : (h : Past Tree) → IsLawful h → h.cursor ≢ 0 → redo_refusal (undone h) ≡ None
redo_there h lawful some =
    let within : h.cursor < length h.versions = lawful.cursor_in in
    let there : nat_lt (h.cursor - 1 + 1) (length h.versions) ≡ true = lt-ltb _ _ (omega arith) in
    rw there refl

redo_open : (m : Machine) → m.group ≡ None → any_open m.descriptors ≡ false → redo_refusal m.history ≡ None → refusal m Call.Redo ≡ None
redo_open m alone closed there = rw (alone, closed) there

pub redo_between : RedoBetween
redo_between m calls lawful none keeps closed alone =
    let undo : undo_refusal m.history ≡ None = (passes (any_open m.descriptors) _ _ (outside m (travel_refusal m (undo_refusal m.history)) none).1).1 in
    let some : m.history.cursor ≢ 0 = eqb-false m.history.cursor 0 (passes (m.history.cursor == 0) _ None undo).0 in
    let here : (after (next m Call.Undo) calls).history ≡ undone m.history = keeps_all (next m Call.Undo) calls keeps ∙ undo_history m none in
    let there : redo_refusal (after (next m Call.Undo) calls).history ≡ None = ap (λ (h : Past Tree). redo_refusal h) here ∙ redo_there m.history lawful some in
    let redo : refusal (after (next m Call.Undo) calls) Call.Redo ≡ None = redo_open (after (next m Call.Undo) calls) alone closed there in
    (redo, redo_history (after (next m Call.Undo) calls) redo ∙ ap (λ (h : Past Tree). redone h) here ∙ redone-undone m.history some)
