-- How machines, and what they are made of, are stored as lists and pairs.
use Rattle.std.specs.Prelude.{ℕ, Bool, Option, List, refl}
use Rattle.std.specs.Coded.{Coded, code_by, coded×, coded_ℕ, coded_bool, coded_list, coded_option}
use Rattle.plain_trees.specs.Trees.{Tree}
use Rattle.history_machine.specs.History.{Past}
use Rattle.history_machine.specs.Descriptors.{Descriptors}
use Rattle.history_machine.specs.Machine.{Machine, machine_with}
use Rattle.fs_types.specs.declared.call.Group.{Group}
use Rattle.fs_types.specs.declared.call.Version.{Version}
use Rattle.machine_state.specs.FileCodes.{descriptors_code}
use Rattle.memory_trees.specs.Codes.{tree_code}

abbrev pub version_code : Coded (Version Tree)
version_code = code_by (ℕ × Tree) (coded× coded_ℕ tree_code) (λ v. (v.serial, v.root)) (λ p. record { serial = p.0; root = p.1 }) (λ _. refl)

-- a history is the tuple of its fields
abbrev pub history_code : Coded (Past Tree)
history_code =
    code_by (List (Version Tree) × (ℕ × (Bool × (ℕ × (List (List ℕ × Tree) × ℕ)))))
    (coded× (coded_list version_code) (coded× coded_ℕ (coded× coded_bool (coded× coded_ℕ (coded× (coded_list (coded× (coded_list coded_ℕ) tree_code)) coded_ℕ)))))
    (λ h. (h.versions, (h.cursor, (h.dropped, (h.next, (h.checkpoints, h.limit))))))
    (λ p. record { versions = p.0; cursor = p.1.0; dropped = p.1.1.0; next = p.1.1.1.0; checkpoints = p.1.1.1.1.0; limit = p.1.1.1.1.1 })
    (λ _. refl)

abbrev pub group_code : Coded (Group Tree)
group_code = code_by (Tree × Bool) (coded× tree_code coded_bool) (λ g. (g.root, g.is_due)) (λ p. record { root = p.0; is_due = p.1 }) (λ _. refl)

abbrev pub machine_code : Coded Machine
machine_code =
    code_by (Past Tree × (Option (Group Tree) × Descriptors))
    (coded× history_code (coded× (coded_option group_code) descriptors_code))
    (λ m. (m.history, (m.group, m.descriptors)))
    (λ p. machine_with p.0 p.1.0 p.1.1)
    (λ _. refl)
