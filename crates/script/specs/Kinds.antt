-- The kinds of planned faults, by their words.
use Rattle.std.specs.Prelude.{ℕ, List, [], ◌∷◌, codes}
use Rattle.flash_model.specs.declared.fault_kind.FaultKind.{FaultKind}
use Rattle.flash_model.specs.declared.fault_kind.FaultKind.TheVariants.{ReadFail, ReadCut, ProgramFail, ProgramCutNone, ProgramCutWhole, ProgramCutTorn, EraseFail, EraseCutNone, EraseCutWhole, EraseCutTorn}

-- each word, and the kind that it spells
abbrev pub kinds : List (List ℕ × FaultKind)
kinds =
    (codes "read-fail", ReadFail) ∷ (codes "read-cut", ReadCut) ∷ (codes "program-fail", ProgramFail) ∷ (codes "program-cut-none", ProgramCutNone)
    ∷ (codes "program-cut-whole", ProgramCutWhole) ∷ (codes "program-cut-torn", ProgramCutTorn) ∷ (codes "erase-fail", EraseFail)
    ∷ (codes "erase-cut-none", EraseCutNone) ∷ (codes "erase-cut-whole", EraseCutWhole) ∷ (codes "erase-cut-torn", EraseCutTorn) ∷ []
