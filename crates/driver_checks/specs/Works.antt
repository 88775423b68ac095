-- What a case asks of a bench on which it is passed, and in which order.
use Rattle.std.specs.Prelude.{◌≡◌, ℕ, ◌+◌, ◌-◌, List, ◌∷◌, Ok}
use Rattle.flash_model.specs.declared.flash.DevFault.{DevFault}
use Rattle.flash_model.specs.declared.flash.DevFault.TheVariants.{Failed, PowerCut}
use Rattle.flash_model.specs.declared.fault_kind.Operation.{Operation}
use Rattle.flash_model.specs.declared.fault_kind.Operation.TheVariants.{Program, Erase}
use Rattle.driver_checks.specs.declared.area.Area.{Area}
use Rattle.driver_checks.specs.declared.case.Case.{Case}
use Rattle.driver_checks.specs.declared.case.Case.TheVariants.{Sizes, Fresh, ReadBack, InOrder, OneBlock, FailedProgram, FailedErase, CutProgram, CutErase, Restart, Ends, Neighbours}
use Rattle.driver_checks.specs.declared.step.Step.{Step}
use Rattle.driver_checks.specs.declared.step.Step.TheVariants.{Erases, Restarts}
use Rattle.driver_checks.specs.Driver.{Driver}
use Rattle.driver_checks.specs.Filling.{page_filled, filled, filled_in_turn, sides_filled, cleared}
use Rattle.driver_checks.specs.Trials.{program_tried, erase_tried, TriesEach}

-- a block was filled and erased
abbrev pub filled_and_erased : Area → ℕ → List Step → List Step
filled_and_erased g own steps = Erases own (Ok tt) ∷ filled g own g.sizes.pages steps

-- two blocks were filled, and each moment of a program in a third one tried
abbrev pub TriesPrograms : Area → ℕ → ℕ → ℕ → DevFault → (Operation → DevFault → ℕ) → List Step → List Step → Type 0
TriesPrograms g lower own upper fault moments before after =
    TriesEach (program_tried g own fault) fault (moments Program fault) (sides_filled g lower upper before) after

-- the same of an erase
abbrev pub TriesErases : Area → ℕ → ℕ → ℕ → DevFault → (Operation → DevFault → ℕ) → List Step → List Step → Type 0
TriesErases g lower own upper fault moments before after =
    TriesEach (erase_tried g own fault) fault (moments Erase fault) (sides_filled g lower upper before) after

-- what a case does in three erased blocks: its own, and two beside it
abbrev pub Works : Case → Area → ℕ → ℕ → ℕ → (Operation → DevFault → ℕ) → List Step → List Step → Type 0
Works Sizes g lower own upper moments before after = after ≡ before
Works Fresh g lower own upper moments before after = after ≡ filled_and_erased g own before
Works ReadBack g lower own upper moments before after = after ≡ page_filled g own 0 before
Works InOrder g lower own upper moments before after = after ≡ filled g own g.sizes.pages before
Works OneBlock g lower own upper moments before after = after ≡ filled_and_erased g own (sides_filled g lower upper before)
Works FailedProgram g lower own upper moments before after = TriesPrograms g lower own upper Failed moments before after
Works FailedErase g lower own upper moments before after = TriesErases g lower own upper Failed moments before after
Works CutProgram g lower own upper moments before after = TriesPrograms g lower own upper PowerCut moments before after
Works CutErase g lower own upper moments before after = TriesErases g lower own upper PowerCut moments before after
Works Restart g lower own upper moments before after = after ≡ Restarts ∷ page_filled g own 0 (sides_filled g lower upper before)
Works Ends g lower own upper moments before after = after ≡ filled_and_erased g own (sides_filled g lower upper before)
Works Neighbours g lower own upper moments before after = after ≡ filled_in_turn g lower own upper g.sizes.pages before

-- after a restart these three blocks were erased, and the case was done in them
abbrev pub RunsIn : Case → ℕ → ℕ → ℕ → Driver → Driver → Type 0
RunsIn case lower own upper a b = Works case a.area lower own upper a.moments (cleared lower own upper (Restarts ∷ a.steps)) b.steps

-- in the second block of the area between its neighbours
abbrev pub RunsBeside : Case → Driver → Driver → Type 0
RunsBeside case a b = RunsIn case a.area.first (a.area.first + 1) (a.area.first + 2) a b

-- in the last block of the area, with the first and the second one
abbrev pub RunsAtEnds : Case → Driver → Driver → Type 0
RunsAtEnds case a b = RunsIn case a.area.first (a.area.first + (a.area.count - 1)) (a.area.first + 1) a b

-- all that a case asks
abbrev pub Runs : Case → Driver → Driver → Type 0
Runs Sizes a b = b.steps ≡ Restarts ∷ a.steps
Runs Fresh a b = RunsBeside Fresh a b
Runs ReadBack a b = RunsBeside ReadBack a b
Runs InOrder a b = RunsBeside InOrder a b
Runs OneBlock a b = RunsBeside OneBlock a b
Runs FailedProgram a b = RunsBeside FailedProgram a b
Runs FailedErase a b = RunsBeside FailedErase a b
Runs CutProgram a b = RunsBeside CutProgram a b
Runs CutErase a b = RunsBeside CutErase a b
Runs Restart a b = RunsBeside Restart a b
Runs Ends a b = RunsAtEnds Ends a b
Runs Neighbours a b = RunsBeside Neighbours a b
