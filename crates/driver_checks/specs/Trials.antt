-- Operations in which a fault is planned, at one moment after the other.
use Rattle.std.specs.Prelude.{◌≡◌, ℕ, ◌+◌, ◌-◌, ◌<◌, List, ◌∷◌, Result, Ok, Err}
use Rattle.flash_model.specs.declared.flash.DevFault.{DevFault}
use Rattle.flash_model.specs.declared.flash.DevFault.TheVariants.{PowerCut}
use Rattle.flash_model.specs.declared.fault_kind.Operation.TheVariants.{Program, Erase}
use Rattle.driver_checks.specs.declared.area.Area.{Area}
use Rattle.driver_checks.specs.declared.step.Step.{Step}
use Rattle.driver_checks.specs.declared.step.Step.TheVariants.{Programs, Erases, Plans, Restarts}
use Rattle.driver_checks.specs.Areas.{area_page}
use Rattle.driver_checks.specs.Filling.{filled}

-- what a program or an erase answers
abbrev pub Answer : Type 0
Answer = Result (Unit {0}) DevFault

-- an operation in which a fault was planned may answer so: the fault, and past the first moment of a cut also that it was done
abbrev pub MayAnswer : DevFault → ℕ → Answer → Type 0
MayAnswer fault moment (Ok _) = (fault ≡ PowerCut) × (0 < moment)
MayAnswer fault moment (Err told) = told ≡ fault

-- a block was filled but for its last page, and that was programmed with a fault planned at a moment, and answered so
abbrev pub program_tried : Area → ℕ → DevFault → ℕ → Answer → List Step → List Step
program_tried g own fault moment answer steps =
    Restarts ∷ Programs (area_page g own (g.sizes.pages - 1)) answer ∷ Plans Program fault moment ∷ filled g own (g.sizes.pages - 1) (Erases own (Ok tt) ∷ steps)

-- a block was filled, and erased with a fault planned at a moment, and answered so
abbrev pub erase_tried : Area → ℕ → DevFault → ℕ → Answer → List Step → List Step
erase_tried g own fault moment answer steps =
    Restarts ∷ Erases own answer ∷ Plans Erase fault moment ∷ filled g own g.sizes.pages (Erases own (Ok tt) ∷ steps)

-- a moment was tried, and the answer was one that may be
pub record TriesMoment (tried : ℕ → Answer → List Step → List Step) (fault : DevFault) (moment : ℕ) (before after : List Step) : Type 0 where
  pub answer : Answer
  pub may : MayAnswer fault moment answer
  pub steps : after ≡ tried moment answer before

-- each of the first so many moments was tried, one after the other
pub data TriesMoments (tried : ℕ → Answer → List Step → List Step) (fault : DevFault) : ℕ → List Step → List Step → Type 0 where
  none : (steps : List Step) → TriesMoments tried fault 0 steps steps
  more : (moment : ℕ) (before between after : List Step) → TriesMoments tried fault moment before between
      → TriesMoment tried fault moment between after → TriesMoments tried fault (moment + 1) before after

-- there are moments, and each was tried
abbrev pub TriesEach : (ℕ → Answer → List Step → List Step) → DevFault → ℕ → List Step → List Step → Type 0
TriesEach tried fault moments before after = (0 < moments) × TriesMoments tried fault moments before after
