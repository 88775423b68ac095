-- One moment more.
use Rattle.std.specs.Prelude.{ℕ, ◌+◌, ◌<◌, List}
use Rattle.std.proofs.Common.{sym, subst}
use Rattle.flash_model.specs.declared.flash.DevFault.{DevFault}
use Rattle.flash_model.specs.declared.fault_kind.Operation.{Operation}
use Rattle.driver_checks.specs.declared.step.Step.{Step}
use Rattle.driver_checks.specs.Driver.{Driver, AsksAtMost}
use Rattle.driver_checks.specs.Trials.{Answer, TriesMoment, TriesMoments, more}

pub moments_more : (tried : ℕ → Answer → List Step → List Step) (fault : DevFault) (moment : ℕ) (before between after : List Step)
    → TriesMoments tried fault moment before between → TriesMoment tried fault moment between after → TriesMoments tried fault (moment + 1) before after
moments_more tried fault moment before between after tries one = more moment before between after tries one

-- a moment that a driver has it has later
pub moment_on : (a b : Driver) (n : ℕ) (class : Operation) (fault : DevFault) (moment : ℕ) → AsksAtMost a b n
    → moment < a.moments class fault → moment < b.moments class fault
moment_on a b n class fault moment asks below =
    subst (λ (moments : Operation → DevFault → ℕ). moment < moments class fault) (sym asks.moments) below
