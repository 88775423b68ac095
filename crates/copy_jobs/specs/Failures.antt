-- By what a copy ends that is not made.
use Rattle.copies.specs.declared.uncopied.Uncopied.{Uncopied}
use Rattle.image_jobs.specs.Failures.{of_refusal, of_system}
use Rattle.image_jobs.specs.declared.failure.Failure.{Failure}
use Rattle.salvages.specs.declared.losses.LossFault.{LossFault}
use Rattle.script_runs.specs.declared.scripts.Refusal.{Refusal}

-- by why a flash is not copied
abbrev pub of_uncopied : Uncopied → Failure
of_uncopied (Uncopied.Unmounted fault) = of_system fault
of_uncopied (Uncopied.Unready fault) = of_system fault
of_uncopied (Uncopied.Unread fault) = of_refusal (Refusal.Fault fault)
of_uncopied Uncopied.TooManyLines = Failure.TooManyLines
of_uncopied (Uncopied.Refused fault) = of_refusal (Refusal.Fault fault)

-- by why it is not known what is left
abbrev pub of_untold : LossFault → Failure
of_untold (LossFault.Refused fault) = of_system fault
of_untold LossFault.TooManyLines = Failure.TooManyLines
