-- What the work on two file systems met.
use Rattle.std.proofs.Common.{◌≡◌, inl, inr, sym, subst}
use Rattle.fs_types.specs.declared.fault.Fault.{Fault}
use Rattle.flash_model.specs.declared.flash.Flash.{Ghosts}
use Rattle.plain_trees.specs.Trees.{Tree}
use Rattle.undofs.specs.declared.fs.Fs.{Fs}
use Rattle.inquiries.specs.Folders.{IsSmall, Unlisted}
use Rattle.inquiries.specs.Readings.{IsUnchanged}
use Rattle.inquiries.specs.declared.tell_fault.TellFault.{TellFault}
use Rattle.inquiries.proofs.Readings.{meets-later}
use Rattle.updates.specs.Asked.{MeetsEither, Untold}

module _ {F G : Type 0} {flash : Ghosts F} {another : Ghosts G} where
  -- what was met in the second part was met in both
  pub either_later : (a b c : Fs F flash) (d e f : Fs G another) (fault : Fault) → IsUnchanged a b → IsUnchanged d e → MeetsEither b e c f fault → MeetsEither a d c f fault
  either_later a b c d e f fault first second (inl met) = inl (meets-later a b c fault first met)
  either_later a b c d e f fault first second (inr met) = inr (meets-later d e f fault second met)

  -- why one of two trees of the second is not listed is why no update is told
  pub untold_first : (a : Fs F flash) (d e : Fs G another) (t old new : Tree) (fault : TellFault) → t ≡ old → Unlisted t d e fault → Untold old new a d a e fault
  untold_first a d e t old new (TellFault.Refused fault) same met = inr met
  untold_first a d e t old new TellFault.TooManyLines same large = λ small. large (subst IsSmall (sym same) small.0)

  pub untold_second : (a : Fs F flash) (d e f : Fs G another) (old new : Tree) (fault : TellFault) → IsUnchanged d e → Unlisted new e f fault → Untold old new a d a f fault
  untold_second a d e f old new (TellFault.Refused fault) before met = inr (meets-later d e f fault before met)
  untold_second a d e f old new TellFault.TooManyLines before large = λ small. large small.1
