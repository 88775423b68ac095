-- What is put on a flash that is found in one way is put on one that is found in another, where each is found so.
use Rattle.std.proofs.Common.{◌≡◌, ℕ, List, [], ◌∷◌, inl, inr, sym, subst}
use Rattle.fs_types.specs.Names.{Path}
use Rattle.fs_types.specs.declared.event.Event.{Event}
use Rattle.flash_simulation.specs.declared.sim_flash.SimFlash.{SimFlash}
use Rattle.host_interface.specs.Files.{Held, Readings, readings_of}
use Rattle.host_interface.specs.Sources.{Found}
use Rattle.host_interface.specs.declared.source.SourceKind.{SourceKind}
use Rattle.image_jobs.specs.declared.failure.Failure.{Failure}
use Rattle.put_jobs.specs.Places.{put_place}
use Rattle.put_jobs.specs.Puts.{Is, IsNever, IsThingBy, AreThings, PutsBy, PutCause}
use Rattle.put_lots.specs.declared.thing.Thing.{Thing}

pub puts_as : (IsThere IsHere : SimFlash → Type 0) → ((flash : SimFlash) → IsThere flash → IsHere flash) → (removed : List Event) (readings : Readings) (base : Path) (all : List Found) (start end : SimFlash)
    → PutsBy IsThere removed readings base all start end → PutsBy IsHere removed readings base all start end
puts_as IsThere IsHere here removed readings base all start end (things, there, are, puts) = (things, here start there, are, puts)

pub cause_as : (IsThere IsHere : SimFlash → Type 0) (Cause Reason : Failure → Type 0) → ((flash : SimFlash) → IsThere flash → IsHere flash) → ((failure : Failure) → Cause failure → Reason failure)
    → (removed : List Event) (readings : Readings) (base : Path) (all : List Found) (failure : Failure)
    → PutCause IsThere Cause removed readings base all failure → PutCause IsHere Reason removed readings base all failure
cause_as IsThere IsHere Cause Reason here reason removed readings base all failure (inl cause) = inl (reason failure cause)
cause_as IsThere IsHere Cause Reason here reason removed readings base all failure (inr (inl memory)) = inr (inl memory)
cause_as IsThere IsHere Cause Reason here reason removed readings base all failure (inr (inr (inl cause))) = inr (inr (inl cause))
cause_as IsThere IsHere Cause Reason here reason removed readings base all failure (inr (inr (inr (inl (start, end, fault, there, unmounted, why))))) =
    inr (inr (inr (inl (start, end, fault, here start there, unmounted, why))))
cause_as IsThere IsHere Cause Reason here reason removed readings base all failure (inr (inr (inr (inr (start, first, later, things, refusal, there, parts, are, stops, why))))) =
    inr (inr (inr (inr (start, first, later, things, refusal, here start there, parts, are, stops, why))))

-- and so on this flash, which is found so
pub puts_on : (IsThere : SimFlash → Type 0) (flash : SimFlash) → IsThere flash → (removed : List Event) (readings : Readings) (base : Path) (all : List Found) (start end : SimFlash)
    → PutsBy (Is flash) removed readings base all start end → PutsBy IsThere removed readings base all start end
puts_on IsThere flash there = puts_as (Is flash) IsThere (λ (one : SimFlash) (same : one ≡ flash). subst IsThere (sym same) there)

pub cause_on : (IsThere : SimFlash → Type 0) (Cause : Failure → Type 0) (flash : SimFlash) → IsThere flash → (removed : List Event) (readings : Readings) (base : Path) (all : List Found) (failure : Failure)
    → PutCause (Is flash) IsNever removed readings base all failure → PutCause IsThere Cause removed readings base all failure
cause_on IsThere Cause flash there =
    cause_as (Is flash) IsThere IsNever Cause (λ (one : SimFlash) (same : one ≡ flash). subst IsThere (sym same) there) (λ (failure : Failure) (none : IsNever failure). absurd none)

-- a thing of what reads give is one of what they may give
thing_given : (held : Held) (Reads More : List ℕ → List ℕ → Type 0) → ((name bytes : List ℕ) → Reads name bytes → More name bytes) → (kind : SourceKind) (path : Path) (name : List ℕ) (thing : Thing)
    → IsThingBy (readings_of held Reads) kind path name thing → IsThingBy (readings_of held More) kind path name thing
thing_given held Reads More more SourceKind.Folder path name thing is = is
thing_given held Reads More more (SourceKind.File length) path name thing (bytes, is, front, given) = (bytes, is, front, more name bytes given)
thing_given held Reads More more _ path name thing is = absurd is

things_given : (held : Held) (Reads More : List ℕ → List ℕ → Type 0) → ((name bytes : List ℕ) → Reads name bytes → More name bytes) → (base : Path) (all : List Found) (things : List Thing)
    → AreThings (readings_of held Reads) base all things → AreThings (readings_of held More) base all things
things_given held Reads More more base [] [] are = tt
things_given held Reads More more base [] (thing ∷ things) are = absurd are
things_given held Reads More more base (found ∷ all) [] are = absurd are
things_given held Reads More more base (found ∷ all) (thing ∷ things) ((lawful, is), are) =
    ((lawful, thing_given held Reads More more found.kind (put_place base found) found.name thing is), things_given held Reads More more base all things are)

-- so all that is put is, and what is not put is not
pub puts_given : (IsThere : SimFlash → Type 0) (held : Held) (Reads More : List ℕ → List ℕ → Type 0) → ((name bytes : List ℕ) → Reads name bytes → More name bytes) → (removed : List Event) (base : Path) (all : List Found) (start end : SimFlash)
    → PutsBy IsThere removed (readings_of held Reads) base all start end → PutsBy IsThere removed (readings_of held More) base all start end
puts_given IsThere held Reads More more removed base all start end (things, there, are, puts) = (things, there, things_given held Reads More more base all things are, puts)

pub cause_given : (IsThere : SimFlash → Type 0) (Cause : Failure → Type 0) (held : Held) (Reads More : List ℕ → List ℕ → Type 0) → ((name bytes : List ℕ) → Reads name bytes → More name bytes) → (removed : List Event) (base : Path) (all : List Found)
    (failure : Failure) → PutCause IsThere Cause removed (readings_of held Reads) base all failure → PutCause IsThere Cause removed (readings_of held More) base all failure
cause_given IsThere Cause held Reads More more removed base all failure (inl cause) = inl cause
cause_given IsThere Cause held Reads More more removed base all failure (inr (inl memory)) = inr (inl memory)
cause_given IsThere Cause held Reads More more removed base all failure (inr (inr (inl cause))) = inr (inr (inl cause))
cause_given IsThere Cause held Reads More more removed base all failure (inr (inr (inr (inl unmounted)))) = inr (inr (inr (inl unmounted)))
cause_given IsThere Cause held Reads More more removed base all failure (inr (inr (inr (inr (start, first, later, things, refusal, there, parts, are, stops, why))))) =
    inr (inr (inr (inr (start, first, later, things, refusal, there, parts, things_given held Reads More more base first things are, stops, why))))
