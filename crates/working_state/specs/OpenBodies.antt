-- What is remembered of the bodies of open files.
use Rattle.std.specs.Prelude.{◌≡◌, ℕ, Bool, true, false, Option, Some, None, is_some, Ok, List, replicate, slice_get, slice_set}
use Rattle.std.specs.Option.{option_and_then, ForSome}
use Rattle.history_machine.specs.Descriptors.{Descriptor, Descriptors, descriptor_at}
use Rattle.history_machine.specs.History.{working_root}
use Rattle.fs_types.specs.Names.{Path}
use Rattle.fs_types.specs.declared.call.Call.{Call}
use Rattle.fs_types.specs.declared.limits.TheConstants.{MAX_OPEN_FILES}
use Rattle.flash_model.specs.Device.{Device}
use Rattle.node_store.specs.NodePages.{node_of}
use Rattle.nodes.specs.Bodies.{Blocks}
use Rattle.directory.specs.Lookups.{look_up}
use Rattle.directory.specs.declared.lookups.Found.TheVariants.{File}
use Rattle.tree_edits.specs.Reading.{IsNodeOf}
use Rattle.working_state.specs.Seen.{capacity_of}
use Rattle.working_state.specs.declared.known_bodies.KnownBodies.{KnownBodies}
use Rattle.working_state.specs.declared.known_bodies.KnownBody.{KnownBody}
use Rattle.working_state.specs.declared.state.State.{State}

-- what is known by a number of a place
abbrev pub body_at : List (Option KnownBody) → ℕ → Option KnownBody
body_at places descriptor = option_and_then (λ known. known) (slice_get places descriptor)

abbrev pub known_at : KnownBodies → ℕ → Option KnownBody
known_at bodies descriptor = body_at bodies.places descriptor

abbrev pub nothing_known : KnownBodies
nothing_known = record { places = replicate MAX_OPEN_FILES None }

abbrev pub with_known : KnownBodies → ℕ → KnownBody → KnownBodies
with_known bodies descriptor known = record { places = slice_set bodies.places descriptor (Some known) }

abbrev pub without : KnownBodies → ℕ → KnownBodies
without bodies descriptor = record { places = slice_set bodies.places descriptor None }

-- a call reads an open file
abbrev pub reads_open : Call → Bool
reads_open (Call.Pread descriptor offset count) = true
reads_open call = false

-- what is still known after a call that left the tree that calls work on: not the body of a file that was closed
abbrev pub kept_bodies : Call → KnownBodies → KnownBodies
kept_bodies (Call.Close descriptor) bodies = without bodies descriptor
kept_bodies call bodies = bodies

-- a look-up of a path finds a file of this body, which has the known node
pub record IsBodyAt (capacity : ℕ) (f : Blocks) (root : ℕ) (path : Path) (known : KnownBody) : Type 0 where
  pub found : look_up f root path ≡ Ok (File known.body.head known.body.length)
  pub node : ForSome known.node (IsNodeOf capacity f known.body)

-- the descriptor is of an open file, and what is known of it is what a look-up of its path tells
pub record IsKnownOf (device : Device) (root : ℕ) (file : Option Descriptor) (known : KnownBody) : Type 0 where
  pub is_open : is_some file ≡ true
  pub body : ForSome file (λ opened. IsBodyAt (capacity_of device) (node_of device) root opened.path known)

-- all that is known of open files is so below this root
abbrev pub KnowsBelow : Device → ℕ → Descriptors → KnownBodies → Type 0
KnowsBelow device root files bodies =
    (descriptor : ℕ) (known : KnownBody) → known_at bodies descriptor ≡ Some known
    → IsKnownOf device root (descriptor_at files descriptor) known

-- all that is remembered of open files is what a look-up of their paths tells, in the tree that calls work on
abbrev pub KnowsBodies : Device → State → KnownBodies → Type 0
KnowsBodies device state bodies =
    (root : ℕ) → working_root state.history state.group ≡ Some root → KnowsBelow device root state.files bodies
