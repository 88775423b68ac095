-- An operation of a flash is one of a driver on its bench.
use Rattle.std.specs.Prelude.{◌≡◌, ℕ, ◌+◌, ◌/◌, ◌<◌, ◌≤◌, Bool, true, false, List, Result, if◌then◌else◌}
use Rattle.std.proofs.Common.{arith, refl}
use Rattle.std.proofs.Math.Nat.{le-div_iff_mul-le, div-lt_iff_lt-mul}
use Rattle.flash_model.specs.declared.flash.DevFault.{DevFault}
use Rattle.flash_model.specs.declared.flash.PageState.{PageState}
use Rattle.flash_model.specs.declared.fault_kind.Operation.{Operation}
use Rattle.flash_model.specs.Device.{Device, Reads, Programs, Erases}
use Rattle.driver_checks.specs.Areas.{GivesBlock, GivesPage}
use Rattle.driver_checks.specs.declared.area.Area.{Area}
use Rattle.driver_checks.specs.declared.step.Step.{Step}
use Rattle.driver_checks.specs.Driver.{AsksAtMost, OnlyAsks, driver_of}
use Rattle.driver_benches.specs.Flaws.{moments_with}

counted_once : (powered : Bool) (old new : ℕ) → new ≡ old + (if powered then 1 else 0) → new ≤ old + 1
counted_once true old new count = omega arith
counted_once false old new count = omega arith

pub read_looks : (area : Area) (moments : Operation → DevFault → ℕ) (steps : List Step) (old new : Device) (p : ℕ) (was now : List ℕ) (result : Result PageState DevFault)
    → Reads old p was new now result → OnlyAsks (driver_of area old moments steps) (driver_of area new moments steps) 1
read_looks area moments steps old new p was now result reads = record {
  area = refl;
  told = reads.operates.geometry;
  pages = reads.pages;
  moments = refl;
  steps = refl;
  operations = counted_once old.powered old.operations new.operations reads.operates.operations;
}

pub program_works : (area : Area) (moments : Operation → DevFault → ℕ) (before after : List Step) (old new : Device) (p : ℕ) (bytes : List ℕ) (result : Result (Unit {0}) DevFault)
    → Programs old p bytes new result → AsksAtMost (driver_of area old moments before) (driver_of area new moments after) 1
program_works area moments before after old new p bytes result programs = record {
  area = refl;
  moments = refl;
  operations = counted_once old.powered old.operations new.operations programs.operates.operations;
}

pub erase_works : (area : Area) (moments : Operation → DevFault → ℕ) (before after : List Step) (old new : Device) (b : ℕ) (result : Result (Unit {0}) DevFault)
    → Erases old b new result → AsksAtMost (driver_of area old moments before) (driver_of area new moments after) 1
erase_works area moments before after old new b result erases = record {
  area = refl;
  moments = refl;
  operations = counted_once old.powered old.operations new.operations erases.operates.operations;
}

-- the block of a page that may be used up may be used up
pub block_given : (g : Area) (p : ℕ) → 0 < g.sizes.pages → GivesPage g p → GivesBlock g (p / g.sizes.pages)
block_given g p some given = record {
  from = (le-div_iff_mul-le some).1 given.from;
  below = (div-lt_iff_lt-mul some).1 given.below;
}

-- a moment that a driver with a flaw tells is one of the driver below it
pub moment_below : (silent : Bool) (moments : Operation → DevFault → ℕ) (class : Operation) (fault : DevFault) (moment : ℕ)
    → moment < moments_with silent moments class fault → moment < moments class fault
moment_below true moments class fault moment below = absurd (omega arith)
moment_below false moments class fault moment below = below
