-- A flash in memory that fails as planned: the device that it is, and the plan that it follows.
use Rattle.std.specs.Prelude.{◌≡◌, ℕ, ◌+◌, true, false, slice_index_or, Option, if◌then◌else◌}
use Rattle.flash_model.specs.declared.flash.DevFault.{DevFault}
use Rattle.flash_model.specs.declared.geometry.Geometry.{Geometry}
use Rattle.flash_model.specs.declared.fault_kind.Operation.{Operation}
use Rattle.flash_model.specs.declared.fault_kind.Counters.{Counters}
use Rattle.flash_simulation.specs.declared.sim_flash.SimFlash.{SimFlash}
use Rattle.flash_model.specs.Device.{Device, erased}
use Rattle.flash_simulation.specs.Stored.{page_at}
use Rattle.flash_model.specs.Plan.{Schedule, answer_due, begun, count_more}

-- the device
abbrev pub device_of : SimFlash → Device
device_of flash = record {
  geometry = flash.geometry;
  pages = page_at flash.pages;
  powered = flash.powered;
  worn = λ block. slice_index_or flash.worn.items block false;
  failed_reads = flash.failed_reads.n;
  failures = flash.failures.n;
  cuts = flash.cuts.n;
  operations = flash.operations.n;
}

-- the plan at work
abbrev pub plan_of : SimFlash → Schedule
plan_of flash = flash.plan

-- how many operations of each class were asked for while power was on
abbrev pub counts_of : SimFlash → Counters
counts_of flash = flash.plan.counters

-- the counts after the next operation of a class: one more of it with the power on
abbrev pub counts_after : SimFlash → Operation → Counters
counts_after flash class = if flash.powered then count_more (counts_of flash) class else counts_of flash

-- why the next operation of a class is not done: with the power off for want of it, else by what is due
abbrev pub refusal_due : SimFlash → Operation → Option DevFault
refusal_due flash class = answer_due flash.powered flash.plan class

-- the plan after the next operation of a class: it counts with the power on
abbrev pub plan_after : SimFlash → Operation → Schedule
plan_after flash class = if flash.powered then begun flash.plan class else flash.plan

-- a new flash: all pages erased, power on, no block worn, and nothing happened yet
pub record IsNew (sizes : Geometry) (d : Device) : Type 0 where
  pub geometry : d.geometry ≡ sizes
  pub pages : (p : ℕ) → d.pages p ≡ erased
  pub powered : d.powered ≡ true
  pub worn : (b : ℕ) → d.worn b ≡ false
  pub failed_reads : d.failed_reads ≡ 0
  pub failures : d.failures ≡ 0
  pub cuts : d.cuts ≡ 0
  pub operations : d.operations ≡ 0
