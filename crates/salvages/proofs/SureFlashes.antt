-- A sure flash, and the pages of its data blocks.
use Rattle.std.proofs.Common.{◌≡◌, ℕ, ◌+◌, ◌*◌, ◌/◌, ◌%◌, ◌<◌, ◌≤◌, ap, ◌∙◌, arith}
use Rattle.std.proofs.lemmas.Nat.{div-add-mod', mul-le}
use Rattle.fs_types.specs.declared.limits.TheConstants.{ANCHORS}
use Rattle.flash_model.specs.declared.geometry.Geometry.{Geometry}
use Rattle.flash_simulation.specs.declared.sim_flash.SimFlash.{SimFlash}
use Rattle.flash_model.specs.Device.{Device}
use Rattle.flash_simulation.specs.Simulation.{device_of, plan_of}
use Rattle.salvages.specs.Copies.{IsSure, HasPagesOnly}

-- pages that change leave a flash sure
pub still_sure : (sizes : Geometry) (flash after : SimFlash) → HasPagesOnly (device_of flash) (device_of after) → plan_of after ≡ plan_of flash → IsSure sizes flash → IsSure sizes after
still_sure sizes flash after only plan sure = record {
  geometry = ap (λ (d : Device). d.geometry) only ∙ sure.geometry;
  powered = ap (λ (d : Device). d.powered) only ∙ sure.powered;
  worn = λ b. ap (λ (d : Device). d.worn b) only ∙ sure.worn b;
  plan = plan ∙ sure.plan;
}

-- the pages of the anchors come first
pub data_from : (g : Geometry) (p : ℕ) → ANCHORS ≤ p / g.pages → ANCHORS * g.pages ≤ p
data_from g p past =
    let is : p / g.pages * g.pages + p % g.pages ≡ p = div-add-mod' p g.pages in
    let most : ANCHORS * g.pages ≤ p / g.pages * g.pages = mul-le ANCHORS g.pages (p / g.pages) g.pages past (omega arith) in
    omega arith

pub anchors_to : (g : Geometry) (p : ℕ) → 1 ≤ g.pages → p / g.pages < ANCHORS → p < ANCHORS * g.pages
anchors_to g p some before =
    let is : p / g.pages * g.pages + p % g.pages ≡ p = div-add-mod' p g.pages in
    let most : (p / g.pages + 1) * g.pages ≤ ANCHORS * g.pages = mul-le (p / g.pages + 1) g.pages ANCHORS g.pages (omega arith) (omega arith) in
    omega arith
