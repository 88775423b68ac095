-- Where no page changes, the newest record is as it was, with the trees of its roots.
use Rattle.std.proofs.Common.{◌≡◌, ℕ, sym, ◌∙◌}
use Rattle.std.specs.Option.{option_map}
use Rattle.flash_model.specs.Device.{Device}
use Rattle.flash_model.specs.Geometry.{IsGeometry}
use Rattle.history_machine.specs.History.{map_roots}
use Rattle.record_format.specs.declared.record.Record.{Record}
use Rattle.anchors.specs.Parts.{newest_on}
use Rattle.mounting.specs.Records.{history_of, roots_of, knows_plain_only}
use Rattle.mounting.specs.Saved.{saved_on, saved_trees, IsWholeRecord}
use Rattle.system.proofs.Committed.{same_saved}
use Rattle.mounting.proofs.Loading.{later_trees}
use Rattle.mounting.proofs.SameNodes.{HasSameData, same_nodes, same_tree}

module _ (d e : Device) (lawful : IsGeometry d.geometry) (geometry : e.geometry ≡ d.geometry) (pages : (p : ℕ) → e.pages p ≡ d.pages p) where
  same : HasSameData d e
  same = record { lawful = lawful; geometry = geometry; data_pages = λ p least. pages p }

  pub still_saved : saved_on e ≡ saved_on d
  still_saved = same_saved d e geometry (λ i. newest_on d.geometry (λ p. pages p i))

  pub same_trees : saved_trees e ≡ saved_trees d
  same_trees = λ i. option_map (λ (r : Record). map_roots (same_tree d e same i) (history_of r)) (still_saved i)

  pub still_whole : IsWholeRecord d → IsWholeRecord e
  still_whole whole r is =
      later_trees d e (knows_plain_only r) (roots_of (history_of r)) geometry (same_nodes d e same) (whole r (sym still_saved ∙ is))
