-- Where the pages of data blocks are the same, so are nodes, trees and all that is made of them.
use Rattle.std.proofs.Common.{◌≡◌, ℕ, ◌-◌, ◌*◌, ◌≤◌, Bool, true, false, refl, sym, ap, subst, ◌∙◌, arith}
use Rattle.std.proofs.lemmas.Bool.{leb-true}
use Rattle.std.specs.Prelude.{◌&&◌, nat_le, nat_lt, if◌then◌else◌, None}
use Rattle.flash_model.specs.declared.geometry.Geometry.{Geometry}
use Rattle.flash_model.specs.Device.{Device, block_of}
use Rattle.flash_model.specs.Geometry.{IsGeometry, block_bytes}
use Rattle.node_format.specs.Headers.{body_header}
use Rattle.node_store.specs.NodePages.{node_of, node_at}
use Rattle.node_store.specs.NodeLaws.{node_of-same}
use Rattle.block_ring.specs.Ring.{Ring}
use Rattle.nodes.specs.Bodies.{Blocks}
use Rattle.nodes.specs.Reached.{IsHeld}
use Rattle.nodes.specs.Trees.{IsRoot, root_tree}
use Rattle.node_format.specs.declared.place.Place.TheVariants.{Dir}
use Rattle.working_state.specs.Seen.{capacity_of, tree_on}
use Rattle.working_state.specs.Mounted.{IsStanding}
use Rattle.std.specs.FinSet as set
use Rattle.fs_types.specs.declared.limits.TheConstants.{ANCHORS}

-- no page of a data block changes
pub record HasSameData (d e : Device) : Type 0 where
  pub lawful : IsGeometry d.geometry
  pub geometry : e.geometry ≡ d.geometry
  pub data_pages : (p : ℕ) → ANCHORS ≤ block_of d p → e.pages p ≡ d.pages p

module _ (d e : Device) (same : HasSameData d e) where
  pub node_is : (b : ℕ) → node_of e b ≡ node_of d b
  node_is b = on (nat_le ANCHORS b) refl
    where
      on : (x : Bool) → nat_le ANCHORS b ≡ x → node_of e b ≡ node_of d b
      on true above = node_of-same d e b same.lawful same.geometry (λ p own. same.data_pages p (let least : ANCHORS ≤ b = leb-true ANCHORS b above in omega (arith, own, least)))
      on false none =
          ap (λ (x : Bool). if x && nat_lt b e.geometry.blocks then node_at e.geometry e.pages (b * e.geometry.pages) else None) none
          ∙ sym (ap (λ (x : Bool). if x && nat_lt b d.geometry.blocks then node_at d.geometry d.pages (b * d.geometry.pages) else None) none)

  pub same_nodes : node_of e ≡ node_of d
  same_nodes = λ i b. node_is b i

  pub same_room : capacity_of e ≡ capacity_of d
  same_room = ap (λ (g : Geometry). block_bytes g - body_header) same.geometry

  pub same_tree : tree_on e ≡ tree_on d
  same_tree = λ i root. root_tree (same_room i) (same_nodes i) root

  pub stands_too : (ring : Ring) (root : ℕ) → IsStanding d ring root → IsStanding e ring root
  stands_too ring root s = record {
    held = subst (λ (f : Blocks). IsHeld f (set.contains ring.used) (Dir root)) (sym same_nodes) s.held;
    rooted = subst (λ (capacity : ℕ). IsRoot capacity (node_of e) root) (sym same_room) (subst (λ (f : Blocks). IsRoot (capacity_of d) f root) (sym same_nodes) s.rooted);
  }
