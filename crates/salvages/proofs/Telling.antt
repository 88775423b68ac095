-- What is told of a flash is told of it as it was before reads.
use Rattle.std.proofs.Common.{◌≡◌, ◌⊎◌, ℕ, ◌-◌, ◌<◌, Option, Some, None, sym, ap, subst, ◌∙◌}
use Rattle.flash_model.specs.Device.{Device}
use Rattle.flash_model.specs.Geometry.{IsGeometry}
use Rattle.flash_model.specs.Reading.{OnlyReads}
use Rattle.node_store.specs.NodePages.{node_of}
use Rattle.node_store.specs.ReadingLaws.{OnlyReads_nodes}
use Rattle.flash_model.specs.Geometry.{block_bytes}
use Rattle.node_format.specs.Headers.{body_header}
use Rattle.nodes.specs.Bodies.{Blocks}
use Rattle.record_format.specs.declared.record.Record.{Record}
use Rattle.anchors.proofs.Committed.{committed_stays}
use Rattle.working_state.specs.Seen.{capacity_of}
use Rattle.salvages.proofs.Saving.{cause_back}
use Rattle.salvages.specs.Lefts.{rest_bytes}
use Rattle.salvages.specs.Losses.{lost_of, cost_of}
use Rattle.salvages.specs.Remade.{Makes, IsRest, IsRestAt, UnmadeCause}
use Rattle.known_nodes.specs.Rests.{rest_in}
use Rattle.salvages.specs.Told.{rest_root}
use Rattle.salvages.specs.declared.found.TheConstants.{MAX_COST}
use Rattle.salvages.specs.declared.losses.LossFault.{LossFault}
use Rattle.salvages.specs.declared.making.Rest.{Rest}
use Rattle.salvages.specs.declared.making.TheConstants.{MAX_BYTES}

module _ (d e : Device) (lawful : IsGeometry d.geometry) (reads : OnlyReads d e) where
  same_capacity : capacity_of e ≡ capacity_of d
  same_capacity = λ i. block_bytes (reads.geometry i) - body_header

  same_nodes : node_of e ≡ node_of d
  same_nodes = OnlyReads_nodes d e lawful reads

  -- what is left of a tree
  left_stays : (newest : Record) (root : ℕ) (rest : Rest) → IsRest e newest root rest → IsRest d newest root rest
  left_stays newest root rest is = record {
    makes = subst (λ c. Makes c rest.calls.items) (λ i. rest_in (same_capacity i) (same_nodes i) root) is.makes;
    losses = is.losses ∙ (λ i. lost_of (same_capacity i) (same_nodes i) root);
    beside = is.beside;
  }

  left_at : (newest : Record) (o : Option ℕ) (found : Option Rest) → IsRestAt e newest o found → IsRestAt d newest o found
  left_at newest None found is = is
  left_at newest (Some root) found (rest, same, is) = (rest, same, left_stays newest root rest is)

  pub rest_stays : (found : Option Rest) (r : Record) → IsRestAt e r (rest_root (node_of e) r) found → IsRestAt d r (rest_root (node_of d) r) found
  rest_stays found r is = left_at r (rest_root (node_of d) r) found (subst (λ (f : Blocks). IsRestAt e r (rest_root f r) found) same_nodes is)

  pub unmade_back : (new : Device) (why : LossFault) → UnmadeCause e new why → UnmadeCause d new why
  unmade_back new (LossFault.Refused fault) cause = cause_back d e new fault lawful reads cause
  unmade_back new LossFault.TooManyLines cause = record {
    newest = cause.newest;
    holds = sym (committed_stays d e reads) ∙ cause.holds;
    root = cause.root;
    is_rest = ap (λ (f : Blocks). rest_root f cause.newest) (sym same_nodes) ∙ cause.is_rest;
    much = let moved : ((MAX_COST < cost_of (capacity_of e) (node_of e) cause.root) ⊎ (MAX_BYTES < rest_bytes (capacity_of e) (node_of e) cause.root)) ≡ ((MAX_COST < cost_of (capacity_of d) (node_of d) cause.root) ⊎ (MAX_BYTES < rest_bytes (capacity_of d) (node_of d) cause.root)) =
        (λ i. (MAX_COST < cost_of (same_capacity i) (same_nodes i) cause.root) ⊎ (MAX_BYTES < rest_bytes (same_capacity i) (same_nodes i) cause.root)) in subst (λ (A : Type 0). A) moved cause.much;
  }
