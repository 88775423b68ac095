-- Why nothing is told of a path.
use Rattle.std.proofs.Common.{◌≡◌, inr, ℕ, Some, List, subst}
use Rattle.std.specs.FinSet as set
use Rattle.std.specs.Ordering.{nat_cmp}
use Rattle.fs_types.specs.Names.{Path}
use Rattle.fs_types.specs.declared.fault.Fault.{Fault}
use Rattle.node_format.specs.declared.place.Place.{Place}
use Rattle.node_format.specs.declared.place.Place.TheVariants.{Dir}
use Rattle.nodes.specs.Bodies.{Blocks}
use Rattle.nodes.specs.Trees.{leads}
use Rattle.nodes.specs.Words.{Looks}
use Rattle.nodes.specs.declared.nodes.Nodes.{Ghosts}
use Rattle.block_usage.specs.Usages.{ListCause, ReachMany, UsagesCause, places_at}
use Rattle.block_usage.specs.declared.usage_fault.UsageFault.{UsageFault}

-- why nothing is told of what stands there, as nodes were read before
pub list_cause : {S : Type 0} (N : Ghosts S) (causes_on : (s t u : S) (fault : Fault) → N.follows s t → N.causes t u fault → N.causes s u fault) (old mid new : S) (root : ℕ) (path : Path) (at : Place)
    (apart : set.FinSet nat_cmp) (places : List (Path × Place)) (fault : UsageFault) → Looks N old mid → leads (N.node old) (Dir root) path ≡ Some at → places ≡ places_at (N.node old) path at
    → UsagesCause N places apart mid new fault → ListCause N root path apart old new fault
list_cause N causes_on old mid new root path at apart places (UsageFault.Refused fault) looks led are cause = inr (cause.0, causes_on old mid new fault looks.came cause.1)
list_cause N causes_on old mid new root path at apart places UsageFault.TooManyBlocks looks led are many = record {
  at = at;
  led = led;
  are = subst (λ (f : Blocks). ReachMany f apart (places_at (N.node old) path at)) looks.same_nodes (subst (λ (l : List (Path × Place)). ReachMany (N.node mid) apart l) are many);
}
