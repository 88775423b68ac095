use Rattle.std.proofs.Common.{ℕ, List, reverse, subst, ◌∙◌}
use Rattle.std.specs.Prelude.{Contains, IfOk}
use Rattle.node_store.specs.NodePages.{node_of}
use Rattle.tree_counts.specs.FirstRoots.{AreFirstRoots}
use Rattle.mounting.proofs.Asking.{asks_none}
use Rattle.mounting.specs.Costs.{AsksEach}
use Rattle.mounting.specs.Records.{working_roots}
use Rattle.system.proofs.FreeSpace.{asks_same, reverse_has}
use Rattle.system.proofs.Measured.{mounted_roots}
use Rattle.system.proofs.version_space.find_lasts.Goals as goal

pub first_roots_on-requires-clause-trees : goal.first_roots_on-requires-clause-trees
first_roots_on-requires-clause-trees g c root has =
    let s = c.args.state.now in
    let all = working_roots s in
    mounted_roots (g.F.Flash.device c.args.flash.now) s c.requires root (reverse_has all root (subst (λ (l : List ℕ). Contains l root) (c.deref.ensures.value ∙ c.in_ok-roots.ensures.listed) has))

pub returns-in_err-roots-clause-asks : goal.returns-in_err-roots-clause-asks
returns-in_err-roots-clause-asks g c = asks_none (g.F.Flash.device c.args.flash.now) (working_roots c.args.state.now)

pub returns-clause-lasts : goal.returns-clause-lasts
returns-clause-lasts g c =
    let d = g.F.Flash.device c.args.flash.now in
    let all = working_roots c.args.state.now in
    subst (λ (l : List ℕ). IfOk c.first_roots_on.result (λ firsts. AreFirstRoots (node_of d) l firsts.items)) (c.deref.ensures.value ∙ c.in_ok-roots.ensures.listed) c.first_roots_on.ensures.firsts

pub returns-clause-asks : goal.returns-clause-asks
returns-clause-asks g c =
    let d = g.F.Flash.device c.args.flash.now in
    let e = g.F.Flash.device c.first_roots_on.new.flash in
    let all = working_roots c.args.state.now in
    asks_same d e (reverse all) all (reverse_has all) (subst (λ (l : List ℕ). AsksEach d l e) (c.deref.ensures.value ∙ c.in_ok-roots.ensures.listed) c.first_roots_on.ensures.asks)
