use Rattle.std.proofs.Common.{ℕ, List, reverse, sym, subst, ◌∙◌}
use Rattle.std.specs.Prelude.{Contains}
use Rattle.nodes.specs.Bodies.{Blocks}
use Rattle.node_store.specs.NodePages.{node_of}
use Rattle.node_store.specs.ReadingLaws.{OnlyReads_nodes}
use Rattle.tree_counts.specs.FirstRoots.{AreFirstRoots}
use Rattle.working_state.specs.Moments.{Moment, moment}
use Rattle.working_state.proofs.Standing.{looked_at, looked_worked, worked_mounted}
use Rattle.mounting.specs.Costs.{AsksEach}
use Rattle.mounting.specs.Records.{working_roots}
use Rattle.system.proofs.FreeSpace.{reverse_has, asks_same, finds_in}
use Rattle.system.proofs.Measured.{mounted_roots}
use Rattle.system.proofs.history_space.find_least.Goals as goal

pub first_roots_on-requires-clause-trees : goal.first_roots_on-requires-clause-trees
first_roots_on-requires-clause-trees g c root has =
    let s = c.args.state.now in
    mounted_roots (g.F.Flash.device c.args.flash.now) s c.requires root (reverse_has (working_roots s) root (subst (λ (l : List ℕ). Contains l root) (c.deref.ensures.value ∙ c.in_ok-roots.ensures.listed) has))

pub returns-in_err-lasts-clause-asks : goal.returns-in_err-lasts-clause-asks
returns-in_err-lasts-clause-asks g c =
    let d = g.F.Flash.device c.args.flash.now in
    let e = g.F.Flash.device c.first_roots_on.new.flash in
    let all = working_roots c.args.state.now in
    asks_same d e (reverse all) all (reverse_has all) (subst (λ (l : List ℕ). AsksEach d l e) (c.deref.ensures.value ∙ c.in_ok-roots.ensures.listed) c.first_roots_on.ensures.asks)

pub returns-clause-asks : goal.returns-clause-asks
returns-clause-asks g c =
    let d = g.F.Flash.device c.args.flash.now in
    let e = g.F.Flash.device c.first_roots_on.new.flash in
    let all = working_roots c.args.state.now in
    asks_same d e (reverse all) all (reverse_has all) (subst (λ (l : List ℕ). AsksEach d l e) (c.deref.ensures.value ∙ c.in_ok-roots.ensures.listed) c.first_roots_on.ensures.asks)

pub returns-clause-finds : goal.returns-clause-finds
returns-clause-finds g c =
    let d = g.F.Flash.device c.args.flash.now in
    let e = g.F.Flash.device c.first_roots_on.new.flash in
    let s = c.args.state.now in
    let t = record s { storage = c.first_roots_on.new.storage } in
    let looked = c.first_roots_on.ensures.looked in
    let a : Moment = moment d s in
    let all = working_roots s in
    finds_in d s c.args.blocks e t c.least_enough.result
    (c.least_enough.ensures e (worked_mounted a (moment e t) c.requires (looked_worked a (moment e t) (looked_at a e c.first_roots_on.new.storage looked)))
    (subst (λ (f : Blocks). AreFirstRoots f (reverse all) c.deref-2.result.now) (sym (OnlyReads_nodes d e c.requires.lawful looked.untouched.device))
    (subst (λ (l : List ℕ). AreFirstRoots (node_of d) (reverse all) l) (sym c.deref-2.ensures.value)
    (subst (λ (l : List ℕ). AreFirstRoots (node_of d) l c.in_ok-lasts.lasts.items) (c.deref.ensures.value ∙ c.in_ok-roots.ensures.listed) c.in_ok-lasts.ensures.firsts))))
