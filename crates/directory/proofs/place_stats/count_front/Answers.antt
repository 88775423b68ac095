use Rattle.std.proofs.Common.{ℕ, Option, List, sym, ap, subst, ◌∙◌}
use Rattle.std.specs.Option.{option_map_or}
use Rattle.nodes.specs.Parts.{IsFront}
use Rattle.directory.proofs.FrontReads.{front_says}
use Rattle.directory.proofs.place_stats.count_front.Goals as goal

pub unreachable-requires : goal.unreachable-requires
unreachable-requires g c =
    c.in_default.not-Some _
    (front_says (g.N.Nodes.page c.args.nodes.now) (g.N.Nodes.node c.args.nodes.now c.args.block) c.fronted.result.now c.requires.node.0 c.front_count.result (g.met.N.Nodes.least_page c.args.nodes.now c.requires.sound) c.requires.node.1
    (λ bytes is. subst (λ (front : List ℕ). IsFront (g.N.Nodes.page c.args.nodes.now) front bytes) (sym c.fronted.ensures) (c.in_ok-front.ensures.begins bytes is)) c.front_count.ensures.told)

pub returns-clause-counted : goal.returns-clause-counted
returns-clause-counted g c =
    let says = front_says (g.N.Nodes.page c.args.nodes.now) (g.N.Nodes.node c.args.nodes.now c.args.block) c.fronted.result.now c.requires.node.0 c.front_count.result (g.met.N.Nodes.least_page c.args.nodes.now c.requires.sound) c.requires.node.1
    (λ bytes is. subst (λ (front : List ℕ). IsFront (g.N.Nodes.page c.args.nodes.now) front bytes) (sym c.fronted.ensures) (c.in_ok-front.ensures.begins bytes is)) c.front_count.ensures.told in
    let is = sym says ∙ c.in-Some.is in
    (ap (λ (o : Option (ℕ × ℕ)). option_map_or (λ r. r.0) o 0) is, ap (λ (o : Option (ℕ × ℕ)). option_map_or (λ r. r.1) o 0) is)
