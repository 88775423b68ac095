use Rattle.std.proofs.Common.{◌≡◌, subst, sym, ap, map, rules}
use Rattle.flash_model.specs.Device.{Device}
use Rattle.node_store.specs.NodePages.{node_of}
use Rattle.std.specs.Prelude.{IfOk}
use Rattle.directory.specs.Places.{AllBegin, nodes_of_all, with_stat}
use Rattle.working_state.specs.Looking.{AsksFirsts}
use Rattle.working_state.proofs.Looks.{on_devices}
use Rattle.working_state.proofs.state.State.stats_at.Goals as goal

pub stats-requires-clause-begin : goal.stats-requires-clause-begin
stats-requires-clause-begin g c =
    subst (λ (d : Device). AllBegin (node_of d) c.args.entries.now) (sym (ap (λ b. g.F.Flash.device b.now) c.new-store.ensures.flash)) c.requires.begin

pub returns-clause-asks : goal.returns-clause-asks
returns-clause-asks g c =
    on_devices (λ d e. AsksFirsts d (nodes_of_all (node_of d) c.args.entries.now) e) _ (g.F.Flash.device c.new-store.result.flash.now) _ (g.F.Flash.device c.stats.new.nodes.flash.now)
    (ap (λ b. g.F.Flash.device b.now) c.new-store.ensures.flash) (search rules) (record { most = c.stats.ensures.asks })

pub returns-clause-stats : goal.returns-clause-stats
returns-clause-stats g c =
    subst (λ (d : Device). IfOk c.stats.result (λ told. told ≡ map (with_stat (node_of d)) c.args.entries.now))
    (ap (λ b. g.F.Flash.device b.now) c.new-store.ensures.flash) c.stats.ensures.stats
