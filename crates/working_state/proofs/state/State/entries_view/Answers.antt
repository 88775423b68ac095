use Rattle.std.proofs.Common.{Err, refl, ap, ◌∙◌}
use Rattle.std.proofs.lemmas.Result.{err_from_is_err_and}
use Rattle.fs_types.specs.declared.call.Call.{Call}
use Rattle.fs_types.specs.declared.call.Reply.{Reply}
use Rattle.fs_types.specs.declared.fault.Fault.TheVariants.{NoEntry, NotDirectory}
use Rattle.directory.specs.declared.lookups.Found.TheVariants as found
use Rattle.working_state.specs.Moments.{moment, machine_at}
use Rattle.working_state.proofs.Listings.{refuse_list}
use Rattle.working_state.proofs.PathCalls.{look_refused, found_refused}
use Rattle.working_state.proofs.OpenCalls.{at_answer}
use Rattle.working_state.proofs.Refusals.{looked_answer, refused_step}
use Rattle.working_state.proofs.Standing.{looked_at, looked_worked, worked_itself, worked_mounted, looked_on}
use Rattle.working_state.proofs.Views.{Shows, view_refuses}
use Rattle.working_state.proofs.FileChanges.{looked_itself}
use Rattle.std.proofs.Common.{◌+◌, ◌≤◌, length, subst, sym}
use Rattle.node_store.specs.NodePages.{node_of}
use Rattle.nodes.specs.Bodies.{Blocks}
use Rattle.nodes.specs.Chains.{chain}
use Rattle.directory.specs.Lookups.{way_nodes}
use Rattle.history_machine.specs.Machine.{view_tree, entries_of}
use Rattle.working_state.specs.Looking.{list_nodes, entry_nodes}
use Rattle.working_state.proofs.LookNodes.{way_listed, dir_listed}
use Rattle.working_state.proofs.Looks.{asks_on}
use Rattle.std.specs.Option.{option_copied}
use Rattle.std.proofs.Common.{arith}
use Rattle.working_state.proofs.EntrySteps.{entries_looks, pages_more, pages_on, read_places, places_begin, nodes_told, places_refused, stats_step}
use Rattle.working_state.proofs.PathCalls.{damaged_says}
use Rattle.working_state.proofs.state.State.entries_view.Goals as goal

pub returns-in_err-root : goal.returns-in_err-root
returns-in_err-root g c =
    let p = err_from_is_err_and c.from_residual.result c.from_residual.ensures.1 in
    at_answer Reply.Entries _ _ _ c.in_err-root.field-0.0 c.from_residual.result (p.1 ∙ ap Err p.2)
    (looked_answer _ _ _ _ c.requires refl (looked_itself (moment (g.F.Flash.device c.args.flash.now) c.args.self.now))
    (record { most = omega arith })
    (refused_step _ _ _ _ c.requires (worked_itself _) (view_refuses (moment (g.F.Flash.device c.args.flash.now) c.args.self.now) c.args.view.now c.args.path.now (Call.Entries c.args.view.now c.args.path.now (option_copied c.args.from) c.args.most) refuse_list refl _ c.in_err-root.ensures)))

pub returns-in_err-found : goal.returns-in_err-found
returns-in_err-found g c =
    let p = err_from_is_err_and c.from_residual-in_err-found.result c.from_residual-in_err-found.ensures.1 in
    let shown = c.in_ok-root.ensures in
    let look = c.in_err-found.ensures in
    at_answer Reply.Entries _ _ _ c.in_err-found.field-0.0 c.from_residual-in_err-found.result (p.1 ∙ ap Err p.2)
    (looked_answer _ _ _ _ c.requires refl (looked_at (moment (g.F.Flash.device c.args.flash.now) c.args.self.now) (g.F.Flash.device c.find_path.new.flash) c.find_path.new.storage c.find_path.ensures.looked)
    (pages_more (g.F.Flash.device c.args.flash.now) (g.F.Flash.device c.find_path.new.flash) (way_nodes (node_of (g.F.Flash.device c.args.flash.now)) c.in_ok-root.root c.args.path.now) (list_nodes (view_tree (machine_at (moment (g.F.Flash.device c.args.flash.now) c.args.self.now)) c.args.view.now) c.args.path.now) (entry_nodes (entries_of (view_tree (machine_at (moment (g.F.Flash.device c.args.flash.now) c.args.self.now)) c.args.view.now) c.args.path.now (option_copied c.args.from) c.args.most)) (way_listed (moment (g.F.Flash.device c.args.flash.now) c.args.self.now) c.args.view.now c.args.path.now c.in_ok-root.root c.requires (record { fine = c.in_ok-root.ensures.0; shown = c.in_ok-root.ensures.1 })) c.find_path.ensures.asks)
    (refused_step _ _ _ _ c.requires (looked_worked _ _ (looked_at (moment (g.F.Flash.device c.args.flash.now) c.args.self.now) (g.F.Flash.device c.find_path.new.flash) c.find_path.new.storage c.find_path.ensures.looked))
    (look_refused _ _ _ _ _ (entries_looks _ c.args.view.now c.args.path.now (option_copied c.args.from) c.args.most _ c.requires (record { fine = shown.0; shown = shown.1 })) (moment (g.F.Flash.device c.find_path.new.flash) (record c.args.self.now { storage = c.find_path.new.storage })) _ look.refused look.why look.faults)))

pub places_in-requires : goal.places_in-requires
places_in-requires g c = worked_mounted _ _ c.requires (looked_worked _ _ (looked_at (moment (g.F.Flash.device c.args.flash.now) c.args.self.now) (g.F.Flash.device c.find_path.new.flash) c.find_path.new.storage c.find_path.ensures.looked))

pub returns-in-Missing : goal.returns-in-Missing
returns-in-Missing g c =
    let shown = c.in_ok-root.ensures in
    looked_answer _ _ _ _ c.requires refl (looked_at (moment (g.F.Flash.device c.args.flash.now) c.args.self.now) (g.F.Flash.device c.find_path.new.flash) c.find_path.new.storage c.find_path.ensures.looked)
    (pages_more (g.F.Flash.device c.args.flash.now) (g.F.Flash.device c.find_path.new.flash) (way_nodes (node_of (g.F.Flash.device c.args.flash.now)) c.in_ok-root.root c.args.path.now) (list_nodes (view_tree (machine_at (moment (g.F.Flash.device c.args.flash.now) c.args.self.now)) c.args.view.now) c.args.path.now) (entry_nodes (entries_of (view_tree (machine_at (moment (g.F.Flash.device c.args.flash.now) c.args.self.now)) c.args.view.now) c.args.path.now (option_copied c.args.from) c.args.most)) (way_listed (moment (g.F.Flash.device c.args.flash.now) c.args.self.now) c.args.view.now c.args.path.now c.in_ok-root.root c.requires (record { fine = c.in_ok-root.ensures.0; shown = c.in_ok-root.ensures.1 })) c.find_path.ensures.asks)
    (refused_step _ _ _ NoEntry c.requires (looked_worked _ _ (looked_at (moment (g.F.Flash.device c.args.flash.now) c.args.self.now) (g.F.Flash.device c.find_path.new.flash) c.find_path.new.storage c.find_path.ensures.looked))
    (found_refused _ _ _ _ _ (entries_looks _ c.args.view.now c.args.path.now (option_copied c.args.from) c.args.most _ c.requires (record { fine = shown.0; shown = shown.1 })) (moment (g.F.Flash.device c.find_path.new.flash) (record c.args.self.now { storage = c.find_path.new.storage })) _ (found.Missing c.in-Missing.is_full) NoEntry c.in_ok-found.ensures.found c.in-Missing.is refl))

pub returns-in-File : goal.returns-in-File
returns-in-File g c =
    let shown = c.in_ok-root.ensures in
    looked_answer _ _ _ _ c.requires refl (looked_at (moment (g.F.Flash.device c.args.flash.now) c.args.self.now) (g.F.Flash.device c.find_path.new.flash) c.find_path.new.storage c.find_path.ensures.looked)
    (pages_more (g.F.Flash.device c.args.flash.now) (g.F.Flash.device c.find_path.new.flash) (way_nodes (node_of (g.F.Flash.device c.args.flash.now)) c.in_ok-root.root c.args.path.now) (list_nodes (view_tree (machine_at (moment (g.F.Flash.device c.args.flash.now) c.args.self.now)) c.args.view.now) c.args.path.now) (entry_nodes (entries_of (view_tree (machine_at (moment (g.F.Flash.device c.args.flash.now) c.args.self.now)) c.args.view.now) c.args.path.now (option_copied c.args.from) c.args.most)) (way_listed (moment (g.F.Flash.device c.args.flash.now) c.args.self.now) c.args.view.now c.args.path.now c.in_ok-root.root c.requires (record { fine = c.in_ok-root.ensures.0; shown = c.in_ok-root.ensures.1 })) c.find_path.ensures.asks)
    (refused_step _ _ _ NotDirectory c.requires (looked_worked _ _ (looked_at (moment (g.F.Flash.device c.args.flash.now) c.args.self.now) (g.F.Flash.device c.find_path.new.flash) c.find_path.new.storage c.find_path.ensures.looked))
    (found_refused _ _ _ _ _ (entries_looks _ c.args.view.now c.args.path.now (option_copied c.args.from) c.args.most _ c.requires (record { fine = shown.0; shown = shown.1 })) (moment (g.F.Flash.device c.find_path.new.flash) (record c.args.self.now { storage = c.find_path.new.storage })) _ (found.File c.in-File.head c.in-File.length) NotDirectory c.in_ok-found.ensures.found c.in-File.is refl))

pub returns-in_err-places-in-Dir : goal.returns-in_err-places-in-Dir
returns-in_err-places-in-Dir g c =
    let p = err_from_is_err_and c.from_residual-in_err-places-in-Dir.result c.from_residual-in_err-places-in-Dir.ensures.1 in
    let a = moment (g.F.Flash.device c.args.flash.now) c.args.self.now in
    let from = option_copied c.args.from in
    let shows : Shows c.args.self.now.history c.args.self.now.group c.args.view.now c.in_ok-root.root = record { fine = c.in_ok-root.ensures.0; shown = c.in_ok-root.ensures.1 } in
    let looked = looked_at a (g.F.Flash.device c.find_path.new.flash) c.find_path.new.storage c.find_path.ensures.looked in
    let places = c.in_err-places-in-Dir.ensures in
    at_answer Reply.Entries _ _ _ c.in_err-places-in-Dir.field-0.0 c.from_residual-in_err-places-in-Dir.result (p.1 ∙ ap Err p.2)
    (looked_answer _ _ _ _ c.requires refl (looked_on _ _ _ looked c.places_in.ensures.looked)
    (pages_more (g.F.Flash.device c.args.flash.now) (g.F.Flash.device c.places_in.new.flash) ((way_nodes (node_of (g.F.Flash.device c.args.flash.now)) c.in_ok-root.root c.args.path.now) + (length (chain (node_of (g.F.Flash.device c.find_path.new.flash)) c.in-Dir.block))) (list_nodes (view_tree (machine_at (moment (g.F.Flash.device c.args.flash.now) c.args.self.now)) c.args.view.now) c.args.path.now) (entry_nodes (entries_of (view_tree (machine_at (moment (g.F.Flash.device c.args.flash.now) c.args.self.now)) c.args.view.now) c.args.path.now (option_copied c.args.from) c.args.most))
    (subst (λ (f : Blocks). (way_nodes (node_of (g.F.Flash.device c.args.flash.now)) c.in_ok-root.root c.args.path.now) + length (chain f c.in-Dir.block) ≤ (list_nodes (view_tree (machine_at (moment (g.F.Flash.device c.args.flash.now) c.args.self.now)) c.args.view.now) c.args.path.now)) (sym c.find_path.ensures.nodes)
    (dir_listed a c.args.view.now c.args.path.now c.in_ok-root.root _ c.in-Dir.block c.requires shows c.in_ok-found.ensures.found c.in-Dir.is))
    (asks_on (g.F.Flash.device c.args.flash.now) (g.F.Flash.device c.find_path.new.flash) (g.F.Flash.device c.places_in.new.flash) (way_nodes (node_of (g.F.Flash.device c.args.flash.now)) c.in_ok-root.root c.args.path.now) (length (chain (node_of (g.F.Flash.device c.find_path.new.flash)) c.in-Dir.block)) c.find_path.ensures.looked.untouched.device.geometry c.find_path.ensures.asks c.places_in.ensures.asks))
    (places_refused a c.args.view.now c.args.path.now from c.args.most c.in_ok-root.root c.in-Dir.block _ c.requires shows c.in_ok-found.ensures.found c.in-Dir.is
    _ _ c.in_err-places-in-Dir.field-0.0 looked c.find_path.ensures.nodes c.places_in.ensures.looked (damaged_says _ places.damaged) places.why places.faults))

pub stats_at-requires : goal.stats_at-requires
stats_at-requires g c =
    let a = moment (g.F.Flash.device c.args.flash.now) c.args.self.now in
    let from = option_copied c.args.from in
    let shows : Shows c.args.self.now.history c.args.self.now.group c.args.view.now c.in_ok-root.root = record { fine = c.in_ok-root.ensures.0; shown = c.in_ok-root.ensures.1 } in
    let looked = looked_at a (g.F.Flash.device c.find_path.new.flash) c.find_path.new.storage c.find_path.ensures.looked in
    let same = c.places_in.ensures.nodes ∙ c.find_path.ensures.nodes in
    let reads = c.as_slice.ensures
    ∙ read_places a c.args.view.now c.args.path.now from c.args.most c.in_ok-root.root c.in-Dir.block _ c.requires shows c.in_ok-found.ensures.found c.in-Dir.is (node_of (g.F.Flash.device c.find_path.new.flash)) c.in_ok-places-in-Dir.places c.find_path.ensures.nodes c.in_ok-places-in-Dir.ensures.places in
    record {
      mounted = worked_mounted _ _ c.requires (looked_worked _ _ (looked_on _ _ _ looked c.places_in.ensures.looked));
      begin = places_begin a c.args.view.now c.args.path.now from c.args.most c.in_ok-root.root c.in-Dir.block _ c.requires shows c.in_ok-found.ensures.found c.in-Dir.is (node_of (g.F.Flash.device c.places_in.new.flash)) c.as_slice.result.now same reads;
    }

pub returns-in_ok-places-in-Dir : goal.returns-in_ok-places-in-Dir
returns-in_ok-places-in-Dir g c =
    let a = moment (g.F.Flash.device c.args.flash.now) c.args.self.now in
    let from = option_copied c.args.from in
    let shows : Shows c.args.self.now.history c.args.self.now.group c.args.view.now c.in_ok-root.root = record { fine = c.in_ok-root.ensures.0; shown = c.in_ok-root.ensures.1 } in
    let looked = looked_at a (g.F.Flash.device c.find_path.new.flash) c.find_path.new.storage c.find_path.ensures.looked in
    let same = c.places_in.ensures.nodes ∙ c.find_path.ensures.nodes in
    let reads = c.as_slice.ensures
    ∙ read_places a c.args.view.now c.args.path.now from c.args.most c.in_ok-root.root c.in-Dir.block _ c.requires shows c.in_ok-found.ensures.found c.in-Dir.is (node_of (g.F.Flash.device c.find_path.new.flash)) c.in_ok-places-in-Dir.places c.find_path.ensures.nodes c.in_ok-places-in-Dir.ensures.places in
    looked_answer _ _ _ _ c.requires refl (looked_on _ _ _ (looked_on _ _ _ looked c.places_in.ensures.looked) c.stats_at.ensures.looked)
    (pages_on (g.F.Flash.device c.args.flash.now) (g.F.Flash.device c.places_in.new.flash) (g.F.Flash.device c.stats_at.new.flash) ((way_nodes (node_of (g.F.Flash.device c.args.flash.now)) c.in_ok-root.root c.args.path.now) + (length (chain (node_of (g.F.Flash.device c.find_path.new.flash)) c.in-Dir.block))) (list_nodes (view_tree (machine_at (moment (g.F.Flash.device c.args.flash.now) c.args.self.now)) c.args.view.now) c.args.path.now) _ (entry_nodes (entries_of (view_tree (machine_at (moment (g.F.Flash.device c.args.flash.now) c.args.self.now)) c.args.view.now) c.args.path.now (option_copied c.args.from) c.args.most))
    (subst (λ (f : Blocks). (way_nodes (node_of (g.F.Flash.device c.args.flash.now)) c.in_ok-root.root c.args.path.now) + length (chain f c.in-Dir.block) ≤ (list_nodes (view_tree (machine_at (moment (g.F.Flash.device c.args.flash.now) c.args.self.now)) c.args.view.now) c.args.path.now)) (sym c.find_path.ensures.nodes)
    (dir_listed a c.args.view.now c.args.path.now c.in_ok-root.root _ c.in-Dir.block c.requires shows c.in_ok-found.ensures.found c.in-Dir.is))
    (nodes_told a c.args.view.now c.args.path.now from c.args.most c.in_ok-root.root c.in-Dir.block _ c.requires shows c.in_ok-found.ensures.found c.in-Dir.is (node_of (g.F.Flash.device c.places_in.new.flash)) c.as_slice.result.now same reads)
    (asks_on (g.F.Flash.device c.args.flash.now) (g.F.Flash.device c.find_path.new.flash) (g.F.Flash.device c.places_in.new.flash) (way_nodes (node_of (g.F.Flash.device c.args.flash.now)) c.in_ok-root.root c.args.path.now) (length (chain (node_of (g.F.Flash.device c.find_path.new.flash)) c.in-Dir.block)) c.find_path.ensures.looked.untouched.device.geometry c.find_path.ensures.asks c.places_in.ensures.asks) c.stats_at.ensures.asks)
    (stats_step a c.args.view.now c.args.path.now from c.args.most c.in_ok-root.root c.in-Dir.block _ c.requires shows c.in_ok-found.ensures.found c.in-Dir.is _ _ _ c.as_slice.result.now c.stats_at.result looked c.places_in.ensures.looked same c.stats_at.ensures.looked reads c.stats_at.ensures.stats c.stats_at.ensures.why c.stats_at.ensures.faults)
