use Rattle.std.proofs.Common.{inl, inr}
use Rattle.std.proofs.lemmas.Bool.{cases_Bool}
use Rattle.std.proofs.lemmas.Result.{err_from_is_err_and}
use Rattle.std.specs.FinSet as set
use Rattle.mounting.proofs.Formatting.{only_bad_anchors, begun_ready, root_cause, all_causes, all_formatted, sizes_stay, lists_failed, numbered, all_asked, asked_clear, asked_root, asked_record}
use Rattle.mounting.proofs.formats.format_lawful.Goals as goal

pub write_first_root-requires-clause-anchors : goal.write_first_root-requires-clause-anchors
write_first_root-requires-clause-anchors g c =
    only_bad_anchors (g.F.Flash.device c.args.flash.now) (g.F.Flash.device c.clear_anchors.new.flash) c.in_ok-bad.bad c.in_ok-bad.ensures.cleared.only_anchors

pub returns-in_err-state-clause-why : goal.returns-in_err-state-clause-why
returns-in_err-state-clause-why g c =
    let p = err_from_is_err_and c.from_residual-in_err-state.result c.from_residual-in_err-state.ensures.1 in
    rw (p.1, p.2)
    (root_cause (g.F.Flash.device c.args.flash.now) (g.F.Flash.device c.clear_anchors.new.flash) c.in_ok-bad.bad c.args.limit (g.F.Flash.device c.write_first_root.new.flash) c.in_err-state.field-0.0
    c.in_ok-bad.ensures.cleared.only_anchors c.in_ok-bad.ensures.few c.in_err-state.ensures.why)

pub commit_first-requires-clause-ready : goal.commit_first-requires-clause-ready
commit_first-requires-clause-ready g c =
    begun_ready (g.F.Flash.device c.clear_anchors.new.flash) c.in_ok-bad.bad c.args.limit (g.F.Flash.device c.write_first_root.new.flash) c.in_ok-state.state c.clear_anchors.new.anchors
    c.in_ok-state.ensures.begun c.in_ok-bad.ensures.ready

pub returns-clause-ok : goal.returns-clause-ok
returns-clause-ok g c =
    all_formatted (g.F.Flash.device c.clear_anchors.new.flash) c.in_ok-bad.bad c.args.limit (g.F.Flash.device c.write_first_root.new.flash) c.in_ok-state.state c.in_ok-state.ensures.begun
    (g.F.Flash.device c.commit_first.new.flash) c.commit_first.new.state.storage.bad c.commit_first.ensures.only_anchors _ c.commit_first.result c.commit_first.ensures.committed c.commit_first.ensures.writable
    c.commit_first.ensures.placed

pub returns-clause-why : goal.returns-clause-why
returns-clause-why g c =
    all_causes (g.F.Flash.device c.args.flash.now) (g.F.Flash.device c.clear_anchors.new.flash) c.in_ok-bad.bad c.args.limit (g.F.Flash.device c.write_first_root.new.flash) c.in_ok-state.state
    (g.F.Flash.device c.commit_first.new.flash) c.commit_first.new.state.storage.bad c.commit_first.result c.in_ok-bad.ensures.cleared.only_anchors c.in_ok-state.ensures.begun
    c.commit_first.ensures.only_anchors c.commit_first.ensures.why

pub returns-clause-stay : goal.returns-clause-stay
returns-clause-stay g c =
    sizes_stay (g.F.Flash.device c.args.flash.now) (g.F.Flash.device c.clear_anchors.new.flash) c.in_ok-bad.bad c.args.limit (g.F.Flash.device c.write_first_root.new.flash) c.in_ok-state.state
    (g.F.Flash.device c.commit_first.new.flash) c.commit_first.new.state.storage.bad c.in_ok-bad.ensures.cleared c.in_ok-state.ensures.begun c.commit_first.ensures.only_anchors c.commit_first.result

pub returns-clause-listed : goal.returns-clause-listed
returns-clause-listed g c =
    lists_failed (g.F.Flash.device c.args.flash.now) (g.F.Flash.device c.clear_anchors.new.flash) c.in_ok-bad.bad c.args.limit (g.F.Flash.device c.write_first_root.new.flash) c.in_ok-state.state
    (g.F.Flash.device c.commit_first.new.flash) c.commit_first.new.state.storage.bad c.in_ok-bad.ensures.cleared c.in_ok-state.ensures.begun c.commit_first.ensures.only_anchors _ c.commit_first.result c.commit_first.ensures.committed

pub returns-clause-numbered : goal.returns-clause-numbered
returns-clause-numbered g c =
    numbered (g.F.Flash.device c.args.flash.now) (g.F.Flash.device c.clear_anchors.new.flash) c.in_ok-bad.bad c.args.limit (g.F.Flash.device c.write_first_root.new.flash) c.in_ok-state.state
    (g.F.Flash.device c.commit_first.new.flash) c.commit_first.new.state.storage.bad c.in_ok-bad.ensures.cleared c.in_ok-state.ensures.begun c.commit_first.ensures.only_anchors c.commit_first.result c.commit_first.ensures.committed

pub returns-clause-asks : goal.returns-clause-asks
returns-clause-asks g c =
    all_asked (g.F.Flash.device c.args.flash.now) (g.F.Flash.device c.clear_anchors.new.flash) c.in_ok-bad.bad c.args.limit (g.F.Flash.device c.write_first_root.new.flash) c.in_ok-state.state
    (g.F.Flash.device c.commit_first.new.flash) c.in_ok-bad.ensures.cleared c.in_ok-state.ensures.begun c.clear_anchors.ensures.asks c.write_first_root.ensures.asks c.commit_first.result c.commit_first.ensures.asks

pub returns-in_err-bad-clause-asks_at_most : goal.returns-in_err-bad-clause-asks_at_most
returns-in_err-bad-clause-asks_at_most g c = asked_clear (g.F.Flash.device c.args.flash.now) (g.F.Flash.device c.clear_anchors.new.flash) c.clear_anchors.ensures.asks

pub returns-in_err-state-clause-asks_at_most : goal.returns-in_err-state-clause-asks_at_most
returns-in_err-state-clause-asks_at_most g c =
    asked_root (g.F.Flash.device c.args.flash.now) (g.F.Flash.device c.clear_anchors.new.flash) (g.F.Flash.device c.write_first_root.new.flash) c.clear_anchors.ensures.asks c.write_first_root.ensures.asks

pub returns-clause-asks_at_most : goal.returns-clause-asks_at_most
returns-clause-asks_at_most g c =
    asked_record (g.F.Flash.device c.args.flash.now) (g.F.Flash.device c.clear_anchors.new.flash) c.in_ok-bad.bad c.args.limit (g.F.Flash.device c.write_first_root.new.flash) c.in_ok-state.state
    (g.F.Flash.device c.commit_first.new.flash) c.commit_first.new.state.storage.bad c.clear_anchors.ensures.asks c.write_first_root.ensures.asks c.in_ok-bad.ensures.cleared.only_anchors c.in_ok-state.ensures.begun
    c.commit_first.ensures.only_anchors c.commit_first.ensures.operations

pub commit_first-requires-clause-listed : goal.commit_first-requires-clause-listed
commit_first-requires-clause-listed g c = λ b has. elim (cases_Bool (set.contains c.in_ok-bad.bad b)) [
  | inl was ↦ inl (only_bad_anchors (g.F.Flash.device c.args.flash.now) (g.F.Flash.device c.clear_anchors.new.flash) c.in_ok-bad.bad c.in_ok-bad.ensures.cleared.only_anchors b was)
  | inr not_was ↦ inr (c.in_ok-state.ensures.begun.evolved.bad_used b has not_was)
]
