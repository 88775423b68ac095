use Rattle.std.proofs.Common.{◌∙◌, ◌++◌, [], List, get_or, ap}
use Rattle.std.specs.List.{flat_map, enumerate_from}
use Rattle.fs_types.specs.declared.call.View.{View}
use Rattle.history_machine.specs.Machine.{Machine}
use Rattle.inquiries.specs.PathHistories.{history_line}
use Rattle.inquiries.specs.Readings.{shown}
use Rattle.inquiries.proofs.LineLemmas.{row_more, rows_all}
use Rattle.inquiries.proofs.Readings.{unchanged-trans}
use Rattle.inquiries.proofs.path_history.list_states.Goals as goal

pub loop-place-preserved : goal.loop-place-preserved
loop-place-preserved g c = (
  unchanged-trans c.args.fs.now c.loop-place.fs c.add_state.new.fs c.loop-place.invariant.0 c.add_state.ensures.same,
  row_more (history_line (shown c.args.fs.now) c.args.path.now) c.args.views.now [] c.loop-place.place View.Present c.loop-place.out.items c.add_state.new.out.items c.loop-place-test.true c.loop-place.invariant.1
      (c.in_ok-add_state.ensures.ok ∙ ap (λ (m : Machine). c.loop-place.out.items ++ history_line m c.args.path.now (c.loop-place.place, get_or c.args.views.now c.loop-place.place View.Present)) c.loop-place.invariant.0.machine),
)

pub returns-clause-ok : goal.returns-clause-ok
returns-clause-ok g c =
    rows_all (history_line (shown c.args.fs.now) c.args.path.now) c.args.views.now [] c.loop-place.place c.loop-place.out.items c.loop-place-test.false c.loop-place.invariant.1
    ∙ ap (λ (views : List View). flat_map (history_line (shown c.args.fs.now) c.args.path.now) (enumerate_from 0 views)) c.requires.views
