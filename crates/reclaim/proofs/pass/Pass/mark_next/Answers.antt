use Rattle.std.proofs.Common.{refl}
use Rattle.std.specs.Prelude.{slice_index}
use Rattle.reclaim.specs.Passes.{Pass}
use Rattle.reclaim.proofs.Marking.{read_and_marked, is_stepped, IsStepped}
use Rattle.reclaim.proofs.pass.Pass.mark_next.Goals as goal

pub returns-clause-pass : goal.returns-clause-pass
returns-clause-pass c f pass there named =
    let p = c.args.self.now in
    let m = c.mark_all.new.self in
    let held : Pass = record { blocks = c.self.inside.marks.blocks; roots = c.self.inside.roots.items; order = c.self.inside.order.items; next = c.self.inside.next; bodies = c.self.inside.bodies.members } in
    let is : IsStepped p m m held = is_stepped p m m held c.mark_all.ensures.same refl c.self.view_is in
    read_and_marked f f p m m held (slice_index p.order p.next) c.args.names.now pass c.requires refl refl named c.in_ok-mark_all.ensures.marked is there
