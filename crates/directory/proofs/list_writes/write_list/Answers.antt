use Rattle.std.proofs.Common.{◌≡◌, ◌+◌, ◌-◌, ◌*◌, ◌<◌, length, inl, inr, refl, arith}
use Rattle.std.proofs.lemmas.Result.{IfOk-weaker}
use Rattle.fs_types.specs.declared.limits.TheConstants.{NODE_ENTRIES}
use Rattle.plain_trees.specs.Trees.{nodes_for}
use Rattle.nodes.specs.WordLaws.{works_after, works_idle, works_wider}
use Rattle.directory.proofs.WrittenNodes.{no_group, one_group, first_group}
use Rattle.directory.proofs.list_writes.write_list.Goals as goal

pub loop-group-init : goal.loop-group-init
loop-group-init g c =
    let size = c.len.ensures in
    let ceil = c.div_ceil.ensures in
    let most = c.max-groups.ensures in
    let groups : c.max-groups.result ≡ nodes_for (length c.args.list.now) = omega (arith, size, ceil, most) in
    record {
      full = elim c.requires.full [ inl last ↦ inl last | inr (some, whole) ↦ inr (omega (arith, groups, some, whole)) ];
      from = omega (arith, groups);
      within = omega (arith, groups);
      put = no_group (g.N.Nodes.node c.args.nodes.now) (g.N.Nodes.kept c.args.nodes.now) (nodes_for (length c.args.list.now)) c.max-groups.result c.args.tail c.args.list.now groups (omega (arith, groups));
      calls = works_wider (works_idle g.met.N.Nodes.follows_itself c.args.nodes.now c.requires.sound) (omega arith) (omega arith);
      reads = refl;
      written = omega (arith, groups);
    }

pub loop-group-preserved : goal.loop-group-preserved
loop-group-preserved g c =
    let more = c.loop-group-test.true in
    let within = c.loop-group.invariant.within in
    let wrote = c.loop-group.invariant.calls.works in
    let writes = c.in_ok-to.ensures.calls.works in
    let less : NODE_ENTRIES * (c.loop-group.group - 1) < length c.args.list.now = omega (arith, within, more) in
    record {
      full = inr (omega (arith, less));
      from = omega (arith, more);
      within = omega (arith, within);
      put = λ n after was.
          one_group (g.N.Nodes.node c.args.nodes.now) (g.N.Nodes.node c.loop-group.nodes) (g.N.Nodes.node c.write_group.new.nodes) (g.N.Nodes.kept c.args.nodes.now) (g.N.Nodes.kept c.loop-group.nodes) (g.N.Nodes.kept c.write_group.new.nodes)
          (nodes_for (length c.args.list.now)) c.loop-group.group n c.args.tail c.loop-group.to c.in_ok-to.to c.args.list.now after
          (λ b kept. g.met.N.Nodes.same_node c.loop-group.nodes c.write_group.new.nodes b wrote.sound writes.came kept)
          (λ b kept. g.met.N.Nodes.stays_kept c.loop-group.nodes c.write_group.new.nodes b writes.came kept)
          (λ b free. g.met.N.Nodes.was_fresh c.args.nodes.now c.loop-group.nodes b wrote.came free)
          (omega (arith, more)) within less c.in_ok-to.ensures.one (c.loop-group.invariant.put n after was);
      calls = works_after g.met.N.Nodes.works_on g.met.N.Nodes.causes_on c.args.nodes.now c.loop-group.nodes c.write_group.new.nodes (λ fault is. is) c.loop-group.invariant.calls c.in_ok-to.ensures.calls (omega arith) (omega (arith, more, within));
      reads = omega (arith, c.loop-group.invariant.reads, c.in_ok-to.ensures.reads);
      written = omega (arith, more, c.loop-group.invariant.written, c.in_ok-to.ensures.written);
    }

pub write_group-requires-2-clause-full : goal.write_group-requires-2-clause-full
write_group-requires-2-clause-full g c =
    let over = c.loop-group-test.false in
    let least = c.loop-group.invariant.from in
    elim c.loop-group.invariant.full [ inl last ↦ inl last | inr many ↦ inr (omega (arith, many, over, least)) ]

pub returns-clause-put : goal.returns-clause-put
returns-clause-put g c =
    let over = c.loop-group-test.false in
    let least = c.loop-group.invariant.from in
    let wrote = c.loop-group.invariant.calls.works in
    let writes = c.write_group-2.ensures.calls.works in
    first_group (g.N.Nodes.node c.args.nodes.now) (g.N.Nodes.node c.loop-group.nodes) (g.N.Nodes.node c.write_group-2.new.nodes) (g.N.Nodes.kept c.args.nodes.now) (g.N.Nodes.kept c.loop-group.nodes) (g.N.Nodes.kept c.write_group-2.new.nodes)
    c.loop-group.group c.args.tail c.loop-group.to c.args.list.now c.write_group-2.result
    (λ b kept. g.met.N.Nodes.same_node c.loop-group.nodes c.write_group-2.new.nodes b wrote.sound writes.came kept)
    (λ b kept. g.met.N.Nodes.stays_kept c.loop-group.nodes c.write_group-2.new.nodes b writes.came kept)
    (λ b free. g.met.N.Nodes.was_fresh c.args.nodes.now c.loop-group.nodes b wrote.came free)
    (omega (arith, over, least)) (elim c.loop-group.invariant.full [ inl last ↦ inl last | inr many ↦ inr (omega (arith, many, over, least)) ]) c.requires.full c.loop-group.invariant.put c.write_group-2.ensures.one

pub returns-clause-calls : goal.returns-clause-calls
returns-clause-calls g c =
    let over = c.loop-group-test.false in
    let least = c.loop-group.invariant.from in
    works_after g.met.N.Nodes.works_on g.met.N.Nodes.causes_on c.args.nodes.now c.loop-group.nodes c.write_group-2.new.nodes (λ fault is. is) c.loop-group.invariant.calls c.write_group-2.ensures.calls (omega arith) (omega (arith, over, least))

pub returns-clause-written : goal.returns-clause-written
returns-clause-written g c =
    let over = c.loop-group-test.false in
    let least = c.loop-group.invariant.from in
    IfOk-weaker c.write_group-2.result (λ _. g.N.Nodes.writes c.write_group-2.new.nodes ≡ g.N.Nodes.writes c.loop-group.nodes + 1)
    (λ _. g.N.Nodes.writes c.write_group-2.new.nodes ≡ g.N.Nodes.writes c.args.nodes.now + nodes_for (length c.args.list.now)) (λ to wrote. omega (arith, wrote, c.loop-group.invariant.written, over, least)) c.write_group-2.ensures.written
