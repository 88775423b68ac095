use Rattle.std.proofs.Common.{◌≡◌, ℕ, ◌+◌, ◌<◌, ◌≤◌, ◌-◌, Err, List, drop, length, ap, subst, sym, ◌∙◌, arith}
use Rattle.std.proofs.lemmas.Result.{err_from_is_err_and}
use Rattle.std.specs.Prelude.{Contains}
use Rattle.node_format.specs.Headers.{body_header}
use Rattle.nodes.specs.Bodies.{Blocks}
use Rattle.reclaim.specs.Kinds.{Knows}
use Rattle.reclaim.specs.Passes.{IsPass, Begins}
use Rattle.reclaim.proofs.Marking.{begins_on}
use Rattle.tree_counts.specs.FirstRoots.{AreFirstRoots}
use Rattle.tree_counts.proofs.Walks.{root_is_data, not_damaged, look_fault, part_has, rest_is, first_on, reads_still}
use Rattle.tree_counts.proofs.first_roots.reach.Goals as goal

pub add_root-requires : goal.add_root-requires
add_root-requires g c =
    let nodes = c.args.nodes.now in
    root_is_data (g.N.Nodes.limit nodes - body_header) (g.N.Nodes.node nodes) c.args.root c.args.pass.now.blocks
    (λ b low. g.met.N.Nodes.none_below nodes b low)
    (λ b high. g.met.N.Nodes.none_beyond nodes b (subst (λ (n : ℕ). n ≤ b) c.requires.blocks high)) c.requires.tree

pub read_all-requires-clause-pass : goal.read_all-requires-clause-pass
read_all-requires-clause-pass g c = c.in_ok-add_root.ensures.pass (g.N.Nodes.node c.args.nodes.now) c.requires.walked.pass

pub read_all-requires-clause-known : goal.read_all-requires-clause-known
read_all-requires-clause-known g c = c.in_ok-add_root.ensures.known (g.N.Nodes.limit c.args.nodes.now) (g.N.Nodes.node c.args.nodes.now) c.requires.tree c.requires.walked.known

pub returns-in_err-add_root-clause-reads : goal.returns-in_err-add_root-clause-reads
returns-in_err-add_root-clause-reads g c = reads_still (g.N.Nodes.node c.args.nodes.now) c.args.pass.now c.args.root (g.N.Nodes.reads c.args.nodes.now) c.requires.walked.pass

pub returns-in_err-read_all-clause-why : goal.returns-in_err-read_all-clause-why
returns-in_err-read_all-clause-why g c =
    let p = err_from_is_err_and c.from_residual-in_err-read_all.result c.from_residual-in_err-read_all.ensures.1 in
    let f = g.N.Nodes.node c.args.nodes.now in
    let limit = g.N.Nodes.limit c.args.nodes.now in
    rw (p.1, p.2)
    (c.in_err-read_all.ensures.calls.why
    (look_fault c.in_err-read_all.field-0.0 c.in_err-read_all.ensures.calls.faults
    (not_damaged limit f c.add_root.new.self c.in_err-read_all.field-0.0 (c.in_ok-add_root.ensures.known limit f c.requires.tree c.requires.walked.known) (λ is. c.in_err-read_all.ensures.damaged (ap Err is)))))

pub returns-in_err-read_all-clause-faults : goal.returns-in_err-read_all-clause-faults
returns-in_err-read_all-clause-faults g c =
    let p = err_from_is_err_and c.from_residual-in_err-read_all.result c.from_residual-in_err-read_all.ensures.1 in
    let f = g.N.Nodes.node c.args.nodes.now in
    let limit = g.N.Nodes.limit c.args.nodes.now in
    rw (p.1, p.2)
    (look_fault c.in_err-read_all.field-0.0 c.in_err-read_all.ensures.calls.faults
    (not_damaged limit f c.add_root.new.self c.in_err-read_all.field-0.0 (c.in_ok-add_root.ensures.known limit f c.requires.tree c.requires.walked.known) (λ is. c.in_err-read_all.ensures.damaged (ap Err is))))

pub set_numbers-requires : goal.set_numbers-requires
set_numbers-requires g c b has =
    let all = c.marked.result.now in
    let listed = subst (λ (l : List ℕ). Contains l b) c.marked.ensures.listed (part_has all (length all - length c.marked-seen.result.now) (length c.marked-seen.result.now) b has) in
    omega (arith, (c.marked.ensures.data_blocks b listed).1, c.read_all.ensures.on.blocks, c.in_ok-add_root.ensures.added.blocks, c.requires.walked.sized)

pub returns-clause-walked : goal.returns-clause-walked
returns-clause-walked g c =
    let f = g.N.Nodes.node c.args.nodes.now in
    let p = c.args.pass.now in
    let q = c.read_all.new.self in
    let looks = c.read_all.ensures.calls.looks in
    let numbers = c.set_numbers.new.numbers in
    let adds = c.in_ok-add_root.ensures.added in
    let on = c.read_all.ensures.on in
    let ended = c.in_ok-read_all.ensures.read.0 in
    let marks = c.in_ok-read_all.ensures.read.1 in
    let pass = marks.pass (c.in_ok-add_root.ensures.pass f c.requires.walked.pass) in
    let rest = rest_is c.marked.result.now c.marked-seen.result.now p.order q.order c.marked.ensures.listed c.marked-seen.ensures.listed in
    record {
      pass = pass;
      finished = ended;
      known = marks.known;
      numbered = subst (λ (h : Blocks). AreFirstRoots h q.roots numbers) (sym looks.same_nodes)
          (first_on f p q c.args.root c.requires.walked.pass c.requires.walked.finished (subst (λ (h : Blocks). IsPass h q) looks.same_nodes pass) ended (on.roots ∙ adds.roots)
          (begins_on p.order c.add_root.new.self.order q.order adds.begins on.begins) c.args.firsts.now numbers c.requires.walked.numbered
          (λ b has. c.set_numbers.ensures.given b (subst (λ (l : List ℕ). Contains l b) (sym rest) has) ∙ c.requires.number)
          (λ b none. c.set_numbers.ensures.others b (λ has. none (subst (λ (l : List ℕ). Contains l b) rest has))));
      sized = c.set_numbers.auto.numbers ∙ c.requires.walked.sized ∙ sym (on.blocks ∙ adds.blocks);
    }
