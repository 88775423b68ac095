use Rattle.std.proofs.Common.{◌≡◌, ◌+◌, ◌-◌, ℕ, List, ◌∷◌, [], ◌++◌, length, take, ap, sym, refl, subst, arith, Ok, rules}
use Rattle.std.proofs.lemmas.Result.{err_from_is_err_and}
use Rattle.fs_types.specs.declared.named_file.NamedFile.{NamedFile}
use Rattle.node_format.specs.Headers.{body_header}
use Rattle.plain_trees.specs.Files.{bodies_need}
use Rattle.plain_trees.specs.Contents.{body_need}
use Rattle.tree_edits.specs.Edits.{chosen}
use Rattle.tree_edits.specs.Roots.{AreNewFiles, IsNewFile}
use Rattle.nodes.specs.WordLaws.{works_after, works_wider, works_answered, works_refused, works_idle}
use Rattle.nodes.specs.Words.{WorksWithin}
use Rattle.tree_edits.specs.Writing.{IsWritingFault}
use Rattle.tree_edits.proofs.ManyFiles.{chosen-more, chosen-same, more-are, more-need, need-more, length-more, news_push, news_later, new_before}
use Rattle.tree_edits.proofs.directory_files.write_bodies.Goals as goal

no_file : NamedFile
no_file = record { name = []; bytes = [] }

pub loop-i-preserved-then-not-changes-i : goal.loop-i-preserved-then-not-changes-i
loop-i-preserved-then-not-changes-i g c =
    let before = c.loop-i.invariant in
    let capacity = g.N.Nodes.limit c.args.nodes.now - body_header in
    let same : chosen (take (c.loop-i.i + 1) c.args.files.now) (take (c.loop-i.i + 1) c.args.changes.now) ≡ chosen (take c.loop-i.i c.args.files.now) (take c.loop-i.i c.args.changes.now) =
    chosen-same c.args.files.now c.args.changes.now c.loop-i.i no_file c.requires.counted c.loop-i-test.true c.if-not-changes-i.true in
    record {
      written = subst (λ (files : List NamedFile). AreNewFiles (g.N.Nodes.limit c.args.nodes.now - body_header) (g.N.Nodes.kept c.args.nodes.now) (g.N.Nodes.node c.loop-i.nodes) (g.N.Nodes.kept c.loop-i.nodes) files c.loop-i.puts.items) (sym same) before.written;
      calls = works_wider (works_answered before.calls) (omega (arith, ap length same)) (omega (arith, ap (bodies_need (g.N.Nodes.limit c.args.nodes.now - body_header)) same));
    }

pub loop-i-preserved : goal.loop-i-preserved
loop-i-preserved g c =
    let before = c.loop-i.invariant in
    let capacity = g.N.Nodes.limit c.args.nodes.now - body_header in
    let file = c.index-files-i.result in
    let more : chosen (take (c.loop-i.i + 1) c.args.files.now) (take (c.loop-i.i + 1) c.args.changes.now) ≡ chosen (take c.loop-i.i c.args.files.now) (take c.loop-i.i c.args.changes.now) ++ c.index-files-i.result ∷ [] =
    chosen-more c.args.files.now c.args.changes.now c.loop-i.i file c.requires.counted c.loop-i-test.true c.index-files-i.is c.if-not-changes-i.false in
    let same : body_need (g.N.Nodes.limit c.loop-i.nodes - body_header) (length c.as_slice.result.now) ≡ body_need (g.N.Nodes.limit c.args.nodes.now - body_header) (length c.index-files-i.result.bytes) =
    (λ i. body_need (before.calls.works.same_limit i - body_header) (length (c.as_slice.ensures i))) in
    let new : IsNewFile (g.N.Nodes.limit c.args.nodes.now - body_header) (g.N.Nodes.kept c.args.nodes.now) (g.N.Nodes.node c.write_place.new.nodes) (g.N.Nodes.kept c.write_place.new.nodes) c.index-files-i.result.bytes c.in_ok-place.place =
    subst (λ (bytes : List ℕ). IsNewFile (g.N.Nodes.limit c.args.nodes.now - body_header) (g.N.Nodes.kept c.args.nodes.now) (g.N.Nodes.node c.write_place.new.nodes) (g.N.Nodes.kept c.write_place.new.nodes) bytes c.in_ok-place.place) c.as_slice.ensures
    (subst (λ (limit : ℕ). IsNewFile (limit - body_header) (g.N.Nodes.kept c.args.nodes.now) (g.N.Nodes.node c.write_place.new.nodes) (g.N.Nodes.kept c.write_place.new.nodes) c.as_slice.result.now c.in_ok-place.place) before.calls.works.same_limit
    (new_before (g.N.Nodes.limit c.loop-i.nodes - body_header) (g.N.Nodes.kept c.args.nodes.now) (g.N.Nodes.kept c.loop-i.nodes) (g.N.Nodes.node c.write_place.new.nodes) (g.N.Nodes.kept c.write_place.new.nodes) c.as_slice.result.now c.in_ok-place.place
    (λ b free. g.met.N.Nodes.was_fresh c.args.nodes.now c.loop-i.nodes b before.calls.works.came free) c.in_ok-place.ensures.written)) in
    let older = news_later (g.N.Nodes.limit c.args.nodes.now - body_header) (g.N.Nodes.kept c.args.nodes.now) (g.N.Nodes.node c.loop-i.nodes) (g.N.Nodes.node c.write_place.new.nodes) (g.N.Nodes.kept c.loop-i.nodes) (g.N.Nodes.kept c.write_place.new.nodes)
    (chosen (take c.loop-i.i c.args.files.now) (take c.loop-i.i c.args.changes.now)) c.loop-i.puts.items c.write_place.ensures.keeps before.written in
    record {
      written = news_push (g.N.Nodes.limit c.args.nodes.now - body_header) (g.N.Nodes.kept c.args.nodes.now) (g.N.Nodes.node c.write_place.new.nodes) (g.N.Nodes.kept c.write_place.new.nodes) (chosen (take c.loop-i.i c.args.files.now) (take c.loop-i.i c.args.changes.now))
          (chosen (take (c.loop-i.i + 1) c.args.files.now) (take (c.loop-i.i + 1) c.args.changes.now)) file c.loop-i.puts.items c.push.new.self.items _ c.in_ok-push.ensures.items more older refl new;
      calls = works_answered (works_after g.met.N.Nodes.works_on g.met.N.Nodes.causes_on c.args.nodes.now c.loop-i.nodes c.write_place.new.nodes (λ fault is. is) before.calls c.in_ok-place.ensures.calls
          (omega (arith, ap length more, length-more (chosen (take c.loop-i.i c.args.files.now) (take c.loop-i.i c.args.changes.now)) file))
          (omega (arith, same, ap (bodies_need (g.N.Nodes.limit c.args.nodes.now - body_header)) more, need-more (g.N.Nodes.limit c.args.nodes.now - body_header) (chosen (take c.loop-i.i c.args.files.now) (take c.loop-i.i c.args.changes.now)) file)));
    }

pub loop-i-init : goal.loop-i-init
loop-i-init g c = record {
  written = search rules;
  calls = works_wider (works_idle g.met.N.Nodes.follows_itself c.args.nodes.now c.requires.sound) (omega arith) (omega arith);
}

pub returns-in_err-place-clause-calls : goal.returns-in_err-place-clause-calls
returns-in_err-place-clause-calls g c =
    let same : body_need (g.N.Nodes.limit c.loop-i.nodes - body_header) (length c.as_slice.result.now) ≡ body_need (g.N.Nodes.limit c.args.nodes.now - body_header) (length c.index-files-i.result.bytes) =
    (λ i. body_need (c.loop-i.invariant.calls.works.same_limit i - body_header) (length (c.as_slice.ensures i))) in
    let p = err_from_is_err_and c.from_residual.result c.from_residual.ensures.1 in
    rw (p.1, p.2) (works_refused (works_after g.met.N.Nodes.works_on g.met.N.Nodes.causes_on c.args.nodes.now c.loop-i.nodes c.write_place.new.nodes (λ fault is. is) c.loop-i.invariant.calls c.in_err-place.ensures.calls
    (omega (arith, more-are c.args.files.now c.args.changes.now c.loop-i.i c.index-files-i.result c.requires.counted c.loop-i-test.true c.index-files-i.is c.if-not-changes-i.false))
    (omega (arith, same, more-need (g.N.Nodes.limit c.args.nodes.now - body_header) c.args.files.now c.args.changes.now c.loop-i.i c.index-files-i.result c.requires.counted c.loop-i-test.true c.index-files-i.is c.if-not-changes-i.false))))

pub returns-in_err-push-clause-calls : goal.returns-in_err-push-clause-calls
returns-in_err-push-clause-calls g c =
    let same : body_need (g.N.Nodes.limit c.loop-i.nodes - body_header) (length c.as_slice.result.now) ≡ body_need (g.N.Nodes.limit c.args.nodes.now - body_header) (length c.index-files-i.result.bytes) =
    (λ i. body_need (c.loop-i.invariant.calls.works.same_limit i - body_header) (length (c.as_slice.ensures i))) in
    let wrote : WorksWithin g.N.Nodes IsWritingFault (length (chosen c.args.files.now c.args.changes.now)) (bodies_need (g.N.Nodes.limit c.args.nodes.now - body_header) (chosen c.args.files.now c.args.changes.now)) c.args.nodes.now (Ok c.in_ok-place.place) c.write_place.new.nodes =
    works_after g.met.N.Nodes.works_on g.met.N.Nodes.causes_on c.args.nodes.now c.loop-i.nodes c.write_place.new.nodes (λ fault is. is) c.loop-i.invariant.calls c.in_ok-place.ensures.calls
    (omega (arith, more-are c.args.files.now c.args.changes.now c.loop-i.i c.index-files-i.result c.requires.counted c.loop-i-test.true c.index-files-i.is c.if-not-changes-i.false))
    (omega (arith, same, more-need (g.N.Nodes.limit c.args.nodes.now - body_header) c.args.files.now c.args.changes.now c.loop-i.i c.index-files-i.result c.requires.counted c.loop-i-test.true c.index-files-i.is c.if-not-changes-i.false)) in
    let p = err_from_is_err_and c.from_residual-in_err-push.result c.from_residual-in_err-push.ensures.1 in
    rw (p.1, p.2) (record { works = wrote.works; reads = wrote.reads; writes = wrote.writes; why = g.met.N.Nodes.memory_may_want c.args.nodes.now c.write_place.new.nodes; faults = tt })
