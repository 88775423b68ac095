use Rattle.std.proofs.Common.{◌≡◌, ◌+◌, ◌-◌, ◌<◌, ℕ, List, [], ◌∷◌, length, refl, sym, subst, ◌∙◌, arith}
use Rattle.std.proofs.lemmas.Result.{IfOk-weaker}
use Rattle.std.specs.Prelude.{◌==◌, ◌≢◌, false}
use Rattle.std.proofs.lemmas.Bool.{eqb-true, eqb-false}
use Rattle.node_format.specs.Headers.{body_header}
use Rattle.tree_edits.specs.Writing.{IsWritten}
use Rattle.tree_edits.specs.declared.file_body.Body.{Body}
use Rattle.nodes.specs.WordLaws.{works_wider, works_idle}
use Rattle.tree_edits.proofs.NewBytes.{empty_written, written_whole, whole_need, empty_digits, empty_between, fresh_body, keeps_itself}
use Rattle.tree_edits.proofs.files.write_body.Goals as goal

no_bytes : (bytes : List ℕ) → length bytes ≡ 0 → bytes ≡ []
no_bytes [] none = refl
no_bytes (b ∷ bytes) none = absurd (omega arith)

some_bytes : (bytes : List ℕ) → (length bytes == 0) ≡ false → 0 < length bytes
some_bytes bytes some = let other : length bytes ≢ 0 = eqb-false (length bytes) 0 some in omega arith

pub write_range-requires-clause-stored : goal.write_range-requires-clause-stored
write_range-requires-clause-stored g c =
    let none : Body = record { head = 0; length = 0 } in
    let empty = empty_written (g.N.Nodes.limit c.args.nodes.now - body_header) (g.N.Nodes.node c.args.nodes.now) (g.N.Nodes.kept c.args.nodes.now) none refl refl in
    record { whole = empty.whole; held = empty.held }

pub returns-clause-written : goal.returns-clause-written
returns-clause-written g c =
    IfOk-weaker c.write_range.result _ _
    (λ new written. subst (λ (bytes : List ℕ). IsWritten (g.N.Nodes.limit c.args.nodes.now - body_header) (g.N.Nodes.node c.write_range.new.nodes) (g.N.Nodes.kept c.write_range.new.nodes) new bytes) (written_whole c.args.bytes.now) written)
    c.write_range.ensures.written

pub returns-clause-fresh : goal.returns-clause-fresh
returns-clause-fresh g c =
    IfOk-weaker c.write_range.result _ _
    (λ new only. fresh_body (g.N.Nodes.limit c.args.nodes.now - body_header) (g.N.Nodes.node c.args.nodes.now) (g.N.Nodes.node c.write_range.new.nodes) (g.N.Nodes.kept c.args.nodes.now) new only)
    c.write_range.ensures.reaches

pub returns-then-is_empty-clause-written : goal.returns-then-is_empty-clause-written
returns-then-is_empty-clause-written g c =
    let none : Body = record { head = 0; length = 0 } in
    let nothing : length c.args.bytes.now ≡ 0 = eqb-true (length c.args.bytes.now) 0 (sym c.is_empty.ensures ∙ c.if-is_empty.true) in
    subst (λ (bytes : List ℕ). IsWritten (g.N.Nodes.limit c.args.nodes.now - body_header) (g.N.Nodes.node c.args.nodes.now) (g.N.Nodes.kept c.args.nodes.now) none bytes) (sym (no_bytes c.args.bytes.now nothing))
    (empty_written (g.N.Nodes.limit c.args.nodes.now - body_header) (g.N.Nodes.node c.args.nodes.now) (g.N.Nodes.kept c.args.nodes.now) none refl refl)

pub returns-then-is_empty-clause-keeps : goal.returns-then-is_empty-clause-keeps
returns-then-is_empty-clause-keeps g c = keeps_itself (g.N.Nodes.kept c.args.nodes.now) (g.N.Nodes.node c.args.nodes.now)

pub returns-clause-calls : goal.returns-clause-calls
returns-clause-calls g c =
    let capacity = g.N.Nodes.limit c.args.nodes.now - body_header in
    let calls = c.write_range.ensures.calls in
    let few = calls.reads 0 (empty_digits capacity) in
    let some : 0 < length c.args.bytes.now = some_bytes c.args.bytes.now (sym c.is_empty.ensures ∙ c.if-is_empty.false) in
    record {
      works = calls.works;
      reads = omega (arith, few, empty_between capacity (0 + length c.args.bytes.now));
      writes = omega (arith, calls.writes, whole_need capacity (length c.args.bytes.now) some);
      why = calls.why;
      faults = calls.faults;
    }

pub returns-then-is_empty-clause-calls : goal.returns-then-is_empty-clause-calls
returns-then-is_empty-clause-calls g c = works_wider (works_idle g.met.N.Nodes.follows_itself c.args.nodes.now c.requires.sound) (omega arith) (omega arith)
