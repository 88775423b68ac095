use Rattle.std.proofs.Common.{◌≡◌, Some, Ok, Err, refl, sym, ap, subst, ◌∙◌, ◌-◌}
use Rattle.std.proofs.lemmas.Bool.{true≢false}
use Rattle.std.proofs.lemmas.Result.{err_from_is_err_and}
use Rattle.fs_types.specs.declared.fault.Fault.TheVariants.{NoEntry, IsDirectory}
use Rattle.node_format.specs.Headers.{body_header}
use Rattle.directory.specs.declared.lookups.Found.{Found}
use Rattle.directory.specs.declared.lookups.Found.TheVariants as found
use Rattle.directory.specs.Lookups.{look_up}
use Rattle.working_state.proofs.FileReads.{look_up_refuses, found_refuses_file}
use Rattle.working_state.proofs.LookNodes.{few_reads}
use Rattle.working_state.proofs.reads.find_file.Goals as goal

pub returns-in_err-lookup-clause-refused : goal.returns-in_err-lookup-clause-refused
returns-in_err-lookup-clause-refused g c =
    let p = err_from_is_err_and c.from_residual.result c.from_residual.ensures.1 in
    let look = c.in_err-lookup.ensures in
    look_up_refuses (g.N.Nodes.limit c.args.nodes.now - body_header) (g.N.Nodes.node c.args.nodes.now) c.args.root c.args.path.now c.requires.rooted c.from_residual.result c.in_err-lookup.field-0.0 (p.1 ∙ ap Err p.2) look.refused look.calls.faults

pub returns-in_err-lookup-clause-why : goal.returns-in_err-lookup-clause-why
returns-in_err-lookup-clause-why g c =
    let p = err_from_is_err_and c.from_residual.result c.from_residual.ensures.1 in
    rw (p.1, p.2) c.in_err-lookup.ensures.calls.why

pub returns-in-Missing-clause-refused : goal.returns-in-Missing-clause-refused
returns-in-Missing-clause-refused g c =
    λ other. found_refuses_file (g.N.Nodes.limit c.args.nodes.now - body_header) (g.N.Nodes.node c.args.nodes.now) c.args.root c.args.path.now c.requires.rooted _ (found.Missing c.in-Missing.is_full) c.in_ok-lookup.ensures.found c.in-Missing.is (Some NoEntry) refl

pub returns-in-Missing-clause-why : goal.returns-in-Missing-clause-why
returns-in-Missing-clause-why g c = λ is. absurd (true≢false (sym is))

pub returns-in-Dir-clause-refused : goal.returns-in-Dir-clause-refused
returns-in-Dir-clause-refused g c =
    λ other. found_refuses_file (g.N.Nodes.limit c.args.nodes.now - body_header) (g.N.Nodes.node c.args.nodes.now) c.args.root c.args.path.now c.requires.rooted _ (found.Dir c.in-Dir.block) c.in_ok-lookup.ensures.found c.in-Dir.is (Some IsDirectory) refl

pub returns-in-Dir-clause-why : goal.returns-in-Dir-clause-why
returns-in-Dir-clause-why g c = λ is. absurd (true≢false (sym is))

pub returns-in-File-clause-found : goal.returns-in-File-clause-found
returns-in-File-clause-found g c =
    record {
      found = subst (λ (x : Found). look_up (g.N.Nodes.node c.args.nodes.now) c.args.root c.args.path.now ≡ Ok x) c.in-File.is c.in_ok-lookup.ensures.found;
      node = λ node none. absurd cc;
    }

pub returns-in_err-lookup-clause-looks : goal.returns-in_err-lookup-clause-looks
returns-in_err-lookup-clause-looks g c = c.lookup.ensures.calls.looks

pub returns-in_err-lookup-clause-reads : goal.returns-in_err-lookup-clause-reads
returns-in_err-lookup-clause-reads g c = few_reads (g.N.Nodes.limit c.args.nodes.now - body_header) (g.N.Nodes.node c.args.nodes.now) c.args.root c.args.path.now (g.N.Nodes.reads c.args.nodes.now) (g.N.Nodes.reads c.lookup.new.nodes) c.requires.rooted c.lookup.ensures.calls.reads

pub returns-in-Missing-clause-looks : goal.returns-in-Missing-clause-looks
returns-in-Missing-clause-looks g c = c.lookup.ensures.calls.looks

pub returns-in-Missing-clause-reads : goal.returns-in-Missing-clause-reads
returns-in-Missing-clause-reads g c = few_reads (g.N.Nodes.limit c.args.nodes.now - body_header) (g.N.Nodes.node c.args.nodes.now) c.args.root c.args.path.now (g.N.Nodes.reads c.args.nodes.now) (g.N.Nodes.reads c.lookup.new.nodes) c.requires.rooted c.lookup.ensures.calls.reads

pub returns-in-Dir-clause-looks : goal.returns-in-Dir-clause-looks
returns-in-Dir-clause-looks g c = c.lookup.ensures.calls.looks

pub returns-in-Dir-clause-reads : goal.returns-in-Dir-clause-reads
returns-in-Dir-clause-reads g c = few_reads (g.N.Nodes.limit c.args.nodes.now - body_header) (g.N.Nodes.node c.args.nodes.now) c.args.root c.args.path.now (g.N.Nodes.reads c.args.nodes.now) (g.N.Nodes.reads c.lookup.new.nodes) c.requires.rooted c.lookup.ensures.calls.reads

pub returns-in-File-clause-looks : goal.returns-in-File-clause-looks
returns-in-File-clause-looks g c = c.lookup.ensures.calls.looks

pub returns-in-File-clause-reads : goal.returns-in-File-clause-reads
returns-in-File-clause-reads g c = few_reads (g.N.Nodes.limit c.args.nodes.now - body_header) (g.N.Nodes.node c.args.nodes.now) c.args.root c.args.path.now (g.N.Nodes.reads c.args.nodes.now) (g.N.Nodes.reads c.lookup.new.nodes) c.requires.rooted c.lookup.ensures.calls.reads
