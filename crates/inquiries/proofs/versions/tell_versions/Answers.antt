use Rattle.std.proofs.Common.{◌∙◌, ℕ, List, length, ap, ap₂, arith}
use Rattle.std.proofs.lemmas.Result.{err_from_is_err_and}
use Rattle.history_machine.specs.History.{Past}
use Rattle.history_machine.specs.Machine.{Machine}
use Rattle.tree_counts.specs.Sizes.{size_of}
use Rattle.tree_counts.specs.declared.tree_size.TreeSize.{TreeSize}
use Rattle.working_state.specs.Seen.{tree_on}
use Rattle.inquiries.specs.Versions.{kept_rows, versions_lines}
use Rattle.inquiries.proofs.KeptTrees.{met_after, rows_tell, versions_rooted}
use Rattle.inquiries.proofs.versions.tell_versions.Goals as goal

pub kept_sizes-requires : goal.kept_sizes-requires
kept_sizes-requires g c = c.kept_space.ensures.system.mounted

pub returns-in_err-sizes-clause-pages : goal.returns-in_err-sizes-clause-pages
returns-in_err-sizes-clause-pages g c = λ p. c.kept_sizes.ensures.pages p ∙ c.kept_space.ensures.still.pages p

pub returns-in_err-sizes-clause-err : goal.returns-in_err-sizes-clause-err
returns-in_err-sizes-clause-err g c =
    let p = err_from_is_err_and c.from_residual-in_err-sizes.result c.from_residual-in_err-sizes.ensures.1 in
    rw (p.1, p.2) (met_after (g.F.Flash.device c.args.flash.now) (g.F.Flash.device c.kept_space.new.flash) (g.F.Flash.device c.kept_sizes.new.flash) c.in_err-sizes.field-0.0 c.kept_space.ensures.still.failed_reads c.in_err-sizes.ensures.err)

pub list_versions-requires : goal.list_versions-requires
list_versions-requires g c =
    let e = g.F.Flash.device c.kept_space.new.flash in
    let long = versions_rooted (λ root. size_of (tree_on e root)) c.kept_space.new.system.state.history in
    let same = ap (λ (h : Past ℕ). length h.versions) c.kept_sizes.ensures.history in
    let all = ap length (c.deref.ensures.value ∙ c.in_ok-sizes.ensures.sizes) in
    omega (arith, long, same, all)

pub returns-clause-pages : goal.returns-clause-pages
returns-clause-pages g c = λ p. c.kept_sizes.ensures.pages p ∙ c.kept_space.ensures.still.pages p

pub returns-clause-ok : goal.returns-clause-ok
returns-clause-ok g c =
    let e = g.F.Flash.device c.kept_space.new.flash in
    let space = c.in_ok-space.space in
    record {
      space = space;
      kept = c.in_ok-space.ensures.space;
      lines = c.in_ok-list_versions.ensures
          ∙ ap₂ (λ (h : Past ℕ) (sizes : List TreeSize). kept_rows h sizes space) c.kept_sizes.ensures.history (c.deref.ensures.value ∙ c.in_ok-sizes.ensures.sizes)
          ∙ rows_tell e c.kept_space.new.system.state space c.kept_space.ensures.system.mounted.machine
          ∙ ap (λ (m : Machine). versions_lines m space) c.kept_space.ensures.still.machine;
    }
