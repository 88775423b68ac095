use Rattle.std.proofs.Common.{◌∙◌, inl, ℕ, List, sym, subst}
use Rattle.std.proofs.lemmas.Result.{IfOk-weaker, IfErr-weaker, err_from_is_err_and}
use Rattle.flash_model.specs.Geometry.{block_bytes}
use Rattle.flash_model.specs.Reading.{OnlyReads_on}
use Rattle.node_store.specs.NodePages.{node_of}
use Rattle.reclaim.specs.Verified.{AreRoots}
use Rattle.block_usage.specs.UsageReports.{AreApart, ShowsApart}
use Rattle.block_usage.proofs.ReportLemmas.{is_ready, list_before, others_rooted, root_later, shown_rooted, state_cause, view_refused}
use Rattle.block_usage.proofs.usage_reports.usages_of_state.Goals as goal

pub returns-in_err-root-clause-err : goal.returns-in_err-root-clause-err
returns-in_err-root-clause-err g c =
    let p = err_from_is_err_and c.from_residual.result c.from_residual.ensures.1 in
    rw (p.1, p.2) (inl (view_refused (g.F.Flash.device c.args.flash.now) c.args.state.now c.args.view.now c.args.path.now c.in_err-root.field-0.0 c.in_err-root.ensures))

pub mark_apart-requires-clause-ready : goal.mark_apart-requires-clause-ready
mark_apart-requires-clause-ready g c = is_ready (g.F.Flash.device c.args.flash.now) c.args.state.now c.requires

pub mark_apart-requires-clause-trees : goal.mark_apart-requires-clause-trees
mark_apart-requires-clause-trees g c =
    let d = g.F.Flash.device c.args.flash.now in
    subst (AreRoots (block_bytes d.geometry) (node_of d)) (sym (c.deref.ensures.value ∙ c.in_ok-others.ensures)) (others_rooted d c.args.state.now c.args.view.now c.requires)

pub usages_on-requires-clause-tree : goal.usages_on-requires-clause-tree
usages_on-requires-clause-tree g c =
    let d = g.F.Flash.device c.args.flash.now in
    root_later d (g.F.Flash.device c.mark_apart.new.flash) c.in_ok-root.root c.requires.lawful c.in_ok-apart.ensures.only_reads
    (shown_rooted d c.args.state.now c.args.view.now c.in_ok-root.root c.requires c.in_ok-root.ensures.0 c.in_ok-root.ensures.1)

pub returns-clause-ok : goal.returns-clause-ok
returns-clause-ok g c =
    let d = g.F.Flash.device c.args.flash.now in
    let e = g.F.Flash.device c.mark_apart.new.flash in
    let s = c.args.state.now in
    let apart = c.in_ok-apart.apart.members in
    let shows : ShowsApart d s c.args.view.now = record {
      root = c.in_ok-root.root;
      shown = c.in_ok-root.ensures.1;
      apart = apart;
      are = subst (λ (l : List ℕ). AreApart d l s.storage.bad apart) (c.deref.ensures.value ∙ c.in_ok-others.ensures) c.in_ok-apart.ensures.apart;
    } in
    IfOk-weaker c.usages_on.result _ _
    (λ list is. record { shows = shows; is = list_before d e c.in_ok-root.root c.args.path.now apart list c.requires.lawful c.in_ok-apart.ensures.only_reads is }) c.usages_on.ensures.list

pub returns-clause-only_reads : goal.returns-clause-only_reads
returns-clause-only_reads g c =
    OnlyReads_on (g.F.Flash.device c.args.flash.now) (g.F.Flash.device c.mark_apart.new.flash) (g.F.Flash.device c.usages_on.new.flash) c.in_ok-apart.ensures.only_reads c.usages_on.ensures.looked.untouched.device

pub returns-clause-err : goal.returns-clause-err
returns-clause-err g c =
    let d = g.F.Flash.device c.args.flash.now in
    let e = g.F.Flash.device c.mark_apart.new.flash in
    let s = c.args.state.now in
    let apart = c.in_ok-apart.apart.members in
    let shows : ShowsApart d s c.args.view.now = record {
      root = c.in_ok-root.root;
      shown = c.in_ok-root.ensures.1;
      apart = apart;
      are = subst (λ (l : List ℕ). AreApart d l s.storage.bad apart) (c.deref.ensures.value ∙ c.in_ok-others.ensures) c.in_ok-apart.ensures.apart;
    } in
    IfErr-weaker c.usages_on.result _ _ (λ fault cause. state_cause d e (g.F.Flash.device c.usages_on.new.flash) s c.args.view.now c.args.path.now shows fault c.requires c.in_ok-root.ensures.0 c.in_ok-apart.ensures.only_reads cause) c.usages_on.ensures.err
