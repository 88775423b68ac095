use Rattle.std.proofs.Common.{◌∙◌, sym, ap, ap₂, subst}
use Rattle.std.specs.FinMap.{get}
use Rattle.history_machine.specs.Machine.{Machine, view_tree}
use Rattle.inquiries.specs.Counterparts.{stat_there}
use Rattle.inquiries.specs.Differences.{difference_below}
use Rattle.inquiries.specs.Items.{IsDirectoryOf, IsFileOf}
use Rattle.inquiries.specs.PathHistories.{is_filled}
use Rattle.inquiries.specs.Readings.{shown}
use Rattle.inquiries.specs.Within.{have_other_lengths}
use Rattle.inquiries.proofs.PathLemmas.{both_directories, both_files, other_lengths, unchanged_itself}
use Rattle.inquiries.proofs.path_history.is_changed.Goals as goal

pub returns-then-branch-clause-ok : goal.returns-then-branch-clause-ok
returns-then-branch-clause-ok g c =
    unchanged_itself (view_tree (shown c.args.fs.now) c.args.old.now) (view_tree (shown c.args.fs.now) c.args.new.now) c.args.path.now (c.in_ok-show_same.ensures.same c.if-branch.true)

pub returns-then-have_other_lengths-clause-ok : goal.returns-then-have_other_lengths-clause-ok
returns-then-have_other_lengths-clause-ok g c =
    let m = shown c.args.fs.now in
    let t = view_tree m c.args.old.now in
    let u = view_tree m c.args.new.now in
    let path = c.args.path.now in
    let there = c.in_ok-is.ensures.ok ∙ ap (λ (x : Machine). stat_there (view_tree x c.args.new.now) path) c.stat_if_there.ensures.same.machine in
    other_lengths t u path (is_filled (difference_below t u path)) (get t path) (get u path)
    (sym (ap₂ have_other_lengths c.in_ok-was.ensures.ok there) ∙ sym c.have_other_lengths.ensures ∙ c.if-have_other_lengths.true)

pub differ_below-requires-clause-old : goal.differ_below-requires-clause-old
differ_below-requires-clause-old g c =
    let m = shown c.args.fs.now in
    let there = c.in_ok-is.ensures.ok ∙ ap (λ (x : Machine). stat_there (view_tree x c.args.new.now) c.args.path.now) c.stat_if_there.ensures.same.machine in
    let both = both_directories (view_tree m c.args.old.now) (view_tree m c.args.new.now) c.args.path.now c.in_ok-was.was' c.in_ok-is.is' c.in-Some.stat c.counterpart_of.result c.in_ok-was.ensures.ok there c.in-Some.is c.counterpart_of.ensures c.in-Directory.is in
    subst (λ (x : Machine). IsDirectoryOf x c.args.old.now c.args.path.now) (sym (c.stat_if_there-2.ensures.same.machine ∙ c.stat_if_there.ensures.same.machine)) (record { accepted = c.requires.old; there = both.0 })

pub differ_below-requires-clause-new : goal.differ_below-requires-clause-new
differ_below-requires-clause-new g c =
    let m = shown c.args.fs.now in
    let there = c.in_ok-is.ensures.ok ∙ ap (λ (x : Machine). stat_there (view_tree x c.args.new.now) c.args.path.now) c.stat_if_there.ensures.same.machine in
    let both = both_directories (view_tree m c.args.old.now) (view_tree m c.args.new.now) c.args.path.now c.in_ok-was.was' c.in_ok-is.is' c.in-Some.stat c.counterpart_of.result c.in_ok-was.ensures.ok there c.in-Some.is c.counterpart_of.ensures c.in-Directory.is in
    subst (λ (x : Machine). IsDirectoryOf x c.args.new.now c.args.path.now) (sym (c.stat_if_there-2.ensures.same.machine ∙ c.stat_if_there.ensures.same.machine)) (record { accepted = c.requires.new; there = both.1 })

pub has_other_bytes-requires-clause-view : goal.has_other_bytes-requires-clause-view
has_other_bytes-requires-clause-view g c =
    let m = shown c.args.fs.now in
    let there = c.in_ok-is.ensures.ok ∙ ap (λ (x : Machine). stat_there (view_tree x c.args.new.now) c.args.path.now) c.stat_if_there.ensures.same.machine in
    let both = both_files (view_tree m c.args.old.now) (view_tree m c.args.new.now) c.args.path.now c.in_ok-was.was' c.in_ok-is.is' c.in-Some.stat c.counterpart_of.result c.in_ok-was.ensures.ok there c.in-Some.is c.counterpart_of.ensures c.in-File.is in
    subst (λ (x : Machine). IsFileOf x c.args.old.now c.args.path.now) (sym (c.stat_if_there-2.ensures.same.machine ∙ c.stat_if_there.ensures.same.machine)) (record { accepted = c.requires.old; there = both.0 })

pub has_other_bytes-requires-clause-other : goal.has_other_bytes-requires-clause-other
has_other_bytes-requires-clause-other g c =
    let m = shown c.args.fs.now in
    let there = c.in_ok-is.ensures.ok ∙ ap (λ (x : Machine). stat_there (view_tree x c.args.new.now) c.args.path.now) c.stat_if_there.ensures.same.machine in
    let both = both_files (view_tree m c.args.old.now) (view_tree m c.args.new.now) c.args.path.now c.in_ok-was.was' c.in_ok-is.is' c.in-Some.stat c.counterpart_of.result c.in_ok-was.ensures.ok there c.in-Some.is c.counterpart_of.ensures c.in-File.is in
    subst (λ (x : Machine). IsFileOf x c.args.new.now c.args.path.now) (sym (c.stat_if_there-2.ensures.same.machine ∙ c.stat_if_there.ensures.same.machine)) (record { accepted = c.requires.new; there = both.1 })
