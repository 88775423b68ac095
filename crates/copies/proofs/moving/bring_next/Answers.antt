use Rattle.std.proofs.Common.{◌∙◌, sym, ap, subst}
use Rattle.std.proofs.lemmas.Result.{IfErr-weaker}
use Rattle.history_machine.specs.Machine.{Machine, view_tree, working_tree}
use Rattle.inquiries.specs.Folders.{IsSmall, Unlisted}
use Rattle.inquiries.specs.Readings.{shown}
use Rattle.inquiries.proofs.Readings.{unchanged-trans}
use Rattle.updates.proofs.Meeting.{untold_first, untold_second}
use Rattle.copies.specs.Causes.{NotCopied}
use Rattle.copies.proofs.Brought.{ready_changed}
use Rattle.copies.proofs.Causing.{on_uncopied, stops_later, untold}
use Rattle.copies.proofs.Renaming.{came_still, differing_there, moved_still, went_still}
use Rattle.copies.proofs.moving.bring_next.Goals as goal

pub returns-in-Err-clause-err : goal.returns-in-Err-clause-err
returns-in-Err-clause-err g c =
    let from = shown c.args.from.now in
    let to = shown c.args.to.now in
    subst (NotCopied from (g.F.Flash.device c.args.from.now.flash.now) (g.F.Flash.device c.list_differing.new.fs.flash.now) (g.G.Flash.device c.args.to.now.flash.now)) (sym c.of_untold.ensures)
    (untold c.args.to.now c.args.from.now c.args.to.now c.list_differing.new.fs c.args.view.now c.in-Err.fault c.requires.view c.requires.ready
    (untold_first c.args.to.now c.args.from.now c.list_differing.new.fs (view_tree from c.args.last.now) (working_tree to) (view_tree from c.args.view.now) c.in-Err.fault c.requires.there c.in-Err.ensures.err))

pub returns-in-Err-list_differing-clause-err : goal.returns-in-Err-list_differing-clause-err
returns-in-Err-list_differing-clause-err g c =
    let from = shown c.args.from.now in
    let to = shown c.args.to.now in
    let v = c.args.view.now in
    let unlisted = subst (λ (m : Machine). Unlisted (view_tree m v) c.list_differing.new.fs c.list_differing-2.new.fs c.in-Err-list_differing.fault) c.list_differing.ensures.same.machine c.in-Err-list_differing.ensures.err in
    subst (NotCopied from (g.F.Flash.device c.args.from.now.flash.now) (g.F.Flash.device c.list_differing-2.new.fs.flash.now) (g.G.Flash.device c.args.to.now.flash.now)) (sym c.of_untold-in-Err-list_differing.ensures)
    (untold c.args.to.now c.args.from.now c.args.to.now c.list_differing-2.new.fs v c.in-Err-list_differing.fault c.requires.view c.requires.ready
    (untold_second c.args.to.now c.args.from.now c.list_differing.new.fs c.list_differing-2.new.fs (working_tree to) (view_tree from v) c.in-Err-list_differing.fault c.list_differing.ensures.same unlisted))

-- ---- the moves between the two

pub find_moves-requires-clause-olds : goal.find_moves-requires-clause-olds
find_moves-requires-clause-olds g c =
    let m = shown c.args.from.now in
    differing_there m (shown c.list_differing-2.new.fs) c.args.view.now c.args.last.now (working_tree (shown c.args.to.now)) (c.list_differing-2.ensures.same.machine ∙ c.list_differing.ensures.same.machine)
    (view_tree m c.args.view.now) c.in-Ok.olds.items c.deref.result.now c.deref.ensures.value c.in-Ok.ensures.ok

pub find_moves-requires-clause-news : goal.find_moves-requires-clause-news
find_moves-requires-clause-news g c =
    let m = shown c.list_differing.new.fs in
    differing_there m (shown c.list_differing-2.new.fs) c.args.last.now c.args.view.now (working_tree (shown c.args.to.now)) c.list_differing-2.ensures.same.machine
    (view_tree m c.args.last.now) c.in-Ok-list_differing.news.items c.deref-2.result.now c.deref-2.ensures.value c.in-Ok-list_differing.ensures.ok

-- ---- the version

pub make_moved-requires-clause-olds : goal.make_moved-requires-clause-olds
make_moved-requires-clause-olds g c =
    went_still (shown c.args.from.now) (shown c.find_moves.new.fs) c.args.last.now c.args.view.now (working_tree (shown c.args.to.now))
    (c.find_moves.ensures.same.machine ∙ c.list_differing-2.ensures.same.machine ∙ c.list_differing.ensures.same.machine) c.requires.there c.in-Ok.olds.items c.deref-in-Ok-find_moves.result.now
    c.deref-in-Ok-find_moves.ensures.value c.in-Ok.ensures.ok

pub make_moved-requires-clause-news : goal.make_moved-requires-clause-news
make_moved-requires-clause-news g c =
    came_still (shown c.list_differing.new.fs) (shown c.find_moves.new.fs) c.args.last.now c.args.view.now (working_tree (shown c.args.to.now)) (c.find_moves.ensures.same.machine ∙ c.list_differing-2.ensures.same.machine)
    (ap (λ (m : Machine). view_tree m c.args.last.now) c.list_differing.ensures.same.machine ∙ c.requires.there) c.in-Ok-list_differing.news.items c.deref-in-Ok-find_moves-2.result.now
    c.deref-in-Ok-find_moves-2.ensures.value c.in-Ok-list_differing.ensures.ok

pub make_moved-requires-clause-moves : goal.make_moved-requires-clause-moves
make_moved-requires-clause-moves g c =
    moved_still (shown c.list_differing-2.new.fs) (shown c.find_moves.new.fs) c.args.last.now c.args.view.now (working_tree (shown c.args.to.now)) c.find_moves.ensures.same.machine
    (ap (λ (m : Machine). view_tree m c.args.last.now) (c.list_differing-2.ensures.same.machine ∙ c.list_differing.ensures.same.machine) ∙ c.requires.there) c.in-Ok-find_moves.moves.items
    c.deref-in-Ok-find_moves-3.result.now c.deref-in-Ok-find_moves-3.ensures.value c.in-Ok-find_moves.ensures.ok.moved

pub returns-in-Ok-find_moves-clause-same : goal.returns-in-Ok-find_moves-clause-same
returns-in-Ok-find_moves-clause-same g c =
    unchanged-trans c.args.from.now c.find_moves.new.fs c.make_moved.new.from
    (unchanged-trans c.args.from.now c.list_differing-2.new.fs c.find_moves.new.fs (unchanged-trans c.args.from.now c.list_differing.new.fs c.list_differing-2.new.fs c.list_differing.ensures.same c.list_differing-2.ensures.same)
    c.find_moves.ensures.same) c.make_moved.ensures.same

pub returns-in-Ok-find_moves-clause-ready : goal.returns-in-Ok-find_moves-clause-ready
returns-in-Ok-find_moves-clause-ready g c =
    let v = c.args.view.now in
    let m = shown c.find_moves.new.fs in
    let small : IsSmall (view_tree m v) = subst (λ (n : Machine). IsSmall (view_tree n v)) (sym (c.find_moves.ensures.same.machine ∙ c.list_differing-2.ensures.same.machine)) c.in-Ok-list_differing.ensures.small in
    on_uncopied c.make_moved.result _ _ (λ made. ready_changed (shown c.args.to.now) (shown c.make_moved.new.to) (view_tree m v) c.args.to.now.mounted.mounted.machine c.requires.ready small made) c.make_moved.ensures.ok

pub returns-in-Ok-find_moves-clause-err : goal.returns-in-Ok-find_moves-clause-err
returns-in-Ok-find_moves-clause-err g c =
    let before = unchanged-trans c.args.from.now c.list_differing-2.new.fs c.find_moves.new.fs
    (unchanged-trans c.args.from.now c.list_differing.new.fs c.list_differing-2.new.fs c.list_differing.ensures.same c.list_differing-2.ensures.same) c.find_moves.ensures.same in
    IfErr-weaker c.make_moved.result _ _
    (λ why cause. stops_later c.args.from.now c.find_moves.new.fs (g.F.Flash.device c.make_moved.new.from.flash.now) (g.G.Flash.device c.make_moved.new.to.flash.now) why before cause) c.make_moved.ensures.err
