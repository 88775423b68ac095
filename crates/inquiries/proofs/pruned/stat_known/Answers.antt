use Rattle.std.proofs.Common.{◌≡◌, ◌∙◌, ◌<◌, length, sym, ap, subst, arith}
use Rattle.std.proofs.lemmas.Result.{IfErr-weaker}
use Rattle.std.specs.FinMap.{get}
use Rattle.fs_types.specs.Names.{Path}
use Rattle.fs_types.specs.declared.call.Call.{Call}
use Rattle.plain_trees.specs.Trees.{Tree}
use Rattle.history_machine.specs.Machine.{stat_of, view_tree}
use Rattle.inquiries.specs.Items.{IsItemOf}
use Rattle.inquiries.specs.Readings.{shown}
use Rattle.inquiries.specs.declared.items.Item.{Item}
use Rattle.inquiries.proofs.PrunedLemmas.{stat_some}
use Rattle.inquiries.proofs.Readings.{unchanged-refl, met_only}
use Rattle.inquiries.proofs.pruned.stat_known.Goals as goal

pub returns-then-place-known-clause-same : goal.returns-then-place-known-clause-same
returns-then-place-known-clause-same g c = unchanged-refl c.args.fs.now

pub returns-then-place-known-clause-ok : goal.returns-then-place-known-clause-ok
returns-then-place-known-clause-ok g c =
    let t : Tree = view_tree (shown c.args.fs.now) c.args.view.now in
    let item : Item = c.index-known-place.result in
    let within : c.args.place < length c.args.known.now = omega arith in
    let is : IsItemOf t item = subst (IsItemOf t) (sym c.index-known-place.is) (c.requires.known c.args.place item within) in
    let path : item.path ≡ c.args.path.now = ap (λ (x : Item). x.path) c.index-known-place.is ∙ c.requires.place item within in
    ap (λ (x : Item). x.stat) (sym c.index-known-place.is) ∙ is.stat ∙ ap (λ (p : Path). stat_of t p (get t p)) path

pub returns-clause-err : goal.returns-clause-err
returns-clause-err g c =
    let m = shown c.args.fs.now in
    IfErr-weaker c.stat_at.result _ _
    (λ fault why. met_only c.args.fs.now c.args.fs.now c.stat_at.new.fs (Call.Stat c.args.view.now c.args.path.now) fault (unchanged-refl c.args.fs.now)
    (stat_some m c.args.view.now c.args.fs.now.mounted.mounted.machine c.requires.view c.args.path.now c.requires.there) why) c.stat_at.ensures.err
