use Rattle.std.proofs.Common.{◌≡◌, ◌∙◌, ◌+◌, ◌++◌, List, [], ◌∷◌, map, take, sym, ap, subst, append-nil, arith}
use Rattle.std.proofs.lemmas.List.{take_more, take_all}
use Rattle.history_machine.specs.History.{view_refusal}
use Rattle.history_machine.specs.Machine.{Machine, view_tree}
use Rattle.host_interface.specs.Files.{new_name}
use Rattle.host_interface.specs.Folders.{Made}
use Rattle.inquiries.specs.Items.{IsItemOf}
use Rattle.inquiries.specs.Readings.{shown}
use Rattle.inquiries.specs.declared.items.Item.{Item}
use Rattle.inquiries.proofs.Readings.{unchanged-refl, unchanged-trans}
use Rattle.image_words.specs.PathCopies.{made_of}
use Rattle.image_words.proofs.MakeLemmas.{keeps-refl, keeps-trans, unmade_later, item_same, made_more}
use Rattle.image_words.proofs.host_folders.make_all.Goals as goal

pub loop-item-init : goal.loop-item-init
loop-item-init g c = (
  unchanged-refl c.args.fs.now,
  λ all made. subst (g.H.Folders.made c.args.files.now c.args.name.now) (sym (append-nil all)) made,
  keeps-refl (new_name c.args.name.now) (g.H.ImageFiles.held c.args.files.now),
)

pub make_one-requires-clause-view : goal.make_one-requires-clause-view
make_one-requires-clause-view g c = ap (λ (m : Machine). view_refusal m.history c.args.view.now) c.loop-item.invariant.0.machine ∙ c.requires.view

pub make_one-requires-clause-there : goal.make_one-requires-clause-there
make_one-requires-clause-there g c =
    item_same (shown c.args.fs.now) (shown c.loop-item.fs) c.args.view.now c.item-item.result c.loop-item.invariant.0.machine
    (subst (IsItemOf (view_tree (shown c.args.fs.now) c.args.view.now)) (sym c.item-item.is) (c.requires.there c.loop-item.item-index c.item-item.result c.loop-item-test.true))

pub returns-in-Err-clause-same : goal.returns-in-Err-clause-same
returns-in-Err-clause-same g c = unchanged-trans c.args.fs.now c.loop-item.fs c.make_one.new.fs c.loop-item.invariant.0 c.make_one.ensures.same

pub returns-in-Err-clause-others : goal.returns-in-Err-clause-others
returns-in-Err-clause-others g c =
    keeps-trans (new_name c.args.name.now) (g.H.ImageFiles.held c.args.files.now) (g.H.ImageFiles.held c.loop-item.files) (g.H.ImageFiles.held c.make_one.new.files) c.loop-item.invariant.2 c.make_one.ensures.others

pub returns-in-Err-clause-err : goal.returns-in-Err-clause-err
returns-in-Err-clause-err g c = unmade_later c.args.fs.now c.loop-item.fs c.make_one.new.fs c.in-Err.failure c.loop-item.invariant.0 c.in-Err.ensures.err

pub loop-item-preserved : goal.loop-item-preserved
loop-item-preserved g c =
    let t = view_tree (shown c.args.fs.now) c.args.view.now in
    let f = made_of t c.args.skipped in
    let grown : take (c.loop-item.item-index + 1) c.args.items.now ≡ take c.loop-item.item-index c.args.items.now ++ c.item-item.result ∷ [] =
    take_more c.args.items.now c.loop-item.item-index c.item-item.result c.loop-item-test.true ∙ ap (λ (x : Item). take c.loop-item.item-index c.args.items.now ++ x ∷ []) (sym c.item-item.is) in
    let one = subst (λ (m : Machine). (all : List Made) → g.H.Folders.made c.loop-item.files c.args.name.now all → g.H.Folders.made c.make_one.new.files c.args.name.now (all ++ made_of (view_tree m c.args.view.now) c.args.skipped c.item-item.result ∷ []))
    c.loop-item.invariant.0.machine c.in-Ok.ensures.ok in (
      unchanged-trans c.args.fs.now c.loop-item.fs c.make_one.new.fs c.loop-item.invariant.0 c.make_one.ensures.same,
      made_more f (g.H.Folders.made c.make_one.new.files c.args.name.now) (g.H.Folders.made c.loop-item.files c.args.name.now) (g.H.Folders.made c.args.files.now c.args.name.now)
          c.args.items.now c.loop-item.item-index c.item-item.result grown c.loop-item.invariant.1 one,
      keeps-trans (new_name c.args.name.now) (g.H.ImageFiles.held c.args.files.now) (g.H.ImageFiles.held c.loop-item.files) (g.H.ImageFiles.held c.make_one.new.files) c.loop-item.invariant.2 c.make_one.ensures.others,
    )

pub returns-clause-ok : goal.returns-clause-ok
returns-clause-ok g c =
    let t = view_tree (shown c.args.fs.now) c.args.view.now in
    let past = c.loop-item-test.false in
    let whole : take c.loop-item.item-index c.args.items.now ≡ c.args.items.now = take_all c.loop-item.item-index c.args.items.now (omega (arith, past)) in
    λ all made. subst (λ (items : List Item). g.H.Folders.made c.loop-item.files c.args.name.now (all ++ map (made_of t c.args.skipped) items)) whole (c.loop-item.invariant.1 all made)
