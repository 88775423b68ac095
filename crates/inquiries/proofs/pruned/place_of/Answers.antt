use Rattle.std.proofs.Common.{◌≡◌, ◌∙◌, get_or, sym, ap}
use Rattle.std.proofs.lemmas.List.{get_or_default}
use Rattle.fs_types.proofs.Orders.{same_path-is}
use Rattle.inquiries.specs.declared.items.Item.{Item}
use Rattle.inquiries.proofs.pruned.place_of.Goals as goal

pub returns-then-eq : goal.returns-then-eq
returns-then-eq c = λ d within.
    let item : Item = get_or c.args.known.now c.loop-place.place c.index-known-place.result in
    let same : get_or c.args.known.now c.loop-place.place d ≡ item = get_or_default c.args.known.now c.loop-place.place d c.index-known-place.result within in
    ap (λ (x : Item). x.path) same ∙ same_path-is item.path c.args.path.now (sym c.eq.ensures ∙ c.if-eq.true)
