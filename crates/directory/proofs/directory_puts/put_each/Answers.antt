use Rattle.std.proofs.Common.{◌∙◌, ◌<◌, Some, List, [], ◌∷◌, ◌++◌, length, take, sym, ap, subst}
use Rattle.std.proofs.lemmas.List.{take_more}
use Rattle.fs_types.specs.Names.{Name}
use Rattle.fs_types.specs.declared.limits.TheConstants.{MAX_ENTRIES}
use Rattle.node_format.specs.Items.{Item, named_place}
use Rattle.node_format.specs.Edits.{IsEdited}
use Rattle.directory.specs.Puts.{IsPutEach}
use Rattle.directory.specs.declared.directory_puts.NamedPlace.{NamedPlace}
use Rattle.directory.proofs.DirectoryPuts.{next_put, room_next}
use Rattle.directory.proofs.directory_puts.put_each.Goals as goal

pub with_entry-requires-in-loop-i-clause-capacity :
    goal.with_entry-requires-in-loop-i-clause-capacity
with_entry-requires-in-loop-i-clause-capacity c none =
    subst (λ (items : List Item). length items < MAX_ENTRIES) (sym c.list.ensures)
    (room_next c.args.list.now c.loop-i.edited c.args.puts.now c.loop-i.i c.index-puts-i.result c.loop-i-test.true c.index-puts-i.is c.requires.room c.loop-i.invariant
    (sym (λ i. named_place (c.list.ensures i) (c.as_bytes-in-loop-i.ensures.bytes i)) ∙ none))

pub loop-i-preserved : goal.loop-i-preserved
loop-i-preserved c =
    let edited : IsEdited c.loop-i.edited c.index-puts-i.result.name.now (Some c.index-puts-i.result.place) c.in_ok-edited-2.edited =
    subst (λ (items : List Item). IsEdited items c.index-puts-i.result.name.now (Some c.index-puts-i.result.place) c.in_ok-edited-2.edited) c.list.ensures
    (subst (λ (name : Name). IsEdited c.list.result name (Some c.index-puts-i.result.place) c.in_ok-edited-2.edited) c.as_bytes-in-loop-i.ensures.bytes c.in_ok-edited-2.ensures) in
    subst (λ (puts : List NamedPlace). IsPutEach c.args.list.now puts c.in_ok-edited-2.edited)
    (sym (take_more c.args.puts.now c.loop-i.i c.index-puts-i.result c.loop-i-test.true ∙ ap (λ (put : NamedPlace). take c.loop-i.i c.args.puts.now ++ put ∷ []) (sym c.index-puts-i.is)))
    (next_put c.args.list.now c.loop-i.edited c.in_ok-edited-2.edited (take c.loop-i.i c.args.puts.now) c.index-puts-i.result c.loop-i.invariant edited)
