use Rattle.std.proofs.Common.{subst, ◌∙◌}
use Rattle.node_format.specs.Directories.{AreSpelled}
use Rattle.node_format.proofs.Edited.{written_with, parts_fit_with}
use Rattle.node_format.proofs.entry_list.EntryList.with_entry.Goals as goal

pub joined-requires : goal.joined-requires
joined-requires c =
    let f = subst (AreSpelled c.front.inside.count c.front.inside.bytes.now) c.front.view_is c.front.invariant in
    let b = subst (AreSpelled c.back.inside.count c.back.inside.bytes.now) c.back.view_is c.back.invariant in
    parts_fit_with _ _ _ _ c.args.place _ _ _ _ _ _ c.split-front.ensures.split f b c.requires.name c.requires.place (c.deref.ensures.value ∙ c.in_ok-entry.ensures)

pub invariant_of-result : goal.invariant_of-result
invariant_of-result c =
    let f = subst (AreSpelled c.front.inside.count c.front.inside.bytes.now) c.front.view_is c.front.invariant in
    let b = subst (AreSpelled c.back.inside.count c.back.inside.bytes.now) c.back.view_is c.back.invariant in
    (written_with _ _ _ _ c.args.place _ _ _ _ _ _ _ c.split-front.ensures.split c.split-front.ensures.few c.requires.capacity c.requires.name c.requires.place f b (c.deref.ensures.value ∙ c.in_ok-entry.ensures) c.in_ok-bytes.ensures).spelled

pub returns : goal.returns
returns c =
    let f = subst (AreSpelled c.front.inside.count c.front.inside.bytes.now) c.front.view_is c.front.invariant in
    let b = subst (AreSpelled c.back.inside.count c.back.inside.bytes.now) c.back.view_is c.back.invariant in
    (written_with _ _ _ _ c.args.place _ _ _ _ _ _ _ c.split-front.ensures.split c.split-front.ensures.few c.requires.capacity c.requires.name c.requires.place f b (c.deref.ensures.value ∙ c.in_ok-entry.ensures) c.in_ok-bytes.ensures).edit
