use Rattle.std.proofs.Common.{subst, arith}
use Rattle.node_format.specs.Directories.{AreSpelled}
use Rattle.node_format.proofs.Edited.{written_without, parts_fit}
use Rattle.node_format.proofs.entry_list.EntryList.without_entry.Goals as goal

pub joined-requires : goal.joined-requires
joined-requires c =
    let f = subst (AreSpelled c.front.inside.count c.front.inside.bytes.now) c.front.view_is c.front.invariant in
    let b = subst (AreSpelled c.back.inside.count c.back.inside.bytes.now) c.back.view_is c.back.invariant in
    omega (arith, parts_fit _ _ _ _ _ _ _ _ _ c.split-front.ensures.split f b)

pub invariant_of-result : goal.invariant_of-result
invariant_of-result c =
    let f = subst (AreSpelled c.front.inside.count c.front.inside.bytes.now) c.front.view_is c.front.invariant in
    let b = subst (AreSpelled c.back.inside.count c.back.inside.bytes.now) c.back.view_is c.back.invariant in
    (written_without _ _ _ _ _ _ _ _ _ _ c.split-front.ensures.split c.split-front.ensures.few f b c.in_ok-bytes.ensures).spelled

pub returns : goal.returns
returns c =
    let f = subst (AreSpelled c.front.inside.count c.front.inside.bytes.now) c.front.view_is c.front.invariant in
    let b = subst (AreSpelled c.back.inside.count c.back.inside.bytes.now) c.back.view_is c.back.invariant in
    (written_without _ _ _ _ _ _ _ _ _ _ c.split-front.ensures.split c.split-front.ensures.few f b c.in_ok-bytes.ensures).edit
