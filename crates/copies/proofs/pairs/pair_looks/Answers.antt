use Rattle.std.proofs.Common.{◌∙◌, List, ap, arith}
use Rattle.std.proofs.lemmas.List.{take_all}
use Rattle.std.specs.List.{flat_map}
use Rattle.std.specs.BTreeMap.{get}
use Rattle.std.specs.Ordering.{nat_cmp}
use Rattle.copies.specs.declared.pairs.Look.{Look}
use Rattle.copies.proofs.Pairing.{pair_by, paired}
use Rattle.copies.proofs.pairs.pair_looks.Goals as goal

pub returns : goal.returns
returns c =
    let last = get nat_cmp c.in_ok-last.last in
    paired c.args.gone.now c.args.come.now last c.in_ok-last.ensures c.loop-look.moves.items
    (c.loop-look.invariant ∙ ap (λ (looks : List Look). flat_map (pair_by last) looks) (take_all c.loop-look.look-index c.args.come.now (let past = c.loop-look-test.false in omega (arith, past))))
