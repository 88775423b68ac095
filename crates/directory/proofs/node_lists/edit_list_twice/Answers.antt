use Rattle.std.proofs.Common.{◌≡◌, None, sym, subst, rules}
use Rattle.node_format.specs.Edits.{IsEdited}
use Rattle.node_format.specs.declared.place.Place.{Place}
use Rattle.std.specs.Prelude.{Option}
use Rattle.directory.proofs.Forks.{takes_made, none_is}
use Rattle.directory.proofs.node_lists.edit_list_twice.Goals as goal

pub edit_list-requires-then-is_none-clause-takes : goal.edit_list-requires-then-is_none-clause-takes
edit_list-requires-then-is_none-clause-takes c =
    let none : c.args.gone ≡ None = none_is c.args.gone (search rules) in
    let edited : IsEdited c.args.list.now c.args.name.now None c.list.result =
    subst (λ (o : Option Place). IsEdited c.args.list.now c.args.name.now o c.list.result) none
    (subst (IsEdited c.args.list.now c.args.name.now c.args.gone) (sym c.list.ensures) c.in_ok-without.ensures) in
    takes_made c.args.list.now c.list.result c.args.name.now c.args.other.now c.args.here c.requires.few c.requires.named edited
