use Rattle.std.proofs.Common.{◌≡◌, IfOk, sym, ◌∙◌, subst}
use Rattle.fs_types.specs.Names.{Name}
use Rattle.put_lots.proofs.Last.{last-at}
use Rattle.put_lots.proofs.lots.last_name.Goals as goal

pub returns : goal.returns
returns c = subst (λ (n : Name). IfOk c.clone.result (λ name. name ≡ n)) (c.index-names-names.is ∙ sym (last-at c.args.names.now c.index-names-names.result c.requires)) c.clone.ensures
