use Rattle.std.proofs.Common.{◌-◌, ◌*◌, ◌≤◌, ◌∙◌, ℕ, Bool, true, sym, ap, arith, length}
use Rattle.std.proofs.lemmas.Bool.{le-leb}
use Rattle.nodes.specs.Bodies.{data_of, head_index}
use Rattle.known_nodes.specs.Tables.{blocks_in}
use Rattle.known_nodes.proofs.WholeFileLaws.{body_is}
use Rattle.known_nodes.proofs.whole_files.is_body.Goals as goal

pub returns : goal.returns
returns c =
    let f = blocks_in c.args.table.now in
    let rest = c.args.length - head_index c.args.capacity c.args.length * c.args.capacity in
    let own = c.data_length_at.ensures in
    let enough : rest ≤ length (data_of (f c.args.head)) = omega (arith, own) in
    body_is c.args.capacity f c.args.head c.args.length true true c.has.result (sym c.if-not-has_index.false ∙ c.has_index.ensures) (sym (le-leb rest (length (data_of (f c.args.head))) enough))
    (c.has.ensures ∙ ap (λ (marks : ℕ → Bool). marks c.args.head) c.requires.linked)
