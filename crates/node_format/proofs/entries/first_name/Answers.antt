use Rattle.std.proofs.Common.{◌≡◌, ℕ, List, Some, ap, sym, ◌∙◌}
use Rattle.std.specs.Option.{option_map}
use Rattle.node_format.specs.Items.{Item}
use Rattle.node_format.specs.Directories.{item_at}
use Rattle.node_format.proofs.FirstNames.{first_none, first_some, after_header}
use Rattle.node_format.proofs.entries.first_name.Goals as goal

pub returns-then-not-begins_entries : goal.returns-then-not-begins_entries
returns-then-not-begins_entries c bytes l same enough is =
    first_none c.args.front.now bytes l c.begins_entries.result (record { same = same; enough = enough }) is c.begins_entries.ensures.exact c.if-not-begins_entries.true

pub returns-in_err-entry : goal.returns-in_err-entry
returns-in_err-entry c bytes l same enough is =
    rw c.from_residual.ensures
    (ap (option_map (λ (x : Item × List ℕ). x.0.name)) (c.in_err-entry.ensures ∙ ap item_at (after_header c.args.front.now))
    ∙ first_some c.args.front.now bytes l c.begins_entries.result (record { same = same; enough = enough }) is c.begins_entries.ensures.exact c.if-not-begins_entries.false)

pub returns : goal.returns
returns c bytes l same enough is =
    ap (λ (n : List ℕ). Some n) c.name.ensures.name ∙ ap (option_map (λ (x : Item × List ℕ). x.0.name)) (c.in_ok-entry.ensures ∙ ap item_at (after_header c.args.front.now))
    ∙ first_some c.args.front.now bytes l c.begins_entries.result (record { same = same; enough = enough }) is c.begins_entries.ensures.exact c.if-not-begins_entries.false
