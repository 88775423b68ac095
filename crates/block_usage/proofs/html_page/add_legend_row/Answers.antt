use Rattle.std.proofs.Common.{◌≡◌, ◌∙◌, ◌++◌, List, ℕ, ap, append_assoc, codes, decimal}
use Rattle.block_usage.specs.HtmlPages.{sign_cell}
use Rattle.block_usage.specs.MapTexts.{meaning_of, sign_count, sign_of}
use Rattle.block_usage.proofs.html_page.add_legend_row.Goals as goal

-- one part more
then : (old part next mid new : List ℕ) → mid ≡ old ++ part → new ≡ mid ++ next → new ≡ old ++ (part ++ next)
then old part next mid new so_far more = more ∙ ap (λ (l : List ℕ). l ++ next) so_far ∙ append_assoc old part next

pub returns : goal.returns
returns c =
    let old = c.args.out.now.items in
    let kind = c.args.kind in
    let count = sign_count c.args.kinds.now (sign_of kind) in
    let signed : c.add_sign_cell.new.out.items ≡ old ++ (codes "<tr>" ++ sign_cell kind) = then old (codes "<tr>") (sign_cell kind) _ _ c.in_ok-extend_from_slice.ensures.items c.in_ok-add_sign_cell.ensures in
    let begun = then old (codes "<tr>" ++ sign_cell kind) (codes "<td>") _ _ signed c.in_ok-extend_from_slice-2.ensures.items in
    let counted = then old (codes "<tr>" ++ sign_cell kind ++ codes "<td>") (decimal count) _ _ begun
    (c.in_ok-print_number.ensures ∙ ap (λ (n : ℕ). c.extend_from_slice-2.new.self.items ++ decimal n) (c.sign_count.ensures ∙ ap (sign_count c.args.kinds.now) c.sign.ensures)) in
    let parted = then old (codes "<tr>" ++ sign_cell kind ++ codes "<td>" ++ decimal count) (codes "</td><td>") _ _ counted c.in_ok-extend_from_slice-3.ensures.items in
    let told = then old (codes "<tr>" ++ sign_cell kind ++ codes "<td>" ++ decimal count ++ codes "</td><td>") (meaning_of kind) _ _ parted
    (c.in_ok-extend_from_slice-4.ensures.items ∙ ap (λ (l : List ℕ). c.extend_from_slice-3.new.self.items ++ l) c.meaning.ensures) in
    then old (codes "<tr>" ++ sign_cell kind ++ codes "<td>" ++ decimal count ++ codes "</td><td>" ++ meaning_of kind) (codes "</td></tr>\n") _ _ told c.in_ok-extend_from_slice-5.ensures.items
