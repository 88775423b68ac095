use Rattle.std.proofs.Common.{◌≡◌, ◌∙◌, ◌+◌, ◌<◌, ◌++◌, ◌∷◌, [], List, ℕ, suc, length, take, get_or, ap, sym, append_assoc, append-nil, arith}
use Rattle.std.proofs.Math.Seq.{take-suc}
use Rattle.std.proofs.lemmas.Grind.{flat_map-append}
use Rattle.std.specs.List.{flat_map}
use Rattle.block_usage.specs.HtmlPages.{legend_row}
use Rattle.block_usage.specs.declared.block_kind.BlockKind.{BlockKind}
use Rattle.block_usage.proofs.html_page.add_legend_rows.Goals as goal

-- one kind more
next : (f : BlockKind → List ℕ) (told : List BlockKind) (i : ℕ) (kind : BlockKind) (old out new : List ℕ) → i < length told → out ≡ old ++ flat_map f (take i told) → new ≡ out ++ f (get_or told i kind)
    → new ≡ old ++ flat_map f (take (i + 1) told)
next f told i kind old out new within so_far more =
    let one = get_or told i kind in
    let front = flat_map f (take i told) in
    let number : i + 1 ≡ suc i = omega arith in
    let grown : flat_map f (take (i + 1) told) ≡ front ++ f one =
    ap (λ (n : ℕ). flat_map f (take n told)) number ∙ ap (flat_map f) (take-suc told i kind within) ∙ flat_map-append f (take i told) (one ∷ []) ∙ ap (λ (l : List ℕ). front ++ l) (append-nil (f one)) in
    more ∙ ap (λ (l : List ℕ). l ++ f one) so_far ∙ append_assoc old front (f one) ∙ ap (λ (l : List ℕ). old ++ l) (sym grown)

pub loop-kind-preserved : goal.loop-kind-preserved
loop-kind-preserved c =
    next (legend_row c.args.kinds.now) c.args.told.now c.loop-kind.kind-index BlockKind.NewestAnchor c.args.out.now.items c.loop-kind.out.items c.add_legend_row.new.out.items
    c.loop-kind-test.true c.loop-kind.invariant c.in_ok-add_legend_row.ensures
