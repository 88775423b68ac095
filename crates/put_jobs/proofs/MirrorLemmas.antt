-- What is removed of the items so far, from the last one on.
use Rattle.std.proofs.Common.{◌≡◌, ◌++◌, List, [], ◌∷◌, length, arith, sym, ap, ◌∙◌, append_assoc, append-nil}
use Rattle.std.specs.Prelude.{reverse}
use Rattle.std.specs.List.{flat_map}
use Rattle.std.proofs.lemmas.List.Concat.{flat_map-append}
use Rattle.std.proofs.lemmas.Grind.{reverse_onto}
use Rattle.fs_types.specs.Names.{Path}
use Rattle.fs_types.specs.declared.event.Event.{Event}
use Rattle.inquiries.specs.declared.items.Item.{Item}
use Rattle.put_lots.specs.declared.kept.Kept.{Kept}
use Rattle.put_jobs.specs.Mirrors.{removal_of, removals}

-- so many of the last items are gone through
abbrev pub HasRemoved : Path → List Kept → List Item → List Item → List Event → Type 0
HasRemoved base kept items left events = (done : List Item) × (items ≡ left ++ done) × (events ≡ flat_map (removal_of base kept) (reverse done))

pub none_removed : (base : Path) (kept : List Kept) (items : List Item) (events : List Event) → events ≡ [] → HasRemoved base kept items items events
none_removed base kept items events none = ([], sym (append-nil items), none)

pub more_removed : (base : Path) (kept : List Kept) (items left rest : List Item) (item : Item) (events more : List Event) → HasRemoved base kept items left events → left ≡ rest ++ item ∷ []
    → more ≡ events ++ removal_of base kept item → HasRemoved base kept items rest more
more_removed base kept items left rest item events more (done, are, so_far) last grown =
    let parts : flat_map (removal_of base kept) (reverse done ++ item ∷ []) ≡ flat_map (removal_of base kept) (reverse done) ++ removal_of base kept item =
    flat_map-append (removal_of base kept) (reverse done) (item ∷ []) ∙ ap (λ (x : List Event). flat_map (removal_of base kept) (reverse done) ++ x) (append-nil (removal_of base kept item)) in (
      item ∷ done,
      are ∙ ap (λ (x : List Item). x ++ done) last ∙ append_assoc rest (item ∷ []) done,
      grown ∙ ap (λ (x : List Event). x ++ removal_of base kept item) so_far ∙ sym parts ∙ ap (flat_map (removal_of base kept)) (sym (reverse_onto done item [])),
    )

pub all_removed : (base : Path) (kept : List Kept) (items left : List Item) (events : List Event) → HasRemoved base kept items left events → length left ≡ 0 → events ≡ removals base kept items
all_removed base kept items [] events (done, are, so_far) none = so_far ∙ ap (λ (x : List Item). flat_map (removal_of base kept) (reverse x)) (sym are)
all_removed base kept items (item ∷ left) events (done, are, so_far) none = absurd (omega (arith, none))
