use Rattle.std.proofs.Common.{arith, [], Bor, ℕ, List, get_or, ◌<◌, ◌≡◌, Bool, true, false, length, refl, sym, ◌∙◌}
use Rattle.std.proofs.lemmas.List.{map_more}
use Rattle.std.proofs.lemmas.List.Folds.{list_all_at, list_all-map}
use Rattle.std.specs.List.{list_all}
use Rattle.fs_types.specs.Names.{is_name}
use Rattle.fs_types.proofs.path.names_of.Goals as goal

-- an element of a list of which each passes a test passes it
passes_at : {X : Type 0} (p : X → Bool) (xs : List X) (i : ℕ) (d : X) → i < length xs → list_all p xs ≡ true → p (get_or xs i d) ≡ true
passes_at {X} p xs i d within all = go (p (get_or xs i d)) refl
  where
    go : (b : Bool) → p (get_or xs i d) ≡ b → b ≡ true
    go true e = refl
    go false e = cc (list_all_at p xs i d within e)

pub new-requires : goal.new-requires
new-requires c =
    passes_at (λ (p : Bor (List ℕ)). is_name p.now) c.args.pieces.now c.loop-piece.piece-index _ (omega arith)
    (sym (list_all-map is_name (λ p. p.now) c.args.pieces.now) ∙ c.requires)

pub loop-piece-preserved : goal.loop-piece-preserved
loop-piece-preserved c =
    let more = map_more (λ (p : Bor (List ℕ)). p.now) c.args.pieces.now c.loop-piece.piece-index (record { ref_ptr = (0, 0); now = [] }) (omega arith) in
    rw (c.in_ok-push.ensures.items, c.in_ok-new.ensures, c.loop-piece.invariant, more)
