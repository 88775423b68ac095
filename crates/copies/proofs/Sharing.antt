-- Whether a checkpoint has the root of a version.
use Rattle.std.proofs.Common.{◌≡◌, ◌∙◌, ℕ, ◌+◌, ◌<◌, Bool, true, false, Some, List, [], ◌∷◌, ◌++◌, length, take, get_or, sym, ap, subst}
use Rattle.std.specs.Prelude.{All, Contains, ◌==◌}
use Rattle.std.proofs.lemmas.Bool.{true≢false}
use Rattle.std.proofs.lemmas.List.{take_more}
use Rattle.std.proofs.lemmas.List.Elements.{All-push}
use Rattle.std.proofs.lemmas.Option.{same_Some}
use Rattle.fs_types.specs.declared.call.View.{View}
use Rattle.system.specs.TreeSizes.{ShowRoots}
use Rattle.working_state.specs.declared.state.State.{State}

-- what holds of the first names, and of the next one
pub holds_more : (P : List ℕ → Type 0) (names : List (List ℕ)) (i : ℕ) (name : List ℕ) → i < length names → name ≡ get_or names i name → All P (take i names) → P name → All P (take (i + 1) names)
holds_more P names i name within at all one =
    subst (All P) (sym (take_more names i name within ∙ ap (λ (x : List ℕ). take i names ++ x ∷ []) (sym at))) (All-push P (take i names) name all one)

pub holds_of : (P : List ℕ → Type 0) (names : List (List ℕ)) (name : List ℕ) → All P names → Contains names name → P name
holds_of P names name all (i, within, is) = subst P is (all i name within)

-- two views show one root, or two
pub not_both : (s : State) (view other : View) → ShowRoots s view other true → ShowRoots s view other false → ⊥
not_both s view other same others =
    let first : same.root ≡ others.root = same_Some same.root others.root (sym same.shown ∙ others.shown) in
    let second : same.other_root ≡ others.other_root = same_Some same.other_root others.other_root (sym same.other_shown ∙ others.other_shown) in
    let both : (same.root == same.other_root) ≡ (others.root == others.other_root) = ap (λ (n : ℕ). n == same.other_root) first ∙ ap (λ (n : ℕ). others.root == n) second in
    true≢false (same.compared ∙ both ∙ sym others.compared)

-- this one shows another
pub shows_other : (s : State) (serial : ℕ) (name copy : List ℕ) (shared : Bool) → copy ≡ name → shared ≡ false → ShowRoots s (View.Checkpoint copy) (View.Serial serial) shared
    → ShowRoots s (View.Checkpoint name) (View.Serial serial) false
shows_other s serial name copy shared is not shows =
    subst (λ (n : List ℕ). ShowRoots s (View.Checkpoint n) (View.Serial serial) false) is (subst (λ (b : Bool). ShowRoots s (View.Checkpoint copy) (View.Serial serial) b) not shows)
