-- A file system that holds an empty tree alone.
use Rattle.std.proofs.Common.{◌≡◌, ◌∙◌, ℕ, ◌+◌, ◌≤◌, Bool, Option, Some, None, List, [], ◌∷◌, length, refl, sym, ap, subst, arith}
use Rattle.std.specs.Prelude.{Contains, sum_by, if◌then◌else◌}
use Rattle.std.specs.List.{flat_map}
use Rattle.std.specs.Option.{option_map}
use Rattle.std.specs.FinMap.{get}
use Rattle.fs_types.specs.Names.{Name}
use Rattle.plain_trees.specs.Contents.{Entry, is_dir}
use Rattle.plain_trees.specs.Trees.{bare, bytes_of, children}
use Rattle.plain_trees.proofs.Edits.{get-bare}
use Rattle.plain_trees.proofs.Listings.{listing_law}
use Rattle.history_machine.specs.History.{fresh}
use Rattle.history_machine.specs.Machine.{Machine, IsMachine, mounted}
use Rattle.tree_counts.specs.Sizes.{sum_below}
use Rattle.history_copies.proofs.Built.{build_law}
use Rattle.inquiries.specs.Folders.{IsSmall}
use Rattle.inquiries.specs.Items.{item_at, items_below}
use Rattle.inquiries.specs.Owners.{item_owners}
use Rattle.inquiries.specs.PathBytes.{item_bytes}
use Rattle.copies.specs.Calls.{IsReady}
use Rattle.copies.specs.Copied.{Holds}

no_names : children bare [] ≡ []
no_names = go (children bare []) (λ n b has. (listing_law.exact bare [] n b).0 has)
  where
    go : (es : List (Name × Bool)) → ((n : Name) (b : Bool) → Contains es (n, b) → option_map is_dir (get bare (n ∷ [])) ≡ Some b) → es ≡ []
    go [] each = refl
    go (e ∷ es) each =
        absurd (let there : option_map is_dir (get bare (e.0 ∷ [])) ≡ Some e.1 = each e.0 e.1 (0, omega arith, refl) in
        let none : option_map is_dir (get bare (e.0 ∷ [])) ≡ None = ap (option_map is_dir) (get-bare (e.0 ∷ [])) in
        let wrong : None ≡ Some e.1 = sym none ∙ there in cc)

no_sum : (of : Option Entry → ℕ) → sum_below of bare 16 [] ≡ 0
unfolding sum_below
no_sum of = ap (λ (es : List (Name × Bool)). sum_by (λ (entry : Name × Bool). of (get bare (entry.0 ∷ [])) + (if entry.1 then sum_below of bare 15 (entry.0 ∷ []) else 0)) es) no_names

no_items : items_below bare 16 [] ≡ []
unfolding items_below
no_items = ap (λ (es : List (Name × Bool)). flat_map (λ (entry : Name × Bool). item_at bare (entry.0 ∷ []) ∷ (if entry.1 then items_below bare 15 (entry.0 ∷ []) else [])) es) no_names

small_bare : IsSmall bare
small_bare = record {
  entries = let none = no_sum (λ entry. 1) in omega (arith, none);
  bytes = let none = no_sum (λ entry. length (bytes_of entry)) in omega (arith, none);
  paths = let none = ap (sum_by item_bytes) no_items in omega (arith, none);
  owners = let none = ap (sum_by item_owners) no_items in omega (arith, none);
}

pub fresh_ready : (m : Machine) (limit : ℕ) → m ≡ mounted (fresh limit bare) → IsReady m
fresh_ready m limit is = subst IsReady (sym is) (record { rests = refl; small = small_bare; kept = λ k d within. absurd (omega arith) })

pub fresh_holds : (m : Machine) (limit : ℕ) → 2 ≤ limit → m ≡ mounted (fresh limit bare) → Holds limit (bare ∷ []) [] m.history
fresh_holds m limit some is = subst (λ (k : Machine). Holds limit (bare ∷ []) [] k.history) (sym is) (record { built = build_law.first limit some; kept = refl })

pub limit_of : (m : Machine) (limit : ℕ) → IsMachine m → m ≡ mounted (fresh limit bare) → 2 ≤ limit
limit_of m limit is begins = (subst IsMachine begins is).lawful.some_limit
