-- Directories are whole where each node may follow the one before it, and the nodes lead to an end.
use Rattle.std.proofs.Common.{◌≡◌, ◌≢◌, ℕ, zero, suc, Bool, true, false, cond, eqb, Option, Some, None, List, [], refl, sym, ap, subst, ◌∙◌}
use Rattle.std.specs.Prelude.{◌&&◌}
use Rattle.std.specs.Option.{option_map_or}
use Rattle.std.proofs.lemmas.Bool.{true≢false, eqb-true, eq-eqb, and_parts, and_from}
use Rattle.fs_types.specs.Names.{Name}
use Rattle.node_format.specs.Links.{Link}
use Rattle.nodes.specs.Bodies.{Blocks}
use Rattle.nodes.specs.Chains.{link_of, next_of}
use Rattle.reclaim.specs.Looks.{edge_of, last_name, may_follow, IsFollowed}
use Rattle.reclaim.specs.Sound.{HoldsLink, IsDirectoryAt}
use Rattle.reclaim.specs.Tables.{ends_from}
use Rattle.fields.proofs.Found.{some_is}
use Rattle.reclaim.proofs.Directories.{edge_after, goes_on, one_look, begun_exact}

pub next_is : (node : Option (List ℕ)) (l : Link) → link_of node ≡ Some l → next_of node ≡ l.next
next_is node l is = ap (λ (o : Option Link). option_map_or (λ k. k.next) o 0) is

-- ---- to the end by the table, and by the nodes

pub ends_go : (f : Blocks) (has : ℕ → Bool) (next : ℕ → ℕ) → ((b : ℕ) → has b ≡ true → HoldsLink f b × (next b ≡ next_of (f b))) → ((b : ℕ) → has b ≡ true → IsFollowed f (f b))
    → (n b : ℕ) (l : Link) → has b ≡ true → link_of (f b) ≡ Some l → ends_from n has next l.next ≡ true → goes_on n f (edge_of l) ≡ true
unfolding goes_on
ends_go f has next tells followed zero b l here is ends = ends
ends_go f has next tells followed (suc n) b l here is ends = on (eqb l.next 0) refl ends (λ b l. ends_go f has next tells followed n b l)
  where
    on : (t : Bool) → eqb l.next 0 ≡ t → cond t true (has l.next && ends_from n has next (next l.next)) ≡ true
        → ((b : ℕ) (m : Link) → has b ≡ true → link_of (f b) ≡ Some m → ends_from n has next m.next ≡ true → goes_on n f (edge_of m) ≡ true) → goes_on (suc n) f (edge_of l) ≡ true
    on true none e again = rw none refl
    on false some e again =
        let parts = and_parts (has l.next) (ends_from n has next (next l.next)) e in
        let own = tells l.next parts.0 in
        let m = own.0.0 in
        let at : link_of (f l.next) ≡ Some m = own.0.1 in
        let more : l.next ≢ 0 = λ none. true≢false (sym (eq-eqb l.next 0 none) ∙ some) in
        let may : may_follow (last_name [] l.items) (Some m) ≡ true = followed b here l m is more at in
        let rest : ends_from n has next m.next ≡ true = ap (ends_from n has next) (sym (own.1 ∙ next_is (f l.next) m at)) ∙ parts.1 in
        one_look n f (edge_of l) more ∙ ap (λ (o : Option Link). option_map_or (goes_on n f) (edge_after (last_name [] l.items) o) false) at
        ∙ ap (λ (t : Bool). option_map_or (goes_on n f) (cond t (Some (edge_of m)) None) false) may
        ∙ again l.next m parts.0 at rest

-- a step that went on
went_on : (n : ℕ) (f : Blocks) (l : Link) → l.next ≢ 0 → goes_on (suc n) f (edge_of l) ≡ true
    → (m : Link) × (link_of (f l.next) ≡ Some m) × ((may_follow (last_name [] l.items) (Some m) ≡ true) × (goes_on n f (edge_of m) ≡ true))
went_on n f l some goes = on (link_of (f l.next)) refl (sym (one_look n f (edge_of l) some) ∙ goes)
  where
    name : Name
    name = last_name [] l.items

    follow : (m : Link) (t : Bool) → may_follow name (Some m) ≡ t → option_map_or (goes_on n f) (cond t (Some (edge_of m)) None) false ≡ true
        → (may_follow name (Some m) ≡ true) × (goes_on n f (edge_of m) ≡ true)
    follow m true may e = (may, e)
    follow m false may e = absurd (true≢false (sym e))

    on : (o : Option Link) → link_of (f l.next) ≡ o → option_map_or (goes_on n f) (edge_after name o) false ≡ true
        → (m : Link) × (link_of (f l.next) ≡ Some m) × ((may_follow name (Some m) ≡ true) × (goes_on n f (edge_of m) ≡ true))
    on None is e = absurd (true≢false (sym e))
    on (Some m) is e = (m, is, follow m (may_follow name (Some m)) refl e)

pub goes_end : (f : Blocks) (has : ℕ → Bool) (next : ℕ → ℕ) → ((b : ℕ) → has b ≡ true → next b ≡ next_of (f b)) → (seen : ℕ → Type 0)
    → ((b : ℕ) → seen b → HoldsLink f b → has b ≡ true) → ((b : ℕ) (l : Link) → seen b → link_of (f b) ≡ Some l → l.next ≢ 0 → seen l.next)
    → (n b : ℕ) (l : Link) → seen b → link_of (f b) ≡ Some l → goes_on n f (edge_of l) ≡ true → ends_from n has next l.next ≡ true
unfolding goes_on
goes_end f has next tells seen linked on_seen zero b l here is goes = goes
goes_end f has next tells seen linked on_seen (suc n) b l here is goes = on (eqb l.next 0) refl (λ b l. goes_end f has next tells seen linked on_seen n b l)
  where
    on : (t : Bool) → eqb l.next 0 ≡ t → ((b : ℕ) (m : Link) → seen b → link_of (f b) ≡ Some m → goes_on n f (edge_of m) ≡ true → ends_from n has next m.next ≡ true)
        → cond t true (has l.next && ends_from n has next (next l.next)) ≡ true
    on true none again = refl
    on false some again =
        let more : l.next ≢ 0 = λ none. true≢false (sym (eq-eqb l.next 0 none) ∙ some) in
        let step = went_on n f l more goes in
        let there = on_seen b l here is more in
        let held = linked l.next there (step.0, step.1) in
        and_from (has l.next) (ends_from n has next (next l.next)) held
        (ap (ends_from n has next) (tells l.next held ∙ next_is (f l.next) step.0 step.1) ∙ again l.next step.0 there step.1 step.2.1)

-- where nodes end, the first of them is one of a directory
pub ends_first : (n : ℕ) (has : ℕ → Bool) (next : ℕ → ℕ) (b : ℕ) → b ≢ 0 → ends_from (suc n) has next b ≡ true → has b ≡ true
ends_first n has next b some ends = on (eqb b 0) refl ends
  where
    on : (t : Bool) → eqb b 0 ≡ t → cond t true (has b && ends_from n has next (next b)) ≡ true → has b ≡ true
    on true none e = absurd (some (eqb-true b 0 none))
    on false more e = (and_parts (has b) (ends_from n has next (next b)) e).0

-- ---- what a directory says of its nodes

-- its second node follows its first
pub directory_followed : (f : Blocks) (b : ℕ) → (HoldsLink f b → IsDirectoryAt f b) → IsFollowed f (f b)
directory_followed f b directory l m is some at =
    let goes = (begun_exact f b l is).1 (directory (l, is)) in
    let step = went_on _ f l some goes in
    subst (λ (k : Link). may_follow (last_name [] l.items) (Some k) ≡ true) (some_is step.0 m (sym step.1 ∙ at)) step.2.0
