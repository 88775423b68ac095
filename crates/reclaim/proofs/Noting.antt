-- What a verification noted after one block more.
use Rattle.std.proofs.Common.{◌≡◌, ◌≢◌, ◌↔◌, inl, inr, ℕ, ◌+◌, ◌-◌, ◌^◌, ◌<◌, ◌≤◌, Bool, true, false, Option, Some, None, List, length, take, refl, sym, ap, subst, ◌∙◌}
use Rattle.std.specs.Prelude.{IsTrue, Contains, is_some, option_map, slice_index}
use Rattle.std.proofs.lemmas.Bool.{true≢false, cases_lt}
use Rattle.node_format.specs.Headers.{IsNode}
use Rattle.node_format.specs.Links.{Link}
use Rattle.nodes.specs.Bodies.{Blocks}
use Rattle.nodes.specs.Reached.{Reached, Names}
use Rattle.nodes.specs.Words.{Looks}
use Rattle.nodes.specs.declared.nodes.Nodes.{Ghosts}
use Rattle.reclaim.specs.Facts.{AreFacts}
use Rattle.reclaim.specs.Heads.{IsNew, TakesNode, HeadsAreTold, longest, told_in, places_read}
use Rattle.reclaim.specs.Levels.{GoesOn, Stands, AreLeveled}
use Rattle.reclaim.specs.Looks.{Says, NextHoldsLink, IsLooked}
use Rattle.reclaim.specs.Passes.{Pass, IsPass, Advances}
use Rattle.reclaim.specs.Tables.{IsTold, TakesIn, NamesDirectory}
use Rattle.reclaim.specs.Tops.{HasSize, TakesTop, TopsAreTold, top_by, top_of, steps_by, steps_read}
use Rattle.reclaim.specs.Verified.{AreAllowed}
use Rattle.reclaim.specs.Verifying.{HasNoted, HasTold, IsVerifying, HasLookedAt}
use Rattle.reclaim.specs.declared.edge.Edge.{Edge}
use Rattle.reclaim.specs.declared.facts.Facts.{Facts}
use Rattle.reclaim.specs.declared.levels.Levels.{Levels}
use Rattle.reclaim.specs.declared.table.Table.{Table}
use Rattle.reclaim.specs.declared.tops.Tops.{Tops}
use Rattle.reclaim.proofs.HeadLengths.{parts_allow, linked_allows, told_said, next_fresh, trees_fit, heads_on}
use Rattle.reclaim.proofs.Looked.{tree_next, tree_looked}
use Rattle.reclaim.proofs.Looking.{next_said, edge_some}
use Rattle.reclaim.proofs.Paths.{leveled_on, stands_block, no_entries}
use Rattle.reclaim.proofs.Telling.{told_on, next_reached}
use Rattle.reclaim.proofs.ToldTops.{top_said, steps_said, tree_tops, tops_on}

-- what is kept of last slots is of the same flash
pub sized_on : (p q : Pass) (k m : Tops) → Advances p q → HasSize p.blocks k → HasSize k.read.blocks m → HasSize q.blocks m
sized_on p q k m on before now = subst (λ (n : ℕ). HasSize n m) (before.read ∙ sym on.blocks) now

-- one block more was read, and this is what its node tells
module _ (f : Blocks) (p q : Pass) (t u : Table) (v w : Levels) (block : ℕ) (facts : Facts) (noted : HasNoted f p t v) (left : p.next < length p.order) (at : block ≡ slice_index p.order p.next)
    (there : f block ≢ None) (are : AreFacts (f block) facts) (on : Advances p q) (next : q.next ≡ p.next + 1) where
  next_pass : (names : List ℕ) → names ≡ facts.names.items → (IsPass f p → f (slice_index p.order p.next) ≢ None → ((b : ℕ) → Contains names b ↔ Names (f (slice_index p.order p.next)) b) → IsPass f q) → IsPass f q
  next_pass names same marked =
      marked noted.pass (subst (λ (b : ℕ). f b ≢ None) at there)
      (subst (λ (k : ℕ). (b : ℕ) → Contains names b ↔ Names (f k) b) at (subst (λ (l : List ℕ). (b : ℕ) → Contains l b ↔ Names (f block) b) (sym same) are.names))

  next_told : (directories : List ℕ) → directories ≡ facts.directories.items → block < p.blocks → TakesIn t block facts.parts directories u → IsTold f q u
  next_told directories same below taken =
      told_on p q block on left at next f t u directories noted.told below taken.sized (subst (λ (l : List ℕ). (b : ℕ) → Contains l b ↔ NamesDirectory (f block) b) (sym same) are.directories) taken.named taken.stay
      (is_some facts.parts.edge) (edge_some (f block) facts.parts.edge are.says.edge) taken.links
      (λ l is. taken.next l.next (next_said (f block) facts.parts.edge are.says.edge ∙ ap (option_map (λ (l : Link). l.next)) is)) taken.quiet

  next_leveled : (directories : List ℕ) (after : Option ℕ) (empty : Bool) → directories ≡ facts.directories.items → after ≡ option_map (λ (e : Edge). e.next) facts.parts.edge
      → (empty ≡ true → length facts.parts.places.items ≡ 0) → GoesOn v w → ((n : ℕ) → after ≡ Some n → w.hold ≡ true → Stands w block n empty directories) → AreLeveled f q w
  next_leveled directories after empty same after_is none goes stands =
      leveled_on f v w goes p q block on left at next noted.leveled
      (stands_block f w block after empty directories (λ l is. after_is ∙ next_said (f block) facts.parts.edge are.says.edge ∙ ap (option_map (λ (l : Link). l.next)) is)
      (λ is. no_entries (f block) facts.parts.places.items are.says.places (none is)) (subst (λ (l : List ℕ). (b : ℕ) → Contains l b ↔ NamesDirectory (f block) b) (sym same) are.directories) stands)

  pub noted_next : (names below above : List ℕ) (after : Option ℕ) (empty : Bool) → names ≡ facts.names.items → (IsPass f p → f (slice_index p.order p.next) ≢ None → ((b : ℕ) → Contains names b ↔ Names (f (slice_index p.order p.next)) b) → IsPass f q)
      → ((b : ℕ) → p.blocks ≤ b → f b ≡ None) → below ≡ facts.directories.items → TakesIn t block facts.parts below u
      → above ≡ facts.directories.items → after ≡ option_map (λ (e : Edge). e.next) facts.parts.edge → (empty ≡ true → length facts.parts.places.items ≡ 0) → GoesOn v w
      → ((n : ℕ) → after ≡ Some n → w.hold ≡ true → Stands w block n empty above) → HasNoted f q u w
  noted_next names below above after empty same marked past same_below taken same_above after_is none goes stands = record {
    pass = next_pass names same marked;
    told = next_told below same_below inside taken;
    leveled = next_leveled above after empty same_above after_is none goes stands;
  }
    where
      inside : block < p.blocks
      inside = elim (cases_lt block p.blocks) [
        | inl less ↦ less
        | inr more ↦ absurd (there (past block more))
      ]

  module _ (limit : ℕ) (whole : (b : ℕ) (bytes : List ℕ) → f b ≡ Some bytes → IsNode limit bytes) where
    is_new : IsNew (limit - 80) (λ b. longest (limit - 80) (f b)) facts.parts block t
    is_new = record {
      allows = parts_allow limit (f block) facts.parts (whole block) are.says;
      link = λ some. linked_allows (limit - 80) (f block) (sym (edge_some (f block) facts.parts.edge are.says.edge) ∙ some);
      fresh = next_fresh f p t block noted.pass noted.told left at;
    }

    pub heads_next : (good : Bool) → HeadsAreTold (limit - 80) f p t → TakesNode (limit - 80) block facts.parts t u good → good ≡ true → HeadsAreTold (limit - 80) f q u
    heads_next good heads taken is =
        heads_on f p q block on left at next (limit - 80) (told_in (limit - 80) facts.parts) u (told_said (limit - 80) (f block) facts.parts are.says)
        (taken.kept (λ b. longest (limit - 80) (f b)) (take p.next p.order) (places_read (limit - 80) f p) heads is_new is)

    pub heads_fail : (good plain : Bool) → limit ≤ 2 ^ 18 → HeadsAreTold (limit - 80) f p t → TakesNode (limit - 80) block facts.parts t u good → good ≡ false → AreAllowed limit f p.roots plain → ⊥
    heads_fail good plain small heads taken is trees =
        taken.bad (λ b. longest (limit - 80) (f b)) (take p.next p.order) (places_read (limit - 80) f p) heads is_new is
        (trees_fit limit f p.roots trees.0 small whole p block (told_in (limit - 80) facts.parts) refl noted.pass (next_reached f p block noted.pass left at) (told_said (limit - 80) (f block) facts.parts are.says))

    pub tops_fail : (good plain : Bool) (k m : Tops) → f 0 ≡ None → TopsAreTold f p k
        → TakesTop block (top_by (slice_index facts.parts.pointers.items) facts.parts.index) (steps_by (slice_index facts.parts.pointers.items) facts.parts.index) k m good → good ≡ false → AreAllowed limit f p.roots plain → ⊥
    tops_fail good plain k m none tops taken is trees =
        taken.bad (λ b. top_of (f b)) (take p.next p.order) (steps_read f p) tops (sym (top_said (f block) facts.parts are.says)) is
        (tree_tops limit f p.roots trees.0 none p block (steps_by (slice_index facts.parts.pointers.items) facts.parts.index) refl noted.pass (next_reached f p block noted.pass left at) (steps_said (f block) facts.parts are.says))

  pub tops_next : (good : Bool) (k m : Tops) → TopsAreTold f p k
      → TakesTop block (top_by (slice_index facts.parts.pointers.items) facts.parts.index) (steps_by (slice_index facts.parts.pointers.items) facts.parts.index) k m good → good ≡ true → TopsAreTold f q m
  tops_next good k m tops taken is =
      tops_on f p q block on left at next (steps_by (slice_index facts.parts.pointers.items) facts.parts.index) m (steps_said (f block) facts.parts are.says)
      (taken.kept (λ b. top_of (f b)) (take p.next p.order) (steps_read f p) tops (sym (top_said (f block) facts.parts are.says)) is)

  -- a look at it told whether it is sound
  pub looked_at : (limit capacity : ℕ) (h : Blocks) (plain good : Bool) (k : Tops) → h ≡ f → capacity ≡ limit - 80 → HasNoted f q u w → HasTold (limit - 80) f q u k
      → ((node : Option (List ℕ)) → Says node facts.parts → NextHoldsLink h node → IsTrue good ↔ IsLooked capacity h plain node) → HasLookedAt limit f plain block p q u k w good
  looked_at limit capacity h plain good k same same_capacity now told exact = record {
    noted = now;
    next = next;
    told = λ is. told;
    looked = λ is after. (here after).0 is;
    bad = λ is trees.
        true≢false (sym ((here (tree_next limit f p.roots trees.0 block reached)).1 (tree_looked limit f p.roots trees.0 plain block reached (λ alone. trees.1 alone block reached))) ∙ is);
  }
    where
      reached : Reached f p.roots block
      reached = next_reached f p block noted.pass left at

      here : NextHoldsLink f (f block) → IsTrue good ↔ IsLooked (limit - 80) f plain (f block)
      here after =
          subst (λ (n : ℕ). IsTrue good ↔ IsLooked n f plain (f block)) same_capacity
          (subst (λ (k : Blocks). IsTrue good ↔ IsLooked capacity k plain (f block)) same
          (exact (f block) are.says (subst (λ (k : Blocks). NextHoldsLink k (f block)) (sym same) after)))

-- the same over the nodes after calls that only read
module _ {S : Type 0} (N : Ghosts S) where
  pub verifying_after : (s t : S) (p : Pass) (u : Table) (k : Tops) (v : Levels) → Looks N s t → IsVerifying (N.blocks s) (N.limit s) (N.node s) p u k v → IsVerifying (N.blocks t) (N.limit t) (N.node t) p u k v
  verifying_after s t p u k v looks is =
      subst (λ (n : ℕ). IsVerifying n (N.limit t) (N.node t) p u k v) (sym looks.same_blocks)
      (subst (λ (n : ℕ). IsVerifying (N.blocks s) n (N.node t) p u k v) (sym looks.same_limit) (subst (λ (f : Blocks). IsVerifying (N.blocks s) (N.limit s) f p u k v) (sym looks.same_nodes) is))

  pub looked_before : (s t : S) (plain : Bool) (block : ℕ) (p q : Pass) (u : Table) (k : Tops) (v : Levels) (good : Bool) → Looks N s t → HasLookedAt (N.limit t) (N.node t) plain block p q u k v good → HasLookedAt (N.limit s) (N.node s) plain block p q u k v good
  looked_before s t plain block p q u k v good looks is =
      subst (λ (n : ℕ). HasLookedAt n (N.node s) plain block p q u k v good) looks.same_limit (subst (λ (f : Blocks). HasLookedAt (N.limit t) f plain block p q u k v good) looks.same_nodes is)
