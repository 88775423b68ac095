-- What may stand on a level as nodes are taken in.
use Rattle.std.proofs.Common.{◌≡◌, ◌≢◌, ◌⊎◌, inl, inr, ℕ, zero, suc, ◌+◌, ◌<◌, ◌≤◌, Bool, true, false, eqb, List, length, refl, sym, ap, subst, ◌∙◌, arith}
use Rattle.std.specs.Prelude.{Contains, max}
use Rattle.std.proofs.lemmas.Bool.{true≢false, eq-eqb, eqb-true}
use Rattle.reclaim.specs.Levels.{level, own_level, GoesOn, GoesWith, MayStand}
use Rattle.reclaim.specs.declared.levels.Levels.{Levels}
use Rattle.reclaim.proofs.Paths.{keeps_least}

-- a block was put on a level, where it had none
pub record IsPut (u v : Levels) (block least : ℕ) : Type 0 where
  pub goes : GoesOn u v
  pub others : (b : ℕ) → b ≢ block → level v b ≡ level u b
  pub own : level u block ≡ 0 → block < length u.found → level v block ≡ least
  pub size : length v.found ≡ length u.found

-- another block may stand where it might
pub other_stands : (u v : Levels) (block least b k : ℕ) → IsPut u v block least → b ≢ block → MayStand u b k → MayStand v b k
other_stands u v block least b k put other may = (
  omega (arith, put.size, may.0),
  elim may.1 [
    | inl none ↦ inl (put.others b other ∙ none)
    | inr le ↦ inr (omega (arith, put.others b other, le))
  ],
)

-- and each block on the same level
pub still_stands : (u v : Levels) (block least b : ℕ) → 0 < least → IsPut u v block least → MayStand u b least → MayStand v b least
still_stands u v block least b some put may = on (eqb b block) refl
  where
    on : (t : Bool) → eqb b block ≡ t → MayStand v b least
    on true e =
        let same : b ≡ block = eqb-true b block e in (
          omega (arith, put.size, may.0),
          elim may.1 [
            | inl none ↦ inr (subst (λ (c : ℕ). least ≤ level v c) (sym same) (omega (arith, put.own (ap (level u) (sym same) ∙ none) (subst (λ (c : ℕ). c < length u.found) same may.0))))
            | inr le ↦ inr (keeps_least u v b least some put.goes le)
          ],
        )
    on false e = other_stands u v block least b least put (λ same. true≢false (sym (eq-eqb b block same) ∙ e)) may

-- a node that is taken in stands on its own level
pub stands_own : (u v : Levels) (block : ℕ) → block < length u.found → IsPut u v block 1 → level v block ≡ own_level u block
stands_own u v block there put = on (level u block) refl
  where
    on : (n : ℕ) → level u block ≡ n → level v block ≡ own_level u block
    on zero e = omega (arith, put.own e there, e)
    on (suc n) e = omega (arith, put.goes.keeps block (λ none. omega (arith, e, none)), e)

-- the node after it may stand there then
pub next_stands : (u v : Levels) (block next : ℕ) → block < length u.found → IsPut u v block 1 → MayStand u next (own_level u block) → MayStand v next (own_level u block)
next_stands u v block next there put may = on (eqb next block) refl
  where
    on : (t : Bool) → eqb next block ≡ t → MayStand v next (own_level u block)
    on true e =
        let same : next ≡ block = eqb-true next block e in
        (omega (arith, put.size, may.0), inr (subst (λ (c : ℕ). own_level u block ≤ level v c) (sym same) (omega (arith, stands_own u v block there put))))
    on false e = other_stands u v block 1 next (own_level u block) put (λ same. true≢false (sym (eq-eqb next block same) ∙ e)) may

-- a block of the flash may stand on the first level
pub stands_first : (v : Levels) (b : ℕ) → b < length v.found → MayStand v b 1
stands_first v b there = (there, on (level v b) refl)
  where
    on : (n : ℕ) → level v b ≡ n → (level v b ≡ 0) ⊎ (1 ≤ level v b)
    on zero e = inl e
    on (suc n) e = inr (omega (arith, e))

-- ---- a node that goes with the levels

module _ (v u : Levels) (block next own : ℕ) (is_empty : Bool) (directories : List ℕ) (first : IsPut v u block 1) (at : own ≡ level u block) (goes : GoesWith v block next is_empty directories) where
  -- its own level
  is_own : own_level v block ≡ own
  is_own = sym (at ∙ stands_own v u block goes.there first)

  -- the directories that it names may stand below it
  pub directories_stand : (c : ℕ) → Contains directories c → MayStand u c (own + 1)
  directories_stand c has =
      let below = goes.below c has in
      other_stands v u block 1 c (own + 1) first below.1 (subst (λ (k : ℕ). MayStand v c (k + 1)) is_own below.0)

  -- and the node after it on its level
  pub after_stands : next ≢ 0 → MayStand u next own
  after_stands some = subst (λ (k : ℕ). MayStand u next k) is_own (next_stands v u block next goes.there first (goes.after some))

  -- the same once the node after it stands there
  pub later_stand : (w : Levels) → IsPut u w next own → (c : ℕ) → Contains directories c → MayStand w c (own + 1)
  later_stand w second c has = other_stands u w next own c (own + 1) second (goes.below c has).2 (directories_stand c has)
