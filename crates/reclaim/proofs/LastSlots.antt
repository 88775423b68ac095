-- What is kept of the last slots of nodes.
use Rattle.std.proofs.Common.{◌≡◌, ◌≢◌, ◌⊎◌, inl, inr, ℕ, ◌+◌, ◌<◌, ◌≤◌, Bool, true, false, List, [], ◌∷◌, ◌++◌, length, refl, sym, ap, subst, ◌∙◌, arith}
use Rattle.std.specs.Prelude.{Contains, slice_index, slice_set, eqb, ◌||◌}
use Rattle.std.specs.FinSet as set
use Rattle.std.proofs.lemmas.Bool.{true≢false, eqb-true, eq-eqb}
use Rattle.std.proofs.lemmas.List.{get_or-set_same, get_or-set_other, length-set, append-nil, append_assoc}
use Rattle.std.proofs.lemmas.List.Elements.{Contains-append_left, Contains-append_right, Contains-append_cases, Contains-push, Contains-push_cases}
use Rattle.block_ring.proofs.RingOrder.{contains-insert_same, contains-kept}
use Rattle.reclaim.specs.Naming.{has_slot}
use Rattle.reclaim.specs.Tops.{FitsTop, FitTops, KeepsTops, steps_below}
use Rattle.reclaim.specs.declared.tops.Tops.{Tops}
use Rattle.reclaim.proofs.Heads.{by_same, by_bool, contains_other, lacked}
use Rattle.reclaim.proofs.Steps.{steps_below-none, steps_below-has, steps_below-lacks, steps_within}

abbrev IsTopKept : Tops → ℕ × ℕ → Type 0
IsTopKept t one = (one.1 ≢ 0) × (slice_index t.words one.0 ≡ one.1)

-- one word was set
module _ (t u : Tops) (block own : ℕ) (within : block < length t.words) (words : u.words ≡ slice_set t.words block own) where
  here : slice_index u.words block ≡ own
  here = ap (λ (xs : List ℕ). slice_index xs block) words ∙ get_or-set_same t.words block own 0 within

  others : (b : ℕ) → b ≢ block → slice_index u.words b ≡ slice_index t.words b
  others b other = ap (λ (xs : List ℕ). slice_index xs b) words ∙ get_or-set_other t.words block b own 0 other

  same_length : length u.words ≡ length t.words
  same_length = ap length words ∙ length-set t.words block own

module _ (top : ℕ → ℕ) (seen : List ℕ) (told : List (ℕ × ℕ)) (t : Tops) (keeps : KeepsTops top seen told t) where
  -- the node in a block was read
  module _ (u : Tops) (block own : ℕ) (allows : top block ≡ own) (room : (slice_index t.words block ≡ 0) ⊎ (slice_index t.words block ≡ own)) (within : block < length t.words)
      (words : u.words ≡ slice_set t.words block own) (read : u.read.members ≡ set.insert t.read.members block) where
    read_kept : (one : ℕ × ℕ) → IsTopKept t one → IsTopKept u one
    read_kept one kept = (
      kept.0,
      by_same (slice_index u.words one.0 ≡ one.1) one.0 block
          (λ same.
          let was : slice_index t.words block ≡ one.1 = ap (slice_index t.words) (sym same) ∙ kept.1 in
          elim room [
            | inl none ↦ absurd (kept.0 (sym was ∙ none))
            | inr is ↦ ap (slice_index u.words) same ∙ here t u block own within words ∙ sym is ∙ was
          ])
          (λ other. others t u block own within words one.0 other ∙ kept.1),
    )

    pub top_read : KeepsTops top (seen ++ block ∷ []) told u
    top_read = record {
      beyond = λ b past. keeps.beyond b (omega (arith, past, same_length t u block own within words));
      all = λ b has. ap (λ s. set.contains s b) read ∙ elim (Contains-push_cases seen block b has) [
        | inl before ↦ contains-kept t.read.members block b (keeps.all b before)
        | inr same ↦ subst (λ (c : ℕ). set.contains (set.insert t.read.members block) c ≡ true) same (contains-insert_same t.read.members block)
      ];
      read = λ b has. by_same (slice_index u.words b ≡ top b) b block
          (λ same. ap (slice_index u.words) same ∙ here t u block own within words ∙ sym allows ∙ ap top (sym same))
          (λ other. others t u block own within words b other ∙ keeps.read b (contains_other t.read.members block b other (ap (λ s. set.contains s b) (sym read) ∙ has)));
      kept = λ one has. read_kept one (keeps.kept one has);
      from = λ b unread word. by_same (Contains told (b, slice_index u.words b)) b block
          (λ same. absurd (true≢false (sym (contains-insert_same t.read.members block) ∙ ap (set.contains (set.insert t.read.members block)) (sym same) ∙ ap (λ s. set.contains s b) (sym read) ∙ unread)))
          (λ other. subst (λ (w : ℕ). Contains told (b, w)) (sym (others t u block own within words b other))
          (keeps.from b (lacked t.read.members block b (ap (λ s. set.contains s b) (sym read) ∙ unread)) (λ none. word (others t u block own within words b other ∙ none))));
    }

  -- another block was told of its last slot
  pub top_not : (block own : ℕ) → top block ≡ own → slice_index t.words block ≢ 0 → slice_index t.words block ≢ own → FitTops top told → ⊥
  top_not block own allows some other fit =
      by_bool ⊥ (set.contains t.read.members block)
      (λ has. other (keeps.read block has ∙ allows))
      (λ lacks. other (sym (fit (block, slice_index t.words block) (keeps.from block lacks some)).1 ∙ allows))

  -- what is told is so by what is kept
  pub step_kept : (block next : ℕ) → next ≢ 0 → slice_index t.words block ≡ next → KeepsTops top seen (told ++ (block, next) ∷ []) t
  step_kept block next some is = record {
    beyond = keeps.beyond;
    all = keeps.all;
    read = keeps.read;
    kept = λ one has. elim (Contains-push_cases told (block, next) one has) [
      | inl before ↦ keeps.kept one before
      | inr same ↦ subst (IsTopKept t) same (some, is)
    ];
    from = λ b unread word. Contains-append_left told ((block, next) ∷ []) (b, slice_index t.words b) (keeps.from b unread word);
  }

  last_fits : (block next : ℕ) → FitTops top (told ++ (block, next) ∷ []) → FitsTop top (block, next)
  last_fits block next fit = fit (block, next) (Contains-push told (block, next))

  pub step_none : (block next : ℕ) → next ≡ 0 → FitTops top (told ++ (block, next) ∷ []) → ⊥
  step_none block next none fit = (last_fits block next fit).0 none

  pub step_beyond : (block next : ℕ) → length t.words ≤ block → FitTops top (told ++ (block, next) ∷ []) → ⊥
  step_beyond block next past fit = let own = last_fits block next fit in own.0 (sym own.1 ∙ keeps.beyond block past)

  pub step_read : (block next : ℕ) → set.contains t.read.members block ≡ true → slice_index t.words block ≢ next → FitTops top (told ++ (block, next) ∷ []) → ⊥
  step_read block next has other fit = other (keeps.read block has ∙ (last_fits block next fit).1)

  pub step_other : (block next : ℕ) → set.contains t.read.members block ≡ false → slice_index t.words block ≢ 0 → slice_index t.words block ≢ next → FitTops top (told ++ (block, next) ∷ []) → ⊥
  step_other block next lacks some other fit =
      let word = slice_index t.words block in
      other (sym (fit (block, word) (Contains-append_left told ((block, next) ∷ []) (block, word) (keeps.from block lacks some))).1 ∙ (last_fits block next fit).1)

  -- nothing was told of a block that was not read
  pub step_set : (u : Tops) (block next : ℕ) → next ≢ 0 → block < length t.words → set.contains t.read.members block ≡ false → slice_index t.words block ≡ 0 → u.words ≡ slice_set t.words block next
      → u.read.members ≡ t.read.members → KeepsTops top seen (told ++ (block, next) ∷ []) u
  step_set u block next some within lacks none words same_read = record {
    beyond = λ b past. keeps.beyond b (omega (arith, past, same_length t u block next within words));
    all = λ b has. ap (λ s. set.contains s b) same_read ∙ keeps.all b has;
    read = λ b has.
        let was : set.contains t.read.members b ≡ true = ap (λ s. set.contains s b) (sym same_read) ∙ has in
        others t u block next within words b (λ same. true≢false (sym was ∙ ap (set.contains t.read.members) same ∙ lacks)) ∙ keeps.read b was;
    kept = λ one has. elim (Contains-push_cases told (block, next) one has) [
      | inl before ↦ stays one (keeps.kept one before)
      | inr same ↦ subst (IsTopKept u) same (some, here t u block next within words)
    ];
    from = λ b unread word. by_same (Contains (told ++ (block, next) ∷ []) (b, slice_index u.words b)) b block
        (λ same. subst (λ (c : ℕ). Contains (told ++ (block, next) ∷ []) (c, slice_index u.words c)) (sym same)
        (subst (λ (w : ℕ). Contains (told ++ (block, next) ∷ []) (block, w)) (sym (here t u block next within words)) (Contains-push told (block, next))))
        (λ other. subst (λ (w : ℕ). Contains (told ++ (block, next) ∷ []) (b, w)) (sym (others t u block next within words b other))
        (Contains-append_left told ((block, next) ∷ []) (b, slice_index t.words b)
        (keeps.from b (ap (λ s. set.contains s b) (sym same_read) ∙ unread) (λ zero_is. word (others t u block next within words b other ∙ zero_is)))));
  }
    where
      stays : (one : ℕ × ℕ) → IsTopKept t one → IsTopKept u one
      stays one kept = (
        kept.0,
        by_same (slice_index u.words one.0 ≡ one.1) one.0 block
            (λ same. absurd (kept.0 (sym kept.1 ∙ ap (slice_index t.words) same ∙ none)))
            (λ other. others t u block next within words one.0 other ∙ kept.1),
      )

-- what a test of a word says
pub told_of : (word own : ℕ) → (eqb word 0 || eqb word own) ≡ true → (word ≡ 0) ⊎ (word ≡ own)
told_of word own is = on (eqb word 0) refl is
  where
    on : (s : Bool) → eqb word 0 ≡ s → (s || eqb word own) ≡ true → (word ≡ 0) ⊎ (word ≡ own)
    on true e is = inl (eqb-true word 0 e)
    on false e is = inr (eqb-true word own is)

pub told_not : (word own : ℕ) → (eqb word 0 || eqb word own) ≡ false → (word ≢ 0) × (word ≢ own)
told_not word own is = on (eqb word 0) refl is
  where
    on : (s : Bool) → eqb word 0 ≡ s → (s || eqb word own) ≡ false → (word ≢ 0) × (word ≢ own)
    on true e is = absurd (true≢false is)
    on false e is = (λ none. true≢false (sym (eq-eqb word 0 none) ∙ e), λ same. true≢false (sym (eq-eqb word own same) ∙ is))

-- ---- lists

pub fit_before : (top : ℕ → ℕ) (told more : List (ℕ × ℕ)) → FitTops top (told ++ more) → FitTops top told
fit_before top told more fit one has = fit one (Contains-append_left told more one has)

pub kept_none : (top : ℕ → ℕ) (seen : List ℕ) (told : List (ℕ × ℕ)) (t : Tops) → KeepsTops top seen told t → KeepsTops top seen (told ++ []) t
kept_none top seen told t keeps = subst (λ (l : List (ℕ × ℕ)). KeepsTops top seen l t) (sym (append-nil told)) keeps

-- what was told before and what one slot more tells is among all that slots tell
pub fit_steps : (top : ℕ → ℕ) (told : List (ℕ × ℕ)) (pointer : ℕ → ℕ) (index x n : ℕ) → has_slot index (x + 1) ≡ true → x + 1 ≤ n → FitTops top (told ++ steps_below pointer index n)
    → FitTops top ((told ++ steps_below pointer index x) ++ (pointer x, pointer (x + 1)) ∷ [])
fit_steps top told pointer index x n has le fit one within = elim (Contains-push_cases (told ++ steps_below pointer index x) (pointer x, pointer (x + 1)) one within) [
  | inl before ↦ elim (Contains-append_cases told (steps_below pointer index x) one before) [
    | inl first ↦ fit one (Contains-append_left told (steps_below pointer index n) one first)
    | inr then_ ↦ fit one (Contains-append_right told (steps_below pointer index n) one (steps_within pointer index x n one (omega (arith, le)) then_))
  ]
  | inr same ↦ fit one (Contains-append_right told (steps_below pointer index n) one (steps_within pointer index (x + 1) n one le
      (subst (λ (l : List (ℕ × ℕ)). Contains l one) (sym (steps_below-has pointer index x has)) (subst (λ (o : ℕ × ℕ). Contains (steps_below pointer index x ++ (pointer x, pointer (x + 1)) ∷ []) o) same (Contains-push (steps_below pointer index x) (pointer x, pointer (x + 1)))))))
]

pub kept_first : (top : ℕ → ℕ) (seen : List ℕ) (told : List (ℕ × ℕ)) (t : Tops) (pointer : ℕ → ℕ) (index : ℕ) → KeepsTops top seen told t → KeepsTops top seen (told ++ steps_below pointer index 0) t
kept_first top seen told t pointer index keeps = subst (λ (l : List (ℕ × ℕ)). KeepsTops top seen (told ++ l) t) (sym (steps_below-none pointer index)) (kept_none top seen told t keeps)

pub kept_more : (top : ℕ → ℕ) (seen : List ℕ) (told : List (ℕ × ℕ)) (t : Tops) (pointer : ℕ → ℕ) (index x : ℕ) → has_slot index (x + 1) ≡ true
    → KeepsTops top seen ((told ++ steps_below pointer index x) ++ (pointer x, pointer (x + 1)) ∷ []) t → KeepsTops top seen (told ++ steps_below pointer index (x + 1)) t
kept_more top seen told t pointer index x has keeps =
    subst (λ (l : List (ℕ × ℕ)). KeepsTops top seen l t)
    (append_assoc told (steps_below pointer index x) ((pointer x, pointer (x + 1)) ∷ []) ∙ ap (λ (l : List (ℕ × ℕ)). told ++ l) (sym (steps_below-has pointer index x has))) keeps

pub kept_same : (top : ℕ → ℕ) (seen : List ℕ) (told : List (ℕ × ℕ)) (t : Tops) (pointer : ℕ → ℕ) (index x : ℕ) → has_slot index (x + 1) ≡ false
    → KeepsTops top seen (told ++ steps_below pointer index x) t → KeepsTops top seen (told ++ steps_below pointer index (x + 1)) t
kept_same top seen told t pointer index x lacks keeps = subst (λ (l : List (ℕ × ℕ)). KeepsTops top seen (told ++ l) t) (sym (steps_below-lacks pointer index x lacks)) keeps
