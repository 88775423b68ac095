-- Markings of roots that have trees: which marked blocks are those of bodies.
use Rattle.std.proofs.Common.{◌≡◌, ◌↔◌, ◌⊎◌, inl, inr, ℕ, ◌+◌, ◌-◌, ◌<◌, ◌≤◌, Bool, true, false, ◌||◌, eqb, Option, Some, None, List, [], ◌∷◌, ◌++◌, length, take, rules, refl, sym, ap, subst, ◌∙◌, arith}
use Rattle.std.specs.Prelude.{slice_index, Contains}
use Rattle.std.specs.FinSet as set
use Rattle.std.specs.List.{sum_by}
use Rattle.std.specs.Option.{is_some}
use Rattle.std.specs.Ordering.{nat_cmp}
use Rattle.std.proofs.lemmas.Bool.{true≢false, cases_Bool, cases_lt, eqb-true, eq-eqb}
use Rattle.std.proofs.lemmas.List.{take-append-le}
use Rattle.std.proofs.lemmas.List.Elements.{Contains-get_or, Contains-push, Contains-push_cases, Contains-append_left}
use Rattle.node_format.specs.Headers.{body_header}
use Rattle.node_format.specs.declared.place.Place.{Place}
use Rattle.node_format.specs.declared.place.Place.TheVariants.{Dir, File}
use Rattle.nodes.specs.Bodies.{Blocks, index_of}
use Rattle.nodes.specs.Reached.{Reached, Names, PlaceNames, Agrees}
use Rattle.reclaim.specs.Kinds.{HoldsBodyNode, FileNames, NamesBody, IsKnownMarking, Knows, read_pages, mark_pages, HasAsked}
use Rattle.reclaim.specs.Passes.{Pass, Begins, IsMarked, IsPass, AreNoted}
use Rattle.reclaim.specs.Verified.{AreRoots}
use Rattle.reclaim.proofs.Costs.{sum_more}
use Rattle.reclaim.proofs.Marking.{begins_has, begins_at, begins_length, pass_stays}
use Rattle.reclaim.proofs.Soundness.{named_body, named_kind, root_kind}

-- whether a block holds a node of a body can be told
body_or_not : (f : Blocks) (b : ℕ) → HoldsBodyNode f b ⊎ (index_of (f b) ≡ None)
body_or_not f b = by (index_of (f b)) refl
  where
    by : (o : Option ℕ) → index_of (f b) ≡ o → HoldsBodyNode f b ⊎ (index_of (f b) ≡ None)
    by (Some index) is = inl (index, is)
    by None is = inr is

no_index : (index : ℕ) → (let o : Option ℕ = Some index in o ≡ None) → ⊥
no_index index is = cc

-- a block with a front holds a body
pub front_body : (limit : ℕ) (f : Blocks) (p : Pass) (b : ℕ) → Knows limit f p → set.contains p.bodies b ≡ true → HoldsBodyNode f b
front_body limit f p b known is = elim (body_or_not f b) [
  | inl holds ↦ holds
  | inr none ↦ absurd (known (λ k. let holds = k.kinds.bodies b is in no_index holds.0 (sym holds.1 ∙ none)))
]

-- what is known of a marking is known again where one block more was read
pub knows_next : (limit limit' : ℕ) (f g : Blocks) (p q : Pass) → limit' ≡ limit → g ≡ f → (IsKnownMarking limit f p → IsKnownMarking limit f q) → Knows limit f p → Knows limit' g q
knows_next limit limit' f g p q same_limit same on known =
    λ none. known (λ k. none (subst (λ (n : ℕ). IsKnownMarking n g q) (sym same_limit) (subst (λ (h : Blocks). IsKnownMarking limit h q) (sym same) (on k))))

-- what a node names as that of a body it names
names_of_body : (node : Option (List ℕ)) (b : ℕ) → NamesBody node b → Names node b
names_of_body node b (inl (item, has, names)) = inl (item, has, by item.place names)
  where
    by : (at : Place) → FileNames at b → PlaceNames at b
    by (Dir block) names = absurd names
    by (File head size) names = names
names_of_body node b (inr names) = inr (inl names)

holds_some : (f : Blocks) (b : ℕ) → HoldsBodyNode f b → f b ≡ None → ⊥
holds_some f b holds none = no_index holds.0 (sym holds.1 ∙ ap index_of none)

-- one block more was read
module _ (limit : ℕ) (f : Blocks) (p q : Pass) (block : ℕ) (names bodies : List ℕ) (known : IsKnownMarking limit f p) (below : p.next < length p.order)
    (at : block ≡ slice_index p.order p.next) (named : (b : ℕ) → Contains names b ↔ Names (f block) b) (of : (b : ℕ) → Contains bodies b ↔ NamesBody (f block) b)
    (marked : IsMarked p.order names q.order) (noted : AreNoted p.bodies bodies p.blocks q.bodies) (past : (b : ℕ) → p.blocks ≤ b → f b ≡ None) where
  own : Reached f p.roots block
  own = subst (Reached f p.roots) (sym at) (known.pass.reached _ (Contains-get_or p.order p.next 0 below))

  body_from : (b : ℕ) → (set.contains p.bodies b ≡ true) ⊎ Contains bodies b → HoldsBodyNode f b
  body_from b (inl before) = known.kinds.bodies b before
  body_from b (inr now) = named_body (limit - body_header) f p.roots known.trees own b ((of b).0 now)

  marked_from : (b : ℕ) → (set.contains p.bodies b ≡ true) ⊎ Contains bodies b → Contains q.order b
  marked_from b (inl before) = begins_has p.order q.order b marked.begins (known.kinds.marked b before)
  marked_from b (inr now) = marked.each b ((named b).1 (names_of_body (f block) b ((of b).0 now)))

  inside : (b : ℕ) → HoldsBodyNode f b → b < p.blocks
  inside b holds = elim (cases_lt b p.blocks) [
    | inl less ↦ less
    | inr more ↦ absurd (holds_some f b holds (past b more))
  ]

  not_noted : (b : ℕ) → set.contains q.bodies b ≡ false → NamesBody (f block) b ⊎ (index_of (f b) ≡ None) → index_of (f b) ≡ None
  not_noted b absent (inl body) =
      let holds = named_body (limit - body_header) f p.roots known.trees own b body in
      absurd (true≢false (sym (noted.all b ((of b).1 body) (inside b holds)) ∙ absent))
  not_noted b absent (inr none) = none

  other_from : (b : ℕ) → set.contains q.bodies b ≡ false → Contains p.order b ⊎ Contains names b → index_of (f b) ≡ None
  other_from b absent (inl before) = elim (cases_Bool (set.contains p.bodies b)) [
    | inl was ↦ absurd (true≢false (sym (noted.stay b was) ∙ absent))
    | inr was_not ↦ known.kinds.others b before was_not
  ]
  other_from b absent (inr now) = not_noted b absent (named_kind (limit - body_header) f p.roots known.trees own b ((named b).0 now))

  pub known_on : q.roots ≡ p.roots → IsPass f q → IsKnownMarking limit f q
  known_on roots pass = record {
    trees = subst (λ (l : List ℕ). AreRoots limit f l) (sym roots) known.trees;
    pass = pass;
    kinds = record {
      marked = λ b has. marked_from b (noted.only b has);
      bodies = λ b has. body_from b (noted.only b has);
      others = λ b has absent. other_from b absent (marked.only b has);
    };
  }

-- a marking that has marked its roots alone, and noted none
pub begins_known : (limit : ℕ) (f : Blocks) (p : Pass) → AreRoots limit f p.roots → IsPass f p → ((b : ℕ) → Contains p.order b → Contains p.roots b) → p.bodies ≡ set.empty → Knows limit f p
begins_known limit f p trees pass roots none unknown = unknown (record {
  trees = trees;
  pass = pass;
  kinds = record {
    marked = λ b has. absurd (unnoted b has);
    bodies = λ b has. absurd (unnoted b has);
    others = λ b has absent. root_kind (limit - body_header) f b (trees b (roots b has));
  };
})
  where
    unnoted : (b : ℕ) → set.contains p.bodies b ≡ true → ⊥
    unnoted b has = true≢false (sym has ∙ ap (λ s. set.contains s b) none ∙ set.contains-empty nat_cmp b)

-- a marking whose roots reach the same nodes, and still have trees, is as well known
pub known_stays : (limit : ℕ) (f g : Blocks) (p : Pass) → Agrees p.roots f g → (AreRoots limit f p.roots → AreRoots limit g p.roots) → IsKnownMarking limit f p → IsKnownMarking limit g p
known_stays limit f g p same trees k = record {
  trees = trees k.trees;
  pass = pass_stays f g p same k.pass;
  kinds = record {
    marked = k.kinds.marked;
    bodies = λ b has. let holds = k.kinds.bodies b has in (holds.0, ap index_of (same b (k.pass.reached b (k.kinds.marked b has))) ∙ holds.1);
    others = λ b has absent. ap index_of (same b (k.pass.reached b has)) ∙ k.kinds.others b has absent;
  };
}

-- ---- the pages of a block

-- a block that is read whole though a first page would do is none of a body
pub pages_as_marked : (limit page : ℕ) (f : Blocks) (p : Pass) (b : ℕ) → Knows limit f p → Contains p.order b
    → read_pages (set.contains p.bodies b) page (f b) ≡ mark_pages page (f b)
pages_as_marked limit page f p b known has = on (set.contains p.bodies b) refl (body_or_not f b)
  where
    on : (t : Bool) → set.contains p.bodies b ≡ t → HoldsBodyNode f b ⊎ (index_of (f b) ≡ None) → read_pages t page (f b) ≡ read_pages (is_some (index_of (f b))) page (f b)
    on true is (inl holds) = ap (λ (o : Option ℕ). read_pages (is_some o) page (f b)) (sym holds.1)
    on true is (inr none) = absurd (known (λ k. let holds = k.kinds.bodies b is in no_index holds.0 (sym holds.1 ∙ none)))
    on false is (inl holds) = absurd (known (λ k. no_index holds.0 (sym holds.1 ∙ k.kinds.others b has is)))
    on false is (inr none) = ap (λ (o : Option ℕ). read_pages (is_some o) page (f b)) (sym none)

take_same : (xs ys : List ℕ) (k : ℕ) → Begins xs ys → k ≤ length xs → take k ys ≡ take k xs
take_same xs ys k (rest, is) le = ap (take k) (sym is) ∙ take-append-le k xs rest le

-- one block more was asked for
pub asked_more : (page : ℕ) (f : Blocks) (old p q : Pass) (before mid after : ℕ) → Begins p.order q.order → p.next < length p.order → q.next ≡ p.next + 1
    → after ≤ mid + mark_pages page (f (slice_index p.order p.next)) → HasAsked page f old p before mid → HasAsked page f old q before after
asked_more page f old p q before mid after begins below next one so_far =
    let g = λ (b : ℕ). mark_pages page (f b) in
    let more : sum_by g (take (p.next + 1) q.order) ≡ sum_by g (take p.next q.order) + g (slice_index q.order p.next) = sum_more g q.order p.next (omega (arith, begins_length p.order q.order begins)) in
    let front : sum_by g (take p.next q.order) ≡ sum_by g (take p.next p.order) = ap (sum_by g) (take_same p.order q.order p.next begins (omega arith)) in
    let here : g (slice_index q.order p.next) ≡ g (slice_index p.order p.next) = ap g (begins_at p.order q.order p.next begins below) in
    let all : sum_by g (take q.next q.order) ≡ sum_by g (take (p.next + 1) q.order) = ap (λ (k : ℕ). sum_by g (take k q.order)) next in
    omega (arith, more, front, here, all, one, so_far)

-- ---- blocks noted one after the other

contains_insert : (s : set.FinSet nat_cmp) (x b : ℕ) → set.contains (set.insert s x) b ≡ (eqb b x || set.contains s b)
contains_insert s x b = search (set.members, rules)

pub noted_none : (s : set.FinSet nat_cmp) (blocks : ℕ) → AreNoted s [] blocks s
noted_none s blocks = record { stay = λ b h. h; only = λ b h. inl h; all = λ b has less. absurd (omega (arith, has.1)) }

pub noted_in : (s t : set.FinSet nat_cmp) (names : List ℕ) (x blocks : ℕ) → AreNoted s names blocks t → AreNoted s (names ++ x ∷ []) blocks (set.insert t x)
noted_in s t names x blocks so_far = record {
  stay = λ b was. contains_insert t x b ∙ later (eqb b x) (set.contains t b) (so_far.stay b was);
  only = λ b is. from b (either (eqb b x) (set.contains t b) (sym (contains_insert t x b) ∙ is));
  all = λ b has less. contains_insert t x b ∙ to b less (Contains-push_cases names x b has);
}
  where
    later : (t u : Bool) → u ≡ true → (t || u) ≡ true
    later true u is = refl
    later false u is = is

    first : (t u : Bool) → t ≡ true → (t || u) ≡ true
    first true u is = refl
    first false u is = absurd (true≢false (sym is))

    either : (t u : Bool) → (t || u) ≡ true → (t ≡ true) ⊎ (u ≡ true)
    either true u is = inl refl
    either false u is = inr is

    from : (b : ℕ) → (eqb b x ≡ true) ⊎ (set.contains t b ≡ true) → (set.contains s b ≡ true) ⊎ Contains (names ++ x ∷ []) b
    from b (inl same) = inr (subst (Contains (names ++ x ∷ [])) (sym (eqb-true b x same)) (Contains-push names x))
    from b (inr is) = on (so_far.only b is)
      where
        on : (set.contains s b ≡ true) ⊎ Contains names b → (set.contains s b ≡ true) ⊎ Contains (names ++ x ∷ []) b
        on (inl was) = inl was
        on (inr has) = inr (Contains-append_left names (x ∷ []) b has)

    to : (b : ℕ) → b < blocks → Contains names b ⊎ (x ≡ b) → (eqb b x || set.contains t b) ≡ true
    to b less (inl has) = later (eqb b x) (set.contains t b) (so_far.all b has less)
    to b less (inr same) = first (eqb b x) (set.contains t b) (eq-eqb b x (sym same))

pub noted_past : (s t : set.FinSet nat_cmp) (names : List ℕ) (x blocks : ℕ) → blocks ≤ x → AreNoted s names blocks t → AreNoted s (names ++ x ∷ []) blocks t
noted_past s t names x blocks past so_far = record {
  stay = so_far.stay;
  only = λ b is. on b (so_far.only b is);
  all = λ b has less. to b less (Contains-push_cases names x b has);
}
  where
    on : (b : ℕ) → (set.contains s b ≡ true) ⊎ Contains names b → (set.contains s b ≡ true) ⊎ Contains (names ++ x ∷ []) b
    on b (inl was) = inl was
    on b (inr has) = inr (Contains-append_left names (x ∷ []) b has)

    to : (b : ℕ) → b < blocks → Contains names b ⊎ (x ≡ b) → set.contains t b ≡ true
    to b less (inl has) = so_far.all b has less
    to b less (inr same) = absurd (omega (arith, same))
