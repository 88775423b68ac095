-- The parts of a lawful record: its serials and names ascend, and each checkpoint comes after those before it.
use Rattle.std.proofs.Common.{◌≡◌, ℕ, zero, suc, ◌<◌, ◌≤◌, ◌+◌, Bool, true, false, cond, List, [], ◌∷◌, ◌++◌, length, take, map, get_or, refl, sym, ap, subst, ◌∙◌, arith}
use Rattle.std.proofs.lemmas.Bool.{ltb-true}
use Rattle.std.proofs.lemmas.List.{length-map, map-append, take_more}
use Rattle.std.proofs.lemmas.List.Elements.{All-nil, All-cons, All-head, All-tail, All-weaker}
use Rattle.std.proofs.lemmas.List.Kept.{AllPairs-cons}
use Rattle.std.proofs.lemmas.Cmp.{nat_cmp_total, nat_list_cmp_total}
use Rattle.std.specs.Prelude.{nat_lt, All, AllPairs, slice_index_or, Result, Ok, Err, OnOk}
use Rattle.std.specs.List.{list_all}
use Rattle.std.specs.BTreeMap.{insert_entry}
use Rattle.std.specs.FinSet as set
use Rattle.std.specs.FinSet.{nat_cmp-IsAntisymmetric}
use Rattle.std.specs.Ordering.{is_lt, ordering_reverse, match_ordering, nat_cmp}
use Rattle.std.specs.declared.cmp.Ordering.{Ordering}
use Rattle.std.specs.declared.cmp.Ordering.TheVariants.{Less, Equal, Greater}
use Rattle.fs_types.specs.Names.{Name, name_cmp}
use Rattle.fs_types.specs.declared.call.Version.{Version}
use Rattle.machine_state.specs.KeptHistories.{IsKept}
use Rattle.record_format.specs.declared.record.Checkpoint.{Checkpoint}
use Rattle.record_format.specs.declared.record.Record.{Record}
use Rattle.record_format.specs.Payloads.{is_record, has_counts, has_versions, serials_ascend, names_ascend}
use Rattle.record_format.proofs.LawfulRecords.{both_true, counts_of, serials_below}
use Rattle.mounting.specs.Records.{history_of, roots_of}

abbrev kept_checkpoint : Checkpoint → Name × ℕ
kept_checkpoint c = (c.name, c.root)

-- ---- versions

abbrev Serials : ℕ → List (Version ℕ) → Type 0
Serials before vs = All (λ (v : Version ℕ). before < v.serial) vs × AllPairs (λ (v w : Version ℕ). v.serial < w.serial) vs

serials_are : (before : ℕ) (vs : List (Version ℕ)) → serials_ascend before vs ≡ true → Serials before vs
serials_are before [] h = (All-nil _, λ i j d order within. absurd (omega arith))
serials_are before (v ∷ vs) h =
    let parts = both_true (nat_lt before v.serial) (serials_ascend v.serial vs) h in
    let first : before < v.serial = ltb-true _ _ parts.0 in
    let rest = serials_are v.serial vs parts.1 in (
      All-cons (λ (w : Version ℕ). before < w.serial) v vs first (All-weaker (λ (w : Version ℕ). v.serial < w.serial) (λ (w : Version ℕ). before < w.serial) (λ w more. omega arith) vs rest.0),
      AllPairs-cons (λ (x y : Version ℕ). x.serial < y.serial) v vs rest.0 rest.1,
    )

all_below : (next : ℕ) (vs : List (Version ℕ)) → list_all (λ (version : Version ℕ). nat_lt version.serial next) vs ≡ true → All (λ (v : Version ℕ). v.serial < next) vs
all_below next [] h = All-nil _
all_below next (v ∷ vs) h =
    let parts = both_true (nat_lt v.serial next) (list_all (λ (version : Version ℕ). nat_lt version.serial next) vs) h in
    All-cons (λ (w : Version ℕ). w.serial < next) v vs (ltb-true _ _ parts.0) (all_below next vs parts.1)

-- the history that a lawful record holds
pub kept_history : (r : Record) (checkpoints : List (Name × ℕ)) → is_record r ≡ true → checkpoints ≡ map (λ (c : Checkpoint). (c.name, c.root)) r.checkpoints
    → IsKept {R = ℕ} (record { versions = r.versions; cursor = r.cursor; dropped = r.dropped; next = r.next; checkpoints = checkpoints; limit = r.limit })
kept_history r checkpoints lawful same =
    let counts = counts_of r lawful in
    let rest = (both_true (has_counts r) _ lawful).1 in
    let versions = (both_true (has_versions r) _ rest).0 in
    let ascend = serials_are 0 r.versions (both_true (serials_ascend 0 r.versions) _ versions).0 in
    let few : length r.checkpoints ≤ 16 = counts.checkpoints in
    record {
      lawful = record {
        some_limit = counts.limit_least;
        within = counts.versions;
        cursor_in = counts.cursor;
        ascending = ascend.1;
        below_next = all_below r.next r.versions (serials_below r lawful);
        few = let count : length checkpoints ≡ length r.checkpoints = ap length same ∙ length-map r.checkpoints kept_checkpoint in omega arith;
      };
      from_one = ascend.0;
      at_most = counts.limit_most;
    }

pub kept_parts : (r : Record) (versions : List (Version ℕ)) (checkpoints : List (Name × ℕ)) → is_record r ≡ true → versions ≡ r.versions → checkpoints ≡ map kept_checkpoint r.checkpoints
    → IsKept {R = ℕ} (record { versions = versions; cursor = r.cursor; dropped = r.dropped; next = r.next; checkpoints = checkpoints; limit = r.limit })
kept_parts r versions checkpoints lawful same all =
    subst (λ (vs : List (Version ℕ)). IsKept {R = ℕ} (record { versions = vs; cursor = r.cursor; dropped = r.dropped; next = r.next; checkpoints = checkpoints; limit = r.limit })) (sym same)
    (kept_history r checkpoints lawful all)

-- ---- checkpoints

is_less : (o : Ordering) → is_lt o ≡ true → o ≡ Less
is_less Less e = refl
is_less Equal e = absurd cc
is_less Greater e = absurd cc

turned : (a b : Name) → name_cmp a b ≡ Less → name_cmp b a ≡ Greater
turned a b e = nat_list_cmp_total.antisymm b a ∙ ap ordering_reverse e

-- a checkpoint comes after one
later_name : (before : Name) (cs : List Checkpoint) (i : ℕ) (d : Checkpoint) → i < length cs → names_ascend before cs ≡ true → name_cmp before (slice_index_or cs i d).name ≡ Less
later_name before [] i d within h = absurd (omega arith)
later_name before (c ∷ cs) zero d within h = is_less _ (both_true (is_lt (name_cmp before c.name)) (names_ascend c.name cs) h).0
later_name before (c ∷ cs) (suc i) d within h =
    let parts = both_true (is_lt (name_cmp before c.name)) (names_ascend c.name cs) h in
    nat_list_cmp_total.trans before c.name (slice_index_or cs i d).name (is_less _ parts.0) (later_name c.name cs i d (omega arith) parts.1)

abbrev IsAfter : Name → Name × ℕ → Type 0
IsAfter k e = name_cmp k e.0 ≡ Greater

-- and after all before it
after_all : (before : Name) (cs : List Checkpoint) (i : ℕ) (d : Checkpoint) → i < length cs → names_ascend before cs ≡ true → All (IsAfter (slice_index_or cs i d).name) (map kept_checkpoint (take i cs))
after_all before cs zero d within h = All-nil _
after_all before [] (suc i) d within h = absurd (omega arith)
after_all before (c ∷ cs) (suc i) d within h =
    let parts = both_true (is_lt (name_cmp before c.name)) (names_ascend c.name cs) h in
    All-cons (IsAfter (slice_index_or cs i d).name) (kept_checkpoint c) (map kept_checkpoint (take i cs))
    (turned c.name (slice_index_or cs i d).name (later_name c.name cs i d (omega arith) parts.1))
    (after_all c.name cs i d (omega arith) parts.1)

-- what comes after all entries is put at their end
insert_last : (es : List (Name × ℕ)) (k : Name) (v : ℕ) → All (IsAfter k) es → insert_entry name_cmp es k v ≡ es ++ (k, v) ∷ []
insert_last [] k v after = refl
insert_last (e ∷ es) k v after =
    ap (λ (o : Ordering). match_ordering o ((k, v) ∷ e ∷ es) ((e.0, v) ∷ es) (e ∷ insert_entry name_cmp es k v)) (All-head (IsAfter k) e es after)
    ∙ ap (λ (rest : List (Name × ℕ)). e ∷ rest) (insert_last es k v (All-tail (IsAfter k) e es after))

checkpoint_put : (entries : List (Name × ℕ)) (cs : List Checkpoint) (i : ℕ) (d : Checkpoint) → i < length cs → names_ascend [] cs ≡ true → entries ≡ map kept_checkpoint (take i cs)
    → insert_entry name_cmp entries (slice_index_or cs i d).name (slice_index_or cs i d).root ≡ map kept_checkpoint (take (i + 1) cs)
checkpoint_put entries cs i d within ascend are =
    let c = slice_index_or cs i d in
    ap (λ (es : List (Name × ℕ)). insert_entry name_cmp es c.name c.root) are
    ∙ insert_last (map kept_checkpoint (take i cs)) c.name c.root (after_all [] cs i d within ascend)
    ∙ sym (ap (map kept_checkpoint) (take_more cs i d within) ∙ map-append kept_checkpoint (take i cs) (c ∷ []))

pub put_checkpoint : (old new : List (Name × ℕ)) (cs : List Checkpoint) (i : ℕ) (c : Checkpoint) (name : Name) → i < length cs → names_ascend [] cs ≡ true → c ≡ slice_index_or cs i c → name ≡ c.name
    → old ≡ map kept_checkpoint (take i cs) → new ≡ insert_entry name_cmp old name c.root → new ≡ map kept_checkpoint (take (i + 1) cs)
put_checkpoint old new cs i c name within ascend at called are put =
    put ∙ (λ j. insert_entry name_cmp old ((called ∙ ap (λ (x : Checkpoint). x.name) at) j) (at j).root) ∙ checkpoint_put old cs i c within ascend are

-- ---- roots and bad blocks

pub ok_of : {T E : Type 0} (r : Result T E) (x : T) {P : Type 0} → r ≡ Ok x → OnOk r P → P
ok_of (Ok y) x e p = p
ok_of (Err fault) x e p = absurd cc

roots_again : (cs : List Checkpoint) → map (λ (e : Name × ℕ). e.1) (map kept_checkpoint cs) ≡ map (λ (c : Checkpoint). c.root) cs
roots_again [] = refl
roots_again (c ∷ cs) = ap (λ (rest : List ℕ). c.root ∷ rest) (roots_again cs)

pub all_roots : (r : Record) (versions roots : List ℕ) → versions ≡ map (λ (v : Version ℕ). v.root) r.versions → roots ≡ versions ++ map (λ (c : Checkpoint). c.root) r.checkpoints → roots ≡ roots_of (history_of r)
all_roots r versions roots are all = all ∙ (λ i. are i ++ sym (roots_again r.checkpoints) i)

-- one bad block more
pub record IsListed (bad : set.FinSet nat_cmp) (blocks : List ℕ) (i : ℕ) : Type 0 where
  pub is : bad ≡ set.from_list (take i blocks)
  pub few : set.len bad ≤ i

pub none_listed : (bad : set.FinSet nat_cmp) (blocks : List ℕ) → bad ≡ set.empty → IsListed bad blocks 0
none_listed bad blocks none = record { is = none; few = let e : set.len bad ≡ 0 = ap set.len none ∙ set.len-empty nat_cmp in omega arith }

pub one_listed : (old new : set.FinSet nat_cmp) (blocks : List ℕ) (i d : ℕ) → i < length blocks → new ≡ set.insert old (get_or blocks i d) → IsListed old blocks i → IsListed new blocks (i + 1)
one_listed old new blocks i d within put l =
    let block = get_or blocks i d in
    record {
      is = put ∙ ap (λ (s : set.FinSet nat_cmp). set.insert s block) l.is ∙ sym (set.from_list_push nat_cmp_total nat_cmp-IsAntisymmetric (take i blocks) block) ∙ ap set.from_list (sym (take_more blocks i d within));
      few = let grown : set.len new ≡ cond (set.contains old block) (set.len old) (set.len old + 1) = ap set.len put ∙ set.len-insert nat_cmp_total old block in
          let h = l.few in
          on (set.contains old block) grown h;
    }
  where
    on : (b : Bool) → set.len new ≡ cond b (set.len old) (set.len old + 1) → set.len old ≤ i → set.len new ≤ i + 1
    on true e h = omega arith
    on false e h = omega arith
