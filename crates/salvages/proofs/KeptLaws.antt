-- What is kept of a lawful record is lawful where a version is kept.
use Rattle.std.proofs.Common.{◌≡◌, ◌≢◌, ℕ, ◌+◌, ◌<◌, ◌≤◌, Bool, true, false, cond, List, [], ◌∷◌, length, take, refl, ap, arith}
use Rattle.std.proofs.lemmas.Bool.{ltb-true, lt-ltb, le-leb}
use Rattle.std.proofs.lemmas.List.Sums.{length-filter, count_by-le-length, sum_by-take-drop}
use Rattle.std.proofs.lemmas.Cmp.{nat_list_cmp_total}
use Rattle.std.specs.Prelude.{nat_lt, filter, count_by}
use Rattle.std.specs.List.{list_all}
use Rattle.std.specs.Ordering.{is_lt}
use Rattle.std.specs.declared.cmp.Ordering.{Ordering}
use Rattle.std.specs.declared.cmp.Ordering.TheVariants.{Less, Equal, Greater}
use Rattle.fs_types.specs.Names.{Name, name_cmp}
use Rattle.fs_types.specs.declared.call.Version.{Version}
use Rattle.record_format.specs.declared.record.Checkpoint.{Checkpoint}
use Rattle.record_format.specs.declared.record.Record.{Record}
use Rattle.record_format.specs.Payloads.{is_record, has_counts, has_versions, has_checkpoints, serials_ascend, names_ascend}
use Rattle.record_format.proofs.LawfulRecords.{both_true, and_true, counts_of, serials_below}
use Rattle.salvages.specs.Kept.{is_kept, kept_versions, kept_cursor, kept_record}

-- ---- versions

serials_from : (before later : ℕ) (vs : List (Version ℕ)) → before ≤ later → serials_ascend later vs ≡ true → serials_ascend before vs ≡ true
serials_from before later [] le ascend = refl
serials_from before later (v ∷ vs) le ascend =
    let parts = both_true (nat_lt later v.serial) (serials_ascend v.serial vs) ascend in
    let above : later < v.serial = ltb-true _ _ parts.0 in
    and_true _ _ (lt-ltb _ _ (omega arith)) parts.1

serials_kept : (p : Version ℕ → Bool) (before : ℕ) (vs : List (Version ℕ)) → serials_ascend before vs ≡ true → serials_ascend before (filter p vs) ≡ true
serials_kept p before [] ascend = refl
serials_kept p before (v ∷ vs) ascend =
    let parts = both_true (nat_lt before v.serial) (serials_ascend v.serial vs) ascend in
    on (p v) parts.0 (serials_kept p v.serial vs parts.1)
  where
    on : (b : Bool) → nat_lt before v.serial ≡ true → serials_ascend v.serial (filter p vs) ≡ true → serials_ascend before (cond b (v ∷ filter p vs) (filter p vs)) ≡ true
    on true first rest = and_true _ _ first rest
    on false first rest = let above : before < v.serial = ltb-true _ _ first in serials_from before v.serial (filter p vs) (omega arith) rest

all_kept : {X : Type 0} (p q : X → Bool) (xs : List X) → list_all q xs ≡ true → list_all q (filter p xs) ≡ true
all_kept p q [] all = refl
all_kept p q (x ∷ xs) all =
    let parts = both_true (q x) (list_all q xs) all in
    on (p x) parts.0 (all_kept p q xs parts.1)
  where
    on : (b : Bool) → q x ≡ true → list_all q (filter p xs) ≡ true → list_all q (cond b (x ∷ filter p xs) (filter p xs)) ≡ true
    on true first rest = and_true _ _ first rest
    on false first rest = rest

-- ---- checkpoints

is_less : (o : Ordering) → is_lt o ≡ true → o ≡ Less
is_less Less e = refl
is_less Equal e = absurd cc
is_less Greater e = absurd cc

names_from : (before later : Name) (cs : List Checkpoint) → name_cmp before later ≡ Less → names_ascend later cs ≡ true → names_ascend before cs ≡ true
names_from before later [] less ascend = refl
names_from before later (c ∷ cs) less ascend =
    let parts = both_true (is_lt (name_cmp later c.name)) (names_ascend c.name cs) ascend in
    and_true _ _ (ap is_lt (nat_list_cmp_total.trans before later c.name less (is_less _ parts.0))) parts.1

names_kept : (p : Checkpoint → Bool) (before : Name) (cs : List Checkpoint) → names_ascend before cs ≡ true → names_ascend before (filter p cs) ≡ true
names_kept p before [] ascend = refl
names_kept p before (c ∷ cs) ascend =
    let parts = both_true (is_lt (name_cmp before c.name)) (names_ascend c.name cs) ascend in
    on (p c) parts.0 (names_kept p c.name cs parts.1)
  where
    on : (b : Bool) → is_lt (name_cmp before c.name) ≡ true → names_ascend c.name (filter p cs) ≡ true → names_ascend before (cond b (c ∷ filter p cs) (filter p cs)) ≡ true
    on true first rest = and_true _ _ first rest
    on false first rest = names_from before c.name (filter p cs) (is_less _ first) rest

-- ---- counts

pub fewer_kept : {X : Type 0} (p : X → Bool) (xs : List X) → length (filter p xs) ≤ length xs
fewer_kept {X} p xs = omega (arith, length-filter p xs, count_by-le-length p xs)

kept_up_to : {X : Type 0} (p : X → Bool) (n : ℕ) (xs : List X) → count_by p (take n xs) ≤ count_by p xs
kept_up_to p n xs = let parts = sum_by-take-drop (λ x. cond (p x) 1 0) xs n in omega (arith, parts)

some_kept : {X : Type 0} (xs : List X) → xs ≢ [] → 0 < length xs
some_kept [] some = absurd (some refl)
some_kept (x ∷ xs) some = omega arith

cursor_within : (lost : List ℕ) (versions : List (Version ℕ)) (cursor : ℕ) → kept_versions lost versions ≢ [] → kept_cursor lost versions cursor < length (kept_versions lost versions)
cursor_within lost versions cursor some =
    let up_to = kept_up_to (λ (version : Version ℕ). is_kept lost version.root) (cursor + 1) versions in
    let all = length-filter (λ (version : Version ℕ). is_kept lost version.root) versions in
    let any = some_kept (kept_versions lost versions) some in
    omega (arith, up_to, all, any)

pub cursor_most : (lost : List ℕ) (versions : List (Version ℕ)) (cursor : ℕ) → kept_cursor lost versions cursor ≤ length versions
cursor_most lost versions cursor =
    let up_to = kept_up_to (λ (version : Version ℕ). is_kept lost version.root) (cursor + 1) versions in
    let all = count_by-le-length (λ (version : Version ℕ). is_kept lost version.root) versions in
    omega (arith, up_to, all)

pub kept_lawful : (lost : List ℕ) (r : Record) → is_record r ≡ true → kept_versions lost r.versions ≢ [] → is_record (kept_record lost r) ≡ true
kept_lawful lost r lawful some =
    let k = kept_record lost r in
    let counts = counts_of r lawful in
    let rest = (both_true (has_counts r) _ lawful).1 in
    let versions_are = both_true (has_versions r) _ rest in
    let names_are = both_true (has_checkpoints r) _ versions_are.1 in
    let fewer_versions = fewer_kept (λ (version : Version ℕ). is_kept lost version.root) r.versions in
    let fewer_checkpoints = fewer_kept (λ (checkpoint : Checkpoint). is_kept lost checkpoint.root) r.checkpoints in
    let within : length k.versions ≤ r.limit = let h = counts.versions in omega (arith, h, fewer_versions) in
    let few : length k.checkpoints ≤ 16 = let h = counts.checkpoints in omega (arith, h, fewer_checkpoints) in
    let has : has_counts k ≡ true =
    and_true _ _ (and_true _ _ (and_true _ _ (and_true _ _ (and_true _ _ (and_true _ _ (and_true _ _
    (and_true _ _ refl (le-leb _ _ counts.limit_least)) (le-leb _ _ counts.limit_most)) (le-leb _ _ within)) (lt-ltb _ _ (cursor_within lost r.versions r.cursor some)))
    (le-leb _ _ few)) refl) (le-leb _ _ counts.last_least)) (lt-ltb _ _ counts.last_most) in
    let versions : has_versions k ≡ true =
    and_true _ _ (serials_kept (λ (version : Version ℕ). is_kept lost version.root) 0 r.versions (both_true (serials_ascend 0 r.versions) _ versions_are.0).0)
    (all_kept (λ (version : Version ℕ). is_kept lost version.root) (λ (version : Version ℕ). nat_lt version.serial r.next) r.versions (serials_below r lawful)) in
    let checkpoints : has_checkpoints k ≡ true = names_kept (λ (checkpoint : Checkpoint). is_kept lost checkpoint.root) [] r.checkpoints names_are.0 in
    and_true _ _ has (and_true _ _ versions (and_true _ _ checkpoints refl))
