-- Parts that were looked at make a history, as it is kept in memory.
use Rattle.std.proofs.Common.{◌≡◌, ℕ, ◌<◌, Bool, true, false, List, [], ◌∷◌, length, refl, sym, subst, arith, leb}
use Rattle.std.proofs.lemmas.Bool.{ltb-true, leb-true}
use Rattle.std.proofs.lemmas.List.Elements.{All-nil, All-cons, All-weaker}
use Rattle.std.proofs.lemmas.List.Kept.{AllPairs-cons}
use Rattle.std.specs.Prelude.{nat_lt, ◌&&◌, All, AllPairs}
use Rattle.std.specs.List.{list_all}
use Rattle.fs_types.specs.declared.limits.TheConstants.{MIN_VERSIONS, MAX_VERSIONS}
use Rattle.fs_types.specs.declared.call.Version.{Version}
use Rattle.machine_state.specs.KeptHistories.{IsKept}
use Rattle.history_machine.specs.History.{Past}
use Rattle.plain_trees.specs.Trees.{Tree}
use Rattle.plain_machine.specs.Restoring.{history_of_parts, past_serials_ascend, past_has_counts, past_has_versions, is_history}

both_true : (a b : Bool) → (a && b) ≡ true → (a ≡ true) × (b ≡ true)
both_true true b e = (refl, e)
both_true false b e = absurd cc

abbrev Serials : ℕ → List (Version Tree) → Type 0
Serials before vs = All (λ (v : Version Tree). before < v.serial) vs × AllPairs (λ (v w : Version Tree). v.serial < w.serial) vs

serials_are : (before : ℕ) (vs : List (Version Tree)) → past_serials_ascend before vs ≡ true → Serials before vs
serials_are before [] h = (All-nil _, λ i j d order within. absurd (omega arith))
serials_are before (v ∷ vs) h =
    let parts = both_true (nat_lt before v.serial) (past_serials_ascend v.serial vs) h in
    let first : before < v.serial = ltb-true _ _ parts.0 in
    let rest = serials_are v.serial vs parts.1 in (
      All-cons (λ (w : Version Tree). before < w.serial) v vs first (All-weaker (λ (w : Version Tree). v.serial < w.serial) (λ (w : Version Tree). before < w.serial) (λ w more. omega arith) vs rest.0),
      AllPairs-cons (λ (x y : Version Tree). x.serial < y.serial) v vs rest.0 rest.1,
    )

all_below : (next : ℕ) (vs : List (Version Tree)) → list_all (λ (version : Version Tree). nat_lt version.serial next) vs ≡ true → All (λ (v : Version Tree). v.serial < next) vs
all_below next [] h = All-nil _
all_below next (v ∷ vs) h =
    let parts = both_true (nat_lt v.serial next) (list_all (λ (version : Version Tree). nat_lt version.serial next) vs) h in
    All-cons (λ (w : Version Tree). w.serial < next) v vs (ltb-true _ _ parts.0) (all_below next vs parts.1)

pub kept_of : (p : Past Tree) → is_history p ≡ true → IsKept p
kept_of p h =
    let parts = both_true (past_has_counts p) (past_has_versions p) h in
    let versions = both_true (past_serials_ascend 0 p.versions) _ parts.1 in
    let ascend = serials_are 0 p.versions versions.0 in
    let a = both_true _ (leb (length p.checkpoints) 16) parts.0 in
    let b = both_true _ (nat_lt p.cursor (length p.versions)) a.0 in
    let c = both_true _ (leb (length p.versions) p.limit) b.0 in
    let d = both_true (leb MIN_VERSIONS p.limit) (leb p.limit MAX_VERSIONS) c.0 in
    record {
      lawful = record {
        some_limit = leb-true _ _ d.0;
        within = leb-true _ _ c.1;
        cursor_in = ltb-true _ _ b.1;
        ascending = ascend.1;
        below_next = all_below p.next p.versions versions.1;
        few = leb-true _ _ a.1;
      };
      from_one = ascend.0;
      at_most = leb-true _ _ d.1;
    }

-- the same of versions that are these
pub kept_with : (versions saved : List (Version Tree)) (cursor : ℕ) (dropped : Bool) (next : ℕ) (checkpoints : List (List ℕ × Tree)) (limit : ℕ)
    → is_history (history_of_parts saved cursor dropped next checkpoints limit) ≡ true → versions ≡ saved → IsKept (history_of_parts versions cursor dropped next checkpoints limit)
kept_with versions saved cursor dropped next checkpoints limit h same =
    subst (λ (vs : List (Version Tree)). IsKept (history_of_parts vs cursor dropped next checkpoints limit)) (sym same) (kept_of (history_of_parts saved cursor dropped next checkpoints limit) h)
