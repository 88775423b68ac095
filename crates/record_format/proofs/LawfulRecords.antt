-- A record with its own list of bad blocks; the parts of a lawful record.
use Rattle.std.proofs.Common.{◌≡◌, ℕ, ◌<◌, ◌≤◌, ◌==◌, Bool, true, false, cond, ltb, leb, List, length, refl, arith}
use Rattle.std.proofs.lemmas.Bool.{ltb-true, leb-true}
use Rattle.std.specs.Prelude.{◌&&◌, nat_lt}
use Rattle.std.specs.List.{list_all}
use Rattle.fs_types.specs.Names.{is_checkpoint_name}
use Rattle.fs_types.specs.declared.limits.TheConstants.{ANCHORS, MAX_VERSIONS, MIN_VERSIONS}
use Rattle.record_format.specs.declared.formats.TheConstants.{OLD_FORMAT, OLD_MAX_VERSIONS}
use Rattle.record_format.specs.declared.record.Record.{Record}
use Rattle.record_format.specs.Payloads.{is_format, most_versions, is_record, has_limit, has_counts, has_versions, has_checkpoints}

pub both_true : (a b : Bool) → (a && b) ≡ true → (a ≡ true) × (b ≡ true)
both_true true b e = (refl, e)
both_true false b e = absurd cc

pub and_true : (a b : Bool) → a ≡ true → b ≡ true → (a && b) ≡ true
and_true a b p q = rw (p, q) refl

pub same_record : (r : Record) (bad : List ℕ) → bad ≡ r.bad → record r { format = r.format; bad = bad } ≡ r
same_record r bad same = λ i. record r { bad = same i }

-- the counts of a lawful record
pub record HasCounts (r : Record) : Type 0 where
  pub limit : has_limit r ≡ true
  pub format : is_format r.format ≡ true
  pub limit_least : MIN_VERSIONS ≤ r.limit
  pub limit_most : r.limit ≤ MAX_VERSIONS
  pub versions : length r.versions ≤ r.limit
  pub cursor : r.cursor < length r.versions
  pub checkpoints : length r.checkpoints ≤ 16
  pub bad : length r.bad ≤ 256
  pub last_least : ANCHORS ≤ r.last
  pub last_most : r.last < r.geometry.blocks

-- no format keeps more versions than may be kept
most_of : (format : ℕ) → most_versions format ≤ MAX_VERSIONS
most_of format = on (format == OLD_FORMAT)
  where
    on : (b : Bool) → cond b OLD_MAX_VERSIONS MAX_VERSIONS ≤ MAX_VERSIONS
    on true = omega arith
    on false = omega arith

pub counts_of : (r : Record) → is_record r ≡ true → HasCounts r
counts_of r lawful =
    let h = (both_true (has_counts r) _ lawful).0 in
    let a = both_true _ (nat_lt r.last r.geometry.blocks) h in
    let b = both_true _ (leb ANCHORS r.last) a.0 in
    let c = both_true _ (leb (length r.bad) 256) b.0 in
    let d = both_true _ (leb (length r.checkpoints) 16) c.0 in
    let e = both_true _ (nat_lt r.cursor (length r.versions)) d.0 in
    let f = both_true _ (leb (length r.versions) r.limit) e.0 in
    let g = both_true _ (leb r.limit (most_versions r.format)) f.0 in
    let k = both_true (is_format r.format) (leb MIN_VERSIONS r.limit) g.0 in
    let most : r.limit ≤ most_versions r.format = leb-true _ _ g.1 in
    record {
      limit = f.0;
      format = k.0;
      limit_least = leb-true _ _ k.1;
      limit_most = omega (arith, most, most_of r.format);
      versions = leb-true _ _ f.1;
      cursor = ltb-true _ _ e.1;
      checkpoints = leb-true _ _ d.1;
      bad = leb-true _ _ c.1;
      last_least = leb-true _ _ b.1;
      last_most = ltb-true _ _ a.1;
    }

pub serials_below : (r : Record) → is_record r ≡ true → list_all (λ version. nat_lt version.serial r.next) r.versions ≡ true
serials_below r lawful =
    let rest = (both_true (has_counts r) _ lawful).1 in
    (both_true _ (list_all (λ version. nat_lt version.serial r.next) r.versions) (both_true (has_versions r) _ rest).0).1

pub bad_below : (r : Record) → is_record r ≡ true → list_all (λ block. nat_lt block r.geometry.blocks) r.bad ≡ true
bad_below r lawful =
    let rest = (both_true (has_counts r) _ lawful).1 in
    let others = (both_true (has_versions r) _ rest).1 in
    (both_true _ (list_all (λ block. nat_lt block r.geometry.blocks) r.bad) (both_true (has_checkpoints r) _ others).1).1

pub name_length : (name : List ℕ) → is_checkpoint_name name ≡ true → length name ≤ 31
name_length name lawful =
    let a = both_true (ltb 0 (length name) && leb (length name) 31) _ lawful in
    leb-true _ _ (both_true (ltb 0 (length name)) (leb (length name) 31) a.0).1
