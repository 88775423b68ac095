-- Each kept version and each checkpoint has a line, and nothing else has one.
use Rattle.std.proofs.Common.{◌≡◌, ◌∙◌, ◌+◌, ◌<◌, ℕ, zero, suc, Bool, cond, Option, Some, None, List, [], ◌∷◌, ◌++◌, length, get_or, map, refl, sym, ap, subst, arith, zero-add}
use Rattle.std.proofs.lemmas.Bool.{eq-eqb, ne_eqb, lt-ltb}
use Rattle.std.proofs.lemmas.List.{length-map}
use Rattle.std.proofs.lemmas.Option.{slice_get-map, slice_get-get_or}
use Rattle.std.specs.Prelude.{AllPairs, ◌==◌, not, nat_lt, slice_get, unwrap_or, count_by, position}
use Rattle.std.specs.BTreeMap.{is_at}
use Rattle.std.specs.Cmp.{tied_itself}
use Rattle.std.specs.List.{flat_map, enumerate_from, zip, position_or_len}
use Rattle.std.specs.Map.{lookup}
use Rattle.std.specs.Option.{option_map, option_and_then}
use Rattle.std.specs.Ordering.{is_eq, ordering_reverse}
use Rattle.std.specs.declared.cmp.Ordering.{Ordering}
use Rattle.std.specs.declared.cmp.Ordering.TheVariants.{Less}
use Rattle.fs_types.specs.Names.{Name, name_cmp}
use Rattle.fs_types.specs.declared.call.Version.{Version}
use Rattle.fs_types.proofs.Orders.{names_total}
use Rattle.history_machine.specs.Machine.{Machine, IsMachine}
use Rattle.plain_trees.specs.Trees.{Tree, bare}
use Rattle.plain_trees.proofs.Beneath.{None≢Some, same_Some}
use Rattle.system.specs.declared.version_space.HistorySpace.{HistorySpace}
use Rattle.system.specs.declared.version_space.VersionSpace.{VersionSpace}
use Rattle.working_state.specs.Seen.{machine_on}
use Rattle.inquiries.specs.Versions.{checkpoint_line, kept_serials, kept_names, versions_lines}
use Rattle.program_laws.specs.VersionsLaw.{ToldVersion, told_line, TellsVersions, VersionsLaw, KeptTreesLaw}
use Rattle.program_laws.proofs.Pairs.{AllPairs-tail}
use Rattle.program_laws.proofs.Rows.{flat_map-map, AllPairs-from_map, AllPairs-to_map, pairs_from_sorted, zip-firsts, zip-seconds, length-zip, enumerate-map, enumerate-place, map-map, count_by-map, place_once}

-- ---- the lines

module _ (m : Machine) (is : IsMachine m) (space : HistorySpace) (versions_long : length space.versions ≡ length m.history.versions) (checkpoints_long : length space.checkpoints ≡ length m.history.checkpoints) where
  abbrev pairs : List (ℕ × VersionSpace)
  pairs = zip (kept_serials m) space.versions

  abbrev rows : List (ℕ × (ℕ × VersionSpace))
  rows = enumerate_from 0 pairs

  abbrev row_told : ℕ × (ℕ × VersionSpace) → ToldVersion
  row_told row = record { serial = row.1.0; kept = row.1.1; is_present = row.0 == m.history.cursor }

  abbrev told : List ToldVersion
  told = map row_told rows

  abbrev named : List (Name × ℕ)
  named = zip (kept_names m) space.checkpoints

  many : length (kept_serials m) ≡ length space.versions
  many = length-map m.history.versions (λ (v : Version Tree). v.serial) ∙ sym versions_long

  many_named : length (kept_names m) ≡ length space.checkpoints
  many_named = length-map m.history.checkpoints (λ (e : Name × Tree). e.0) ∙ sym checkpoints_long

  serials : map (λ (line : ToldVersion). line.serial) told ≡ kept_serials m
  serials = map-map (λ (line : ToldVersion). line.serial) row_told rows ∙ enumerate-map (λ (pair : ℕ × VersionSpace). pair.0) 0 pairs ∙ zip-firsts (kept_serials m) space.versions many

  kept : map (λ (line : ToldVersion). line.kept) told ≡ space.versions
  kept = map-map (λ (line : ToldVersion). line.kept) row_told rows ∙ enumerate-map (λ (pair : ℕ × VersionSpace). pair.1) 0 pairs ∙ zip-seconds (kept_serials m) space.versions many

  oldest_first : AllPairs (λ first second. first.serial < second.serial) told
  oldest_first =
      AllPairs-from_map (λ (n k : ℕ). n < k) (λ (line : ToldVersion). line.serial) told
      (subst (AllPairs (λ (n k : ℕ). n < k)) (sym serials) (AllPairs-to_map (λ (n k : ℕ). n < k) (λ (v : Version Tree). v.serial) m.history.versions is.lawful.ascending))

  names : map (λ (line : Name × ℕ). line.0) named ≡ kept_names m
  names = zip-firsts (kept_names m) space.checkpoints many_named

  byte_order : AllPairs (λ first second. name_cmp first.0 second.0 ≡ Less) named
  byte_order =
      AllPairs-from_map (λ (n k : Name). name_cmp n k ≡ Less) (λ (line : Name × ℕ). line.0) named
      (subst (AllPairs (λ (n k : Name). name_cmp n k ≡ Less)) (sym names) (pairs_from_sorted name_cmp (kept_names m) is.named))

  present : (place : ℕ) (line : ToldVersion) → slice_get told place ≡ Some line → line.is_present ≡ (place == m.history.cursor)
  present place line at = go (slice_get rows place) refl (sym (slice_get-map row_told rows place) ∙ at)
    where
      go : (o : Option (ℕ × (ℕ × VersionSpace))) → slice_get rows place ≡ o → option_map row_told o ≡ Some line → line.is_present ≡ (place == m.history.cursor)
      go None here e = absurd (None≢Some e)
      go (Some row) here e =
          let there : row.0 ≡ place = enumerate-place 0 pairs place row here ∙ zero-add place in
          sym (ap (λ (l : ToldVersion). l.is_present) (same_Some e)) ∙ ap (λ (k : ℕ). k == m.history.cursor) there

  one_present : count_by (λ (line : ToldVersion). line.is_present) told ≡ 1
  one_present =
      count_by-map (λ (line : ToldVersion). line.is_present) row_told rows
      ∙ place_once m.history.cursor 0 pairs (omega arith) (let within = is.lawful.cursor_in in let long = length-zip (kept_serials m) space.versions many in omega (arith, within, long, many, versions_long))

  tells : TellsVersions m space (versions_lines m space)
  tells = record {
    versions = told;
    checkpoints = named;
    lines = ap (λ (text : List ℕ). text ++ flat_map (checkpoint_line m) named) (sym (flat_map-map (told_line m) row_told rows));
    serials = serials;
    names = names;
    oldest_first = oldest_first;
    byte_order = byte_order;
    kept = kept;
    alone = zip-seconds (kept_names m) space.checkpoints many_named;
    present = present;
    one_present = one_present;
  }

pub versions_law : VersionsLaw
versions_law d s text is lines =
    let m = machine_on d s in (
      lines.space,
      lines.kept,
      subst (TellsVersions m lines.space) (sym lines.lines)
          (tells m is lines.space
          (lines.kept.all ∙ sym (length-map s.history.versions (λ v. record { serial = v.serial; root = _ })))
          (lines.kept.all_checkpoints ∙ sym (length-map s.history.checkpoints (λ e. (e.0, _))))),
    )

-- ---- the trees

-- the first version with the serial of one is that one
serial_place : (vs : List (Version Tree)) (k : ℕ) (d : Version Tree) → AllPairs (λ v w. v.serial < w.serial) vs → k < length vs → position_or_len (λ (v : Version Tree). v.serial == (get_or vs k d).serial) vs ≡ k
serial_place [] k d ascending within = absurd (omega (arith, within))
serial_place (w ∷ ws) zero d ascending within = ap (λ (b : Bool). cond (not b) (1 + (position_or_len (λ (v : Version Tree). v.serial == w.serial) ws)) 0) (eq-eqb w.serial w.serial refl)
serial_place (w ∷ ws) (suc k) d ascending within =
    let least : w.serial < (get_or ws k d).serial = ascending 0 (suc k) d (omega arith) within in
    ap (λ (b : Bool). cond (not b) (1 + (position_or_len (λ (v : Version Tree). v.serial == (get_or ws k d).serial) ws)) 0) (ne_eqb w.serial (get_or ws k d).serial (λ same. omega (arith, same, least)))
    ∙ (let rest = serial_place ws k d (AllPairs-tail (λ v w. v.serial < w.serial) w ws ascending) (omega (arith, within)) in omega (arith, rest))

version_shown : (vs : List (Version Tree)) (k : ℕ) (d : Version Tree) → AllPairs (λ v w. v.serial < w.serial) vs → k < length vs
    → unwrap_or (option_map (λ (v : Version Tree). v.root) (option_and_then (slice_get vs) (position (λ v. v.serial == (get_or vs k d).serial) vs))) bare ≡ (get_or vs k d).root
version_shown vs k d ascending within =
    let place = serial_place vs k d ascending within in
    let found : position (λ (v : Version Tree). v.serial == (get_or vs k d).serial) vs ≡ Some k =
    ap (λ (n : ℕ). cond (nat_lt n (length vs)) (Some n) None) place ∙ ap (λ (b : Bool). cond b (Some k) None) (lt-ltb k (length vs) within) in
    ap (λ (o : Option ℕ). unwrap_or (option_map (λ (v : Version Tree). v.root) (option_and_then (slice_get vs) o)) bare) found
    ∙ ap (λ (o : Option (Version Tree)). unwrap_or (option_map (λ (v : Version Tree). v.root) o) bare) (slice_get-get_or vs k d within)

-- the checkpoint with the name of one is that one
name_found : (es : List (Name × Tree)) (k : ℕ) (d : Name × Tree) → AllPairs (λ e f. name_cmp e.0 f.0 ≡ Less) es → k < length es → lookup (is_at (name_cmp (get_or es k d).0)) es ≡ Some (get_or es k d).1
name_found [] k d ascending within = absurd (omega (arith, within))
name_found (e ∷ es) zero d ascending within = ap (λ (o : Ordering). cond (is_eq o) (Some e.1) (lookup (is_at (name_cmp e.0)) es)) (tied_itself names_total e.0)
name_found (e ∷ es) (suc k) d ascending within =
    let name : Name = (get_or es k d).0 in
    let less : name_cmp e.0 name ≡ Less = ascending 0 (suc k) d (omega arith) within in
    ap (λ (o : Ordering). cond (is_eq o) (Some e.1) (lookup (is_at (name_cmp name)) es)) (names_total.antisymm name e.0 ∙ ap ordering_reverse less)
    ∙ name_found es k d (AllPairs-tail (λ e f. name_cmp e.0 f.0 ≡ Less) e es ascending) (omega (arith, within))

pub kept_trees_law : KeptTreesLaw
kept_trees_law m is = record {
  versions = λ k d within. version_shown m.history.versions k d is.lawful.ascending within;
  checkpoints = λ k d within.
      ap (λ (o : Option Tree). unwrap_or o bare)
      (name_found m.history.checkpoints k d (AllPairs-from_map (λ (n l : Name). name_cmp n l ≡ Less) (λ (e : Name × Tree). e.0) m.history.checkpoints (pairs_from_sorted name_cmp (kept_names m) is.named)) within);
}
