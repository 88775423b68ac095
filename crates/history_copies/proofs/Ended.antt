-- The end of a copy: what was made beside it is forgotten, and the present version is chosen.
use Rattle.std.proofs.Common.{◌≡◌, ◌∙◌, ℕ, ◌+◌, ◌-◌, ◌<◌, ◌≤◌, Option, List, ◌++◌, get_or, length, map, take, drop, sym, ap, arith, length-append, length-drop}
use Rattle.std.proofs.lemmas.List.{drop-map, get_or-drop, length-map, length-take, map-append, take-map}
use Rattle.std.specs.Prelude.{min, unwrap_or}
use Rattle.fs_types.specs.declared.call.Version.{Version}
use Rattle.plain_trees.specs.Trees.{Tree}
use Rattle.history_machine.specs.History.{Past, IsLawful, forgotten, gone_to}
use Rattle.history_machine.specs.Machine.{mounted}
use Rattle.history_copies.specs.Copies.{first_kept, others_kept, kept_versions, roots_in}
use Rattle.history_copies.specs.Laws.{last_of, IsBuilt}
use Rattle.history_copies.proofs.Built.{build_law, last_all}
use Rattle.history_copies.proofs.Seen.{version_found}

-- how many versions are copied
kept_count : (limit : ℕ) (h : Past Tree) → length (kept_versions limit h) ≡ min 1 (length h.versions - first_kept limit h) + (length h.versions - others_kept limit h)
kept_count limit h =
    let oldest : length (take 1 (drop (first_kept limit h) h.versions)) ≡ min 1 (length h.versions - first_kept limit h) =
    length-take 1 (drop (first_kept limit h) h.versions) ∙ ap (min 1) (length-drop (first_kept limit h) h.versions) in
    length-append (take 1 (drop (first_kept limit h) h.versions)) (drop (others_kept limit h) h.versions) ∙ (λ i. oldest i + length-drop (others_kept limit h) h.versions i)

-- the place of the present version is among them
pub place_within : (limit : ℕ) (h : Past Tree) → 2 ≤ limit → IsLawful h → h.cursor - first_kept limit h < length (kept_versions limit h)
place_within limit h some lawful =
    let within : h.cursor < length h.versions = lawful.cursor_in in
    let count = kept_count limit h in
    omega (arith, within, count, some)

pub few_kept : (limit : ℕ) (h : Past Tree) → 2 ≤ limit → length (kept_versions limit h) ≤ limit
few_kept limit h some = let count = kept_count limit h in omega (arith, count, some)

-- the serials that are copied are those of the versions that are
pub kept_serials_of : (limit : ℕ) (h : Past Tree) → take 1 (drop (first_kept limit h) (map (λ v. v.serial) h.versions)) ++ drop (others_kept limit h) (map (λ v. v.serial) h.versions) ≡ map (λ v. v.serial) (kept_versions limit h)
kept_serials_of limit h =
    let oldest = ap (take 1) (drop-map (λ (v : Version Tree). v.serial) (first_kept limit h) h.versions) ∙ take-map (λ (v : Version Tree). v.serial) 1 (drop (first_kept limit h) h.versions) in
    (λ i. oldest i ++ drop-map (λ (v : Version Tree). v.serial) (others_kept limit h) h.versions i) ∙ sym (map-append (λ (v : Version Tree). v.serial) (take 1 (drop (first_kept limit h) h.versions)) (drop (others_kept limit h) h.versions))

module _ (limit : ℕ) (before trees : List Tree) (h : Past Tree) (lawful : IsLawful h) (built : IsBuilt limit (before ++ trees) h) (few : length trees ≤ limit) where
  -- there are as many versions at least
  pub enough : length trees ≤ length h.versions
  enough =
      let count : length h.versions ≡ length (last_of limit (before ++ trees)) = sym (length-map h.versions (λ (v : Version Tree). v.root)) ∙ ap length built.trees in
      let size = length-drop (length (before ++ trees) - limit) (before ++ trees) in
      let whole = length-append before trees in
      omega (arith, count, size, whole, few)

  -- where the others are forgotten, the trees are left
  pub left_trees : 1 ≤ length trees → roots_in (forgotten h (length h.versions - length trees)).versions ≡ trees
  left_trees some = (build_law.forgets limit before trees h built some few).trees ∙ last_all limit trees few

  -- a serial of these gives the place
  pub left_place : (c : ℕ) (d : Version Tree) → c < length trees → IsLawful (forgotten h (length h.versions - length trees))
      → (gone_to (forgotten h (length h.versions - length trees)) (get_or h.versions (length h.versions - length trees + c) d).serial).cursor ≡ c
  left_place c d within still =
      let k : ℕ = length h.versions - length trees in
      let inside : c < length (drop k h.versions) = omega (arith, enough, length-drop k h.versions) in
      ap (λ (v : Version Tree). (gone_to (forgotten h k) v.serial).cursor) (sym (get_or-drop k h.versions c d))
      ∙ ap (λ (o : Option ℕ). unwrap_or o (forgotten h k).cursor) (version_found (mounted (forgotten h k)) still c d inside)
