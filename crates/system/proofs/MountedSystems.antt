-- What a mount makes is a system.
use Rattle.std.proofs.Common.{◌≡◌, ℕ, ◌<◌, Bool, true, false, ◌||◌, Option, Some, None, List, [], ◌∷◌, refl, sym, ap, subst, ◌∙◌, nat_eq}
use Rattle.std.proofs.lemmas.Bool.{true≢false, ltb-true, eqb-true}
use Rattle.std.specs.Prelude.{is_some, IfSome, Contains, nat_lt}
use Rattle.std.specs.FinSet as set
use Rattle.std.specs.List.{list_all, list_any}
use Rattle.std.specs.Ordering.{nat_cmp}
use Rattle.history_machine.specs.History.{Past}
use Rattle.flash_model.specs.declared.geometry.Geometry.{Geometry}
use Rattle.flash_model.specs.Device.{Device}
use Rattle.flash_model.specs.Reading.{OnlyReads}
use Rattle.block_ring.specs.BlockSet.{BlockSet}
use Rattle.reclaim.specs.Passes.{Pass}
use Rattle.record_format.specs.declared.record.Record.{Record}
use Rattle.record_format.specs.Payloads.{is_record, has_counts, has_versions, has_checkpoints, numbers_ascend}
use Rattle.record_format.proofs.LawfulRecords.{both_true}
use Rattle.anchors.specs.Parts.{newest_on}
use Rattle.working_state.specs.OpenBodies.{nothing_known, KnowsBelow}
use Rattle.working_state.specs.Roots.{HasRoot}
use Rattle.working_state.specs.declared.known_bodies.KnownBodies.{KnownBodies}
use Rattle.working_state.proofs.KeptBodies.{knows_nothing}
use Rattle.mounting.specs.Records.{history_of, roots_of}
use Rattle.system.specs.Mounts.{IsMountOf}
use Rattle.mounting.specs.Saved.{record_in, saved_on}
use Rattle.system.specs.Systems.{IsSystem, IsRunning}
use Rattle.system.specs.declared.systems.System.{System}
use Rattle.system.proofs.AfterCommits.{known}
use Rattle.system.proofs.Committed.{same_saved}
use Rattle.system.proofs.Measured.{of_history}
use Rattle.system.proofs.Mounting.{newest_fits}

-- a number of a list that is below n
below : (n q : ℕ) (bs : List ℕ) → list_any (λ y. nat_eq y q) bs ≡ true → list_all (λ block. nat_lt block n) bs ≡ true → q < n
below n q [] any all = absurd (true≢false (sym any))
below n q (b ∷ bs) any all = on (nat_eq b q) refl any (λ others. below n q bs others parts.1)
  where
    parts : (nat_lt b n ≡ true) × (list_all (λ block. nat_lt block n) bs ≡ true)
    parts = both_true (nat_lt b n) (list_all (λ block. nat_lt block n) bs) all

    on : (x : Bool) → nat_eq b q ≡ x → (x || list_any (λ y. nat_eq y q) bs) ≡ true → (list_any (λ y. nat_eq y q) bs ≡ true → q < n) → q < n
    on true is one rest = subst (λ (y : ℕ). y < n) (eqb-true b q is) (ltb-true b n parts.0)
    on false is others rest = rest others

some_record : (a b : Record) → Some a ≡ Some b → a ≡ b
some_record a b e = cc

pub mounted_system : (d e : Device) (m : System) → OnlyReads d e → IsMountOf d e m → m.record_roots.items ≡ roots_of m.state.history → m.pass ≡ None → m.bodies ≡ nothing_known → IsSystem e m
mounted_system d e m reads mount listing no_pass fresh = record {
  mounted = mount.loaded.mounted;
  bodies = λ root is. subst (λ (bodies : KnownBodies). KnowsBelow e root m.state.files bodies) (sym fresh) (knows_nothing e root m.state.files);
  prepared = ap (λ (p : BlockSet). p.blocks) mount.prepared ∙ sym mount.loaded.mounted.ring_blocks;
  saved = λ on. ap is_some saved;
  stands = λ on r is root has. mount.loaded.mounted.roots root (has_root (subst (λ (x : Record). Contains (roots_of (history_of x)) root) (some_record r mount.newest (sym is ∙ saved)) has));
  roots = λ on r is. listing ∙ ap roots_of mount.loaded.history ∙ ap (λ (x : Record). roots_of (history_of x)) (some_record mount.newest r (sym saved ∙ is));
  passing = λ on. subst (λ (o : Option Pass). IfSome o (IsRunning e m)) (sym no_pass) tt;
  known = λ on. known e m.state.storage.bad m.anchors mount.remembers;
  listed = λ b bad unused. listed b bad;
}
  where
    saved : saved_on e ≡ Some mount.newest
    saved = same_saved d e reads.geometry (λ i. newest_on d.geometry (λ p. reads.pages p i)) ∙ ap record_in mount.holds

    has_root : {root : ℕ} → Contains (roots_of (history_of mount.newest)) root → HasRoot m.state root
    has_root {root} has =
        of_history m.state root
        (subst (λ (h : Past ℕ). Contains (roots_of h) root) (sym mount.loaded.history) has)

    fits : (mount.newest.geometry ≡ d.geometry) × (is_record mount.newest ≡ true)
    fits = newest_fits d mount.newest mount.holds

    in_order : list_all (λ block. nat_lt block mount.newest.geometry.blocks) mount.newest.bad ≡ true
    in_order =
        let r = mount.newest in
        let rest = (both_true (has_counts r) _ fits.1).1 in
        let others = (both_true (has_versions r) _ rest).1 in
        let bad = (both_true (has_checkpoints r) _ others).1 in
        (both_true (numbers_ascend 0 r.bad) _ bad).1

    listed : (b : ℕ) → set.contains m.state.storage.bad b ≡ true → b < e.geometry.blocks
    listed b bad =
        let there = below mount.newest.geometry.blocks b mount.newest.bad
        (sym (set.contains-from_list_nat mount.newest.bad b) ∙ ap (λ (s : set.FinSet nat_cmp). set.contains s b) (sym mount.loaded.bad) ∙ bad) in_order in
        subst (λ (g : Geometry). b < g.blocks) (fits.0 ∙ sym reads.geometry) there
