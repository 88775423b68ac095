-- What a salvage has found and made: why nothing is saved, and that what is saved is whole.
use Rattle.std.proofs.Common.{◌≡◌, ℕ, ◌≢◌, ◌+◌, ◌-◌, ◌*◌, ◌/◌, ◌%◌, ◌<◌, ◌≤◌, Bool, true, false, List, [], ◌∷◌, ◌++◌, length, map, Option, Some, None, Result, Ok, refl, sym, ap, subst, ◌∙◌, inl, inr, arith}
use Rattle.std.proofs.lemmas.Bool.{true≢false, leb-true, ltb-true, eqb-true, eq-eqb}
use Rattle.std.proofs.lemmas.List.Elements.{All-nil, All-cons, All-head, All-tail, All-append, All-weaker, All-contains}
use Rattle.std.specs.Prelude.{◌&&◌, ◌==◌, All, nat_le, nat_lt, if◌then◌else◌}
use Rattle.std.specs.Option.{option_map}
use Rattle.history_machine.specs.History.{map_roots}
use Rattle.fs_types.specs.Names.{Name}
use Rattle.fs_types.specs.declared.call.Version.{Version}
use Rattle.fs_types.specs.declared.fault.Fault.{Fault}
use Rattle.fs_types.specs.declared.fault.Fault.TheVariants.{BadGeometry, NoRecord, Damaged, ReadFailed, PowerCut, NoMemory}
use Rattle.fs_types.specs.declared.limits.TheConstants.{ANCHORS}
use Rattle.flash_model.specs.declared.geometry.Geometry.{Geometry}
use Rattle.flash_model.specs.Blocks.{page-below, page-is}
use Rattle.flash_model.specs.Device.{Device, block_of}
use Rattle.flash_model.specs.Geometry.{IsGeometry, block_bytes, page_count}
use Rattle.flash_model.specs.Reading.{OnlyReads}
use Rattle.node_format.specs.Headers.{body_header}
use Rattle.node_store.specs.NodePages.{node_of, node_at}
use Rattle.node_store.specs.NodeLaws.{node_of-same}
use Rattle.nodes.specs.Bodies.{Blocks}
use Rattle.nodes.specs.Trees.{IsRoot, root_tree}
use Rattle.record_format.proofs.ItsFlash.{means_its_flash}
use Rattle.record_format.specs.Payloads.{is_record, payload_at, written}
use Rattle.record_format.specs.declared.record.Checkpoint.{Checkpoint}
use Rattle.record_format.specs.declared.record.Record.{Record}
use Rattle.anchors.proofs.Committed.{committed_stays, none_stays, tie_stays}
use Rattle.anchors.proofs.NewestLaws.{found_is_newest}
use Rattle.anchors.specs.declared.best.Found.{Found}
use Rattle.anchors.specs.Laws.{HasNone}
use Rattle.anchors.specs.Newest.{committed_on, NewestCause}
use Rattle.anchors.specs.Parts.{RecordBytes, parts_on, newest_at, newest_on, payload_of}
use Rattle.mounting.specs.Records.{history_of, roots_of, knows_plain_only, trees_of, HasTrees}
use Rattle.mounting.specs.Saved.{record_in, saved_on, saved_trees, IsWholeRecord}
use Rattle.working_state.specs.Seen.{capacity_of, tree_on}
use Rattle.salvages.proofs.LostRoots.{whole_back, whole_on, none_kept, each_kept}
use Rattle.salvages.specs.Causes.{ReadCause}
use Rattle.salvages.specs.Copies.{HasDataOf}
use Rattle.salvages.specs.Kept.{is_lost, roots_in, kept_versions, kept_record}
use Rattle.salvages.specs.Salvages.{HasNoneWhole, SalvageCause}
use Rattle.salvages.specs.Wholes.{IsWhole, AreLost}

-- ---- the newest record

abbrev some_meaning : Result Record Fault → Option (Result Record Fault)
some_meaning x = Some x

meaning_is : (x y : Result Record Fault) → some_meaning x ≡ some_meaning y → x ≡ y
meaning_is x y e = cc

-- what the newest record means is a lawful record of the flash's sizes
pub newest_fits : (d : Device) (r : Record) → committed_on d ≡ Some (Ok r) → (r.geometry ≡ d.geometry) × (is_record r ≡ true)
newest_fits d r is = on (newest_on d.geometry d.pages) is
  where
    on : (o : Option RecordBytes) → option_map (λ (entry : RecordBytes). payload_at d.geometry entry.sequence entry.payload) o ≡ Some (Ok r) → (r.geometry ≡ d.geometry) × (is_record r ≡ true)
    on None e = absurd cc
    on (Some entry) e = means_its_flash d.geometry entry.sequence entry.payload r (meaning_is (payload_at d.geometry entry.sequence entry.payload) (Ok r) e)

meaning_at : Device → Option Found → Option (Result Record Fault)
meaning_at d o = option_map (λ (entry : RecordBytes). payload_at d.geometry entry.sequence entry.payload) (option_map (λ (found : Found). record { sequence = found.head.sequence; payload = payload_of d.geometry (parts_on d.geometry d.pages) found }) o)

-- where no record is valid none is the newest
pub none_committed : (d : Device) → HasNone d.geometry (parts_on d.geometry d.pages) → committed_on d ≡ None
unfolding meaning_at
none_committed d none = ap (meaning_at d) (on (newest_at d.geometry (parts_on d.geometry d.pages)) refl)
  where
    on : (o : Option Found) → newest_at d.geometry (parts_on d.geometry d.pages) ≡ o → o ≡ None
    on None is = refl
    on (Some found) is = let newest = found_is_newest d.geometry (parts_on d.geometry d.pages) found is in absurd (none found.page found.head newest.within newest.valid)

-- ---- why nothing is saved

pub newest_cause : (old new : Device) (fault : Fault) → NewestCause old new fault → SalvageCause old new fault
newest_cause old new Damaged (inl tie) = inl tie
newest_cause old new Damaged (inr damaged) = inr (inl damaged)
newest_cause old new BadGeometry why = inr why
newest_cause old new ReadFailed why = why
newest_cause old new PowerCut why = why
newest_cause old new NoMemory why = tt
newest_cause old new _ why = absurd why

pub read_cause : (old mid new : Device) (fault : Fault) → OnlyReads old mid → ReadCause mid new fault → SalvageCause old new fault
read_cause old mid new ReadFailed reads why = let l = reads.failed_reads in omega arith
read_cause old mid new PowerCut reads why = why
read_cause old mid new NoMemory reads why = tt
read_cause old mid new _ reads why = absurd why

-- what is lost is so before reads
pub lost_back : (plain : Bool) (d e : Device) (roots lost : List ℕ) → IsGeometry d.geometry → OnlyReads d e → AreLost plain e roots lost → AreLost plain d roots lost
lost_back plain d e roots lost lawful reads are = record {
  broken = All-weaker (λ (root : ℕ). IsWhole plain e root → ⊥) (λ (root : ℕ). IsWhole plain d root → ⊥) (λ root none whole. none (whole_on plain d e root lawful reads whole)) lost are.broken;
  others = All-weaker (λ (root : ℕ). is_lost lost root ≡ false → IsWhole plain e root) (λ (root : ℕ). is_lost lost root ≡ false → IsWhole plain d root)
      (λ root whole none. whole_back plain d e root lawful reads (whole none)) roots are.others;
}

pub has_none_whole : (d : Device) (r : Record) (lost : List ℕ) → committed_on d ≡ Some (Ok r) → AreLost (knows_plain_only r) d (roots_in r) lost → kept_versions lost r.versions ≡ [] → HasNoneWhole d
has_none_whole d r lost holds are none = record {
  newest = r;
  holds = holds;
  none = none_kept (λ (v : Version ℕ). v.root) lost (λ root. IsWhole (knows_plain_only r) d root → ⊥) are.broken r.versions none;
}

none_whole_back : (d e : Device) → IsGeometry d.geometry → OnlyReads d e → HasNoneWhole e → HasNoneWhole d
none_whole_back d e lawful reads has = record {
  newest = has.newest;
  holds = sym (committed_stays d e reads) ∙ has.holds;
  none = All-weaker (λ (v : Version ℕ). IsWhole (knows_plain_only has.newest) e v.root → ⊥) (λ (v : Version ℕ). IsWhole (knows_plain_only has.newest) d v.root → ⊥)
      (λ v none whole. none (whole_on (knows_plain_only has.newest) d e v.root lawful reads whole)) has.newest.versions has.none;
}

pub cause_back : (old mid new : Device) (fault : Fault) → IsGeometry old.geometry → OnlyReads old mid → SalvageCause mid new fault → SalvageCause old new fault
cause_back old mid new BadGeometry lawful reads (inl none) = absurd (none.0 (subst IsGeometry (sym reads.geometry) lawful))
cause_back old mid new BadGeometry lawful reads (inr bad) = inr (sym (committed_stays old mid reads) ∙ bad)
cause_back old mid new NoRecord lawful reads why = (none_stays old mid reads why.0, sym (committed_stays old mid reads) ∙ why.1)
cause_back old mid new Damaged lawful reads (inl tie) = inl (tie_stays old mid reads tie)
cause_back old mid new Damaged lawful reads (inr (inl damaged)) = inr (inl (sym (committed_stays old mid reads) ∙ damaged))
cause_back old mid new Damaged lawful reads (inr (inr none)) = inr (inr (none_whole_back old mid lawful reads none))
cause_back old mid new ReadFailed lawful reads why = let l = reads.failed_reads in omega arith
cause_back old mid new PowerCut lawful reads why = why
cause_back old mid new NoMemory lawful reads why = tt
cause_back old mid new _ lawful reads why = absurd why

-- ---- what is saved

all_left : (P : ℕ → Type 0) (xs ys : List ℕ) → All P (xs ++ ys) → All P xs
all_left P [] ys all = All-nil P
all_left P (x ∷ xs) ys all = All-cons P x xs (All-head P x (xs ++ ys) all) (all_left P xs ys (All-tail P x (xs ++ ys) all))

all_right : (P : ℕ → Type 0) (xs ys : List ℕ) → All P (xs ++ ys) → All P ys
all_right P [] ys all = all
all_right P (x ∷ xs) ys all = all_right P xs ys (All-tail P x (xs ++ ys) all)

roots_again : (cs : List Checkpoint) → map (λ (e : Name × ℕ). e.1) (map (λ (c : Checkpoint). (c.name, c.root)) cs) ≡ map (λ (c : Checkpoint). c.root) cs
roots_again [] = refl
roots_again (c ∷ cs) = ap (λ (rest : List ℕ). c.root ∷ rest) (roots_again cs)

record_is : (r s : Record) (o : Option Record) → o ≡ Some r → o ≡ Some s → r ≡ s
record_is r s o a b = let both = sym a ∙ b in cc

module _ (d e : Device) (lawful : IsGeometry d.geometry) (geometry : e.geometry ≡ d.geometry) (has : HasDataOf d e) where
  in_range : (b p : ℕ) → b < d.geometry.blocks → block_of d p ≡ b → p < page_count d.geometry
  in_range b p below own =
      let some : 1 ≤ d.geometry.pages = lawful.some_pages in
      let place : block_of d p < d.geometry.blocks = subst (λ (n : ℕ). n < d.geometry.blocks) (sym own) below in
      let inside : block_of d p * d.geometry.pages + p % d.geometry.pages < page_count d.geometry = page-below d.geometry (block_of d p) (p % d.geometry.pages) place (omega arith) in
      let is : block_of d p * d.geometry.pages + p % d.geometry.pages ≡ p = page-is d p in
      omega arith

  node_is : (b : ℕ) → node_of e b ≡ node_of d b
  node_is b = on (nat_le ANCHORS b) (nat_lt b d.geometry.blocks) refl refl
    where
      past : (x y : Bool) → nat_le ANCHORS b ≡ x → nat_lt b d.geometry.blocks ≡ y → (x && y) ≡ false → node_of e b ≡ node_of d b
      past x y low high none =
          ap (λ (g : Geometry). if nat_le ANCHORS b && nat_lt b g.blocks then node_at g e.pages (b * g.pages) else None) geometry
          ∙ (λ i. if low i && high i then node_at d.geometry e.pages (b * d.geometry.pages) else None)
          ∙ ap (λ (z : Bool). if z then node_at d.geometry e.pages (b * d.geometry.pages) else None) none
          ∙ sym ((λ i. if low i && high i then node_at d.geometry d.pages (b * d.geometry.pages) else None) ∙ ap (λ (z : Bool). if z then node_at d.geometry d.pages (b * d.geometry.pages) else None) none)

      on : (x y : Bool) → nat_le ANCHORS b ≡ x → nat_lt b d.geometry.blocks ≡ y → node_of e b ≡ node_of d b
      on true true low high =
          let least : ANCHORS ≤ b = leb-true ANCHORS b low in
          let below : b < d.geometry.blocks = ltb-true b d.geometry.blocks high in
          node_of-same d e b lawful geometry (λ p own. has p (let o : block_of d p ≡ b = own in omega (arith, o, least)) (in_range b p below own))
      on true false low high = past true false low high refl
      on false y low high = past false y low high refl

  pub saved_nodes : node_of e ≡ node_of d
  saved_nodes = λ i b. node_is b i

  same_room : capacity_of e ≡ capacity_of d
  same_room = ap (λ (g : Geometry). block_bytes g - body_header) geometry

  saved_tree : tree_on e ≡ tree_on d
  saved_tree = λ i root. root_tree (same_room i) (saved_nodes i) root

  module _ (r : Record) (lost : List ℕ) (are : AreLost (knows_plain_only r) d (roots_in r) lost) (saved : committed_on e ≡ Some (Ok (kept_record lost r))) where
    is_saved : saved_on e ≡ Some (kept_record lost r)
    is_saved = ap record_in saved

    pub trees_saved : saved_trees e ≡ Some (trees_of d (kept_record lost r))
    trees_saved = ap (option_map (trees_of e)) is_saved ∙ (λ i. Some (map_roots (saved_tree i) (history_of (kept_record lost r))))

    IsRootThere : ℕ → Type 0
    IsRootThere root = IsRoot (capacity_of d) (node_of d) root

    whole_root : (root : ℕ) → IsWhole (knows_plain_only r) d root → IsRoot (capacity_of d) (node_of d) root
    whole_root root whole = whole.0 root (0, omega arith, refl)

    there : All (λ root. is_lost lost root ≡ false → IsRoot (capacity_of d) (node_of d) root) (roots_in r)
    there = All-weaker (λ (root : ℕ). is_lost lost root ≡ false → IsWhole (knows_plain_only r) d root) (λ (root : ℕ). is_lost lost root ≡ false → IsRoot (capacity_of d) (node_of d) root)
        (λ root whole none. whole_root root (whole none)) (roots_in r) are.others

    all_rooted : All (λ root. IsRoot (capacity_of d) (node_of d) root) (roots_of (history_of (kept_record lost r)))
    all_rooted =
        let P : ℕ → Type 0 = λ root. IsRoot (capacity_of d) (node_of d) root in
        let Q : ℕ → Type 0 = λ root. is_lost lost root ≡ false → P root in
        let versions : List ℕ = map (λ (v : Version ℕ). v.root) r.versions in
        let checkpoints : List ℕ = map (λ (c : Checkpoint). c.root) r.checkpoints in
        let k = kept_record lost r in
        All-append P (map (λ (v : Version ℕ). v.root) k.versions) (map (λ (e : Name × ℕ). e.1) (map (λ (c : Checkpoint). (c.name, c.root)) k.checkpoints))
        (each_kept (λ (v : Version ℕ). v.root) lost P r.versions (all_left Q versions checkpoints there))
        (subst (All P) (sym (roots_again k.checkpoints)) (each_kept (λ (c : Checkpoint). c.root) lost P r.checkpoints (all_right Q versions checkpoints there)))

    has_trees : HasTrees e (kept_record lost r)
    has_trees = (
      λ root named.
          let rooted : IsRoot (capacity_of d) (node_of d) root = All-contains (λ root. IsRoot (capacity_of d) (node_of d) root) (roots_of (history_of (kept_record lost r))) root all_rooted named in
          subst (λ (x : ℕ × Blocks). IsRoot x.0 x.1 root) (λ i. (sym same_room i, sym saved_nodes i)) rooted,
      λ plain. absurd (true≢false (sym plain)),
    )

    pub whole_saved : IsWholeRecord e
    whole_saved s is = subst (HasTrees e) (record_is (kept_record lost r) s (saved_on e) is_saved is) has_trees

-- what is shown to be empty has no version, and what is not has some
pub no_versions : (shown versions : List (Version ℕ)) (b : Bool) → shown ≡ versions → b ≡ (length shown == 0) → b ≡ true → versions ≡ []
no_versions shown [] b same is empty = refl
no_versions shown (v ∷ vs) b same is empty =
    let count : length shown ≡ 0 = eqb-true (length shown) 0 (sym is ∙ empty) in
    let more : length shown ≡ length (v ∷ vs) = ap length same in
    absurd (omega arith)

pub some_versions : (shown versions : List (Version ℕ)) (b : Bool) → shown ≡ versions → b ≡ (length shown == 0) → b ≡ false → versions ≢ []
some_versions shown versions b same is some none =
    let count : length shown ≡ 0 = ap length (same ∙ none) in
    true≢false (sym (eq-eqb (length shown) 0 count) ∙ sym is ∙ some)

-- the data pages of a flash are on the one that its copy became
pub data_saved : (d mid copy e : Device) → copy.geometry ≡ d.geometry → OnlyReads d mid → HasDataOf mid copy → ((p : ℕ) → ANCHORS ≤ block_of copy p → e.pages p ≡ copy.pages p) → HasDataOf d e
data_saved d mid copy e sizes reads copied stays p past below =
    stays p (subst (λ (g : Geometry). ANCHORS ≤ p / g.pages) (sym sizes) past)
    ∙ copied p (subst (λ (g : Geometry). ANCHORS ≤ p / g.pages) (sym reads.geometry) past) (subst (λ (g : Geometry). p < page_count g) (sym reads.geometry) below)
    ∙ reads.pages p

pub same_saved : (e : Device) (kept made : Record) → made ≡ kept → written kept [] ≡ kept → committed_on e ≡ Some (Ok (written made [])) → committed_on e ≡ Some (Ok kept)
same_saved e kept made same is saved = saved ∙ ap (λ (k : Record). some_meaning (Ok (written k []))) same ∙ ap (λ (k : Record). some_meaning (Ok k)) is
