-- The step of entries.
use Rattle.std.proofs.Common.{◌≡◌, ℕ, ◌*◌, ◌≤◌, false, Option, Some, None, Result, Ok, Err, List, [], map, refl, sym, ap, subst, ◌∙◌, arith}
use Rattle.std.proofs.lemmas.Nat.{mul-le}
use Rattle.std.proofs.lemmas.Bool.{true≢false}
use Rattle.std.specs.Prelude.{IfOk, IfErr, unwrap_or}
use Rattle.fs_types.specs.Names.{Name, Path}
use Rattle.fs_types.specs.declared.call.Call.{Call}
use Rattle.fs_types.specs.declared.call.Reply.{Reply}
use Rattle.fs_types.specs.declared.call.Stat.{Stat}
use Rattle.fs_types.specs.declared.call.View.{View}
use Rattle.fs_types.specs.declared.fault.Fault.{Fault}
use Rattle.fs_types.specs.declared.fault.Fault.TheVariants.{Damaged}
use Rattle.plain_trees.specs.Trees.{Tree}
use Rattle.history_machine.specs.Machine.{view_tree, entries_of}
use Rattle.flash_model.specs.Device.{Device}
use Rattle.node_format.specs.Items.{Item}
use Rattle.node_format.specs.declared.place.Place.{Place}
use Rattle.node_format.specs.declared.place.Place.TheVariants.{Dir}
use Rattle.node_store.specs.Faults.{IsReadFault, IsLookFault}
use Rattle.nodes.specs.Bodies.{Blocks}
use Rattle.nodes.specs.Trees.{entries_in, leads, names_of}
use Rattle.nodes.proofs.RootMaps.{map_law}
use Rattle.directory.specs.declared.lookups.Found.{Found}
use Rattle.directory.specs.declared.lookups.Found.TheVariants as found
use Rattle.directory.specs.Lookups.{look_up, is_path_fault}
use Rattle.directory.specs.Places.{places_after, nodes_of_all, AllBegin}
use Rattle.directory.specs.Places as places
use Rattle.directory.proofs.LookupLaws.{found_leads, rooted_leads}
use Rattle.working_state.specs.Looking.{AsksBlocks, AsksFirsts, AsksPages, entry_nodes}
use Rattle.working_state.specs.Moments.{Moment, machine_at, seen_at, IsMountedAt, IsStep, nodes_at, capacity_at, version_tree}
use Rattle.working_state.specs.Steps.{replied, is_cut_answer}
use Rattle.working_state.specs.Worked.{IsLooked, WorkCause}
use Rattle.working_state.proofs.EntryLists.{entries_told, stats_told, all_begin, all_nodes}
use Rattle.working_state.proofs.Listings.{refuse_list}
use Rattle.working_state.proofs.LookNodes.{begins_at}
use Rattle.working_state.proofs.PathCalls.{LooksUp, OnlyReads, found_by, read_refused, read_done}
use Rattle.working_state.proofs.Refusals.{refused_step}
use Rattle.working_state.proofs.Standing.{looked_worked, looked_on}
use Rattle.working_state.proofs.Views.{Shows, view_stands, view_tree_is, view_looks}

pub entries_looks : (a : Moment) (view : View) (path : Path) (from : Option Name) (most root : ℕ) → IsMountedAt a → Shows a.state.history a.state.group view root → LooksUp a (Call.Entries view path from most) root path refuse_list
entries_looks a view path from most root m shows = view_looks a view path (Call.Entries view path from most) refuse_list refl root m shows refl

entries_reads : (a : Moment) (view : View) (path : Path) (from : Option Name) (most : ℕ) → OnlyReads (machine_at a) (Call.Entries view path from most)
entries_reads a view path from most = record { stays = refl; no_version = refl; no_end = refl; no_record = refl }

-- ---- what is asked of the device

-- less than may be asked
pub pages_more : (d e : Device) (few most firsts : ℕ) → few ≤ most → AsksBlocks d few e → AsksPages d most firsts e
pages_more d e few most firsts less asks =
    let within : few * d.geometry.pages ≤ most * d.geometry.pages = mul-le few d.geometry.pages most d.geometry.pages less (omega arith) in
    let asked = asks.most in
    record { most = omega (arith, asked, within) }

-- and then first pages
pub pages_on : (d e f : Device) (some most firsts all : ℕ) → some ≤ most → firsts ≡ all → AsksBlocks d some e → AsksFirsts e firsts f → AsksPages d most all f
pages_on d e f some most firsts all less same asks then =
    let before = (pages_more d e some most 0 less asks).most in
    let after = then.most in
    record { most = omega (arith, before, after, same) }

-- ---- the directory that a view's path leads to

module _ (a : Moment) (view : View) (path : Path) (from : Option Name) (most root block : ℕ) (x : Found) (m : IsMountedAt a) (shows : Shows a.state.history a.state.group view root) (led : look_up (nodes_at a) root path ≡ Ok x) (is : x ≡ found.Dir block) where
  pub begins : (items : List Item) × (entries_in (nodes_at a) block ≡ Some items)
  begins = begins_at (capacity_at a) (nodes_at a) root path x block (view_stands a view root m shows).rooted led is

  dir_led : leads (nodes_at a) (Dir root) path ≡ Some (Dir block)
  dir_led = found_leads (nodes_at a) root path block (rooted_leads (capacity_at a) (nodes_at a) root (view_stands a view root m shows).rooted) (subst (λ z. look_up (nodes_at a) root path ≡ Ok z) is led)

  -- its places, as they were read
  pub read_places : (g : Blocks) (read : List (Name × Place)) → g ≡ nodes_at a → ((items : List Item) → entries_in g block ≡ Some items → read ≡ places_after from most items) → read ≡ places_after from most begins.0
  read_places g read same reads = reads begins.0 (ap (λ (f : Blocks). entries_in f block) same ∙ begins.1)

  pub places_begin : (g : Blocks) (read : List (Name × Place)) → g ≡ nodes_at a → read ≡ places_after from most begins.0 → AllBegin g read
  places_begin g read same reads =
      subst (λ (f : Blocks). AllBegin f read) (sym same)
      (subst (AllBegin (nodes_at a)) (sym reads) (all_begin (capacity_at a) (nodes_at a) root path block begins.0 (view_stands a view root m shows).rooted dir_led begins.1 from most))

  -- the entries that the machine tells are those
  told : entries_of (view_tree (machine_at a) view) path from most ≡ map (places.with_stat (nodes_at a)) (places_after from most begins.0)
  told =
      let rooted = (view_stands a view root m shows).rooted in
      let law = map_law (capacity_at a) (nodes_at a) root rooted in
      ap (λ (t : Tree). entries_of t path from most) (view_tree_is a view root shows)
      ∙ entries_told (version_tree a root) path (nodes_at a) from most begins.0 (law.lists path block dir_led ∙ ap (λ (o : Option (List Item)). names_of (unwrap_or o [])) begins.1)
      (stats_told (capacity_at a) (nodes_at a) root path block begins.0 rooted dir_led begins.1)

  pub nodes_told : (g : Blocks) (read : List (Name × Place)) → g ≡ nodes_at a → read ≡ places_after from most begins.0 → nodes_of_all g read ≡ entry_nodes (entries_of (view_tree (machine_at a) view) path from most)
  nodes_told g read same reads =
      ap (λ (f : Blocks). nodes_of_all f read) same
      ∙ ap (nodes_of_all (nodes_at a)) reads
      ∙ all_nodes (nodes_at a) (places_after from most begins.0) (all_begin (capacity_at a) (nodes_at a) root path block begins.0 (view_stands a view root m shows).rooted dir_led begins.1 from most)
      ∙ ap entry_nodes (sym told)

  -- ---- the step

  pub places_refused : (b c : Moment) (fault : Fault) → IsLooked a b → nodes_at b ≡ nodes_at a → IsLooked b c
      → (fault ≡ Damaged → entries_in (nodes_at b) block ≡ None) → (is_path_fault fault ≡ false → WorkCause (seen_at b) fault (seen_at c)) → IsReadFault fault
      → IsStep a (Call.Entries view path from most) (Err fault) c (is_cut_answer {T = Reply} (Err fault))
  places_refused b c fault l same k damaged why faults =
      refused_step a c (Call.Entries view path from most) fault m (looked_worked a c (looked_on a b c l k))
      (read_refused a (Call.Entries view path from most) root path refuse_list (entries_looks a view path from most root m shows) b c block x fault l same led is damaged why faults)

  pub stats_step : (b c d : Moment) (read : List (Name × Place)) (result : Result (List (Name × Stat)) Fault) → IsLooked a b → IsLooked b c → nodes_at c ≡ nodes_at a → IsLooked c d → read ≡ places_after from most begins.0
      → IfOk result (λ entries. entries ≡ map (places.with_stat (nodes_at c)) read)
      → IfErr result (λ fault. WorkCause (seen_at c) fault (seen_at d)) → IfErr result IsLookFault
      → IsStep a (Call.Entries view path from most) (replied Reply.Entries result) d (is_cut_answer (replied Reply.Entries result))
  stats_step b c d read (Ok entries) l k same n reads stats why faults =
      read_done a d (Call.Entries view path from most) (Reply.Entries entries) m (looked_on a c d (looked_on a b c l k) n) (entries_reads a view path from most)
      (found_by a (Call.Entries view path from most) root path refuse_list (entries_looks a view path from most root m shows) x (found.Dir block) led is)
      (λ space. ap Reply.Entries (told ∙ ap (map (places.with_stat (nodes_at a))) (sym reads) ∙ ap (λ (f : Blocks). map (places.with_stat f) read) (sym same) ∙ sym stats))
  stats_step b c d read (Err fault) l k same n reads stats why faults =
      refused_step a d (Call.Entries view path from most) fault m (looked_worked a d (looked_on a c d (looked_on a b c l k) n))
      (read_refused a (Call.Entries view path from most) root path refuse_list (entries_looks a view path from most root m shows) c d block x fault (looked_on a b c l k) same led is
      (λ damaged. absurd (not_damaged fault faults damaged)) (λ _. why) (look_reads fault faults))
    where
      not_damaged : (fault : Fault) → IsLookFault fault → fault ≡ Damaged → ⊥
      not_damaged Damaged faults same = true≢false (sym faults)
      not_damaged _ faults same = absurd cc

      look_reads : (fault : Fault) → IsLookFault fault → IsReadFault fault
      look_reads Damaged faults = refl
      look_reads _ faults = faults
