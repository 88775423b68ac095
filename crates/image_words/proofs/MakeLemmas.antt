-- What is made in a folder of the host, and what of the host stays.
use Rattle.std.proofs.Common.{◌≡◌, ◌∙◌, ◌+◌, ℕ, Option, Some, None, List, [], ◌∷◌, ◌++◌, IsSome, map, take, length, refl, sym, ap, subst, append_assoc}
use Rattle.std.proofs.lemmas.Bool.{true≢false}
use Rattle.std.specs.FinMap.{get}
use Rattle.fs_types.specs.declared.call.Stat.{Stat}
use Rattle.fs_types.specs.declared.call.View.{View}
use Rattle.fs_types.specs.declared.fault.Fault.{Fault}
use Rattle.fs_types.specs.declared.fault.Fault.TheVariants.{ReadFailed, PowerCut, NoMemory}
use Rattle.plain_trees.specs.Contents.{Entry}
use Rattle.plain_trees.specs.Trees.{Tree, bytes_of, bytes_of_file}
use Rattle.flash_model.specs.Device.{Device}
use Rattle.flash_model.specs.declared.flash.Flash.{Ghosts}
use Rattle.history_machine.specs.Machine.{Machine, view_tree, stat_of}
use Rattle.host_interface.specs.Files.{Held, new_name}
use Rattle.host_interface.specs.Folders.{Made, KeepsOutside, KeepsBeside}
use Rattle.undofs.specs.declared.fs.Fs.{Fs}
use Rattle.inquiries.specs.Items.{IsItemOf}
use Rattle.inquiries.specs.Readings.{IsUnchanged, Meets}
use Rattle.inquiries.specs.declared.items.Item.{Item}
use Rattle.inquiries.proofs.Readings.{meets-later}
use Rattle.image_jobs.specs.Failures.{of_refusal}
use Rattle.image_jobs.specs.declared.failure.Failure.{Failure}
use Rattle.script_runs.specs.declared.scripts.Refusal.{Refusal}
use Rattle.image_words.specs.PathCopies.{way_of, made_by, made_of, IsHostFailure, Unmade}

-- ---- what stays

pub keeps-refl : (folder : List ℕ) (a : Held) → KeepsOutside folder a a
keeps-refl folder a = λ name out. refl

pub keeps-trans : (folder : List ℕ) (a b c : Held) → KeepsOutside folder a b → KeepsOutside folder b c → KeepsOutside folder a c
keeps-trans folder a b c first second = λ name out. second name out ∙ first name out

pub keeps_beside : (folder : List ℕ) (a b c : Held) → KeepsOutside (new_name folder) a b → KeepsBeside folder b c → KeepsBeside folder a c
keeps_beside folder a b c first second = λ name out beside. second name out beside ∙ first name beside

-- ---- why something was not made

pub host_unmade : (d e : Device) (failure : Failure) → IsHostFailure failure → Unmade d e failure
host_unmade d e (Failure.Refused (Refusal.Fault fault)) host = absurd host
host_unmade d e failure host = host

pub met_unmade : (d e : Device) (fault : Fault) → Meets d e fault → Unmade d e (of_refusal (Refusal.Fault fault))
met_unmade d e ReadFailed met = met
met_unmade d e PowerCut met = met
met_unmade d e NoMemory met = tt
met_unmade d e _ met = absurd met

module _ {F : Type 0} {flash : Ghosts F} where
  pub unmade_later : (a b c : Fs F flash) (failure : Failure) → IsUnchanged a b → Unmade (flash.device b.flash.now) (flash.device c.flash.now) failure → Unmade (flash.device a.flash.now) (flash.device c.flash.now) failure
  unmade_later a b c (Failure.Refused (Refusal.Fault fault)) first met = meets-later a b c fault first met
  unmade_later a b c failure first unmade = unmade

-- ---- what is made for an item

module _ (t : Tree) (skipped : ℕ) (item : Item) (is : IsItemOf t item) (way : List ℕ) (leads : way ≡ way_of skipped item.path) where
  pub made_folder : (count : ℕ) → item.stat ≡ Stat.Dir count → Made.Folder way ≡ made_of t skipped item
  made_folder count dir = go (get t item.path) refl is.there
    where
      go : (o : Option Entry) → get t item.path ≡ o → IsSome o → Made.Folder way ≡ made_of t skipped item
      go None at some = absurd (true≢false (sym some))
      go (Some Entry.Dir) at some = ap Made.Folder leads ∙ sym (ap (made_by (way_of skipped item.path)) at)
      go (Some (Entry.File bytes)) at some = absurd (let wrong : Stat.File (length bytes) ≡ Stat.Dir count = sym (ap (stat_of t item.path) at) ∙ sym is.stat ∙ dir in cc)

  pub file_there : (size : ℕ) → item.stat ≡ Stat.File size → get t item.path ≡ Some (Entry.File (bytes_of_file t item.path))
  file_there size file = go (get t item.path) refl is.there
    where
      go : (o : Option Entry) → get t item.path ≡ o → IsSome o → get t item.path ≡ Some (Entry.File (bytes_of_file t item.path))
      go None at some = absurd (true≢false (sym some))
      go (Some Entry.Dir) at some = absurd (let wrong : stat_of t item.path (Some Entry.Dir) ≡ Stat.File size = sym (ap (stat_of t item.path) at) ∙ sym is.stat ∙ file in cc)
      go (Some (Entry.File bytes)) at some = at ∙ ap (λ (o : Option Entry). Some (Entry.File (bytes_of o))) (sym at)

  pub made_file : (size : ℕ) → item.stat ≡ Stat.File size → Made.File way (bytes_of_file t item.path) ≡ made_of t skipped item
  made_file size file = ap (λ (w : List ℕ). Made.File w (bytes_of_file t item.path)) leads ∙ sym (ap (made_by (way_of skipped item.path)) (file_there size file))

-- what stands there has the same tree in a machine that is the same
pub item_same : (m n : Machine) (view : View) (item : Item) → n ≡ m → IsItemOf (view_tree m view) item → IsItemOf (view_tree n view) item
item_same m n view item same is = subst (λ (k : Machine). IsItemOf (view_tree k view) item) (sym same) is

-- one thing more
pub made_more : (f : Item → Made) (IsMade : List Made → Type 0) (WasMade : List Made → Type 0) (Before : List Made → Type 0) (items : List Item) (i : ℕ) (item : Item) → take (i + 1) items ≡ take i items ++ item ∷ []
    → ((all : List Made) → Before all → WasMade (all ++ map f (take i items))) → ((all : List Made) → WasMade all → IsMade (all ++ f item ∷ [])) → (all : List Made) → Before all → IsMade (all ++ map f (take (i + 1) items))
made_more f IsMade WasMade Before items i item more first second all before =
    subst IsMade (append_assoc all (map f (take i items)) (f item ∷ []) ∙ ap (λ (xs : List Made). all ++ xs) (sym (ap (map f) more ∙ joined (take i items)))) (second (all ++ map f (take i items)) (first all before))
  where
    joined : (xs : List Item) → map f (xs ++ item ∷ []) ≡ map f xs ++ f item ∷ []
    joined [] = refl
    joined (x ∷ xs) = ap (λ (ys : List Made). f x ∷ ys) (joined xs)
