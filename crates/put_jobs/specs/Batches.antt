-- What is put into an image, of all that stands at a name of the host.
use Rattle.std.specs.Prelude.{◌≡◌, Bool, false, Option, List, map, option_map, vec_items}
use Rattle.fs_types.specs.Names.{Path}
use Rattle.host_interface.specs.Sources.{Found, source_found}
use Rattle.put_lots.specs.declared.kept.Kept.{Kept}
use Rattle.put_jobs.specs.Mirrors.{wants_folder, kept_asked}
use Rattle.put_jobs.specs.Puts.{is_no_folder, left_in}
use Rattle.put_jobs.specs.declared.batch.Batch.{Batch}

-- what accounts for what is left, where anything is removed
abbrev pub kept_in : Batch → Option (List Kept)
kept_in batch = option_map vec_items batch.kept

-- what is put below a path, of all that was found
pub record IsBatch (mirror skips : Bool) (path : Path) (all : List Found) (batch : Batch) : Type 0 where
  pub base : batch.base ≡ path
  pub folder : is_no_folder (wants_folder mirror skips) all ≡ false
  pub kept : kept_in batch ≡ kept_asked mirror all
  pub sources : map source_found batch.sources.items ≡ left_in skips all
