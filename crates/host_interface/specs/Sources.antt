-- What stands at a name of the host and below it.
use Rattle.std.specs.Prelude.{ℕ, Option, List, string_bytes}
use Rattle.host_interface.specs.declared.source.Source.{Source}
use Rattle.host_interface.specs.declared.source.SourceKind.{SourceKind}

-- a name of the host, the path to it from the name that was asked for, and what stands there
pub record Found : Type 0 where
  pub name : List ℕ
  pub way : List ℕ
  pub kind : SourceKind

abbrev pub source_found : Source → Found
source_found source = record { name = string_bytes source.name; way = string_bytes source.way; kind = source.kind }

-- all that stands at each name, for the image into which it is to be put, where it is known
abbrev pub Gathered : Type 0
Gathered = List ℕ → List ℕ → Option (List Found)
