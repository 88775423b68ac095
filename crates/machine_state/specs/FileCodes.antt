-- How open files are stored as lists and pairs.
use Rattle.std.specs.Prelude.{ℕ, refl}
use Rattle.std.specs.Coded.{Coded, code_by, coded×, coded_ℕ, coded_list, coded_option}
use Rattle.fs_types.specs.Names.{Path}
use Rattle.history_machine.specs.Descriptors.{Descriptor, Descriptors}

-- a path is the list of its names
abbrev pub path_code : Coded Path
path_code = coded_list (coded_list coded_ℕ)

abbrev pub descriptor_code : Coded Descriptor
descriptor_code = code_by (Path × ℕ) (coded× path_code coded_ℕ) (λ d. (d.path, d.flags.0)) (λ p. record { path = p.0; flags = record { 0 = p.1 } }) (λ _. refl)

abbrev pub descriptors_code : Coded Descriptors
descriptors_code = coded_list (coded_option descriptor_code)
