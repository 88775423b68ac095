-- What the copy of a flash is to have.
use Rattle.std.specs.Prelude.{ℕ, unwrap_or}
use Rattle.flash_model.specs.declared.geometry.Geometry.{Geometry}
use Rattle.copy_jobs.specs.declared.asked_sizes.AskedSizes.{AskedSizes}

-- the sizes that are asked for, else those of the flash that is copied
abbrev pub sizes_of : AskedSizes → Geometry → Geometry
sizes_of asked sizes = record { page = unwrap_or asked.page sizes.page; pages = unwrap_or asked.pages sizes.pages; blocks = unwrap_or asked.blocks sizes.blocks }

-- how many versions are kept at most: as many as are asked for, else as on the flash that is copied
abbrev pub limit_of : AskedSizes → ℕ → ℕ
limit_of asked limit = unwrap_or asked.history limit
