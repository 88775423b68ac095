-- The node in a block: the bytes of its pages from place 0 on, as many as the node needs.
use Rattle.std.specs.Prelude.{◌≡◌, ℕ, zero, suc, ◌+◌, ◌*◌, ◌<◌, ◌≤◌, ◌&&◌, nat_le, nat_lt, if◌then◌else◌, List, [], length, ◌++◌, take, drop, replicate, Option, Some, None, option_map, option_and_then}
use Rattle.fs_types.specs.declared.limits.TheConstants.{ANCHORS}
use Rattle.flash_model.specs.declared.geometry.Geometry.{Geometry}
use Rattle.flash_model.specs.Geometry.{block_bytes}
use Rattle.flash_model.specs.Device.{Device, Page, bytes_of, erased}
use Rattle.node_format.specs.Headers.{node_size, IsNode}
use Rattle.nodes.specs.PageCounts.{pages_for}

-- joined bytes with those of one page more, none unless it has data
abbrev pub and_page : Option (List ℕ) → Page → Option (List ℕ)
and_page (Some bytes) (bytes_of more) = Some (bytes ++ more)
and_page _ _ = None

-- the bytes of so many pages from a first one on, none unless each has data
abbrev pub joined : (ℕ → Page) → ℕ → ℕ → Option (List ℕ)
joined pages first zero = Some []
joined pages first (suc n) = and_page (joined pages first n) (pages (first + n))

-- the size of the node that begins in a page, in a block of so many bytes
abbrev pub size_in : ℕ → Page → Option ℕ
size_in limit (bytes_of bytes) = node_size limit bytes
size_in limit _ = None

-- so many bytes of the pages from a first one on, none unless the pages that they need have data
abbrev pub bytes_at : Geometry → (ℕ → Page) → ℕ → ℕ → Option (List ℕ)
bytes_at g pages first size = option_map (take size) (joined pages first (pages_for g.page size))

-- the node in the pages from a first one on
abbrev pub node_at : Geometry → (ℕ → Page) → ℕ → Option (List ℕ)
node_at g pages first = option_and_then (bytes_at g pages first) (size_in (block_bytes g) (pages first))

-- the part of the bytes that lies in the page at a place, filled up with zeros
abbrev pub page_bytes : ℕ → ℕ → List ℕ → List ℕ
page_bytes page place bytes = take page (drop (place * page) bytes ++ replicate page 0)

-- the pages of a block hold the bytes, from place 0 on, and zeros behind them; the pages that they do not need are erased
pub record HasPages (d : Device) (b : ℕ) (bytes : List ℕ) : Type 0 where
  pub each : (j : ℕ) → j < pages_for d.geometry.page (length bytes)
      → d.pages (b * d.geometry.pages + j) ≡ bytes_of (page_bytes d.geometry.page j bytes)
  pub rest : (j : ℕ) → pages_for d.geometry.page (length bytes) ≤ j → j < d.geometry.pages
      → d.pages (b * d.geometry.pages + j) ≡ erased

-- the pages of a block hold the bytes of a node, and nothing else
pub record HoldsNode (d : Device) (b : ℕ) : Type 0 where
  pub bytes : List ℕ
  pub node : IsNode (block_bytes d.geometry) bytes
  pub pages : HasPages d b bytes

-- the bytes of the node in a data block, none where it holds none
abbrev pub node_of : Device → ℕ → Option (List ℕ)
node_of d b =
    if nat_le ANCHORS b && nat_lt b d.geometry.blocks then node_at d.geometry d.pages (b * d.geometry.pages) else None
