-- The records of an anchor, met page by page.
use Rattle.std.specs.Prelude.{◌≡◌, ℕ, ◌+◌, ◌%◌, ◌<◌, ◌≤◌, true, ◌&&◌, ◌==◌, nat_lt, nat_le, Option, Some, None, if◌then◌else◌}
use Rattle.flash_model.specs.declared.geometry.Geometry.{Geometry}
use Rattle.record_format.specs.declared.page_head.PageHead.{PageHead}
use Rattle.anchors.specs.declared.best.Best.{Best}
use Rattle.anchors.specs.declared.scan.Run.{Run}
use Rattle.anchors.specs.declared.scan.Scan.{Scan}
use Rattle.anchors.specs.Parts.{Part, head_at, is_part, considered, best_below}

-- the record of which a page is the first, if it may be one
abbrev pub begun_run : Geometry → ℕ → Option PageHead → Option Run
begun_run g p None = None
begun_run g p (Some first) =
    if (nat_lt 0 first.count && nat_le (p % g.pages + first.count) g.pages) && is_part g first 0 (Some first)
    then Some (record { found = record { page = p; head = first }; met = 1 })
    else None

-- the record whose pages are being met, after one more page
abbrev pub followed : Geometry → Option Run → ℕ → Option PageHead → Option Run
followed g None p head = begun_run g p head
followed g (Some run) p head = if is_part g run.found.head run.met head then Some (record { found = run.found; met = run.met + 1 }) else begun_run g p head

-- it counts once all its pages were met
abbrev pub settled : Best → Option Run → Scan
settled best None = record { best = best; run = None }
settled best (Some run) =
    if run.met == run.found.head.count
    then record { best = considered best run.found.page (Some run.found.head); run = None }
    else record { best = best; run = Some run }

abbrev pub scan_next : Geometry → Scan → ℕ → Option PageHead → Scan
scan_next g scan p head = settled scan.best (followed g scan.run p head)

-- pages are missing still
abbrev pub LacksPages : Option Run → Type 0
LacksPages None = Unit {0}
LacksPages (Some run) = run.met < run.found.head.count

-- of a record that fits into its block, on the anchor whose first page is this one, the pages before page n were met
pub record IsRun (g : Geometry) (parts : ℕ → Option Part) (first n : ℕ) (run : Run) : Type 0 where
  pub from : first ≤ run.found.page
  pub next : run.found.page + run.met ≡ n
  pub some : 1 ≤ run.met
  pub one_block : run.found.page % g.pages + run.found.head.count ≤ g.pages
  pub begins : head_at parts run.found.page ≡ Some run.found.head
  pub done : (m : ℕ) → m < run.met → is_part g run.found.head m (head_at parts (run.found.page + m)) ≡ true

-- all records that begin before page n count, but for one whose pages are being met
abbrev pub IsMet : Geometry → (ℕ → Option Part) → ℕ → ℕ → Best → Option Run → Type 0
IsMet g parts first n best None = best ≡ best_below g parts n
IsMet g parts first n best (Some run) = IsRun g parts first n run × (run.met < run.found.head.count) × (best ≡ best_below g parts run.found.page)
