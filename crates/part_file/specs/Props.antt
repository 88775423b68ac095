-- There is at most one proof that bytes are the part of a flash, so that the flash may keep it.
use Rattle.std.specs.Prelude.{ℕ, Bool, List, Option, Some, None, IfSome, take}
use Rattle.std.proofs.Props.{props}
use Rattle.flash_model.specs.declared.geometry.Geometry.{Geometry}
use Rattle.flash_model.specs.Device.{Device, Page, erased, bytes_of, unreadable}
use Rattle.part_file.specs.Layout.{IsHead}
use Rattle.part_file.specs.Pages.{HasPage, IsPart, HoldsPart}

page-prop : (bytes : List ℕ) (g : Geometry) (p : ℕ) (page : Page) → IsProp (HasPage bytes g p page)
page-prop bytes g p erased = hlevel props
page-prop bytes g p (bytes_of content) = hlevel props
page-prop bytes g p unreadable = hlevel props

geometry-set : IsSet Geometry
geometry-set = hlevel props

head-prop : (head : List ℕ) (g : Geometry) → IsProp (IsHead head g)
head-prop head g = hlevel (props, geometry-set)

part-prop : (d : Device) (bytes : List ℕ) → IsProp (IsPart d bytes)
part-prop d bytes = hlevel (props, head-prop (take 20 bytes) d.geometry, page-prop)

shown-prop : (held : Option (List ℕ)) (d : Device) → IsProp (IfSome held (IsPart d))
shown-prop None d = hlevel props
shown-prop (Some bytes) d = part-prop d bytes

pub held-prop : (lost : Bool) (held : Option (List ℕ)) (d : Device) → IsProp (HoldsPart lost held d)
held-prop lost held d = hlevel (props, shown-prop held d)
