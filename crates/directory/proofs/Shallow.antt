-- Paths that get no longer.
use Rattle.std.proofs.Common.{◌≡◌, ◌-◌, ◌≤◌, Option, Some, None, [], ◌∷◌, ◌++◌, length, refl, ap, ◌∙◌, arith, length-append}
use Rattle.std.specs.Prelude.{IsSome}
use Rattle.std.specs.Option.{option_and_then}
use Rattle.node_format.specs.declared.place.Place.{Place}
use Rattle.node_format.specs.declared.place.Place.TheVariants.{Dir}
use Rattle.nodes.specs.Trees.{leads}
use Rattle.nodes.proofs.RootMaps.{leads-append}
use Rattle.directory.specs.Depths.{AsDeepLaw, FileLaw}

pub as_deep : AsDeepLaw
as_deep capacity f root old new place has led fewer path some = on (leads f place path) refl some
  where
    on : (o : Option Place) → leads f place path ≡ o → IsSome o → length path ≤ 16 - length new
    on None is some = absurd cc
    on (Some at) is some =
        let whole = has (old ++ path) at (leads-append f (Dir root) old path ∙ ap (option_and_then (λ next. leads f next path)) led ∙ is) in
        omega (arith, whole.1, length-append old path)

pub file_law : FileLaw
file_law f head size most [] some = omega arith
file_law f head size most (n ∷ path) some = absurd cc
