-- The pages of a part, read one after the other.
use Rattle.std.proofs.Common.{◌≡◌, ℕ, ◌+◌, ◌-◌, ◌<◌, ◌≤◌, false, Option, None, Some, List, length, sym, ap, subst, ◌∙◌, inl, inr, arith}
use Rattle.std.specs.Prelude.{IfSome}
use Rattle.std.proofs.lemmas.Bool.{cases_lt}
use Rattle.flash_model.specs.declared.geometry.Geometry.{Geometry}
use Rattle.flash_model.specs.declared.flash.PageState.{PageState}
use Rattle.flash_model.specs.declared.flash.PageState.TheVariants.{Erased, Data, Unreadable}
use Rattle.flash_model.specs.Contents.{IsWhole, PutsPage, page_of}
use Rattle.flash_model.specs.Device.{Device, Page}
use Rattle.flash_model.specs.Geometry.{page_count}
use Rattle.flash_simulation.specs.Simulation.{IsNew}
use Rattle.flash_simulation.specs.Images.{IsFresh}
use Rattle.part_file.specs.Layout.{data_place}
use Rattle.part_file.specs.Pages.{HasPage, HasPages}
use Rattle.part_file.proofs.Placing.{page-end}

-- the first pages stand there
pub record FirstPages (g : Geometry) (d : Device) (n : ℕ) (bytes : List ℕ) : Type 0 where
  pub shown : (p : ℕ) → p < n → HasPage bytes g p (d.pages p)
  pub inside : (p : ℕ) → p < n → data_place g p + g.page ≤ length bytes

-- the first pages are read
pub record HasRead (sizes : Geometry) (held : Option (List ℕ)) (d : Device) (n : ℕ) : Type 0 where
  pub geometry : d.geometry ≡ sizes
  pub fresh : IsFresh d
  pub unworn : (b : ℕ) → d.worn b ≡ false
  pub pages : IfSome held (FirstPages sizes d n)

none_first : (sizes : Geometry) (held : Option (List ℕ)) (d : Device) → IfSome held (FirstPages sizes d 0)
none_first sizes None d = tt
none_first sizes (Some bytes) d = record { shown = λ p low. absurd (omega arith); inside = λ p low. absurd (omega arith) }

pub HasRead-none : (sizes : Geometry) (held : Option (List ℕ)) (d : Device) → IsNew sizes d → HasRead sizes held d 0
HasRead-none sizes held d new = record {
  geometry = new.geometry;
  fresh = record { powered = new.powered; failed_reads = new.failed_reads; failures = new.failures; cuts = new.cuts; operations = new.operations };
  unworn = new.worn;
  pages = none_first sizes held d;
}

more_first : (sizes : Geometry) (held : Option (List ℕ)) (d e : Device) (n : ℕ) (page : Page) → IfSome held (FirstPages sizes d n)
    → IfSome held (λ bytes. HasPage bytes sizes n page) → IfSome held (λ bytes. data_place sizes n + sizes.page ≤ length bytes) → PutsPage d n page e
    → IfSome held (FirstPages sizes e (n + 1))
more_first sizes None d e n page first here inside puts = tt
more_first sizes (Some bytes) d e n page first here inside puts = record {
  shown = λ p low. elim (cases_lt p n) [
    | inl less ↦ subst (HasPage bytes sizes p) (sym (puts.others p (λ same. absurd (omega (arith, same, less))))) (first.shown p less)
    | inr more ↦ let is : p ≡ n = omega arith in subst (λ q. HasPage bytes sizes q (e.pages q)) (sym is) (subst (HasPage bytes sizes n) (sym puts.own) here)
  ];
  inside = λ p low. elim (cases_lt p n) [
    | inl less ↦ first.inside p less
    | inr more ↦ let is : p ≡ n = omega arith in subst (λ q. data_place sizes q + sizes.page ≤ length bytes) (sym is) inside
  ];
}

fresh_after : (d e : Device) → e ≡ record d { pages = e.pages } → IsFresh d → IsFresh e
fresh_after d e rest fresh = record {
  powered = ap (λ (x : Device). x.powered) rest ∙ fresh.powered;
  failed_reads = ap (λ (x : Device). x.failed_reads) rest ∙ fresh.failed_reads;
  failures = ap (λ (x : Device). x.failures) rest ∙ fresh.failures;
  cuts = ap (λ (x : Device). x.cuts) rest ∙ fresh.cuts;
  operations = ap (λ (x : Device). x.operations) rest ∙ fresh.operations;
}

pub HasRead-more : (sizes : Geometry) (held : Option (List ℕ)) (d e : Device) (n : ℕ) (page : Page) → HasRead sizes held d n
    → IfSome held (λ bytes. HasPage bytes sizes n page) → IfSome held (λ bytes. data_place sizes n + sizes.page ≤ length bytes) → PutsPage d n page e → HasRead sizes held e (n + 1)
HasRead-more sizes held d e n page so_far here inside puts = record {
  geometry = ap (λ (x : Device). x.geometry) puts.rest ∙ so_far.geometry;
  fresh = fresh_after d e puts.rest so_far.fresh;
  unworn = λ b. ap (λ (x : Device). x.worn b) puts.rest ∙ so_far.unworn b;
  pages = more_first sizes held d e n page so_far.pages here inside puts;
}

pub HasRead-all : (sizes : Geometry) (held : Option (List ℕ)) (d : Device) (n : ℕ) → HasRead sizes held d n → n ≡ page_count sizes → 1 ≤ n → IfSome held (HasPages d)
HasRead-all sizes None d n all end some = tt
HasRead-all sizes (Some bytes) d n all end some =
    let last : data_place sizes (n - 1) + sizes.page ≤ length bytes = all.pages.inside (n - 1) (omega arith) in
    let next : n - 1 + 1 ≡ page_count sizes = omega (arith, end) in
    let whole : data_place sizes (page_count sizes) ≤ length bytes = subst (λ q. data_place sizes q ≤ length bytes) next (omega (arith, last, page-end sizes (n - 1))) in
    subst (λ (g : Geometry). (data_place g (page_count g) ≤ length bytes) → ((p : ℕ) → p < page_count g → HasPage bytes g p (d.pages p)) → HasPages d bytes) all.geometry
    (λ (w : data_place d.geometry (page_count d.geometry) ≤ length bytes). λ (s : (p : ℕ) → p < page_count d.geometry → HasPage bytes d.geometry p (d.pages p)). record { whole = w; pages = s })
    whole (λ p low. all.pages.shown p (omega (arith, end, low)))

-- a page of these bytes is whole
pub whole_of : (state : PageState) (bytes : List ℕ) (n : ℕ) → length bytes ≡ n → IsWhole n (page_of state bytes)
whole_of Erased bytes n same = tt
whole_of Data bytes n same = same
whole_of Unreadable bytes n same = tt
