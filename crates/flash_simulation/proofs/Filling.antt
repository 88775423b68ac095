-- A page is filled: its room has the bytes, and no other room changes.
use Rattle.std.proofs.Common.{◌≡◌, ℕ, ◌+◌, ◌*◌, ◌<◌, ◌≤◌, List, ◌++◌, length, take, drop, vec_len, sym, ap, ◌∙◌, refl, arith, length-append, length-drop}
use Rattle.std.specs.Prelude.{slice_index_or}
use Rattle.std.specs.Fork.{slice_chunk}
use Rattle.std.specs.Vec.{with_item, with_items}
use borrow.Rule.Slice.PartMut.{put_mid}
use Rattle.std.proofs.lemmas.List.{length-take-le, with_items_is, get_or-set_same, get_or-set_other}
use Rattle.flash_model.specs.declared.flash.PageState.{PageState}
use Rattle.flash_model.specs.declared.flash.PageState.TheVariants.{Erased, Data}
use Rattle.flash_simulation.specs.declared.sim_pages.SimPages.{SimPages}
use Rattle.flash_model.specs.Device.{bytes_of}
use Rattle.flash_simulation.specs.Stored.{SetsPage}
use Rattle.flash_model.specs.Contents.{page_of}
use Rattle.flash_simulation.specs.StoredLaws.{chunk-ends, chunk-put, chunk-kept}

length-put_mid : (start k : ℕ) (xs ys : List ℕ) → length ys ≡ k → start + k ≤ length xs → length (put_mid start k xs ys) ≡ length xs
length-put_mid start k xs ys long fits =
    omega (
      arith,
      long,
      length-append (take start xs) (ys ++ drop k (drop start xs)),
      length-append ys (drop k (drop start xs)),
      length-take-le start xs (omega arith),
      length-drop k (drop start xs),
      length-drop start xs,
    )

module _ (old : SimPages) (n start k : ℕ) (xs ys bytes : List ℕ) (below : n < vec_len old.states) (start_is : start ≡ n * old.size)
    (k_is : k ≡ old.size) (xs_is : xs ≡ old.bytes.items) (ys_is : ys ≡ bytes) (long : length bytes ≡ old.size) where
  fits : n * old.size + old.size ≤ length old.bytes.items
  fits =
      let end = chunk-ends n (vec_len old.states) old.size below in
      let room = old.room in
      omega (arith, end, room, old.bytes.ok.0)

  stored : (with_items old.bytes (put_mid start k xs ys)).items ≡ put_mid (n * old.size) k old.bytes.items bytes
  stored =
      let is : put_mid start k xs ys ≡ put_mid (n * old.size) k old.bytes.items bytes =
      ap (λ (a : ℕ). put_mid a k xs ys) start_is
      ∙ ap (λ (l : List ℕ). put_mid (n * old.size) k l ys) xs_is
      ∙ ap (put_mid (n * old.size) k old.bytes.items) ys_is in
      let all = fits in
      with_items_is old.bytes (put_mid start k xs ys)
      (ap length is ∙ length-put_mid (n * old.size) k old.bytes.items bytes (long ∙ sym k_is) (omega (arith, all, k_is)) ∙ sym old.bytes.ok.0)
      ∙ is

  pub filled : (room : vec_len (with_items old.bytes (put_mid start k xs ys)) ≡ vec_len (with_item old.states n Data) * old.size)
      → SetsPage old n (bytes_of bytes) (record { size = old.size; states = with_item old.states n Data; bytes = with_items old.bytes (put_mid start k xs ys); room = room })
  filled room = record {
    own = ap (λ (s : PageState). page_of s (slice_chunk (with_items old.bytes (put_mid start k xs ys)).items old.size n)) (get_or-set_same old.states.items n Data Erased (omega (arith, below, old.states.ok.0)))
        ∙ ap bytes_of (ap (λ (l : List ℕ). slice_chunk l old.size n) stored ∙ chunk-put old.bytes.items bytes old.size n k k_is long fits);
    others = λ p apart. ap (λ (s : PageState). page_of s (slice_chunk (with_items old.bytes (put_mid start k xs ys)).items old.size p)) (get_or-set_other old.states.items n p Data Erased apart)
        ∙ ap (page_of (slice_index_or old.states.items p Erased))
        (ap (λ (l : List ℕ). slice_chunk l old.size p) stored ∙ chunk-kept old.bytes.items bytes old.size n k p k_is long fits apart);
    count = refl;
    size = refl;
  }
