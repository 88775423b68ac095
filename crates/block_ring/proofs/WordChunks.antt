-- Words that are put into chunks.
use Rattle.std.proofs.Common.{◌≡◌, ◌≢◌, inl, inr, ℕ, zero, suc, ◌/◌, ◌%◌, ◌<◌, List, [], ◌∷◌, ◌++◌, length, replicate, refl, sym, ap, ◌∙◌, arith}
use Rattle.std.specs.Prelude.{slice_index, slice_index_or, slice_set}
use Rattle.std.proofs.lemmas.Bool.{cases_eq}
use Rattle.std.proofs.lemmas.List.{get_or-set_same, get_or-set_other, get_or_append_left, get_or-replicate, get_or_push, length-set}
use Rattle.block_ring.specs.SparseWords.{AreChunked, chunk_at, word_in}

-- a word is found by its place
pub word_none : (places : List ℕ) (chunks : List (List ℕ)) (b : ℕ) → slice_index places (b / 64) ≡ 0 → word_in places chunks b ≡ 0
word_none places chunks b none = ap (λ p. slice_index (chunk_at chunks p) (b % 64)) none

pub word_some : (places : List ℕ) (chunks : List (List ℕ)) (b index : ℕ) → slice_index places (b / 64) ≡ suc index → word_in places chunks b ≡ slice_index (slice_index_or chunks index []) (b % 64)
word_some places chunks b index at = ap (λ p. slice_index (chunk_at chunks p) (b % 64)) at

-- where no place is another
pub same_words : (old new : List ℕ) (chunks : List (List ℕ)) → ((i : ℕ) → slice_index new i ≡ slice_index old i) → (b : ℕ) → word_in new chunks b ≡ word_in old chunks b
same_words old new chunks same b = ap (λ p. slice_index (chunk_at chunks p) (b % 64)) (same (b / 64))

pub same_chunked : (old new : List ℕ) (chunks : List (List ℕ)) → ((i : ℕ) → slice_index new i ≡ slice_index old i) → AreChunked old chunks → AreChunked new chunks
same_chunked old new chunks same are = record {
  within = λ i. omega (arith, same i, are.within i);
  apart = λ i j some equal. are.apart i j (λ none. some (same i ∙ none)) (sym (same i) ∙ equal ∙ same j);
  whole = are.whole;
}

module _ (places : List ℕ) (chunks : List (List ℕ)) (are : AreChunked places chunks) where
  -- ---- a word more in a chunk

  module _ (block word index : ℕ) (there : slice_index places (block / 64) ≡ suc index) where
    inside : index < length chunks
    inside = omega (arith, there, are.within (block / 64))

    pub put_here : word_in places (slice_set chunks index (slice_set (slice_index_or chunks index []) (block % 64) word)) block ≡ word
    put_here =
        word_some places _ block index there ∙ ap (λ (l : List ℕ). slice_index l (block % 64)) (get_or-set_same chunks index (slice_set (slice_index_or chunks index []) (block % 64) word) [] inside)
        ∙ get_or-set_same (slice_index_or chunks index []) (block % 64) word 0 (omega (arith, are.whole index inside))

    pub put_other : (b : ℕ) → b ≢ block → word_in places (slice_set chunks index (slice_set (slice_index_or chunks index []) (block % 64) word)) b ≡ word_in places chunks b
    put_other b other = on (slice_index places (b / 64)) refl
      where
        written : List ℕ
        written = slice_set (slice_index_or chunks index []) (block % 64) word

        -- another word of the chunk
        near : (k : ℕ) → slice_index places (b / 64) ≡ suc k → k ≡ index → slice_index (slice_index_or (slice_set chunks index written) k []) (b % 64) ≡ slice_index (slice_index_or chunks k []) (b % 64)
        near k at same =
            let chunk : b / 64 ≡ block / 64 = are.apart (b / 64) (block / 64) (λ none. omega (arith, at, none)) (at ∙ ap suc same ∙ sym there) in
            let apart : b % 64 ≢ block % 64 = λ equal. other (omega (arith, chunk, equal)) in
            ap (λ (i : ℕ). slice_index (slice_index_or (slice_set chunks index written) i []) (b % 64)) same ∙ ap (λ (l : List ℕ). slice_index l (b % 64)) (get_or-set_same chunks index written [] inside)
            ∙ get_or-set_other (slice_index_or chunks index []) (block % 64) (b % 64) word 0 apart ∙ ap (λ (i : ℕ). slice_index (slice_index_or chunks i []) (b % 64)) (sym same)

        on : (p : ℕ) → slice_index places (b / 64) ≡ p → word_in places (slice_set chunks index written) b ≡ word_in places chunks b
        on zero none = word_none places (slice_set chunks index written) b none ∙ sym (word_none places chunks b none)
        on (suc k) at =
            word_some places (slice_set chunks index written) b k at
            ∙ elim (cases_eq k index) [ inl same ↦ near k at same | inr far ↦ ap (λ (l : List ℕ). slice_index l (b % 64)) (get_or-set_other chunks index k written [] far) ]
            ∙ sym (word_some places chunks b k at)

    pub put_chunked : AreChunked places (slice_set chunks index (slice_set (slice_index_or chunks index []) (block % 64) word))
    put_chunked = record {
      within = λ i. omega (arith, are.within i, length-set chunks index (slice_set (slice_index_or chunks index []) (block % 64) word));
      apart = are.apart;
      whole = λ k below.
          let old : k < length chunks = omega (arith, below, length-set chunks index (slice_set (slice_index_or chunks index []) (block % 64) word)) in
          elim (cases_eq k index) [
            | inl same ↦
                ap (λ (i : ℕ). length (slice_index_or (slice_set chunks index (slice_set (slice_index_or chunks index []) (block % 64) word)) i [])) same
                ∙ ap length (get_or-set_same chunks index (slice_set (slice_index_or chunks index []) (block % 64) word) [] inside)
                ∙ length-set (slice_index_or chunks index []) (block % 64) word ∙ are.whole index inside
            | inr far ↦ ap length (get_or-set_other chunks index k (slice_set (slice_index_or chunks index []) (block % 64) word) [] far) ∙ are.whole k old
          ];
    }

  -- ---- a chunk more

  pub push_words : (at : ℕ) → at < length places → slice_index places at ≡ 0 → (b : ℕ) → word_in (slice_set places at (suc (length chunks))) (chunks ++ replicate 64 0 ∷ []) b ≡ word_in places chunks b
  push_words at below none b = elim (cases_eq (b / 64) at) [ inl same ↦ fresh same | inr other ↦ on (slice_index places (b / 64)) refl other ]
    where
      more : List (List ℕ)
      more = chunks ++ replicate 64 0 ∷ []

      -- a word of the new chunk
      fresh : b / 64 ≡ at → word_in (slice_set places at (suc (length chunks))) more b ≡ word_in places chunks b
      fresh same =
          word_some (slice_set places at (suc (length chunks))) more b (length chunks) (ap (slice_index (slice_set places at (suc (length chunks)))) same ∙ get_or-set_same places at (suc (length chunks)) 0 below)
          ∙ ap (λ (l : List ℕ). slice_index l (b % 64)) (get_or_push chunks (replicate 64 0) [] (length chunks) refl) ∙ get_or-replicate 64 (b % 64) 0 0 (omega arith)
          ∙ sym (word_none places chunks b (ap (slice_index places) same ∙ none))

      on : (p : ℕ) → slice_index places (b / 64) ≡ p → b / 64 ≢ at → word_in (slice_set places at (suc (length chunks))) more b ≡ word_in places chunks b
      on zero empty other = word_none (slice_set places at (suc (length chunks))) more b (get_or-set_other places at (b / 64) (suc (length chunks)) 0 other ∙ empty) ∙ sym (word_none places chunks b empty)
      on (suc k) is other =
          word_some (slice_set places at (suc (length chunks))) more b k (get_or-set_other places at (b / 64) (suc (length chunks)) 0 other ∙ is)
          ∙ ap (λ (l : List ℕ). slice_index l (b % 64)) (get_or_append_left chunks (replicate 64 0 ∷ []) [] k (omega (arith, is, are.within (b / 64)))) ∙ sym (word_some places chunks b k is)
