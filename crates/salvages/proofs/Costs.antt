-- What looks at roots ask of the device, one after the other.
use Rattle.std.proofs.Common.{◌≡◌, ℕ, ◌+◌, ◌<◌, ◌≤◌, Bool, List, [], ◌∷◌, ◌++◌, length, take, drop, get_or, sym, subst, arith}
use Rattle.std.proofs.lemmas.List.{take_more, take-append-drop}
use Rattle.flash_model.specs.Device.{Device}
use Rattle.flash_model.specs.Geometry.{IsGeometry, block_bytes}
use Rattle.flash_model.specs.declared.geometry.Geometry.{Geometry}
use Rattle.flash_model.specs.Reading.{OnlyReads}
use Rattle.node_store.specs.NodePages.{node_of}
use Rattle.node_store.specs.ReadingLaws.{OnlyReads_nodes}
use Rattle.nodes.specs.Bodies.{Blocks}
use Rattle.reclaim.specs.Passes.{AreReached}
use Rattle.reclaim.specs.Verified.{all_pages}
use Rattle.std.specs.List.{sum_by}
use Rattle.mounting.specs.Costs.{AsksToVerify, verify_pages}
use Rattle.mounting.proofs.Asking.{none_reached}
use Rattle.salvages.specs.Costs.{AsksToLook, AsksToFind}
use Rattle.salvages.specs.Wholes.{AreAllWhole}

-- one more root
pub look_more : (d : Device) (roots : List ℕ) (root before mid after : ℕ) (blocks : List ℕ) → AsksToLook d roots before mid → AreReached (node_of d) (root ∷ []) blocks → after ≤ mid + verify_pages d blocks
    → AsksToLook d (roots ++ root ∷ []) before after
look_more d [] root before mid after blocks so_far are most = (blocks, are, omega (arith, so_far, most))
look_more d (first ∷ roots) root before mid after blocks so_far are most = (so_far.0, so_far.1, look_more d roots root (before + verify_pages d so_far.0) mid after blocks so_far.2 are most)

-- the same where that was refused, and the others were not looked at
pub look_none : (d : Device) (roots : List ℕ) (before after : ℕ) → after ≤ before → AsksToLook d roots before after
look_none d [] before after most = most
look_none d (root ∷ roots) before after most = ([], none_reached (node_of d) (root ∷ []), look_none d roots (before + verify_pages d []) after (omega (arith, most)))

pub look_rest : (d : Device) (roots rest : List ℕ) (before after : ℕ) → AsksToLook d roots before after → AsksToLook d (roots ++ rest) before after
look_rest d [] rest before after so_far = look_none d rest before after so_far
look_rest d (root ∷ roots) rest before after so_far = (so_far.0, so_far.1, look_rest d roots rest (before + verify_pages d so_far.0) after so_far.2)

pub look_all : (d : Device) (n : ℕ) (roots : List ℕ) (before after : ℕ) → AsksToLook d (take n roots) before after → AsksToLook d roots before after
look_all d n roots before after so_far =
    subst (λ (l : List ℕ). AsksToLook d l before after) (take-append-drop n roots) (look_rest d (take n roots) (drop n roots) before after so_far)

-- the next root, after reads
pub look_next : (d e new : Device) (roots : List ℕ) (i : ℕ) → IsGeometry d.geometry → OnlyReads d e → i < length roots → AsksToLook d (take i roots) d.operations e.operations → AsksToVerify e (get_or roots i 0 ∷ []) new
    → AsksToLook d (take (i + 1) roots) d.operations new.operations
look_next d e new roots i lawful reads below so_far asked =
    let here = subst (λ (x : Geometry × Blocks). AreReached x.1 (get_or roots i 0 ∷ []) asked.blocks × (new.operations ≤ e.operations + sum_by (λ (b : ℕ). all_pages x.0.page (block_bytes x.0) (x.1 b)) asked.blocks))
    (λ j. (reads.geometry j, OnlyReads_nodes d e lawful reads j)) (asked.are, asked.most) in
    subst (λ (l : List ℕ). AsksToLook d l d.operations new.operations) (sym (take_more roots i 0 below))
    (look_more d (take i roots) (get_or roots i 0) d.operations e.operations new.operations asked.blocks so_far here.0 here.1)

-- a look at roots after reads is one before them
module _ (d e : Device) (lawful : IsGeometry d.geometry) (reads : OnlyReads d e) where
  reached_back : (roots blocks : List ℕ) → AreReached (node_of e) roots blocks → AreReached (node_of d) roots blocks × (verify_pages e blocks ≡ verify_pages d blocks)
  reached_back roots blocks are = (
    subst (λ (f : Blocks). AreReached f roots blocks) (OnlyReads_nodes d e lawful reads) are,
    λ i. sum_by (λ (b : ℕ). all_pages (reads.geometry i).page (block_bytes (reads.geometry i)) (OnlyReads_nodes d e lawful reads i b)) blocks,
  )

  pub look_back : (roots : List ℕ) (before mid after : ℕ) → mid ≤ before → AsksToLook e roots mid after → AsksToLook d roots before after
  look_back [] before mid after least asks = omega (arith, least, asks)
  look_back (root ∷ roots) before mid after least (blocks, are, rest) =
      let here = reached_back (root ∷ []) blocks are in
      let same : verify_pages e blocks ≡ verify_pages d blocks = here.1 in
      (blocks, here.0, look_back roots (before + verify_pages d blocks) (mid + verify_pages e blocks) after (omega (arith, least, same)) rest)

-- all roots were looked at together, and nothing else
pub asks_once : (plain : Bool) (d e : Device) (roots : List ℕ) → AsksToVerify d roots e → AsksToFind plain d roots e
asks_once plain d e roots asked = record {
  blocks = asked.blocks;
  are = asked.are;
  most = look_none d roots (d.operations + verify_pages d asked.blocks) e.operations asked.most;
  once = λ whole. asked.most;
}

-- and each by itself after that, where not all are whole
pub asks_each : (plain : Bool) (d e new : Device) (roots : List ℕ) → IsGeometry d.geometry → OnlyReads d e → AsksToVerify d roots e → (AreAllWhole plain d roots → ⊥) → AsksToLook e roots e.operations new.operations → AsksToFind plain d roots new
asks_each plain d e new roots lawful reads asked broken looked = record {
  blocks = asked.blocks;
  are = asked.are;
  most = look_back d e lawful reads roots (d.operations + verify_pages d asked.blocks) e.operations new.operations asked.most looked;
  once = λ whole. absurd (broken whole);
}
