use Rattle.std.proofs.Common.{◌≡◌, ◌≤◌, ◌<◌, ◌-◌, ◌*◌, ℕ, suc, List, length, Some, None, inl, refl, sym, subst, ◌∙◌, arith}
use Rattle.std.specs.Prelude.{Contains}
use Rattle.std.proofs.lemmas.Bool.{true≢false}
use Rattle.fs_types.specs.declared.limits.TheConstants.{MAX_FILE_BYTES}
use Rattle.node_format.specs.BodyNodes.{HasSlot}
use Rattle.node_format.specs.Headers.{IsNode}
use Rattle.node_format.specs.Items.{Item}
use Rattle.node_format.specs.declared.place.Place.{Place}
use Rattle.nodes.specs.Bodies.{index_of, pointer_of, data_of}
use Rattle.nodes.specs.Chains.{link_items}
use Rattle.nodes.specs.Reached.{Reached, PlaceNames}
use Rattle.reclaim.specs.Looks.{IsSoundFile}
use Rattle.reclaim.specs.Tables.{HasSeen}
use Rattle.reclaim.specs.Tops.{top_of}
use Rattle.reclaim.specs.Verified.{AreRoots, AreAllowed}
use Rattle.reclaim.proofs.BodyChains.{slot_names}
use Rattle.reclaim.proofs.Chains.{fewer_slots}
use Rattle.reclaim.proofs.HeadLengths.{told_file, told_before}
use Rattle.reclaim.proofs.Looking.{never}
use Rattle.reclaim.proofs.ToldTops.{told_top}
use Rattle.reclaim.proofs.Looked.{names_seen, looked_sound, looked_plain, linked_roots, tree_links, tree_whole}
use Rattle.reclaim.proofs.verification.are_whole.Goals as goal

pub returns-then-not-are_looked-clause-whole : goal.returns-then-not-are_looked-clause-whole
returns-then-not-are_looked-clause-whole g c =
    let found = c.in_ok-are_looked.ensures.looked in
    record {
      noted = found.noted;
      read = λ is. absurd (true≢false (sym is));
      whole = λ is. absurd (true≢false (sym is));
      bad = λ _ trees. found.bad c.if-not-are_looked.true (subst (λ (l : List ℕ). AreAllowed (g.N.Nodes.limit c.args.nodes.now) (g.N.Nodes.node c.args.nodes.now) l c.args.plain) (sym c.requires.begun.0) trees);
    }

pub returns-then-not-has_links-clause-whole : goal.returns-then-not-has_links-clause-whole
returns-then-not-has_links-clause-whole g c =
    let s = c.args.nodes.now in
    let f = g.N.Nodes.node s in
    let q = c.look_at_all.new.pass in
    let found = c.in_ok-are_looked.ensures.looked in
    let roots : q.roots ≡ c.args.roots.now = c.look_at_all.ensures.on.roots ∙ c.requires.begun.0 in
    record {
      noted = found.noted;
      read = λ is. absurd (true≢false (sym is));
      whole = λ is. absurd (true≢false (sym is));
      bad = λ _ trees.
          never (sym c.if-not-has_links.true ∙ c.has_links.ensures.1 (tree_links (g.N.Nodes.limit s) f q c.look_at_all.new.table found.noted.pass (found.read c.if-not-are_looked.false).finished found.noted.told
          (subst (AreRoots (g.N.Nodes.limit s) f) (sym roots) trees.0) c.args.roots.now roots));
    }

pub returns-clause-whole : goal.returns-clause-whole
returns-clause-whole g c =
    let s = c.args.nodes.now in
    let f = g.N.Nodes.node s in
    let q = c.look_at_all.new.pass in
    let t = c.look_at_all.new.table in
    let k = c.look_at_all.new.tops in
    let limit = g.N.Nodes.limit s in
    let found = c.in_ok-are_looked.ensures.looked in
    let pass = found.noted.pass in
    let told = found.noted.told in
    let roots : q.roots ≡ c.args.roots.now = c.look_at_all.ensures.on.roots ∙ c.requires.begun.0 in
    let read = found.read c.if-not-are_looked.false in
    let looked = found.looked c.if-not-are_looked.false in
    let told_so = found.told c.if-not-are_looked.false in
    let high : (b : ℕ) → q.blocks ≤ b → f b ≡ None = λ b past. g.met.N.Nodes.none_beyond s b (subst (λ (n : ℕ). n ≤ b) (c.look_at_all.ensures.on.blocks ∙ c.requires.verifying.size) past) in
    let nodes : (b : ℕ) (bytes : List ℕ) → f b ≡ Some bytes → IsNode limit bytes = λ b bytes is. g.met.N.Nodes.whole s b bytes c.requires.sound is in
    let files : (b : ℕ) (item : Item) → HasSeen q b → Contains (link_items (f b)) item → IsSoundFile (limit - 80) f item.place =
    λ b item seen within. told_file limit f q t pass nodes told_so.heads b item seen within
    (λ head size at some. names_seen f q pass read.finished b head seen (inl (item, within, subst (λ (x : Place). PlaceNames x head) (sym at) (some, refl)))) in
    let slot : (b i x : ℕ) → HasSeen q b → index_of (f b) ≡ Some i → HasSlot i x → HasSeen q (pointer_of (f b) x) =
    λ b i x seen is has. names_seen f q pass read.finished b (pointer_of (f b) x) seen (slot_names f b i x is has) in
    let before : (b i : ℕ) → HasSeen q b → index_of (f b) ≡ Some (suc i) → suc i * (limit - 80) < MAX_FILE_BYTES → (index_of (f (pointer_of (f b) 0)) ≡ Some i) × (length (data_of (f (pointer_of (f b) 0))) ≡ limit - 80) =
    λ b i seen is short. told_before limit f q t pass nodes told_so.heads b i seen is short (slot b (suc i) 0 seen is (omega arith, omega arith, (suc i, omega arith))) in
    let tops : (b i x : ℕ) → HasSeen q b → index_of (f b) ≡ Some i → HasSlot i (suc x) → top_of (f (pointer_of (f b) x)) ≡ pointer_of (f b) (suc x) =
    λ b i x seen is has. told_top f q k pass told_so.tops b i x seen is has (slot b i x seen is (fewer_slots x i has)) in
    record {
      noted = found.noted;
      read = λ _. read;
      whole = λ good.
          let each = c.is_whole.ensures.0 good in
          record {
            nodes = λ b reached. looked_sound (limit - 80) f c.args.plain q t pass read.finished told high looked files before tops each b (subst (λ (l : List ℕ). Reached f l b) (sym roots) reached);
            directories = linked_roots (limit - 80) f c.args.plain q t pass read.finished told high looked files before tops each c.args.roots.now (c.has_links.ensures.0 c.if-not-has_links.false);
            alone = λ plain b reached. looked_plain (limit - 80) f c.args.plain q t pass read.finished told high looked files before tops each plain b (subst (λ (l : List ℕ). Reached f l b) (sym roots) reached);
          };
      bad = λ fails trees. never (sym fails ∙ c.is_whole.ensures.1 (tree_whole limit f q t pass read.finished told (subst (AreRoots limit f) (sym roots) trees.0)));
    }
