-- What one look at a block shows.
use Rattle.std.proofs.Common.{◌≡◌, ◌≢◌, ◌↔◌, ◌⊎◌, inl, inr, ℕ, ◌<◌, ◌≤◌, Bool, true, false, cond, Option, Some, None, List, [], refl, sym, ap, subst, ◌∙◌, arith}
use Rattle.std.specs.Prelude.{IsTrue, is_some}
use Rattle.std.specs.Option.{option_map, option_map_or}
use Rattle.std.proofs.lemmas.Bool.{true≢false, cases_lt, ne_eqb}
use Rattle.fs_types.specs.declared.fault.Fault.{Fault}
use Rattle.fs_types.specs.declared.fault.Fault.TheVariants.{ReadFailed, PowerCut, NoMemory, Damaged}
use Rattle.nodes.specs.Faults.{IsLookFault, IsReadFault}
use Rattle.node_format.specs.Links.{Link}
use Rattle.nodes.specs.Bodies.{Blocks, index_of}
use Rattle.nodes.specs.Chains.{link_of, next_of}
use Rattle.reclaim.specs.declared.edge.Edge.{Edge}
use Rattle.reclaim.specs.declared.looks.Parts.{Parts}
use Rattle.reclaim.specs.Sound.{IsPlainNode}
use Rattle.reclaim.specs.Looks.{NextHoldsLink, IsFollowed, IsShort, IsLooked, is_chained, edge_of, edge_at, last_name, may_follow, link_reads, edge_reads, look_reads, Says}
use Rattle.fs_types.specs.Names.{Name}
use Rattle.fields.proofs.Found.{some_is as found_is}

pub never : IsTrue false → ⊥
never is = true≢false (sym is)

-- ---- refusals

pub look_read : (fault : Fault) → IsLookFault fault → IsReadFault fault
look_read ReadFailed is = refl
look_read PowerCut is = refl
look_read NoMemory is = refl
look_read Damaged is = absurd (never is)
look_read _ is = absurd (never is)

pub look_other : (fault : Fault) → IsLookFault fault → fault ≡ Damaged → ⊥
look_other fault is damaged = never (subst IsLookFault damaged is)

pub read_look : (fault : Fault) → IsReadFault fault → (fault ≡ Damaged → ⊥) → IsLookFault fault
read_look Damaged is other = absurd (other refl)
read_look _ is other = is

-- ---- what comes after

pub followed_none : (f : Blocks) (node : Option (List ℕ)) → edge_at node ≡ None → IsTrue true ↔ IsFollowed f node
followed_none f node none = on (link_of node) refl none
  where
    on : (o : Option Link) → link_of node ≡ o → option_map edge_of o ≡ None → IsTrue true ↔ IsFollowed f node
    on None is none = (λ t l m own. absurd (true≢false (ap is_some (sym own ∙ is))), λ h. refl)
    on (Some l) is none = absurd (true≢false (ap is_some none))

pub followed_some : (f : Blocks) (node : Option (List ℕ)) (last : Name) (next : ℕ) (good : Bool) → edge_at node ≡ Some (last, next) → (next ≢ 0 → (m : Link) → link_of (f next) ≡ Some m → good ≡ may_follow last (Some m))
    → (next ≡ 0 → good ≡ true) → NextHoldsLink f node → IsTrue good ↔ IsFollowed f node
followed_some f node last next good says exact end holds = on (link_of node) refl says
  where
    on : (o : Option Link) → link_of node ≡ o → option_map edge_of o ≡ Some (last, next) → IsTrue good ↔ IsFollowed f node
    on None is says = absurd (true≢false (ap is_some (sym says)))
    on (Some l) is says = by (cases_lt 0 next)
      where
        same : edge_of l ≡ (last, next)
        same = found_is (edge_of l) (last, next) says

        name : last_name [] l.items ≡ last
        name = ap (λ (e : Name × ℕ). e.0) same

        at : l.next ≡ next
        at = ap (λ (e : Name × ℕ). e.1) same

        own : (k : Link) → link_of node ≡ Some k → k ≡ l
        own k has = found_is k l (sym has ∙ is)

        by : (0 < next) ⊎ (next ≤ 0) → IsTrue good ↔ IsFollowed f node
        by (inr none) = (λ t k m has some. absurd (some (ap (λ (x : Link). x.next) (own k has) ∙ at ∙ (let zero_is : next ≡ 0 = omega (arith, none) in zero_is))), λ h. end (omega (arith, none)))
        by (inl more) =
            let some : l.next ≢ 0 = λ none. omega (arith, more, at, none) in
            let there = holds l is some in (
              λ t k m has other way.
                  let e = own k has in
                  let way' : link_of (f next) ≡ Some m = ap (λ (b : ℕ). link_of (f b)) (sym (ap (λ (x : Link). x.next) e ∙ at)) ∙ way in
                  ap (λ (x : Link). may_follow (last_name [] x.items) (Some m)) e ∙ ap (λ (n : Name). may_follow n (Some m)) name ∙ sym (exact (λ none. omega (arith, more, none)) m way') ∙ t,
              λ h.
                  exact (λ none. omega (arith, more, none)) there.0 (ap (λ (b : ℕ). link_of (f b)) (sym at) ∙ there.1)
                  ∙ ap (λ (n : Name). may_follow n (Some there.0)) (sym name) ∙ h l there.0 is some there.1,
            )

-- ---- reads

pub one_read : (next : ℕ) → next ≢ 0 → link_reads next ≡ 1
one_read next some = ap (λ (t : Bool). cond t 0 1) (ne_eqb next 0 some)

edge_next : (node : Option (List ℕ)) (edge : Option Edge) → option_map (λ (e : Edge). (e.last.items, e.next)) edge ≡ edge_at node → edge_reads edge ≡ link_reads (next_of node)
edge_next node edge says = first edge ∙ ap (λ (o : Option (Name × ℕ)). option_map_or (λ (e : Name × ℕ). link_reads e.1) o 0) says ∙ second (link_of node)
  where
    first : (o : Option Edge) → edge_reads o ≡ option_map_or (λ (e : Name × ℕ). link_reads e.1) (option_map (λ (e : Edge). (e.last.items, e.next)) o) 0
    first None = refl
    first (Some e) = refl

    second : (o : Option Link) → option_map_or (λ (e : Name × ℕ). link_reads e.1) (option_map edge_of o) 0 ≡ link_reads (option_map_or (λ (l : Link). l.next) o 0)
    second None = refl
    second (Some l) = refl

-- the parts of a node tell how many reads a look at it may ask
pub said_reads : (node : Option (List ℕ)) (parts : Parts) → Says node parts → edge_reads parts.edge ≡ look_reads node
said_reads node parts says = edge_next node parts.edge says.edge

-- ---- a whole look

pub alone_of : (node : Option (List ℕ)) (chained : Bool) → chained ≡ is_chained node → chained ≡ false → IsPlainNode node
alone_of node chained same alone l is = sym (ap (λ (o : Option Link). option_map_or (λ k. k.chained) o false) is) ∙ sym same ∙ alone

pub look_exact : (capacity : ℕ) (f : Blocks) (plain : Bool) (node : Option (List ℕ)) (good : Bool) → IsShort capacity (index_of node) → (IsTrue good ↔ IsFollowed f node) → (plain ≡ true → IsPlainNode node)
    → IsTrue good ↔ IsLooked capacity f plain node
look_exact capacity f plain node good short exact alone = (λ t. record { short = short; followed = exact.0 t; alone = alone }, λ h. exact.1 h.followed)

-- an index that no file has
pub look_long : (capacity : ℕ) (f : Blocks) (plain : Bool) (node : Option (List ℕ)) (index : Option ℕ) (short : Bool) → index ≡ index_of node → (IsTrue short ↔ IsShort capacity index) → short ≡ false → IsTrue false ↔ IsLooked capacity f plain node
look_long capacity f plain node index short same exact fails = (λ t. absurd (never t), λ h. sym fails ∙ exact.1 (subst (IsShort capacity) (sym same) h.short))

-- what is told of the node after one that says this
pub edge_some : (node : Option (List ℕ)) (edge : Option Edge) → option_map (λ (e : Edge). (e.last.items, e.next)) edge ≡ edge_at node → is_some edge ≡ is_some (link_of node)
edge_some node edge says = first edge ∙ ap is_some says ∙ second (link_of node)
  where
    first : (o : Option Edge) → is_some o ≡ is_some (option_map {U = Name × ℕ} (λ (e : Edge). (e.last.items, e.next)) o)
    first None = refl
    first (Some e) = refl

    second : (o : Option Link) → is_some (option_map edge_of o) ≡ is_some o
    second None = refl
    second (Some l) = refl

-- the block of the node after one that says this
pub next_said : (node : Option (List ℕ)) (edge : Option Edge) → option_map (λ (e : Edge). (e.last.items, e.next)) edge ≡ edge_at node → option_map (λ (e : Edge). e.next) edge ≡ option_map (λ (l : Link). l.next) (link_of node)
next_said node edge says = first edge ∙ ap (option_map (λ (e : Name × ℕ). e.1)) says ∙ second (link_of node)
  where
    first : (o : Option Edge) → option_map (λ (e : Edge). e.next) o ≡ option_map (λ (e : Name × ℕ). e.1) (option_map (λ (e : Edge). (e.last.items, e.next)) o)
    first None = refl
    first (Some e) = refl

    second : (o : Option Link) → option_map (λ (e : Name × ℕ). e.1) (option_map edge_of o) ≡ option_map (λ (l : Link). l.next) o
    second None = refl
    second (Some l) = refl
