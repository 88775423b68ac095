-- What the header of a body's node tells is what the node tells.
use Rattle.std.proofs.Common.{◌≡◌, ◌≢◌, ◌↔◌, ℕ, ◌≤◌, false, Option, Some, None, List, [], length, take, sym, ap, subst, ◌∙◌, arith}
use Rattle.std.specs.Prelude.{◌==◌, if◌then◌else◌, map, Contains}
use Rattle.std.specs.Option.{option_map, option_map_or}
use Rattle.std.proofs.lemmas.List.{take_all, length-take-le}
use Rattle.node_format.specs.Headers.{field, body_magic, body_header, IsNode}
use Rattle.node_format.specs.Items.{Item}
use Rattle.node_format.specs.Links.{Link}
use Rattle.node_format.specs.declared.place.Place.TheVariants.{Dir}
use Rattle.nodes.specs.Parts.{HasBodyHeader, IsFront}
use Rattle.nodes.specs.Bodies.{index_of}
use Rattle.nodes.specs.Chains.{link_of}
use Rattle.nodes.specs.Reached.{Names}
use Rattle.reclaim.specs.Facts.{AreFacts}
use Rattle.reclaim.specs.Looks.{Says, edge_of}
use Rattle.reclaim.specs.declared.facts.Facts.{Facts}
use Rattle.reclaim.specs.declared.looks.Parts.{Parts}
use Rattle.reclaim.proofs.FrontNames.{has_bytes, body_long, front_field, front_index, front_pointer, front_names, same_list}
use Rattle.reclaim.proofs.Soundness.{no_link}

module _ (limit : ℕ) (header bytes : List ℕ) (node : IsNode limit bytes) (body : field bytes 0 ≡ body_magic) (begins : header ≡ take body_header bytes) where
  is_body : index_of (Some bytes) ≡ Some (field bytes 4)
  is_body = ap (λ (n : ℕ). if n == body_magic then Some (field bytes 4) else None) body

  long : 80 ≤ length bytes
  long = body_long limit bytes (field bytes 4) node is_body

  is_front : IsFront 80 header bytes
  is_front =
      let enough = long in
      let len : length header ≡ 80 = ap length begins ∙ length-take-le 80 bytes long in
      record {
        alike = take_all (length bytes) header (omega arith) ∙ begins ∙ ap (λ (n : ℕ). take n bytes) (sym len);
        enough = omega arith;
      }

  room : 80 ≤ 80
  room = omega arith

  index : index_of (Some header) ≡ index_of (Some bytes)
  index = front_index 80 header bytes is_front room long

  links : link_of (Some header) ≡ link_of (Some bytes)
  links = no_link (Some header) (field bytes 4) (index ∙ is_body) ∙ sym (no_link (Some bytes) (field bytes 4) is_body)

  says_on : (parts : Parts) → Says (Some header) parts → Says (Some bytes) parts
  says_on parts says = record {
    places = says.places ∙ ap (λ (o : Option Link). map (λ (item : Item). item.place) (option_map_or (λ l. l.items) o [])) links;
    named = record {
      count = says.named.count;
      pointers_are = λ x less. says.named.pointers_are x less ∙ front_pointer 80 header bytes is_front room long x less;
      index_is = says.named.index_is ∙ index;
    };
    used = says.used ∙ front_field 80 header bytes is_front room long 8 (omega arith);
    edge = says.edge ∙ ap (option_map edge_of) links;
    chained = says.chained ∙ ap (λ (o : Option Link). option_map_or (λ l. l.chained) o false) links;
  }

  pub facts_on : (facts : Facts) → AreFacts (Some header) facts → AreFacts (Some bytes) facts
  facts_on facts are = record {
    says = says_on facts.parts are.says;
    names = same_list facts.names.items (Names (Some header)) (Names (Some bytes)) (front_names 80 header bytes is_front room long (field bytes 4) is_body) are.names;
    directories = λ b. subst (λ (o : Option Link). Contains facts.directories.items b ↔ ((item : Item) × Contains (option_map_or (λ l. l.items) o []) item × (item.place ≡ Dir b))) links (are.directories b);
  }

-- the facts of a node whose header was copied out
pub header_facts : (limit : ℕ) (node : Option (List ℕ)) (header : List ℕ) (facts : Facts) → ((bytes : List ℕ) → node ≡ Some bytes → IsNode limit bytes)
    → HasBodyHeader node header → AreFacts (Some header) facts → AreFacts node facts
header_facts limit node header facts whole has are =
    subst (λ (o : Option (List ℕ)). AreFacts o facts) (sym has.is) (facts_on limit header has.bytes (whole has.bytes has.is) has.body has.begins facts are)

pub header_there : (node : Option (List ℕ)) (header : List ℕ) → HasBodyHeader node header → node ≢ None
header_there node header has = has_bytes node has.bytes has.is
