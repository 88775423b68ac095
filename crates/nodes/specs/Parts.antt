-- What of a node a call shows: its beginning, a part of it, the header of a body.
use Rattle.std.specs.Prelude.{◌≡◌, ℕ, ◌+◌, ◌<◌, ◌≤◌, min, List, length, take, drop, Option, Some}
use Rattle.node_format.specs.Headers.{field, body_magic, body_header}

-- one of two lists is the beginning of the other, and the front has a page of the bytes, or all of them
pub record IsFront (page : ℕ) (front bytes : List ℕ) : Type 0 where
  pub alike : take (length bytes) front ≡ take (length front) bytes
  pub enough : min page (length bytes) ≤ length front

-- where the node has so many bytes from an offset on, these are they
abbrev pub HasPart : Option (List ℕ) → ℕ → ℕ → List ℕ → Type 0
HasPart node offset count part =
    (bytes : List ℕ) → node ≡ Some bytes → offset + count ≤ length bytes → part ≡ take count (drop offset bytes)

-- there is no node, or it has not so many bytes from an offset on
abbrev pub LacksPart : Option (List ℕ) → ℕ → ℕ → Type 0
LacksPart node offset count = (bytes : List ℕ) → node ≡ Some bytes → length bytes < offset + count

-- the node is one of a body, and these are the bytes of its header
pub record HasBodyHeader (node : Option (List ℕ)) (header : List ℕ) : Type 0 where
  pub bytes : List ℕ
  pub is : node ≡ Some bytes
  pub body : field bytes 0 ≡ body_magic
  pub begins : header ≡ take body_header bytes
