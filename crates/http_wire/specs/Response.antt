-- Heads of responses (RFC 9112, sections 2 to 5).
use Rattle.std.specs.Prelude.{◌≡◌, ◌⊎◌, ℕ, ◌≤◌, List, [], length, map}
use Rattle.httparse.specs.Grammar.{ResponseHead, print_response, ReadsResponse, NeverHasResponse, status_code}
use Rattle.httparse.specs.Spans.{name_and_value, header_bytes}
use Rattle.httparse.specs.declared.spans.HeaderSpan.{HeaderSpan}
use Rattle.httparse.specs.declared.spans.ResponseSpans.{ResponseSpans}
use Rattle.http_wire.specs.Limits.{feeds, IsWithinLimits}
use Rattle.http_wire.specs.declared.limits.TheConstants.{FEEDS_MAX}

-- how many bytes the head has, the status code, the minor version, and the name and value of each header field
pub record ResponseParts : Type 0 where
  pub size : ℕ
  pub status : ℕ
  pub minor : ℕ
  pub headers : List (List ℕ × List ℕ)

-- what a head by the grammar says, where a value has no white space around it
abbrev pub response_parts_of : ResponseHead → ResponseParts
response_parts_of head = record {
  size = length (print_response head);
  status = status_code head;
  minor = head.minor;
  headers = map name_and_value head.fields;
}

-- the bytes are that head and nothing more, and within the limits
pub record SpellsResponse (bytes : List ℕ) (parts : ResponseParts) : Type 0 where
  pub head : ResponseHead
  pub reads : ReadsResponse bytes head []
  pub limits : IsWithinLimits bytes
  pub parts_are : parts ≡ response_parts_of head

-- the bytes do not begin with a head within the limits
abbrev pub HasNoResponseHead : List ℕ → Type 0
HasNoResponseHead bytes = (head : ResponseHead) (rest : List ℕ) → ReadsResponse bytes head rest
    → IsWithinLimits (print_response head) → ⊥

-- no continuation is a head, or the bytes have as many line feeds as a head may have
abbrev pub IsHopelessResponse : List ℕ → Type 0
IsHopelessResponse bytes = NeverHasResponse bytes ⊎ (FEEDS_MAX ≤ feeds bytes)

-- what stands at these places of the bytes
abbrev pub response_parts_at : List ℕ → ResponseSpans → List HeaderSpan → ResponseParts
response_parts_at text found spans = record {
  size = length text;
  status = found.code;
  minor = found.version;
  headers = map (header_bytes text) spans;
}
