-- Heads of requests (RFC 9112, sections 2 to 5).
use Rattle.std.specs.Prelude.{◌≡◌, ◌⊎◌, ℕ, ◌≤◌, List, [], map}
use Rattle.httparse.specs.Grammar.{RequestHead, print_request, ReadsRequest, NeverHasRequest}
use Rattle.httparse.specs.Spans.{name_and_value, span_bytes, header_bytes}
use Rattle.httparse.specs.declared.spans.HeaderSpan.{HeaderSpan}
use Rattle.httparse.specs.declared.spans.RequestSpans.{RequestSpans}
use Rattle.http_wire.specs.Limits.{feeds, IsWithinLimits}
use Rattle.http_wire.specs.declared.limits.TheConstants.{FEEDS_MAX}

-- the method, the target, the minor version, and the name and value of each header field
pub record HeadParts : Type 0 where
  pub method : List ℕ
  pub target : List ℕ
  pub minor : ℕ
  pub headers : List (List ℕ × List ℕ)

-- what a head by the grammar says, where a value has no white space around it
abbrev pub parts_of : RequestHead → HeadParts
parts_of head = record {
  method = head.method;
  target = head.target;
  minor = head.minor;
  headers = map name_and_value head.fields;
}

-- the bytes are that head and nothing more, and within the limits
pub record Spells (bytes : List ℕ) (parts : HeadParts) : Type 0 where
  pub head : RequestHead
  pub reads : ReadsRequest bytes head []
  pub limits : IsWithinLimits bytes
  pub parts_are : parts ≡ parts_of head

-- the bytes do not begin with a head within the limits
abbrev pub HasNoHead : List ℕ → Type 0
HasNoHead bytes = (head : RequestHead) (rest : List ℕ) → ReadsRequest bytes head rest
    → IsWithinLimits (print_request head) → ⊥

-- no continuation is a head, or the bytes have as many line feeds as a head may have
abbrev pub IsHopelessHead : List ℕ → Type 0
IsHopelessHead bytes = NeverHasRequest bytes ⊎ (FEEDS_MAX ≤ feeds bytes)

-- what stands at these places of the bytes
abbrev pub parts_at : List ℕ → RequestSpans → List HeaderSpan → HeadParts
parts_at text found spans = record {
  method = span_bytes text found.method;
  target = span_bytes text found.path;
  minor = found.version;
  headers = map (header_bytes text) spans;
}
