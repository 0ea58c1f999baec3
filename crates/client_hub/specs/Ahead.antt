-- The front of the bytes of a connection.
use Rattle.std.specs.Prelude.{◌⊎◌, ℕ, ◌<◌, ◌≤◌, List, length, count_by, ◌==◌}
use Rattle.httparse.specs.Grammar.{MayBecomeRequest}
use Rattle.httparse.specs.Spans.{RequestOverflows}
use Rattle.http_wire.specs.declared.limits.TheConstants.{FEEDS_MAX, FIELDS_MAX, HEAD_MAX}
use Rattle.client_hub.specs.declared.ahead.Front.{Front}
use Rattle.client_hub.specs.declared.ahead.Front.TheVariants as front
use Rattle.client_hub.specs.declared.ahead.TheConstants.{LINE_FEED}

-- how many line feeds stand in the bytes
abbrev pub line_feeds : List ℕ → ℕ
line_feeds bytes = count_by (λ byte. byte == LINE_FEED) bytes

-- fewer bytes, and fewer line feeds, than a head may have; and where there are bytes, a head may begin with them
-- (RFC 9112, sections 2 to 5)
pub record IsOpenFront (bytes : List ℕ) : Type 0 where
  pub short : length bytes < HEAD_MAX
  pub few : line_feeds bytes < FEEDS_MAX
  pub grows : 0 < length bytes → MayBecomeRequest bytes

-- as many bytes or line feeds as a head may have; or each head that begins with them has more fields than it may have,
-- if there is one at all
abbrev pub IsClosedFront : List ℕ → Type 0
IsClosedFront bytes = (HEAD_MAX ≤ length bytes) ⊎ ((FEEDS_MAX ≤ line_feeds bytes) ⊎ RequestOverflows FIELDS_MAX bytes)

-- a head that is there has one byte or more, and no more than came
abbrev pub IsFrontOf : List ℕ → Front → Type 0
IsFrontOf bytes (front.Whole end) = (1 ≤ end) × (end ≤ length bytes)
IsFrontOf bytes front.Open = IsOpenFront bytes
IsFrontOf bytes front.Never = IsClosedFront bytes
