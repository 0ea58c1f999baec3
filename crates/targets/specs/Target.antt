-- Targets: what a URL names (RFC 3986, section 3; RFC 9112, section 3.2), read by computing the value or the first
-- fault.
use Rattle.std.specs.Prelude.{◌≡◌, ℕ, ◌+◌, ◌-◌, Bool, true, false, List, [], ◌∷◌, ◌++◌, length, take, drop, slice_index, None, Some, Ok, Err, IsOk, codes, decimal, bytes_eq, ◌==◌, ◌&&◌, ◌||◌, nat_lt, if◌then◌else◌}
use Rattle.std.specs.List.{prefix_len, list_any}
use Rattle.std.specs.Option.{option_map_or}
use Rattle.std.specs.Char.{is_ascii_hexdigit, is_ascii_alphanumeric}
use Rattle.std.specs.Str.{str_to_ascii_lowercase}
use Rattle.std.specs.declared.option.Option.{Option}
use Rattle.std.specs.declared.result.Result.{Result}
use Rattle.listing.specs.Word.{parts_at}
use Rattle.targets.specs.declared.endpoint.Endpoint.{Endpoint}
use Rattle.targets.specs.declared.endpoint.EndpointFault.{EndpointFault}
use Rattle.targets.specs.declared.endpoint.EndpointFault.TheVariants as endpoint_fault
use Rattle.targets.specs.declared.target.Protocol.{Protocol}
use Rattle.targets.specs.declared.target.Protocol.TheVariants.{Http, Https}
use Rattle.targets.specs.declared.target.Target.{Target}
use Rattle.targets.specs.declared.target.TargetFault.{TargetFault}
use Rattle.targets.specs.declared.target.TargetFault.TheVariants.{TooLong, NoHost, BadHost, NotOrigin, BadPercent, Memory}
use Rattle.targets.specs.Endpoint.{endpoint_of}
use Rattle.targets.specs.declared.byte.TheConstants.{AT, COLON, DASH, DOT, PERCENT, QUESTION, SLASH, TILDE, UNDERSCORE}
use Rattle.targets.specs.declared.target.TheConstants.{HTTPS_PORT, HTTP_PORT, TARGET_MAX}

-- unreserved (RFC 3986, section 2.3)
abbrev pub is_unreserved : ℕ → Bool
is_unreserved byte = is_ascii_alphanumeric byte || byte == DASH || byte == DOT || byte == UNDERSCORE || byte == TILDE

-- sub-delims (RFC 3986, section 2.2): one of `!$&'()*+,;=`
abbrev pub is_sub_delimiter : ℕ → Bool
is_sub_delimiter byte = list_any (λ delimiter. byte == delimiter) (codes "!$&'()*+,;=")

-- a pchar that is one byte (RFC 3986, section 3.3): unreserved, sub-delims, `:` or `@`
abbrev pub is_plain : ℕ → Bool
is_plain byte = is_unreserved byte || is_sub_delimiter byte || byte == COLON || byte == AT

-- the text begins with this word, in any case
abbrev pub begins_with : List ℕ → List ℕ → Bool
begins_with word text = bytes_eq (str_to_ascii_lowercase (take (length word) text)) (str_to_ascii_lowercase word)

-- the scheme with which the text begins, in any case
unfoldable pub scheme_of : List ℕ → Option Protocol
scheme_of text = if begins_with (codes "http://") text then Some Http
    else (if begins_with (codes "https://") text then Some Https else None)

-- how many bytes a scheme has, with its `://`
abbrev pub scheme_length : Protocol → ℕ
scheme_length Http = 7
scheme_length Https = 8

-- whether the scheme is `https`
abbrev pub is_https : Protocol → Bool
is_https Http = false
is_https Https = true

-- a byte that does not end the endpoint of an absolute URL: no `/` and no `?`
abbrev pub is_before_path : ℕ → Bool
is_before_path byte = if byte == SLASH || byte == QUESTION then false else true

-- two hexadecimal digits stand at the front
abbrev pub begins_with_digits : List ℕ → Bool
begins_with_digits bytes = is_ascii_hexdigit (slice_index bytes 0) && is_ascii_hexdigit (slice_index bytes 1)

-- a byte of a path or a query, before the bytes that follow it: `/`, `?` or of a pchar; after `%` two hexadecimal
-- digits
abbrev pub is_taken : ℕ → List ℕ → Bool
is_taken byte bytes = if byte == PERCENT then begins_with_digits bytes else is_plain byte || byte == SLASH
    || byte == QUESTION

-- why this byte is wrong at this place
abbrev pub wrong_byte : ℕ → ℕ → TargetFault
wrong_byte byte at = if byte == PERCENT then BadPercent at else NotOrigin at

-- the fault of a wrong byte
abbrev pub IsWrongByte : TargetFault → Type 0
IsWrongByte (BadPercent at) = Unit {0}
IsWrongByte (NotOrigin at) = Unit {0}
IsWrongByte fault = ⊥

-- the first wrong byte of a path and a query whose first byte stands at this place
unfoldable pub first_wrong : ℕ → List ℕ → Option TargetFault
first_wrong at [] = None
first_wrong at (byte ∷ bytes) = if is_taken byte bytes then first_wrong (at + 1) bytes else Some (wrong_byte byte at)

-- `/` where the path is empty
abbrev pub path_or_root : List ℕ → List ℕ
path_or_root [] = SLASH ∷ []
path_or_root (byte ∷ bytes) = byte ∷ bytes

-- 80 where the port is absent, and also where it is 443 beside `https`
abbrev pub port_or_default : Bool → Option ℕ → ℕ
port_or_default secure None = HTTP_PORT
port_or_default secure (Some port) = if secure && port == HTTPS_PORT then HTTP_PORT else port

-- the target at this endpoint with this path and query
abbrev pub target_with : Endpoint → Bool → List ℕ → Option (List ℕ) → Target
target_with endpoint secure path query = record {
  host = endpoint.host;
  port = port_or_default secure endpoint.port;
  path = path_or_root path;
  query = query;
}

-- the same of the text of a path and a query, which is cut at its first `?`
abbrev pub target_at : Endpoint → Bool → List ℕ → Target
target_at endpoint secure text =
    option_map_or (λ parts. target_with endpoint secure parts.0 (Some parts.1)) (parts_at QUESTION text)
    (target_with endpoint secure text None)

-- the fault of an endpoint as one of a target
abbrev pub bad_host : EndpointFault → TargetFault
bad_host (endpoint_fault.BadHost at) = BadHost at
bad_host (endpoint_fault.BadPort at) = BadHost at
bad_host endpoint_fault.Memory = Memory

-- the first wrong byte of a path and a query: a path begins with `/`
abbrev pub first_wrong_of_path : List ℕ → Option TargetFault
first_wrong_of_path [] = Some (NotOrigin 0)
first_wrong_of_path (byte ∷ bytes) = if byte == SLASH then first_wrong 0 (byte ∷ bytes)
    else (if is_taken byte bytes then Some (NotOrigin 0) else Some (wrong_byte byte 0))

-- the target of an endpoint, or its fault, and of a path and a query, or their first wrong byte
abbrev pub target_after : Result Endpoint EndpointFault → Bool → Option TargetFault → List ℕ → Result Target TargetFault
target_after (Err fault) secure wrong text = Err (bad_host fault)
target_after (Ok endpoint) secure None text = Ok (target_at endpoint secure text)
target_after (Ok endpoint) secure (Some fault) text = Err fault

-- the target of a text with a scheme, of which this many bytes stand before the path
abbrev pub absolute_target_at : Bool → ℕ → ℕ → List ℕ → Result Target TargetFault
absolute_target_at secure start end text =
    target_after (endpoint_of (take (end - start) (drop start text))) secure (first_wrong end (drop end text))
    (drop end text)

-- a text with a scheme: the endpoint ends before the first `/` or `?`, and a path and a query follow
unfoldable pub absolute_target : Protocol → List ℕ → Result Target TargetFault
absolute_target scheme text =
    absolute_target_at (is_https scheme) (scheme_length scheme) (scheme_length scheme + prefix_len is_before_path
    (drop (scheme_length scheme) text)) text

-- the target by its scheme, if there is one
abbrev pub target_by : Option Protocol → List ℕ → Option (List ℕ) → Bool → Result Target TargetFault
target_by (Some scheme) text host secure = absolute_target scheme text
target_by None text None secure = Err NoHost
target_by None text (Some host) secure = target_after (endpoint_of host) secure (first_wrong_of_path text) text

-- The target that the text writes, or its first fault. A text without a scheme is a path and a query, which is asked of
-- this host; there the port 443 reads as absent where the connection is secure.
unfoldable pub target_of : List ℕ → Option (List ℕ) → Bool → Result Target TargetFault
target_of text host secure = if nat_lt TARGET_MAX (length text) then Err (TooLong (length text))
    else target_by (scheme_of text) text host secure

-- a reader of targets answers this reading; only where that is a target may it find no memory
abbrev pub Reads : Result Target TargetFault → Result Target TargetFault → Type 0
Reads reading (Ok target) = reading ≡ Ok target
Reads reading (Err Memory) = IsOk reading
Reads reading (Err fault) = reading ≡ Err fault

-- a reader of targets answers the reading of the text; only where the text is a target may it find no memory
abbrev pub ReadsTarget : List ℕ → Option (List ℕ) → Bool → Result Target TargetFault → Type 0
ReadsTarget text host secure result = Reads (target_of text host secure) result

-- `https://` where the URL is secure, and else `http://`
abbrev pub scheme_text : Bool → List ℕ
scheme_text true = codes "https://"
scheme_text false = codes "http://"

-- `:` and the port, where it is not 80
abbrev pub port_text : ℕ → List ℕ
port_text port = if port == HTTP_PORT then [] else 58 ∷ decimal port

-- `?` and the query, where there is one
abbrev pub query_text : Option (List ℕ) → List ℕ
query_text None = []
query_text (Some query) = QUESTION ∷ query

-- the URL that is made of these parts (RFC 3986, section 5.3)
abbrev pub url_of : Bool → List ℕ → ℕ → List ℕ → Option (List ℕ) → List ℕ
url_of secure host port path query = scheme_text secure ++ host ++ port_text port ++ path ++ query_text query

-- the URL of a target
abbrev pub url_text : Bool → Target → List ℕ
url_text secure target = url_of secure target.host target.port target.path target.query
