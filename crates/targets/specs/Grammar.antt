-- The grammar of hosts, endpoints and targets, as relations between a text and its value (RFC 3986, sections 2 and 3,
-- in the form of this project; RFC 9112, section 3.2).
use Rattle.std.specs.Prelude.{◌≡◌, ℕ, ◌<◌, ◌≤◌, Bool, IsTrue, List, [], ◌∷◌, ◌++◌, length, ◌⊎◌, None, Some, Ok, Err, codes, ◌==◌, ◌||◌}
use Rattle.std.specs.List.{list_all, concat}
use Rattle.std.specs.Char.{is_ascii_hexdigit}
use Rattle.std.specs.Str.{str_to_ascii_lowercase, all_ascii_digits}
use Rattle.std.specs.Str.Parse.{digits_value}
use Rattle.std.specs.declared.option.Option.{Option}
use Rattle.std.specs.declared.result.Result.{Result}
use Rattle.targets.specs.declared.endpoint.Endpoint.{Endpoint}
use Rattle.targets.specs.declared.endpoint.EndpointFault.{EndpointFault}
use Rattle.targets.specs.declared.endpoint.EndpointFault.TheVariants as endpoint_fault
use Rattle.targets.specs.declared.target.Protocol.{Protocol}
use Rattle.targets.specs.declared.target.Protocol.TheVariants.{Http, Https}
use Rattle.targets.specs.declared.target.Target.{Target}
use Rattle.targets.specs.declared.target.TargetFault.{TargetFault}
use Rattle.targets.specs.declared.target.TargetFault.TheVariants as target_fault
use Rattle.targets.specs.Endpoint.{is_name_byte, is_address_byte}
use Rattle.targets.specs.Target.{is_plain, is_https, port_or_default, query_text}
use Rattle.targets.specs.declared.byte.TheConstants.{CLOSING, COLON, OPENING, PERCENT, QUESTION, SLASH}
use Rattle.targets.specs.declared.endpoint.TheConstants.{PORT_DIGITS, PORT_MAX}
use Rattle.targets.specs.declared.host_name.TheConstants.{HOST_NAME_MAX}
use Rattle.targets.specs.declared.target.TheConstants.{TARGET_MAX}

-- a name: 1 to 255 letters, digits, `.`, `-` and `_`
abbrev pub IsName : List ℕ → Type 0
IsName text = (0 < length text) × (length text ≤ HOST_NAME_MAX) × IsTrue (list_all is_name_byte text)

-- an address in brackets, at most 255 bytes together: `[`, one or more hexadecimal digits, `:` and `.`, and `]`
abbrev pub IsBracketed : List ℕ → Type 0
IsBracketed text = (address : List ℕ) × (text ≡ OPENING ∷ (address ++ CLOSING ∷ [])) × (0 < length address)
    × (length text ≤ HOST_NAME_MAX) × IsTrue (list_all is_address_byte address)

-- host (RFC 3986, section 3.2.2)
abbrev pub IsHost : List ℕ → Type 0
IsHost text = IsName text ⊎ IsBracketed text

-- port (RFC 3986, section 3.2.3): 1 to 5 digits that write 1 to 65535
abbrev pub IsPort : List ℕ → ℕ → Type 0
IsPort digits port =
    (0 < length digits) × (length digits ≤ PORT_DIGITS) × IsTrue (all_ascii_digits digits)
    × (digits_value 10 digits ≡ port) × (1 ≤ port) × (port ≤ PORT_MAX)

-- what follows a host: nothing, or `:` and a port, which may be absent there
abbrev pub IsPortPart : List ℕ → Option ℕ → Type 0
IsPortPart text None = (text ≡ []) ⊎ (text ≡ COLON ∷ [])
IsPortPart text (Some port) = (digits : List ℕ) × (text ≡ COLON ∷ digits) × IsPort digits port

-- a host, which reads in lower case, and a port, where one is given (RFC 3986, section 3.2)
abbrev pub IsEndpoint : List ℕ → Endpoint → Type 0
IsEndpoint text endpoint =
    (host : List ℕ) × (rest : List ℕ) × (text ≡ host ++ rest) × IsHost host
    × (endpoint.host ≡ str_to_ascii_lowercase host) × IsPortPart rest endpoint.port

-- one of these bytes, or pct-encoded: `%` and two hexadecimal digits (RFC 3986, section 2.1)
abbrev pub IsCharacter : (ℕ → Bool) → List ℕ → Type 0
IsCharacter test text =
    ((byte : ℕ) × (text ≡ byte ∷ []) × IsTrue (test byte)) ⊎
    ((high : ℕ) × (low : ℕ) × (text ≡ PERCENT ∷ high ∷ low ∷ []) × IsTrue (is_ascii_hexdigit high)
    × IsTrue (is_ascii_hexdigit low))

-- each is such a character
abbrev pub AreCharacters : (ℕ → Bool) → List (List ℕ) → Type 0
AreCharacters test [] = Unit {0}
AreCharacters test (character ∷ characters) = IsCharacter test character × AreCharacters test characters

-- any number of such characters
abbrev pub IsRow : (ℕ → Bool) → List ℕ → Type 0
IsRow test text = (characters : List (List ℕ)) × (text ≡ concat characters) × AreCharacters test characters

-- pchar and `/`, and in a query `?` too (RFC 3986, sections 3.3 and 3.4)
abbrev pub is_path_byte : ℕ → Bool
is_path_byte byte = is_plain byte || byte == SLASH

abbrev pub is_query_byte : ℕ → Bool
is_query_byte byte = is_plain byte || byte == SLASH || byte == QUESTION

-- path, which begins with `/` (RFC 3986, section 3.3)
abbrev pub IsPath : List ℕ → Type 0
IsPath text = (rest : List ℕ) × (text ≡ SLASH ∷ rest) × IsRow is_path_byte rest

-- query, where there is one (RFC 3986, section 3.4)
abbrev pub IsQuery : Option (List ℕ) → Type 0
IsQuery None = Unit {0}
IsQuery (Some text) = IsRow is_query_byte text

-- path [ "?" query ]
abbrev pub IsPathAndQuery : List ℕ → List ℕ → Option (List ℕ) → Type 0
IsPathAndQuery text path query = (text ≡ path ++ query_text query) × IsPath path × IsQuery query

-- the same without a path, which reads as `/`
abbrev pub IsQueryAlone : List ℕ → List ℕ → Option (List ℕ) → Type 0
IsQueryAlone text path query = (text ≡ query_text query) × (path ≡ SLASH ∷ []) × IsQuery query

-- the target is at this endpoint, where a port of 80 may be absent, and one of 443 where `secure`
abbrev pub IsAt : Endpoint → Bool → Target → Type 0
IsAt endpoint secure target = (target.host ≡ endpoint.host) × (target.port ≡ port_or_default secure endpoint.port)

-- a scheme and `://`, in any case
abbrev pub IsScheme : List ℕ → Protocol → Type 0
IsScheme text Http = str_to_ascii_lowercase text ≡ codes "http://"
IsScheme text Https = str_to_ascii_lowercase text ≡ codes "https://"

-- an absolute URL (RFC 9112, section 3.2.2)
abbrev pub IsAbsolute : List ℕ → Target → Type 0
IsAbsolute text target =
    (scheme : List ℕ) × (authority : List ℕ) × (rest : List ℕ) × (protocol : Protocol) × (endpoint : Endpoint) ×
    (text ≡ scheme ++ (authority ++ rest)) × IsScheme scheme protocol × IsEndpoint authority endpoint
    × IsAt endpoint (is_https protocol) target ×
    (IsPathAndQuery rest target.path target.query ⊎ IsQueryAlone rest target.path target.query)

-- a path and a query that are asked of this host (RFC 9112, section 3.2.1)
abbrev pub IsOfHost : List ℕ → Option (List ℕ) → Bool → Target → Type 0
IsOfHost text None secure target = ⊥
IsOfHost text (Some host) secure target =
    (endpoint : Endpoint) × IsEndpoint host endpoint × IsAt endpoint secure target
    × IsPathAndQuery text target.path target.query

-- the text is this target, where it is asked of this host by a connection that is secure or not
abbrev pub IsTarget : List ℕ → Option (List ℕ) → Bool → Target → Type 0
IsTarget text host secure target = (length text ≤ TARGET_MAX)
    × (IsAbsolute text target ⊎ IsOfHost text host secure target)

-- a reader of endpoints answers the value of the text; or a fault, where the text has none; or finds no memory
abbrev pub AnswersEndpoint : List ℕ → Result Endpoint EndpointFault → Type 0
AnswersEndpoint text (Ok endpoint) = IsEndpoint text endpoint
AnswersEndpoint text (Err endpoint_fault.Memory) = Unit {0}
AnswersEndpoint text (Err fault) = (endpoint : Endpoint) → IsEndpoint text endpoint → ⊥

-- the same of targets
abbrev pub AnswersTarget : List ℕ → Option (List ℕ) → Bool → Result Target TargetFault → Type 0
AnswersTarget text host secure (Ok target) = IsTarget text host secure target
AnswersTarget text host secure (Err target_fault.Memory) = Unit {0}
AnswersTarget text host secure (Err fault) = (target : Target) → IsTarget text host secure target → ⊥
