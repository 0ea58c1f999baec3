-- Hosts and endpoints.
use Rattle.std.specs.Prelude.{◌≡◌, ℕ, ◌+◌, ◌-◌, ◌*◌, Bool, List, [], ◌∷◌, length, take, drop, slice_index, min, None, Some, Ok, Err, IsOk, ◌==◌, ◌&&◌, ◌||◌, nat_lt, nat_le, if◌then◌else◌}
use Rattle.std.specs.List.{prefix_len}
use Rattle.std.specs.Option.{option_map_or, option_and_then}
use Rattle.std.specs.Char.{is_ascii_digit, is_ascii_hexdigit, is_ascii_alphanumeric}
use Rattle.std.specs.Str.{str_to_ascii_lowercase}
use Rattle.std.specs.declared.option.Option.{Option}
use Rattle.std.specs.declared.result.Result.{Result}
use Rattle.listing.specs.Number.{number_of_digits}
use Rattle.targets.specs.declared.endpoint.Endpoint.{Endpoint}
use Rattle.targets.specs.declared.endpoint.EndpointFault.{EndpointFault}
use Rattle.targets.specs.declared.endpoint.EndpointFault.TheVariants.{BadHost, BadPort, Memory}
use Rattle.targets.specs.declared.endpoint.EndpointParts.{EndpointParts}
use Rattle.targets.specs.declared.endpoint.WrongPart.{WrongPart}
use Rattle.targets.specs.declared.endpoint.WrongPart.TheVariants as wrong_part
use Rattle.targets.specs.declared.byte.TheConstants.{CLOSING, COLON, DASH, DOT, OPENING, UNDERSCORE}
use Rattle.targets.specs.declared.endpoint.TheConstants.{PORT_DIGITS, PORT_MAX}
use Rattle.targets.specs.declared.host_name.TheConstants.{HOST_NAME_MAX}

-- a letter, a digit, `.`, `-` or `_`
abbrev pub is_name_byte : ℕ → Bool
is_name_byte byte = is_ascii_alphanumeric byte || byte == DOT || byte == DASH || byte == UNDERSCORE

-- a hexadecimal digit, `:` or `.`
abbrev pub is_address_byte : ℕ → Bool
is_address_byte byte = is_ascii_hexdigit byte || byte == COLON || byte == DOT

-- how many bytes of an address follow the `[` with which the text begins
abbrev pub address_length : List ℕ → ℕ
address_length text = prefix_len is_address_byte (drop 1 text)

-- the length of the longest host with which the text begins, 0 where there is none: `[`, an address and `]`,
-- at most 255 bytes together, or 1 to 255 bytes of a name
unfoldable pub host_length : List ℕ → ℕ
host_length text = if slice_index text 0 == OPENING
    then (if nat_lt 0 (address_length text) && nat_le (address_length text) (HOST_NAME_MAX - 2)
    && slice_index text (address_length text + 1) == CLOSING then address_length text + 2 else 0)
    else min (prefix_len is_name_byte text) HOST_NAME_MAX

-- the length of the longest prefix with which some host begins, where the text begins with none
unfoldable pub host_front : List ℕ → ℕ
host_front text = if slice_index text 0 == OPENING then min (address_length text + 1) (HOST_NAME_MAX - 1) else 0

-- how many of the digits some port begins with: at most five that write at most 65535, and the fifth no last 0 of five
abbrev pub port_front : ℕ → ℕ → List ℕ → ℕ
port_front value count [] = count
port_front value count (byte ∷ bytes) = if is_ascii_digit byte && nat_lt count PORT_DIGITS
    && nat_le (value * 10 + (byte - 48)) PORT_MAX
    && (nat_lt 0 (value * 10 + (byte - 48)) || nat_lt count (PORT_DIGITS - 1))
    then port_front (value * 10 + (byte - 48)) (count + 1) bytes else count

-- a number from 1 to 65535
abbrev pub in_port_range : ℕ → Option ℕ
in_port_range n = if nat_lt 0 n && nat_le n PORT_MAX then Some n else None

-- at most five digits that write 1 to 65535
unfoldable pub port_number : List ℕ → Option ℕ
port_number digits = if nat_le (length digits) PORT_DIGITS
    then option_and_then in_port_range (number_of_digits digits) else None

-- the port that these digits write, of which there may be none; or the length of the longest front of a port, its colon
-- counted
abbrev pub port_of_digits : List ℕ → Result (Option ℕ) ℕ
port_of_digits digits = if length digits == 0 then Ok None
    else option_map_or (λ n. Ok (Some n)) (port_number digits) (Err (port_front 0 0 digits + 1))

-- the port that follows a host: none, or `:` and digits; or the length of the longest front of a port
unfoldable pub port_of : List ℕ → Result (Option ℕ) ℕ
port_of text = if length text == 0 then Ok None
    else (if slice_index text 0 == COLON then port_of_digits (drop 1 text) else Err 0)

-- an endpoint of this host
abbrev pub endpoint_at : List ℕ → Result (Option ℕ) ℕ → Result Endpoint EndpointFault
endpoint_at host (Ok port) = Ok (record { host = str_to_ascii_lowercase host; port = port })
endpoint_at host (Err at) = Err (BadPort (length host + at))

-- the endpoint that the text writes, or why it writes none
unfoldable pub endpoint_of : List ℕ → Result Endpoint EndpointFault
endpoint_of text = if host_length text == 0 then Err (BadHost (host_front text))
    else endpoint_at (take (host_length text) text) (port_of (drop (host_length text) text))

-- a reader of endpoints answers the reading of the text; only where the text is an endpoint may it find no memory
abbrev pub ReadsEndpoint : List ℕ → Result Endpoint EndpointFault → Type 0
ReadsEndpoint text (Ok endpoint) = endpoint_of text ≡ Ok endpoint
ReadsEndpoint text (Err Memory) = IsOk (endpoint_of text)
ReadsEndpoint text (Err fault) = endpoint_of text ≡ Err fault

-- the endpoint of these parts of the text
abbrev pub endpoint_with : List ℕ → EndpointParts → Endpoint
endpoint_with text parts = record { host = str_to_ascii_lowercase (take parts.host_length text); port = parts.port }

-- the fault of an endpoint whose part is wrong
abbrev pub fault_of_part : WrongPart → EndpointFault
fault_of_part (wrong_part.Host at) = BadHost at
fault_of_part (wrong_part.Port at) = BadPort at

-- these are the parts of the text, or this part of it is wrong
abbrev pub HasParts : List ℕ → Result EndpointParts WrongPart → Type 0
HasParts text (Ok parts) = endpoint_of text ≡ Ok (endpoint_with text parts)
HasParts text (Err part) = endpoint_of text ≡ Err (fault_of_part part)
