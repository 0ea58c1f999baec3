-- What a head asks for (RFC 9112, section 3, and RFC 9110, section 7.2).
use Rattle.std.specs.Prelude.{ℕ, Bool, true, false, not, List, [], ◌∷◌, length, codes, bytes_eq, nat_lt, None, Some, ◌==◌, ◌&&◌, ◌||◌, if◌then◌else◌}
use Rattle.std.specs.List.{flat_map, list_any}
use Rattle.std.specs.Option.{option_map}
use Rattle.std.specs.Result.{result_ok}
use Rattle.std.specs.Str.{str_to_ascii_lowercase}
use Rattle.std.specs.declared.option.Option.{Option}
use Rattle.byte_range.specs.Want.{want_of}
use Rattle.byte_range.specs.declared.want.Want.{Want}
use Rattle.byte_range.specs.declared.want.Want.TheVariants.{All}
use Rattle.cdni_base.specs.declared.asked.Asked.{Asked}
use Rattle.cdni_log.specs.Extra.{logged_value}
use Rattle.cdni_log.specs.declared.field.Field.{Field}
use Rattle.cdni_log.specs.declared.field.Field.TheVariants as field
use Rattle.field_list.specs.List.{items_of}
use Rattle.http_wire.specs.Fields.{values_of}
use Rattle.http_wire.specs.Head.{HeadParts}
use Rattle.targets.specs.Target.{target_of}
use Rattle.targets.specs.declared.target.Protocol.{Protocol}
use Rattle.targets.specs.declared.target.Protocol.TheVariants as protocol
use Rattle.targets.specs.declared.target.Target.{Target}
use Rattle.session_base.specs.declared.manner.Manner.{Manner}
use Rattle.session_base.specs.declared.request.TheConstants.{METHOD_MAX}

abbrev pub is_secure : Protocol → Bool
is_secure protocol.Http = false
is_secure protocol.Https = true

-- the target is asked of the one host, or is absolute
abbrev pub target_in : Bool → List ℕ → List (List ℕ) → Option Target
target_in secure text [] = result_ok (target_of text None secure)
target_in secure text (host ∷ []) = result_ok (target_of text (Some host) secure)
target_in secure text (host ∷ other ∷ hosts) = None

-- what is asked for; none where Host is repeated, or absent where the target is not absolute, or the target does not
-- read, or the method has more than 127 bytes
unfoldable pub asked_of : Protocol → HeadParts → Option Asked
asked_of over head = if nat_lt METHOD_MAX (length head.method) then None
    else option_map (λ target. record { method = head.method; protocol = over; target = target })
    (target_in (is_secure over) head.target (values_of (codes "host") head.headers))

-- one Range asks for a part, where no If-Range stands beside it (RFC 9110, section 13.1.5)
abbrev pub want_in : List (List ℕ) → List (List ℕ) → Want
want_in (range ∷ []) [] = want_of range
want_in (range ∷ []) (condition ∷ conditions) = All
want_in [] conditions = All
want_in (range ∷ other ∷ ranges) conditions = All

-- the option `close` of Connection, in any case (RFC 9112, section 9.6)
abbrev pub is_close : List ℕ → Bool
is_close option = bytes_eq (str_to_ascii_lowercase option) (codes "close")

-- the connection closes behind a request of HTTP/1.0, and behind one that says so
unfoldable pub says_close : HeadParts → Bool
says_close head = head.minor == 0 || list_any is_close (items_of (codes "connection") head.headers)

-- what a record has of a header field with these values: one that is there once, as it is logged, and none that is there twice
abbrev pub extra_value : List (List ℕ) → Option (List ℕ)
extra_value [] = None
extra_value (value ∷ []) = logged_value value
extra_value (value ∷ other ∷ values) = None

-- what a field of a record takes of these header fields: the value of its own, where it is of one
abbrev pub extra_in : List (List ℕ × List ℕ) → Field → List (Option (List ℕ))
extra_in headers (field.Header name) = extra_value (values_of name headers) ∷ []
extra_in headers column = []

-- what a record has of the header fields that are logged, in the order of the fields (RFC 7937, section 3.4.1)
abbrev pub extra_of : List Field → List (List ℕ × List ℕ) → List (Option (List ℕ))
extra_of fields headers = flat_map (extra_in headers) fields

-- how a request is to be answered that was read at this moment, and what its record has of its head where these fields are
-- logged; it may be the last of its connection
unfoldable pub manner_of : List Field → HeadParts → ℕ → Bool → Manner
manner_of fields head moment last = record {
  is_head = bytes_eq head.method (codes "HEAD");
  want = want_in (values_of (codes "range") head.headers) (values_of (codes "if-range") head.headers);
  moment = moment;
  closes = last || says_close head;
  leaves = not last && says_close head;
  extra = extra_of fields head.headers;
}

-- both
abbrev pub read_of : Protocol → List Field → ℕ → Bool → HeadParts → Option (Asked × Manner)
read_of over fields moment last head = option_map (λ asked. (asked, manner_of fields head moment last)) (asked_of over head)
